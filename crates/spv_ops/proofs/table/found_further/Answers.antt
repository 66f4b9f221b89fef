use Rattle.spv_ops.proofs.table.found_further.Goals as goal

pub returns : goal.returns
returns c = rw c.further_entries.ensures at c.found_in.ensures
