use Rattle.spv_ops.proofs.table.found_first.Goals as goal

pub returns : goal.returns
returns c = rw c.first_entries.ensures at c.found_in.ensures
