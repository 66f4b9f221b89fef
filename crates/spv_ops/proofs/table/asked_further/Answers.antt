use Rattle.spv_ops.proofs.table.asked_further.Goals as goal

pub returns : goal.returns
returns c = rw c.further_entries.ensures at c.asked_in.ensures
