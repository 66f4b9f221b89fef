use Rattle.spv_ops.proofs.table.asked_first.Goals as goal

pub returns : goal.returns
returns c = rw c.first_entries.ensures at c.asked_in.ensures
