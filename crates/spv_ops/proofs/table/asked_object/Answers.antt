use Rattle.spv_ops.proofs.table.asked_object.Goals as goal

pub returns : goal.returns
returns c = rw c.object_entries.ensures at c.asked_in.ensures
