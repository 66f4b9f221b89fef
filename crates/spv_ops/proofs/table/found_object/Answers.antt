use Rattle.spv_ops.proofs.table.found_object.Goals as goal

pub returns : goal.returns
returns c = rw c.object_entries.ensures at c.found_in.ensures
