use Rattle.spv_annotate.proofs.writer.is_asked.Goals as goal

pub returns : goal.returns
returns c = rw c.as_slice.ensures.value at c.is_in_asked.ensures
