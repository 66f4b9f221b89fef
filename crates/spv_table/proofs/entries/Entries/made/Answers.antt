use Rattle.spv_table.proofs.entries.Entries.made.Goals as goal

pub invariant_of-result : goal.invariant_of-result
invariant_of-result c = rw c.as_slice.ensures.value at c.in_ok-names.ensures
