use Rattle.spv_table.proofs.entries.Made.place.Goals as goal

pub place-requires : goal.place-requires
place-requires c = rw c.as_slice.ensures.value c.self.invariant
