-- The same by one relation over what is due and all the words left of the instruction, as a decoder goes.
use Rattle.spv_table.specs.Table.{Item, One, Maybe, Many}
use Rattle.spv_module.specs.Shape.{Slot, alone}

-- what is due [own]
pub data Due : Type 0 where
  OneOf : Slot → Due
  MaybeOf : Slot → Due
  ManyOf : Slot → Due

-- what an item of a pattern makes due [own]
abbrev pub due : Item → Due
due (One k) = OneOf (alone k)
due (Maybe k) = MaybeOf (alone k)
due (Many k) = ManyOf (alone k)
