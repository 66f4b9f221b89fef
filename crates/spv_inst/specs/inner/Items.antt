-- The items of a pattern as what is due. (For the code alone.)
use Rattle.std.specs.Prelude.{List, [], ◌∷◌, Bool, true, false, map}
use Rattle.spv_table.specs.declared.table.Item as declared
use Rattle.spv_table.specs.Table.{Item, quantified}
use Rattle.spv_inst.specs.Flat.{Due, OneOf, MaybeOf, ManyOf}

-- items of a pattern
abbrev pub items_of : List declared.Item → List Item
items_of is = map (λ i. quantified i.quantifier i.kind) is

-- What is due where words are left or not: an item that may be absent is so exactly where none is left.
abbrev pub settled : Bool → List Due → List Due
settled more [] = []
settled more (OneOf s ∷ ds) = OneOf s ∷ ds
settled true (MaybeOf s ∷ ds) = OneOf s ∷ ds
settled false (MaybeOf s ∷ ds) = settled false ds
settled true (ManyOf s ∷ ds) = OneOf s ∷ ManyOf s ∷ ds
settled false (ManyOf s ∷ ds) = settled false ds
