-- The value operands of an instruction, and the types that they are declared with. [own: the table of shapes, and Y5]
use Rattle.std.specs.Prelude.{◌≡◌, ◌++◌, ℕ, List, [], ◌∷◌, Option, Some, option_and_then, option_map}
use Rattle.spv_table.specs.Table.{Table}
use Rattle.spv_module.specs.Operand.{Plain, Id, PlainInst}
use Rattle.spv_module.specs.Width.{type_of}
use Rattle.spv_layout.specs.declared.form.Form.{Form}
use Rattle.spv_layout.specs.declared.form.Form.TheVariants as form
use Rattle.spv_layout.specs.declared.form.Role.TheVariants as role
use Rattle.spv_layout.specs.Shape.{HasForms}

-- the ids that operands of these forms use as values, in order; arguments of an OpExtInst aside [own]
abbrev pub value_in : Form → Plain → List ℕ
value_in (form.Id role.Value) (Id x) = x ∷ []
value_in f o = []

abbrev pub used_in : List Form → List Plain → List ℕ
used_in (f ∷ fs) (o ∷ os) = value_in f o ++ used_in fs os
used_in _ _ = []

-- The value operands of an instruction that fits its row of the table of shapes: the ids that it uses as values. [own]
pub record AreValues (G : Table) (i : PlainInst) (xs : List ℕ) : Type 0 where
  pub forms : List Form
  pub has : HasForms G i forms
  pub values : used_in forms i.operands ≡ xs

-- the types that ids are declared with, if each has one [2.3]
abbrev pub types_of : List PlainInst → List ℕ → Option (List ℕ)
types_of is [] = Some []
types_of is (x ∷ xs) = option_and_then (λ t. option_map (λ ts. t ∷ ts) (types_of is xs)) (type_of is x)

-- the values of a phi, each before its label [3.49.17]
abbrev pub paired_ids_in : List Plain → List ℕ
paired_ids_in (Id x ∷ Id l ∷ os) = x ∷ paired_ids_in os
paired_ids_in _ = []
