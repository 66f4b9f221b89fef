-- Reach as a function, one index after another. (For the code alone: `reach_decided` and `chain_decided` say what it
-- means.)
use Rattle.std.specs.Prelude.{ℕ, List, [], ◌∷◌, Option, Some, None, option_and_then, if◌then◌else◌}
use Rattle.spv_module.specs.Operand.{PlainInst}
use Rattle.spv_type_forms.specs.declared.form.Form.{Form}
use Rattle.spv_type_forms.specs.declared.form.Form.TheVariants as form
use Rattle.spv_type_forms.specs.Form.{form_of}
use Rattle.spv_type_forms.specs.Parts.{part_of, constant_of}
use Rattle.spv_type_forms.specs.inner.Parts.{inner_part_of}
use Rattle.spv_type_forms.specs.inner.Tests.{has_int}

-- the type that the indexes reach, if each is below the number of parts at its place
abbrev pub walk : List PlainInst → List ℕ → ℕ → Option ℕ
walk is [] t = Some t
walk is (k ∷ ks) t = option_and_then (λ u. walk is ks u) (inner_part_of is t k)

-- the type of the part that an index of an access chain chooses: at a struct the value of an OpConstant, else any part
abbrev pub choice_in : List PlainInst → ℕ → ℕ → Form → Option ℕ
choice_in is t x form.Struct = option_and_then (part_of is t) (constant_of is x)
choice_in is t x _ = part_of is t 0

abbrev pub choice : List PlainInst → ℕ → ℕ → Option ℕ
choice is t x = option_and_then (choice_in is t x) (form_of is t)

-- the type that the indexes of an access chain lead to
abbrev pub choices : List PlainInst → List ℕ → ℕ → Option ℕ
choices is [] t = Some t
choices is (x ∷ xs) t = option_and_then (λ u. choices is xs u) (choice is t x)

-- the same, if they all stand for ints
abbrev pub int_choices : List PlainInst → List ℕ → ℕ → Option ℕ
int_choices is [] t = Some t
int_choices is (x ∷ xs) t = if has_int is x then option_and_then (λ u. int_choices is xs u) (choice is t x) else None
