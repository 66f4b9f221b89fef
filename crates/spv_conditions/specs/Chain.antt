-- Where the indexes of an access chain lead. [3.49.8]
use Rattle.std.specs.Prelude.{ℕ, List, [], ◌∷◌, Option, Some, None, Bool, if◌then◌else◌, option_and_then, take}
use Rattle.spv_module.specs.Operand.{PlainInst}
use Rattle.spv_type_forms.specs.declared.form.Form.{Form}
use Rattle.spv_type_forms.specs.declared.form.Form.TheVariants as form
use Rattle.spv_type_forms.specs.Form.{form_of}
use Rattle.spv_type_forms.specs.Parts.{part_of, constant_of}
use Rattle.spv_type_forms.specs.Types.{pointee_in}

-- The ids of a chain are a base, an element where the opcode has one, and indexes. The first index is the value of this
-- number, from 0; the indexes, where there are the ids before them. [3.49.8]
abbrev pub first_index : Bool → ℕ
first_index element = if element then 2 else 1

abbrev pub after_first : List ℕ → Option (List ℕ)
after_first [] = None
after_first (x ∷ xs) = Some xs

abbrev pub indexes_in : Bool → List ℕ → Option (List ℕ)
indexes_in element xs = if element then option_and_then after_first (after_first xs) else after_first xs

-- what the base points to, where the types of the values are these [3.49.8]
abbrev pub base_in : List PlainInst → List ℕ → Option ℕ
base_in is [] = None
base_in is (o ∷ types) = pointee_in (form_of is o)

-- The type of the part of the type t that the index x chooses: at a struct that of the member whose number is the value
-- of the OpConstant x, at a vector or an array that of any part. [3.49.8]
abbrev pub chosen_in : List PlainInst → ℕ → ℕ → Form → Option ℕ
chosen_in is t x form.Struct = option_and_then (part_of is t) (constant_of is x)
chosen_in is t x f = part_of is t 0

abbrev pub chosen_of : List PlainInst → ℕ → ℕ → Option ℕ
chosen_of is t x = option_and_then (chosen_in is t x) (form_of is t)

-- the type that indexes lead to, one after another, from the type t [3.49.8]
abbrev pub led_from : List PlainInst → List ℕ → ℕ → Option ℕ
led_from is [] t = Some t
led_from is (x ∷ xs) t = option_and_then (led_from is xs) (chosen_of is t x)

-- the type that the first k indexes of a chain lead to, from what its base points to; and that all of them lead to
abbrev pub led_by : List PlainInst → Bool → List ℕ → List ℕ → ℕ → Option ℕ
led_by is element xs types k =
    option_and_then (λ ys. option_and_then (led_from is (take k ys)) (base_in is types)) (indexes_in element xs)

abbrev pub led_to : List PlainInst → Bool → List ℕ → List ℕ → Option ℕ
led_to is element xs types =
    option_and_then (λ ys. option_and_then (led_from is ys) (base_in is types)) (indexes_in element xs)
