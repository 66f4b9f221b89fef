-- The types that are read where the indexes of an access chain are followed. [3.49.8]
use Rattle.std.specs.Prelude.{◌++◌, ℕ, List, [], ◌∷◌, Option, Some, None, Bool}
use Rattle.std.specs.Prelude.{option_and_then, option_map, option_to_list, slice_get, take}
use Rattle.spv_module.specs.Operand.{PlainInst}
use Rattle.spv_type_forms.specs.Form.{form_of}
use Rattle.spv_type_forms.specs.Types.{pointee_in}
use Rattle.spv_conditions.specs.Chain.{base_in, chosen_of, indexes_in}

-- the types on the way: of each part that an index chooses, up to the first that chooses none [3.49.8]
abbrev pub with_steps : (ℕ → List ℕ) → Option ℕ → List ℕ
with_steps steps None = []
with_steps steps (Some u) = u ∷ steps u

abbrev pub steps_from : List PlainInst → List ℕ → ℕ → List ℕ
steps_from is [] t = []
steps_from is (x ∷ xs) t = with_steps (steps_from is xs) (chosen_of is t x)

abbrev pub path_of : List PlainInst → Option ℕ → Option (List ℕ) → List ℕ
path_of is (Some t) (Some xs) = t ∷ steps_from is xs t
path_of is base indexes = []

-- the types that are read where the first k indexes of a chain are followed: the base's, what it points to, and those
-- of the parts; where all are followed and the result is to point there, the result's first, and last what it points to
abbrev pub read_chosen : List PlainInst → Bool → List ℕ → List ℕ → ℕ → List ℕ
read_chosen is element xs types k =
    option_to_list (slice_get types 0) ++ path_of is (base_in is types) (option_map (take k) (indexes_in element xs))

abbrev pub read_led : List PlainInst → Bool → List ℕ → Option ℕ → List ℕ → List ℕ
read_led is element xs r types = option_to_list r ++ option_to_list (slice_get types 0)
    ++ path_of is (base_in is types) (indexes_in element xs)
    ++ option_to_list (option_and_then (λ t. pointee_in (form_of is t)) r)
