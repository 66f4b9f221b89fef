-- The components of a vector that values give. (For the code alone.)
use Rattle.std.specs.Prelude.{◌-◌, ℕ, List, [], ◌∷◌, Option, Some, None, nat_eq, nat_le, if◌then◌else◌}
use Rattle.std.specs.Prelude.{option_and_then}
use Rattle.spv_module.specs.Operand.{PlainInst}
use Rattle.spv_type_forms.specs.Form.{form_of}
use Rattle.spv_conditions.specs.Rest.{share_in}

-- how many components of the type c a value of a type gives
abbrev pub share_of : List PlainInst → ℕ → ℕ → Option ℕ
share_of is c t = if nat_eq t c then Some 1 else share_in c (form_of is t)

-- how many of n are left after those of a value, and of several
abbrev pub left_by : List PlainInst → ℕ → ℕ → ℕ → Option ℕ
left_by is c n t = option_and_then (λ m. if nat_le m n then Some (n - m) else None) (share_of is c t)

abbrev pub left_of : List PlainInst → ℕ → List ℕ → ℕ → Option ℕ
left_of is c [] n = Some n
left_of is c (t ∷ ts) n = option_and_then (λ m. left_of is c ts m) (left_by is c n t)
