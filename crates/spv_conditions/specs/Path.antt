-- Where literal indexes lead. [3.49.12 OpCompositeExtract, OpCompositeInsert; 2.2.2]
use Rattle.std.specs.Prelude.{◌+◌, ℕ, List, [], ◌∷◌, Option, Some, None, nat_lt, if◌then◌else◌}
use Rattle.std.specs.Prelude.{option_and_then, option_map, unwrap_or}
use Rattle.spv_module.specs.Operand.{Plain, Word, PlainInst}
use Rattle.spv_type_forms.specs.Parts.{count_of, part_of}

-- the type of the part k of the type t, if t has so many parts [2.2.2]
abbrev pub part_within : List PlainInst → ℕ → ℕ → Option ℕ
part_within is t k = option_and_then (λ n. if nat_lt k n then part_of is t k else None) (count_of is t)

-- the type that indexes lead to from the type t, as far as each is that of a part [3.49.12]
abbrev pub reached_by : List PlainInst → List ℕ → ℕ → ℕ
reached_by is [] t = t
reached_by is (k ∷ ks) t = unwrap_or (option_map (λ u. reached_by is ks u) (part_within is t k)) t

-- the type that an operand leads to from the type t, if it does: a literal to its part of that number; others are
-- passed over
abbrev pub led_by : List PlainInst → Plain → ℕ → Option ℕ
led_by is (Word k) t = part_within is t k
led_by is o t = Some t

-- the number of the first operand, from j on, that is the index of no part
abbrev pub stop_at : List PlainInst → ℕ → List Plain → ℕ → Option ℕ
stop_at is j [] t = None
stop_at is j (o ∷ os) t = unwrap_or (option_map (λ u. stop_at is (j + 1) os u) (led_by is o t)) (Some j)
