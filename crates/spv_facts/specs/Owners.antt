-- Whose a type is that is told: the operands of an instruction that are of it. How many parts it has. (Own.)
use Rattle.std.specs.Prelude.{◌+◌, ◌-◌, ℕ, List, [], ◌∷◌, Option, Some, None, Bool, true, false, length, map, nat_eq}
use Rattle.std.specs.Prelude.{take}
use Rattle.std.specs.Prelude.{nat_lt, get_or, option_and_then, set, slice_get, unwrap_or, if◌then◌else◌}
use Rattle.spv_table.specs.Lookups.{is_number}
use Rattle.spv_module.specs.Operand.{Plain, OfType, Result, Id, Word, Number, PlainInst, type_in}
use Rattle.spv_type_kinds.specs.Operands.{function_type_in}
use Rattle.spv_module.specs.declared.opcode.TheConstants.{FUNCTION, TYPE_ARRAY, TYPE_STRUCT, TYPE_VECTOR}
use Rattle.spv_evidence.specs.declared.condition.Condition.{Condition}
use Rattle.spv_evidence.specs.declared.condition.Condition.TheVariants as condition
use Rattle.spv_facts.specs.Definition.{defined_by}

-- The type of an operand: a result type itself; of a function its function type; of another id the type that its
-- definition has, or the id, where that has none, as a type has none. [3.49.6, 3.49.9]
abbrev pub given_type : PlainInst → Option ℕ
given_type i = if nat_eq i.opcode FUNCTION then function_type_in i else type_in i.operands

abbrev pub type_of : List PlainInst → ℕ → ℕ
type_of is x = unwrap_or (option_and_then given_type (defined_by is x)) x

abbrev pub operand_type : List PlainInst → Plain → Option ℕ
operand_type is (OfType t) = Some t
operand_type is (Id x) = Some (type_of is x)
operand_type is o = None

-- the types of the operands of instruction n
abbrev pub operand_types : List PlainInst → Option PlainInst → List (Option ℕ)
operand_types is None = []
operand_types is (Some i) = map (operand_type is) i.operands

abbrev pub types_at : List PlainInst → ℕ → List (Option ℕ)
types_at is n = operand_types is (slice_get is n)

-- the numbers of the operands of the type t, where these are the types from operand k on
abbrev pub places_from : ℕ → ℕ → List (Option ℕ) → List ℕ
places_from t k [] = []
places_from t k (u ∷ us) = if is_number t u then k ∷ places_from t (k + 1) us else places_from t (k + 1) us

-- the same of a type, if there is one, of all operands: an instruction has fewer than 65535 [2.3]
abbrev pub places_in : Option ℕ → List (Option ℕ) → List ℕ
places_in None us = []
places_in (Some t) us = places_from t 0 (take 65535 us)

-- types of operands without that of one
abbrev pub without : Option ℕ → List (Option ℕ) → List (Option ℕ)
without None us = us
without (Some k) us = if nat_lt k (length us) then set us k None else us

-- operand k, if it is one and of the type t
abbrev pub own_place : ℕ → Option ℕ → List (Option ℕ) → List ℕ
own_place t None us = []
own_place t (Some k) us = if is_number t (get_or us k None) then k ∷ [] else []

-- How many parts a type has, by its definition: the count of a vector, the members of a struct, the length of an array,
-- where that is a constant below 4294967296. [2.2.2]
abbrev pub short_number : List Plain → Option ℕ
short_number (OfType t ∷ Result x ∷ Number low high words ∷ _) = if nat_eq high 0 then Some low else None
short_number _ = None

abbrev pub vector_count : List Plain → Option ℕ
vector_count (r ∷ c ∷ Word n ∷ _) = Some n
vector_count _ = None

abbrev pub array_count : List PlainInst → List Plain → Option ℕ
array_count is (r ∷ e ∷ Id l ∷ _) = option_and_then (λ i. short_number i.operands) (defined_by is l)
array_count is _ = None

abbrev pub size_in : List PlainInst → PlainInst → Option ℕ
size_in is i = if nat_eq i.opcode TYPE_VECTOR then vector_count i.operands
    else (if nat_eq i.opcode TYPE_ARRAY then array_count is i.operands
    else (if nat_eq i.opcode TYPE_STRUCT then Some (length i.operands - 1) else None))

abbrev pub size_of : List PlainInst → ℕ → Option ℕ
size_of is t = option_and_then (size_in is) (defined_by is t)

-- the conditions of which the number of parts is told of the type that is found
abbrev pub tells_size : Condition → Bool
tells_size condition.Chosen = true
tells_size condition.Within = true
tells_size condition.Count = true
tells_size condition.ComponentCount = true
tells_size condition.Filled = true
tells_size c = false
