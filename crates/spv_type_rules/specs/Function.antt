-- Y6, Y7 and Y8: functions, parameters, returns and calls against function types. [3.49.9, 3.49.17]
use Rattle.std.specs.Prelude.{◌≡◌, ◌+◌, ℕ, List, [], ◌∷◌, Option, Some, None, nat_eq, not, ◌||◌}
use Rattle.std.specs.Prelude.{if◌then◌else◌, count_by, length, map, take, drop, take_while, slice_get}
use Rattle.std.specs.Prelude.{option_and_then, IsSomeAnd}
use Rattle.spv_module.specs.declared.opcode.TheConstants as opcode
use Rattle.spv_module.specs.Operand.{Plain, Id, PlainInst, type_in}
use Rattle.spv_module.specs.Width.{definition_of}
use Rattle.spv_layout.specs.Place.{IsOfFunction}
use Rattle.spv_type_forms.specs.declared.form.Form.TheVariants as form
use Rattle.spv_type_forms.specs.Form.{form_of}
use Rattle.spv_type_forms.specs.Parts.{after_result, id_in}
use Rattle.spv_type_kinds.specs.Operands.{ids_in, after_head}
use Rattle.spv_type_forms.specs.Values.{types_of}

-- the signature that an OpTypeFunction names, the return type and then the parameter types; the function type that an
-- OpFunction names, %f = OpFunction %r control %t, and the signature of that [3.49.9]
abbrev pub signature_in : PlainInst → Option (List Plain)
signature_in i = if nat_eq i.opcode opcode.TYPE_FUNCTION then Some (after_result i.operands) else None

abbrev pub type_after_control : List Plain → Option ℕ
type_after_control (c ∷ Id t ∷ os) = Some t
type_after_control _ = None

abbrev pub function_type_in : PlainInst → Option ℕ
function_type_in i = if nat_eq i.opcode opcode.FUNCTION then type_after_control (after_head i.operands) else None

abbrev pub signature_of : List PlainInst → PlainInst → Option (List Plain)
signature_of is f = option_and_then (λ t. option_and_then signature_in (definition_of is t)) (function_type_in f)

-- how many OpFunctionParameters are among instructions, and how many follow instruction n, an OpFunction, before its
-- first OpLabel or OpFunctionEnd; a signature is the return type r and so many parameter types [3.49.9]
abbrev pub parameter_count : List PlainInst → ℕ
parameter_count is = count_by (λ i. nat_eq i.opcode opcode.FUNCTION_PARAMETER) is

abbrev pub parameters_after : List PlainInst → ℕ → ℕ
parameters_after is n = parameter_count
    (take_while (λ i. not (nat_eq i.opcode opcode.LABEL || nat_eq i.opcode opcode.FUNCTION_END)) (drop (n + 1) is))

abbrev pub ReturnsAfter : Option ℕ → ℕ → List Plain → Type 0
ReturnsAfter r count (Id t ∷ ps) = (r ≡ Some t) × (length ps ≡ count)
ReturnsAfter r count _ = ⊥

-- how many parameters stand between instructions f and n; the type of parameter k, from 0, of a function [3.49.9]
abbrev pub parameters_between : List PlainInst → ℕ → ℕ → ℕ
parameters_between is f n = parameter_count (drop (f + 1) (take n is))

abbrev pub parameter_type_of : List PlainInst → PlainInst → ℕ → Option ℕ
parameter_type_of is f k = option_and_then (λ ts. option_and_then id_in (slice_get ts (k + 1))) (signature_of is f)

-- What holds of the OpFunction of the function that instruction n is of, and of its number. [3.49.9]
abbrev pub OfFunction : List PlainInst → ℕ → (ℕ → PlainInst → Type 0) → Type 0
OfFunction is n P = (f : ℕ) × IsOfFunction is n f × IsSomeAnd (slice_get is f) (P f)

-- Y7 at an OpReturn of the function whose OpFunction is d: its result type is OpTypeVoid [3.49.17]
abbrev pub ReturnsNothing : List PlainInst → PlainInst → Type 0
ReturnsNothing is d = IsSomeAnd (type_in d.operands) (λ r. form_of is r ≡ Some form.Void)

-- Y7 at an OpReturnValue there, of values of these types: there is one, and its type is d's result type [3.49.17]
abbrev pub ReturnsTyped : PlainInst → List ℕ → Type 0
ReturnsTyped d (o ∷ []) = type_in d.operands ≡ Some o
ReturnsTyped d _ = ⊥

-- Y8 at %x = OpFunctionCall %r %f %a ..: the signature of f is r and the types of the arguments [3.49.9]
abbrev pub CallsTyped : List PlainInst → PlainInst → ℕ → List ℕ → Type 0
CallsTyped is d r types = signature_of is d ≡ Some (map Id (r ∷ types))

abbrev pub CallsSoundly : List PlainInst → ℕ → List Plain → Type 0
CallsSoundly is r (Id f ∷ os) =
    IsSomeAnd (definition_of is f) (λ d. IsSomeAnd (types_of is (ids_in os)) (CallsTyped is d r))
CallsSoundly is r _ = ⊥
