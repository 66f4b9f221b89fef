-- Y6, Y7 and Y8 at an instruction, and what they are made of, by names of their own. (For the code alone.)
use Rattle.std.specs.Prelude.{◌≡◌, ℕ, List, Some, nat_eq, not, ◌||◌, take, take_while, IsSomeAnd}
use Rattle.spv_module.specs.declared.opcode.TheConstants as opcode
use Rattle.spv_module.specs.Operand.{PlainInst, type_in}
use Rattle.spv_type_kinds.specs.Operands.{ids_in, after_head}
use Rattle.spv_type_forms.specs.Values.{types_of}
use Rattle.spv_type_rules.specs.Function.{signature_of, parameter_count, parameters_after, ReturnsAfter}
use Rattle.spv_type_rules.specs.Function.{parameters_between, parameter_type_of, OfFunction, ReturnsNothing}
use Rattle.spv_type_rules.specs.Function.{ReturnsTyped, CallsSoundly}

-- how many follow an OpFunction, before its first OpLabel or its OpFunctionEnd [3.49.9]
abbrev pub parameters_in : List PlainInst → ℕ
parameters_in is =
    parameter_count (take_while (λ i. not (nat_eq i.opcode opcode.LABEL || nat_eq i.opcode opcode.FUNCTION_END)) is)

-- Y6 is unbroken at an OpFunction: its last operand is a function type, which returns its result type and has as many
-- parameters as the function. [3.49.9]
abbrev pub IsSoundFunction : List PlainInst → ℕ → PlainInst → Type 0
IsSoundFunction is n i = IsSomeAnd (signature_of is i) (ReturnsAfter (type_in i.operands) (parameters_after is n))

-- Y6 is unbroken at an OpFunctionParameter: its type is the one at its place in its function's type. [3.49.9]
abbrev pub IsSoundParameter : List PlainInst → ℕ → PlainInst → Type 0
IsSoundParameter is n i =
    OfFunction is n
    (λ f d. IsSomeAnd (type_in i.operands) (λ t. parameter_type_of is d (parameters_between is f n) ≡ Some t))

-- Y7 is unbroken at an OpReturn, and at an OpReturnValue, of number n. [3.49.9]
abbrev pub IsSoundReturn : List PlainInst → ℕ → Type 0
IsSoundReturn is n = OfFunction is n (λ f d. ReturnsNothing is d)

-- The value of an OpReturnValue has the return type of its function. [3.49.17]
abbrev pub IsSoundReturnValue : List PlainInst → ℕ → PlainInst → Type 0
IsSoundReturnValue is n i =
    OfFunction is n (λ f d. IsSomeAnd (types_of is (take 1 (ids_in i.operands))) (ReturnsTyped d))

-- The callee has the result type, and parameters of the types of the arguments. [3.49.9]
abbrev pub IsSoundCall : List PlainInst → PlainInst → Type 0
IsSoundCall is i = IsSomeAnd (type_in i.operands) (λ r. CallsSoundly is r (after_head i.operands))
