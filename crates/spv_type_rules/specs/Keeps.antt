-- What the rules Y2 to Y8 demand of an instruction. (Own: the table of types.)
use Rattle.std.specs.Prelude.{◌≡◌, ℕ, List, Some, take, IsSomeAnd, MatchOption}
use Rattle.spv_module.specs.declared.opcode.TheConstants as opcode
use Rattle.spv_module.specs.declared.fault.Rule.{Rule}
use Rattle.spv_module.specs.declared.fault.Rule.TheVariants as rule
use Rattle.spv_module.specs.Operand.{PlainInst, type_in}
use Rattle.spv_type_kinds.specs.Operands.{ids_in, after_head}
use Rattle.spv_type_forms.specs.Values.{types_of}
use Rattle.spv_type_rules.specs.Declaration.{declaration_of, DeclaresSoundly}
use Rattle.spv_type_rules.specs.Repeat.{Repeats}
use Rattle.spv_type_rules.specs.Constant.{constant_of, Constitutes}
use Rattle.spv_type_rules.specs.Function.{signature_of, parameters_after, ReturnsAfter, parameters_between}
use Rattle.spv_type_rules.specs.Function.{parameter_type_of, OfFunction, ReturnsNothing, ReturnsTyped, CallsSoundly}

-- Y6 speaks of OpFunction: its last operand is a function type, which returns its result type and has as many
-- parameters as the function; and of OpFunctionParameter: its type is the one at its place in its function's type.
-- [3.49.9; own]
pub record KeepsFunctions (is : List PlainInst) (n : ℕ) (i : PlainInst) : Type 0 where
  pub function : i.opcode ≡ opcode.FUNCTION → IsSomeAnd (signature_of is i)
      (ReturnsAfter (type_in i.operands) (parameters_after is n))
  pub parameter : i.opcode ≡ opcode.FUNCTION_PARAMETER → OfFunction is n
      (λ f d. IsSomeAnd (type_in i.operands) (λ t. parameter_type_of is d (parameters_between is f n) ≡ Some t))

-- Y7 speaks of OpReturn, whose function returns void, and of OpReturnValue, whose value has the return type of its
-- function. [3.49.9, 3.49.17; own]
pub record KeepsReturns (is : List PlainInst) (n : ℕ) (i : PlainInst) : Type 0 where
  pub nothing : i.opcode ≡ opcode.RETURN → OfFunction is n (λ f d. ReturnsNothing is d)
  pub value : i.opcode ≡ opcode.RETURN_VALUE → OfFunction is n
      (λ f d. IsSomeAnd (types_of is (take 1 (ids_in i.operands))) (ReturnsTyped d))

-- What a rule demands of the instruction i of number n. What Y5 demands is the first argument: that it is typed, as
-- `IsTyped G is` of spv_ops says under a table G. Y8 speaks of OpFunctionCall: the callee has the result type, and
-- parameters of the types of the arguments. The other rules demand nothing here. [3.49.6, 3.49.7, 3.49.9; own]
abbrev pub Keeps : (ℕ → PlainInst → Type 0) → List PlainInst → Rule → ℕ → PlainInst → Type 0
Keeps typed is rule.Y2 n i = MatchOption (declaration_of i.opcode) (Unit {0}) (λ d. DeclaresSoundly is n d i.operands)
Keeps typed is rule.Y3 n i = ¬ (Repeats is n i)
Keeps typed is rule.Y4 n i = MatchOption (constant_of i.opcode) (Unit {0})
    (λ c. IsSomeAnd (type_in i.operands) (λ r. Constitutes is c r (after_head i.operands)))
Keeps typed is rule.Y5 n i = typed n i
Keeps typed is rule.Y6 n i = KeepsFunctions is n i
Keeps typed is rule.Y7 n i = KeepsReturns is n i
Keeps typed is rule.Y8 n i = i.opcode ≡ opcode.FUNCTION_CALL
    → IsSomeAnd (type_in i.operands) (λ r. CallsSoundly is r (after_head i.operands))
Keeps typed is _ n i = Unit {0}
