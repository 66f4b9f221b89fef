-- Evidence for Y2 to Y4 and Y6 to Y8: what shows that the rule is broken. [2.8, 3.49.6, 3.49.7, 3.49.9, 3.49.17]
use Rattle.std.specs.Prelude.{◌≡◌, ◌≢◌, ℕ, List, [], ◌∷◌, Option, Some, None, length}
use Rattle.std.specs.Prelude.{slice_get, take}
use Rattle.spv_table.specs.Table.{Table}
use Rattle.spv_module.specs.Operand.{PlainInst, type_in}
use Rattle.spv_module.specs.declared.fault.Rule.{Rule}
use Rattle.spv_module.specs.declared.fault.Rule.TheVariants as rule
use Rattle.spv_module.specs.declared.opcode.TheConstants as opcode
use Rattle.spv_type_forms.specs.declared.form.Form.TheVariants as form
use Rattle.spv_type_forms.specs.Form.{form_of}
use Rattle.spv_type_kinds.specs.Operands.{ids_in}
use Rattle.spv_type_forms.specs.Values.{types_of}
use Rattle.spv_type_rules.specs.Repeat.{Repeats}
use Rattle.spv_type_rules.specs.Function.{parameters_after, function_type_in}
use Rattle.spv_evidence.specs.declared.evidence.Evidence.{Evidence}
use Rattle.spv_evidence.specs.declared.evidence.Evidence.TheVariants as evidence
use Rattle.spv_evidence.specs.declared.evidence.Side.{Side}
use Rattle.spv_evidence.specs.declared.evidence.Side.TheVariants as side
use Rattle.spv_readings.specs.Named.{IsDefinedBy}
use Rattle.spv_type_evidence.specs.types.Declaration as declarations
use Rattle.spv_type_evidence.specs.types.Constant as constants
use Rattle.spv_type_evidence.specs.types.Function.{Differs, IsParameter, ReturnsFrom, Calls, IsArgument}

-- The evidence shows that the rule is broken at the instruction i of number n.
pub data Shows (G : Table) (is : List PlainInst) (n : ℕ) (i : PlainInst) : Rule → Evidence → Type 0 where
  -- the operand at which the declaration first fails, and what is asked of it
  declaration : (k : ℕ) (m : Option ℕ) (f : declarations.FailsFirst is n i k) → IsDefinedBy is i (Some k) m
      → Shows G is n i rule.Y2 (evidence.Condition (declarations.condition_at f.kind k) (Some k) m None None [])
  -- an earlier declaration of the same type, of which there may be one only
  again : (r : Repeats is n i) → Shows G is n i rule.Y3 (evidence.Earlier r.place)
  -- the operand at which the constant first fails, what is asked of it, the types that are wanted and found, and those
  -- that are read
  constant : (k : ℕ) (m : Option ℕ) (f : constants.FailsFirst is i k) → IsDefinedBy is i (Some k) m
      → Shows G is n i rule.Y4 (evidence.Condition (constants.condition_in is f.kind i k) (Some k) m
      (constants.wanted_at is f.kind i k) (constants.found_at is f.kind i k)
      (constants.read_at is f.kind i k))
  -- the type of the OpFunction differs from its result type and its parameters
  function : (r : ℕ) (s : Side) (wanted found : Option ℕ) → i.opcode ≡ opcode.FUNCTION
      → type_in i.operands ≡ Some r → Differs is i r (parameters_after is n) s wanted found
      → Shows G is n i rule.Y6 (evidence.Mismatch s wanted found (function_type_in i))
  -- the OpFunctionParameter is of another type than the one at its place
  parameter : (k t : ℕ) (wanted : Option ℕ) → i.opcode ≡ opcode.FUNCTION_PARAMETER
      → (p : IsParameter is n i k wanted t) → wanted ≢ Some t
      → Shows G is n i rule.Y6 (evidence.Mismatch (side.Parameter k) wanted (Some t) (function_type_in p.function))
  -- the function of the OpReturn does not return void
  nothing : (r : ℕ) → i.opcode ≡ opcode.RETURN → ReturnsFrom is n r → form_of is r ≢ Some form.Void
      → Shows G is n i rule.Y7 (evidence.Mismatch side.Return (Some r) None None)
  -- the function of the OpReturnValue returns another type than the value's
  value : (r o : ℕ) → i.opcode ≡ opcode.RETURN_VALUE → ReturnsFrom is n r
      → types_of is (take 1 (ids_in i.operands)) ≡ Some (o ∷ [])
      → r ≢ o → Shows G is n i rule.Y7 (evidence.Mismatch side.Return (Some r) (Some o) None)
  -- the callee's type differs from the result type and the arguments of the OpFunctionCall
  call : (d : PlainInst) (r : ℕ) (xs : List ℕ) (s : Side) (wanted found : Option ℕ)
      → i.opcode ≡ opcode.FUNCTION_CALL → Calls is i d r xs → Differs is d r (length xs) s wanted found
      → Shows G is n i rule.Y8 (evidence.Mismatch s wanted found (function_type_in d))
  -- an argument is of another type than the one at its place
  argument : (d : PlainInst) (r : ℕ) (xs : List ℕ) (k t u : ℕ)
      → i.opcode ≡ opcode.FUNCTION_CALL → Calls is i d r xs → IsArgument is d xs k t u → t ≢ u
      → Shows G is n i rule.Y8 (evidence.Mismatch (side.Argument k) (Some t) (Some u) (function_type_in d))

-- The evidence shows that the rule is broken at instruction n.
pub record IsEvidence (G : Table) (is : List PlainInst) (r : Rule) (n : ℕ) (e : Evidence) : Type 0 where
  pub inst : PlainInst
  pub there : slice_get is n ≡ Some inst
  pub shows : Shows G is n inst r e
