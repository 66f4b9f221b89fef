-- Evidence for Y5: what shows that the rule is broken. [own: the table of types]
use Rattle.std.specs.Prelude.{◌≡◌, ◌≢◌, ℕ, List, Option, Some, length, map, slice_get}
use Rattle.std.specs.List.{AllByRecursion}
use Rattle.spv_table.specs.Table.{Table}
use Rattle.spv_module.specs.Operand.{Id, PlainInst}
use Rattle.spv_module.specs.declared.fault.Rule.{Rule}
use Rattle.spv_module.specs.declared.fault.Rule.TheVariants as rule
use Rattle.spv_type_kinds.specs.Operands.{result_type_in}
use Rattle.spv_type_forms.specs.Values.{AreValues, types_of}
use Rattle.spv_ops.specs.declared.table.Places.TheVariants.{Free}
use Rattle.spv_ops.specs.Table.{places_of, conditions_of}
use Rattle.spv_evidence.specs.declared.evidence.Evidence.{Evidence}
use Rattle.spv_evidence.specs.declared.evidence.Evidence.TheVariants as evidence
use Rattle.spv_readings.specs.Named.{IsDefinedBy}
use Rattle.spv_conditions.specs.declared.asked.Asked.{Asked}
use Rattle.spv_readings.specs.declared.values.Value.{Value}
use Rattle.spv_conditions.specs.Condition.{FailsFirst}
use Rattle.spv_conditions.specs.Asks.{HoldsOf}
use Rattle.spv_readings.specs.Values.{types_in}
use Rattle.spv_operation_evidence.specs.Beside.{condition_in, operand_in, wanted_in, found_in, read_in}

-- These are the value operands of the instruction i, in order, each with its number and the type that it is declared
-- with.
pub record AreTyped (G : Table) (is : List PlainInst) (i : PlainInst) (vs : List Value) : Type 0 where
  pub values : AreValues G i (map (λ v. v.id) vs)
  pub types : types_of is (map (λ v. v.id) vs) ≡ Some (types_in vs)
  pub each : AllByRecursion (λ v. slice_get i.operands v.operand ≡ Some (Id v.id)) vs

-- A condition holds at the instruction i of number n, where its value operands are these.
abbrev pub HoldsAt : List PlainInst → ℕ → PlainInst → List Value → Asked → Type 0
HoldsAt is n i vs a =
    HoldsOf is n i (result_type_in i.operands) (types_in vs) a

-- The evidence shows that the rule is broken at the instruction i of number n.
pub data Shows (G : Table) (is : List PlainInst) (n : ℕ) (i : PlainInst) : Rule → Evidence → Type 0 where
  -- the first condition of the opcode that fails, by the operand whose type it looks at, with what defines the
  -- operand, the types that are wanted and found, and those that are read
  operation : (vs : List Value) (a : Asked) (m : Option ℕ) → places_of i.opcode ≢ Free → AreTyped G is i vs
      → FailsFirst (HoldsAt is n i vs) (conditions_of i.opcode (length vs)) a
      → IsDefinedBy is i (operand_in is i vs a) m
      → Shows G is n i rule.Y5 (evidence.Condition (condition_in a) (operand_in is i vs a) m
      (wanted_in is i (result_type_in i.operands) (types_in vs) a)
      (found_in is i (result_type_in i.operands) (types_in vs) a)
      (read_in is i (result_type_in i.operands) (types_in vs) a))

-- The evidence shows that the rule is broken at instruction n.
pub record IsEvidence (G : Table) (is : List PlainInst) (r : Rule) (n : ℕ) (e : Evidence) : Type 0 where
  pub inst : PlainInst
  pub there : slice_get is n ≡ Some inst
  pub shows : Shows G is n inst r e
