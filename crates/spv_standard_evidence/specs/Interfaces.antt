-- What shows that O4 is broken: operands of the OpEntryPoint, which count from 0, or a variable that is not in its
-- interface. Functions go by their OpFunctions. [3.49.5; 2.16.1, static call tree]
use Rattle.std.specs.Prelude.{◌≡◌, ◌≢◌, ◌≤◌, ◌<◌, ◌+◌, ℕ, List, Some, slice_get}
use Rattle.spv_table.specs.Table.{Table}
use Rattle.spv_module.specs.Operand.{Plain, PlainInst}
use Rattle.spv_module.specs.declared.fault.Rule.{Rule}
use Rattle.spv_module.specs.declared.fault.Rule.TheVariants.{O4}
use Rattle.spv_interfaces.specs.Interface.{IsInTree, IsNamedIn, IsOfClass, IsOutside, IsTwiceIn, faced_by}
use Rattle.spv_flow_evidence.specs.calls.Evidence.{IsCallChain, IsShortestOf}
use Rattle.spv_evidence.specs.declared.evidence.Evidence.{Evidence}
use Rattle.spv_evidence.specs.declared.evidence.Evidence.TheVariants.{NotInInterface, Operand, Pair}

-- In a module of version 1.minor it shows that an interface of the function f is wrong, which begins with operand 3.
-- [3.49.5]
pub data Shows (G : Table) (minor : ℕ) (is : List PlainInst) (f : ℕ) (interface : List Plain) : Evidence → Type 0 where
  -- two operands that are one id; a variable neither of Input nor of Output
  twice : (x : ℕ) (t : IsTwiceIn interface x) → 4 ≤ minor
      → Shows G minor is f interface (Pair (3 + t.first) (3 + t.second))
  inner : (x class : ℕ) (n : IsNamedIn interface x) → minor < 4 → IsOfClass is x class → class ≢ 1 → class ≢ 3
      → Shows G minor is f interface (Operand (3 + n.0))
  -- a variable that is not there, as few calls as any from the function to one that uses it, and an instruction of this
  -- one that does
  unnamed : (x : ℕ) (t : IsInTree G is f x) (calls : List ℕ) → 4 ≤ minor → ¬ (IsNamedIn interface x)
      → IsShortestOf (IsCallChain is t.function t.root) calls
      → Shows G minor is f interface (NotInInterface t.variable.place calls t.inst)
  unnamed_outside : (x : ℕ) (t : IsInTree G is f x) (calls : List ℕ) → minor < 4 → IsOutside is x
      → ¬ (IsNamedIn interface x) → IsShortestOf (IsCallChain is t.function t.root) calls
      → Shows G minor is f interface (NotInInterface t.variable.place calls t.inst)

-- It shows that the rule is broken at the instruction of that number. [3.49.5]
pub data IsEvidence (G : Table) (minor : ℕ) (is : List PlainInst) : Rule → ℕ → Evidence → Type 0 where
  misfaced : (n f : ℕ) (i : PlainInst) (interface : List Plain) (e : Evidence) → slice_get is n ≡ Some i
      → faced_by i ≡ Some (f, interface) → Shows G minor is f interface e → IsEvidence G minor is O4 n e
