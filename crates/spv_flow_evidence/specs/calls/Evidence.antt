-- What shows that a call is on a cycle which an entry point reaches. Functions are numbers of OpFunctions. (Own.)
use Rattle.std.specs.Prelude.{◌≤◌, ℕ, List, [], ◌∷◌, length}
use Rattle.spv_module.specs.Operand.{PlainInst}
use Rattle.spv_module.specs.declared.fault.Rule.{Rule}
use Rattle.spv_module.specs.declared.fault.Rule.TheVariants.{G1}
use Rattle.spv_flow.specs.calls.Calls.{IsCall, Calls, IsEntryFunction}
use Rattle.spv_evidence.specs.declared.evidence.Evidence.{Evidence}
use Rattle.spv_evidence.specs.declared.evidence.Evidence.TheVariants.{Cycle}

-- Each of the functions calls the next. The first is f, and the last is g; one alone is both.
pub data IsCallChain (is : List PlainInst) (g : ℕ) : ℕ → List ℕ → Type 0 where
  alone : IsCallChain is g g (g ∷ [])
  next : (f h : ℕ) (rest : List ℕ) → Calls is f h → IsCallChain is g h rest → IsCallChain is g f (f ∷ rest)

-- Each of the functions calls the next. The first is that of an entry point, and the last is g.
pub record IsEntryChain (is : List PlainInst) (g : ℕ) (functions : List ℕ) : Type 0 where
  pub entry : ℕ
  pub function : IsEntryFunction is entry
  pub chain : IsCallChain is g entry functions

-- The list is of that kind, and none of the kind is shorter.
pub record IsShortestOf (P : List ℕ → Type 0) (functions : List ℕ) : Type 0 where
  pub holds : P functions
  pub least : (other : List ℕ) → P other → length functions ≤ length other

-- The evidence shows that the rule is broken at the instruction of that number.
pub data IsEvidence (is : List PlainInst) : Rule → ℕ → Evidence → Type 0 where
  -- a call in f of g, a chain of calls from an entry point's function to f, and one from g back to f
  on_cycle : (n f g : ℕ) (calls cycle : List ℕ) → IsCall is n f g → IsShortestOf (IsEntryChain is f) calls
      → IsShortestOf (IsCallChain is f g) cycle → IsEvidence is G1 n (Cycle calls cycle)
