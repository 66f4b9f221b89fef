-- Where calls make a cycle that an entry point reaches. (Own.)
use Rattle.std.specs.Prelude.{ℕ, List}
use Rattle.spv_module.specs.Operand.{PlainInst}
use Rattle.spv_module.specs.declared.fault.Rule.{Rule}
use Rattle.spv_module.specs.declared.fault.Rule.TheVariants.{G1}
use Rattle.spv_flow.specs.calls.Chain.{Chain}
use Rattle.spv_flow.specs.calls.Calls.{IsCall, Calls, IsEntryFunction}

-- The rule is broken at the instruction of that number. [own]
pub data Broken (is : List PlainInst) : Rule → ℕ → Type 0 where
  -- a call in f of g, where a chain of calls leads from an entry point's function to f, and one from g to f
  on_cycle : (n e f g : ℕ) → IsCall is n f g → IsEntryFunction is e → Chain (Calls is) e f
      → Chain (Calls is) g f → Broken is G1 n
