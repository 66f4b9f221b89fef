-- Only an OpFunction is a function's definition.
use Rattle.std.proofs.Common.{◌≡◌, ℕ, List, Some}
use Rattle.std.specs.Prelude.{slice_get}
use Rattle.spv_module.specs.Operand.{PlainInst}
use Rattle.spv_module.specs.declared.opcode.TheConstants as opcode
use Rattle.spv_layout.specs.Place.{IsDefinition}
use Rattle.spv_flow.proofs.lemmas.walks.Alone.{function_opcode}

pub no_definition : (is : List PlainInst) (n : ℕ) (i : PlainInst) → slice_get is n ≡ Some i
    → (i.opcode ≡ opcode.FUNCTION → ⊥) → ¬ (IsDefinition is n)
no_definition is n i h x d = x (function_opcode is n i h d.of.begun.there)
