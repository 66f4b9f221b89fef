-- Opcodes of which no instruction of a module has a value or a mask. (For the code alone.)
use Rattle.std.specs.Prelude.{◌≡◌, ℕ, List, Some, slice_get}
use Rattle.std.specs.List.{AllByRecursion}
use Rattle.spv_module.specs.Operand.{PlainInst}
use Rattle.spv_layout.specs.inner.Unkinded.{IsUnkinded}

-- No operand of an instruction of the opcode is a value or a mask.
abbrev pub HasNoKinds : List PlainInst → ℕ → Type 0
HasNoKinds is opcode =
    (n : ℕ) (i : PlainInst) → slice_get is n ≡ Some i → i.opcode ≡ opcode → AllByRecursion IsUnkinded i.operands
