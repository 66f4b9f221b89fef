-- The operands of all OpExtInsts, in one list of which each has a part. (For the code alone.)
use Rattle.std.specs.Prelude.{ℕ, ◌+◌, List, [], ◌∷◌, ◌++◌, length, take, drop, nat_eq}
use Rattle.std.specs.Prelude.{if◌then◌else◌}
use Rattle.spv_module.specs.Operand.{Plain, PlainInst}
use Rattle.spv_module.specs.declared.opcode.TheConstants.{EXT_INST}
use Rattle.spv_extended.specs.declared.set.Set.{Set}
use Rattle.spv_extended.specs.Opened.{opened_operands}

-- how many they are
abbrev pub operands_in : List PlainInst → ℕ
operands_in [] = 0
operands_in (i ∷ is) = (if nat_eq i.opcode EXT_INST then length i.operands else 0) + operands_in is

-- one after another, opened
abbrev pub all_opened : (ℕ → Set) → List PlainInst → List Plain
all_opened sets [] = []
all_opened sets (i ∷ is) =
    (if nat_eq i.opcode EXT_INST then opened_operands sets i.operands else []) ++ all_opened sets is

-- each takes as many from the front of a list as it has
abbrev pub given : List Plain → List PlainInst → List PlainInst
given os [] = []
given os (i ∷ is) = if nat_eq i.opcode EXT_INST
    then record { opcode = i.opcode; operands = take (length i.operands) os } ∷ given (drop (length i.operands) os) is
    else i ∷ given os is
