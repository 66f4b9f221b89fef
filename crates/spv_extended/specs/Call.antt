-- What an OpExtInst calls. [3.49.4]
use Rattle.std.specs.Prelude.{ℕ, List, ◌∷◌, length, Option, Some, None, nat_eq, slice_get, option_and_then}
use Rattle.std.specs.Prelude.{if◌then◌else◌}
use Rattle.spv_module.specs.Operand.{Plain, OfType, Result, Id, Word, PlainInst}
use Rattle.spv_module.specs.declared.opcode.TheConstants.{EXT_INST}
use Rattle.spv_extended.specs.declared.call.Call.{Call}
use Rattle.spv_extended.specs.declared.set.Set.{Set}
use Rattle.spv_extended.specs.Sets.{set_in}

-- the set, the number, and how many operands stand behind it: of %x = OpExtInst %t %set number .., where it is told
-- which set each id stands for [3.49.4]
abbrev pub call_in : (ℕ → Set) → List Plain → Option Call
call_in sets (OfType t ∷ Result x ∷ Id set ∷ Word number ∷ os) =
    Some (record { set = sets set; number = number; operands = length os })
call_in sets _ = None

abbrev pub call_of : (ℕ → Set) → PlainInst → Option Call
call_of sets i = if nat_eq i.opcode EXT_INST then call_in sets i.operands else None

-- of instruction n of a module, if that is an OpExtInst [3.49.4]
abbrev pub call_at : List PlainInst → ℕ → Option Call
call_at is n = option_and_then (call_of (set_in is)) (slice_get is n)
