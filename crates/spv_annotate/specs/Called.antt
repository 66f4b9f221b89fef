-- Extended instructions: what an OpExtInst calls, and which of its operands are literals. [3.49.4; Khronos' grammar
-- files of the sets; own]
use Rattle.std.specs.Prelude.{◌-◌, ◌++◌, ◌==◌, ◌&&◌, ℕ, suc, List, [], ◌∷◌, Option, Some, None, Bool, true, false}
use Rattle.std.specs.Prelude.{drop, nat_eq, nat_le, if◌then◌else◌}
use Rattle.std.specs.List.{filter_map, list_all}
use Rattle.spv_module.specs.Operand.{Plain, Id, Word, PlainInst}
use Rattle.spv_module.specs.declared.opcode.TheConstants.{EXT_INST}
use Rattle.spv_extended.specs.declared.call.Call.{Call}
use Rattle.spv_extended.specs.declared.set.Set.{Set}
use Rattle.spv_extended.specs.declared.set.Set.TheVariants.{Other}
use Rattle.spv_extended.specs.declared.signature.Signature.{Signature}
use Rattle.spv_extended.specs.Call.{call_of}
use Rattle.spv_extended.specs.Facts.{signature_of, is_literal}
use Rattle.spv_extended.specs.Sets.{imported_by}
use Rattle.spv_annotate.specs.declared.linked.Quoting.{Quoting}
use Rattle.spv_annotate.specs.declared.linked.Quoting.TheVariants.{Outside}
use Rattle.spv_annotate.specs.Module.{defined_by, id_in}
use Rattle.spv_annotate.specs.Quoted.{after_byte, begins_id}

-- the set that an id stands for: the one that the first instruction with that result imports [3.49.4]
abbrev pub set_imported : Option (ℕ × Set) → Set
set_imported None = Other
set_imported (Some p) = p.1

abbrev pub set_of : List PlainInst → ℕ → Set
set_of is x = set_imported (imported_by (defined_by is x))

-- what an instruction calls, if it is an OpExtInst
abbrev pub called_by : List PlainInst → PlainInst → Option Call
called_by is i = call_of (set_of is) i

-- is an operand an id that decoding could not tell from a literal
abbrev pub is_id : Plain → Bool
is_id (Id x) = true
is_id _ = false

-- which operands are literals: those of which the set says so, where all behind the number are read as ids, and else
-- none
abbrev pub signature_in : List Plain → Option Call → Signature
signature_in os None = signature_of Other 0
signature_in os (Some c) = if list_all is_id (drop 4 os) then signature_of c.set c.number else signature_of Other 0

abbrev pub signature_at : List PlainInst → PlainInst → Signature
signature_at is i = signature_in i.operands (called_by is i)

-- does a literal stand at a place, of all operands from 0: type, result, set and number stand before the first
abbrev pub is_literal_at : Signature → ℕ → Bool
is_literal_at s place = nat_le 4 place && is_literal s (place - 4)

-- a literal that was read as an id
abbrev pub literal_of : Plain → Plain
literal_of (Id x) = Word x
literal_of o = o

-- the operands from a place on, in which literals are words
abbrev pub told_from : Signature → ℕ → List Plain → List Plain
told_from s place [] = []
told_from s place (o ∷ os) = (if is_literal_at s place then literal_of o else o) ∷ told_from s (suc place) os

-- the operands of an instruction as they are told
abbrev pub told_operands : List PlainInst → PlainInst → List Plain
told_operands is i = told_from (signature_at is i) 0 i.operands

-- the ids on the line of an instruction, in the order of its operands
abbrev pub ids_of : List PlainInst → PlainInst → List ℕ
ids_of is i = filter_map id_in (told_operands is i)

-- the `%` of an id; nothing where it is a literal's, before its digits
abbrev pub mark_of : Bool → List ℕ → List ℕ
mark_of true (b ∷ line) = []
mark_of _ line = 37 ∷ []

-- A line of which so many ids were read, from there on, without the `%` of literals. The number has none, so the id
-- behind three others, those of result, type and set, stands at place 4 of the operands.
abbrev pub unmarked : Signature → ℕ → Quoting → List ℕ → List ℕ
unmarked s count q [] = []
unmarked s count q (b ∷ line) =
    if begins_id q b then mark_of (is_literal_at s (suc count)) line ++ unmarked s (suc count) q line
    else b ∷ unmarked s count (after_byte q b) line

-- the line of an instruction as it is told
abbrev pub told_line : List PlainInst → PlainInst → List ℕ → List ℕ
told_line is i line = if nat_eq i.opcode EXT_INST then unmarked (signature_at is i) 0 Outside line else line
