-- A module that is opened: the ids that its extended instructions take are operands that are looked at. [own; the
-- instructions by the OpenCL Extended Instruction Set Specification]
use Rattle.std.specs.Prelude.{ℕ, suc, List, [], ◌∷◌, map, nat_eq, if◌then◌else◌}
use Rattle.spv_module.specs.Operand.{Plain, OfType, Result, Id, Word, Argument, Mention, PlainInst}
use Rattle.spv_module.specs.declared.opcode.TheConstants.{EXT_INST}
use Rattle.spv_extended.specs.declared.set.Set.{Set}
use Rattle.spv_extended.specs.declared.set.Set.TheVariants.{OpenClStd}
use Rattle.spv_extended.specs.declared.signature.Signature.{Signature}
use Rattle.spv_extended.specs.Facts.{signature_of, is_literal}
use Rattle.spv_extended.specs.Sets.{set_in}

-- an id is used as a value by an instruction of OpenCL.std, and only named by one of another set [own]
abbrev pub opened_id : Set → ℕ → Plain
opened_id OpenClStd x = Argument x
opened_id _ x = Mention x

abbrev pub opened_operand : Set → Plain → Plain
opened_operand set (Id x) = opened_id set x
opened_operand set o = o

-- The operands behind the number, from a place on: those that are literals stay as they are, though decoding reads
-- them as ids. [own]
abbrev pub opened_from : Set → Signature → ℕ → List Plain → List Plain
opened_from set s place [] = []
opened_from set s place (o ∷ os) =
    (if is_literal s place then o else opened_operand set o) ∷ opened_from set s (suc place) os

-- %x = OpExtInst %t %set number .., where it is told which set each id stands for [3.49.4; own]
abbrev pub opened_operands : (ℕ → Set) → List Plain → List Plain
opened_operands sets (OfType t ∷ Result x ∷ Id set ∷ Word number ∷ os) =
    OfType t ∷ Result x ∷ Id set ∷ Word number ∷ opened_from (sets set) (signature_of (sets set) number) 0 os
opened_operands sets os = os

abbrev pub opened_inst : (ℕ → Set) → PlainInst → PlainInst
opened_inst sets i = if nat_eq i.opcode EXT_INST
    then record { opcode = i.opcode; operands = opened_operands sets i.operands } else i

-- each OpExtInst of a module is opened, and every other instruction stays [own]
abbrev pub opened : List PlainInst → List PlainInst
opened is = map (opened_inst (set_in is)) is
