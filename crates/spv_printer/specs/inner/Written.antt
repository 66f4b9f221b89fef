-- What the encoder's steps say of operands and of the words that they write. (For the code alone.)
use Rattle.std.specs.Prelude.{◌≡◌, ◌≤◌, ℕ, List, [], ◌++◌, Bool, true, false, length, map, drop}
use Rattle.spv_words.specs.Header.{greatest_length}
use Rattle.spv_table.specs.Table.{Table, Item}
use Rattle.spv_module.specs.declared.module.Module.{Module}
use Rattle.spv_module.specs.Operand.{Plain, PlainInst, Context}
use Rattle.spv_module.specs.Module.{plain_insts}
use Rattle.spv_module.specs.Shape.{Slot, alone, shape_of}
use Rattle.spv_module.specs.Spelling.{Takes, Match}
use Rattle.spv_module.specs.Instruction.{IsInstruction, IsListing}
use Rattle.spv_module.specs.Refusal.{IsLeaf}
use Rattle.spv_inst.specs.Flat.{Due, OneOf}
use Rattle.spv_inst.specs.inner.Pending.{LeadsTo, settled, opened_kinds}
use Rattle.spv_inst.specs.inner.Written.{header_words}
use Rattle.spv_printer.specs.declared.encode_error.EncodeCode.{EncodeCode}
use Rattle.spv_printer.specs.declared.encode_error.EncodeCode.TheVariants.{N2, N3, Memory}
use Rattle.spv_printer.specs.Encoding.{Prevents}

-- The words match the operands, or no words do.
abbrev pub IsSpelling : Table → Context → List Item → List Plain → Bool → List ℕ → Type 0
IsSpelling G c is os true us = Match G c is os us
IsSpelling G c is os false us = (vs : List ℕ) → ¬ (Match G c is os vs)

-- After so many instructions, the words written are the old ones and the instruction's.
pub record Adds (G : Table) (before : List PlainInst) (i : PlainInst) (old new : List ℕ) : Type 0 where
  pub words : List ℕ
  pub all : new ≡ old ++ words
  pub spelled : IsInstruction G before i words

-- that memory ran out, or what hinders an instruction
abbrev pub PreventsOrMemory : EncodeCode → Table → List PlainInst → ℕ → PlainInst → Type 0
PreventsOrMemory Memory G before written i = Unit {0}
PreventsOrMemory e G before written i = Prevents e G before written i

-- An operand is taken where a list of what is due leads to a leaf; its words are written, and its parameters are due
-- then.
pub record Steps (G : Table) (d : Context) (ds es : List Due) (o : Plain) (old new : List ℕ) : Type 0 where
  pub slot : Slot
  pub rest : List Due
  pub words : List ℕ
  pub leads : LeadsTo G (settled true ds) slot rest
  pub takes : Takes slot.kind (shape_of G d slot) o words (map alone (opened_kinds G o))
  pub due : es ≡ map OneOf (map alone (opened_kinds G o)) ++ rest
  pub written : new ≡ old ++ words

-- No words spell an operand: nothing is due, or a leaf that it does not fit.
pub data Stuck (G : Table) (d : Context) (ds : List Due) (o : Plain) : Type 0 where
  none_due : settled true ds ≡ [] → Stuck G d ds o
  unfit : (s : Slot) (rest : List Due) → LeadsTo G (settled true ds) s rest → IsLeaf (shape_of G d s)
      → ((ws : List ℕ) (ss : List Slot) → ¬ (Takes s.kind (shape_of G d s) o ws ss)) → Stuck G d ds o

abbrev pub IsStep : Bool → Table → Context → List Due → List Due → Plain → List ℕ → List ℕ → Type 0
IsStep true G d ds es o old new = Steps G d ds es o old new
IsStep false G d ds es o old new = Stuck G d ds o

-- the number that an error tells: that of the instruction, or 0 where none is told
abbrev pub told : EncodeCode → ℕ → ℕ
told N2 n = n
told N3 n = n
told _ n = 0

-- Words are those of a module: its header's, and words that spell its instructions; and there are not too many.
pub record IsWritten (G : Table) (m : Module) (words : List ℕ) : Type 0 where
  pub front : words ≡ header_words m.header ++ drop 5 words
  pub spelled : IsListing G (plain_insts m) (drop 5 words)
  pub short : length words ≤ greatest_length
