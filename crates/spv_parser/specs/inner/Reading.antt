-- What the reading of a line keeps and answers. (For the code alone.)
use Rattle.std.specs.Prelude.{◌≡◌, ◌≢◌, ◌++◌, ◌∷◌, [], ℕ, List, Option, true, false}
use Rattle.std.specs.Prelude.{map, option_and_then}
use Rattle.spv_table.specs.Table.{Table, kind_of}
use Rattle.spv_inst.specs.declared.definitions.Definitions.{Definitions}
use Rattle.spv_table.specs.declared.form.Leaf.TheVariants as leaf
use Rattle.spv_table.specs.declared.form.Form.TheVariants.{Leaf}
use Rattle.spv_inst.specs.declared.pending.Asked.{Asked}
use Rattle.spv_table.specs.inner.Form.{form_at}
use Rattle.spv_inst.specs.inner.Known.{Knows}
use Rattle.spv_inst.specs.inner.Written.{is_without_zero}
use Rattle.spv_module.specs.Operand.{Plain, PlainInst, Context, start, result_in}
use Rattle.spv_module.specs.Width.{type_of, first_id}
use Rattle.spv_module.specs.Shape.{Slot, alone, shape_of}
use Rattle.spv_inst.specs.Flat.{Due, OneOf}
use Rattle.spv_inst.specs.inner.Pending.{opened_kinds, pending_due, plain_slot}
use Rattle.spv_lines.specs.declared.asm_error.AsmCode.{AsmCode}
use Rattle.spv_lines.specs.declared.asm_error.AsmCode.TheVariants.{S3, S4, S6}
use Rattle.spv_lines.specs.Operand.{quoted, IsRead}
use Rattle.spv_lines.specs.Written.{Written}
use Rattle.spv_lines.specs.Line.{AreWords, IsReadLine, before_space, from_space}
use Rattle.spv_lines.specs.Refusal.{IsBreak, StandsInLine, SlotRefuses, OperandsFail, is_front}
use Rattle.spv_lines.specs.Fault.{LineFails}
use Rattle.spv_lines.specs.declared.misread.Misread.{Misread}
use Rattle.spv_lines.specs.declared.misread.Misread.TheVariants.{IllFormed, TooLarge}
use Rattle.spv_parser.specs.declared.operands.Buffers.{Buffers}
use Rattle.spv_parser.specs.declared.operands.Known.{Known}
use Rattle.spv_parser.specs.declared.operands.Line.{Line}
use Rattle.spv_parser.specs.declared.operands.Rest.{Rest}
use Rattle.spv_parser.specs.inner.Kept.{IsOf, IsOfOperands}

-- the id of the type of a switch literal
abbrev pub switch_type : Context → Option ℕ
switch_type c = option_and_then (type_of c.before) (first_id c.operands)

-- What is known of the instructions before and of the operands so far is that of a context.
pub record IsAt (kept : Definitions) (known : Known) (c : Context) : Type 0 where
  pub definitions : Knows kept c.before
  pub operands : IsOfOperands known c.opcode c.operands

-- The leaf that is due is no text, and not that of the line's result.
pub record IsDueToken (G : Table) (c : Context) (asked : Asked) : Type 0 where
  pub form : form_at (kind_of G asked.slot.kind) ≡ Leaf asked.leaf
  pub no_text : asked.leaf ≢ leaf.Text
  pub behind : is_front (shape_of G c (plain_slot asked.slot)) c ≡ false

-- A text in quotes without a zero octet stands at the front, and behind it the line breaks.
pub record HasQuoted (front t rest : List ℕ) : Type 0 where
  pub all : front ≡ quoted t ++ rest
  pub no_zero : is_without_zero t ≡ true
  pub broken : IsBreak rest

-- An operand was taken from the rest of a line: what it is, its words, what is left, and what is due then.
pub record IsStep (G : Table) (r : Option ℕ) (c : Context) (s : Slot) (t rest : List ℕ) (next : Known)
    (old new : List ℕ) (ds later : List Due) : Type 0 where
  pub operand : Plain
  pub stands : StandsInLine G r c s operand (map alone (opened_kinds G operand)) t rest
  pub words : new ≡ old ++ stands.words
  pub due : later ≡ map OneOf (map alone (opened_kinds G operand)) ++ ds
  pub known : IsOfOperands next c.opcode (c.operands ++ (operand ∷ []))

abbrev pub told : Misread → AsmCode
told IllFormed = S3
told TooLarge = S4

-- a refusal's code, or memory ran out
abbrev pub RefusesOr : Table → Option ℕ → Context → Slot → List ℕ → AsmCode → Type 0
RefusesOr G r c s t S6 = Unit {0}
RefusesOr G r c s t code = SlotRefuses G r c s t code

-- the operands of a line fail with a code, or memory ran out
abbrev pub OperandsFailOr : Table → Option ℕ → Context → List Due → List ℕ → AsmCode → Type 0
OperandsFailOr G r c ds t S6 = Unit {0}
OperandsFailOr G r c ds t code = OperandsFail G r c ds t code

-- The operands of a line were read: what they are, and their words.
pub record AreRead (G : Table) (r : Option ℕ) (before : List PlainInst) (opcode : ℕ) (ds : List Due)
    (t words : List ℕ) (line : Line) : Type 0 where
  pub operands : List Plain
  pub written : Written (IsRead G) G r (start before opcode) ds operands words t
  pub small : AreWords words
  pub result : r ≡ result_in operands
  pub kept : IsOf line (record { opcode = opcode; operands = operands })

-- A line was read: its instruction, and what is kept of it.
pub record IsLine (G : Table) (before : List PlainInst) (octets words : List ℕ) (line : Line) : Type 0 where
  pub inst : PlainInst
  pub read : IsReadLine G before inst words octets
  pub kept : IsOf line inst

-- a line fails with a code, or memory ran out
abbrev pub LineFailsOr : Table → List PlainInst → ℕ → List ℕ → AsmCode → Type 0
LineFailsOr G before written line S6 = Unit {0}
LineFailsOr G before written line code = LineFails G before written line code

-- the context of an instruction's operands
abbrev pub context_of : List PlainInst → ℕ → List Plain → Context
context_of before opcode os = record { before = before; opcode = opcode; operands = os }

-- Some operands of a line were read: what they are, and that what is due and what is left of the line go on from there.
pub record SoFar (G : Table) (r : Option ℕ) (before : List PlainInst) (opcode : ℕ) (pattern : List Due)
    (line : List ℕ) (kept : Known) (ds : List Due) (t words : List ℕ) : Type 0 where
  pub operands : List Plain
  pub known : IsOfOperands kept opcode operands
  pub broken : IsBreak t
  pub small : AreWords words
  pub written : (os : List Plain) (us : List ℕ)
      → Written (IsRead G) G r (context_of before opcode operands) ds os us t
      → Written (IsRead G) G r (start before opcode) pattern (operands ++ os) (words ++ us) line
  pub failed : (code : AsmCode) → OperandsFail G r (context_of before opcode operands) ds t code
      → OperandsFail G r (start before opcode) pattern line code

-- Behind a space the rest of a line has a token, up to the next space or the end.
pub record HasToken (t token rest : List ℕ) : Type 0 where
  pub behind : List ℕ
  pub all : t ≡ 32 ∷ behind
  pub front : before_space behind ≡ token
  pub back : from_space behind ≡ rest

-- An operand of one word and without parameters was taken, whatever words there are and whatever is due.
abbrev pub IsPlainStep : Table → Option ℕ → Context → Slot → List ℕ → List ℕ
    → Known → ℕ → Type 0
IsPlainStep G r c s t rest next word = (old : List ℕ) (ds : List Due)
    → IsStep G r c s t rest next old (old ++ (word ∷ [])) ds ds

-- An operand was taken for a leaf from the rest of a line.
abbrev pub Takes : Table → Option ℕ → Context → Asked → List ℕ → Buffers → Buffers → Rest → Type 0
Takes G r c asked t old new f = IsStep G r c (plain_slot asked.slot) t f.text.now f.known
    old.words.items new.words.items (pending_due G old.pending) (pending_due G new.pending)
