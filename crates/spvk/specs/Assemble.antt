-- What a text is assembled to. (Own.)
use Rattle.std.specs.Prelude.{◌≡◌, ◌*◌, ℕ, List, [], None, IsUtf8, drop, length}
use Rattle.spv_words.specs.Header.{IsHeader}
use Rattle.spv_words.specs.Streams.{HoldsBytes}
use Rattle.spv_words.specs.declared.words.Header.{Header}
use Rattle.spv_words.specs.declared.words.Order.{Order}
use Rattle.spv_table.specs.Table.{Table}
use Rattle.spv_module.specs.Operand.{PlainInst}
use Rattle.spv_inst.specs.Outcome.{IsHeaderOf}
use Rattle.spv_lines.specs.Text.{IsReadText}
use Rattle.spv_lines.specs.Fault.{IsFailure}
use Rattle.spv_lines.specs.declared.asm_error.AsmCode.{AsmCode}
use Rattle.spvk.specs.Faults.{text_code_number}
use Rattle.spvk.specs.declared.image.Assembled.{Assembled}
use denote.RawPtr.{Ptr, block_ptr, null_ptr}

-- The text is UTF-8 and is read, under the grammar table, as a header and a list of instructions; the words are those
-- of the header, and behind them those of the list.
pub record IsImageOf (G : Table) (text words : List ℕ) : Type 0 where
  pub utf8 : IsUtf8 text
  pub header : Header
  pub insts : List PlainInst
  pub read : IsReadText G header insts (drop 5 words) text
  pub begins : IsHeader words
  pub told : IsHeaderOf words header

-- This is what the text comes to in an order, under the grammar table.
pub data ComesTo (G : Table) (o : Order) (text : List ℕ) (a : Assembled) : Type 0 where
  -- all the bytes that stand for its words
  made : (words : List ℕ) → IsImageOf G text words → HoldsBytes o words [] a.buffer.bytes (4 * length words)
      → a.fault.code ≡ 0 → a.fault.line ≡ 0 → ComesTo G o text a
  -- its first fault
  failed : (code : AsmCode) (line : ℕ) → IsUtf8 text → IsFailure G text code line
      → a.fault.code ≡ text_code_number code → a.fault.line ≡ line → a.buffer.bytes ≡ None
      → ComesTo G o text a

-- The answer of `assemble`: status 0 and what the text comes to; or what was there, and status 1, out of memory, or
-- status 4, no UTF-8.
pub data Assembles (G : Table) (o : Order) (text : List ℕ) (old : Assembled) : Assembled → ℕ → Type 0 where
  done : (new : Assembled) → ComesTo G o text new → Assembles G o text old new 0
  memory : Assembles G o text old old 1
  not_text : ¬ IsUtf8 text → Assembles G o text old old 4

-- The same by the table behind a pointer: status 2, and what was there, where it is null.
abbrev pub AssemblesAt : Ptr → Table → Order → List ℕ → Assembled → Assembled → ℕ → Type 0
AssemblesAt null_ptr G o text old new status = (status ≡ 2) × (new ≡ old)
AssemblesAt (block_ptr b off) G o text old new status = Assembles G o text old new status
