-- What a text is assembled to.
use Rattle.std.proofs.Common.{◌≡◌, ◌≢◌, ◌*◌, ℕ, List, [], None, Ok, Err, Result, IfOk, IsUtf8, drop, length, ap, refl}
use Rattle.std.proofs.Common.{sym, subst}
use Rattle.spv_words.specs.Header.{IsHeader}
use Rattle.spv_words.specs.Streams.{HoldsBytes}
use Rattle.spv_words.specs.declared.words.Header.{Header}
use Rattle.spv_words.specs.declared.words.Order.{Order}
use Rattle.spv_table.specs.Table.{Table}
use Rattle.spv_module.specs.Operand.{PlainInst}
use Rattle.spv_module.specs.Instruction.{IsListing}
use Rattle.spv_inst.specs.Outcome.{IsHeaderOf}
use Rattle.spv_lines.specs.Text.{IsReadText}
use Rattle.spv_lines.specs.declared.asm_error.AsmError.{AsmError}
use Rattle.spv_lines.specs.declared.asm_error.AsmCode.{AsmCode}
use Rattle.spv_lines.specs.declared.asm_error.AsmCode.TheVariants.{S1, S2, S3, S4, S5, S6}
use Rattle.spv_lines.specs.Fault.{IsAsmFailure}
use Rattle.spvk.specs.Assemble.{ComesTo, made, failed}
use Rattle.spvk.specs.Faults.{text_code_number}
use Rattle.spvk.specs.declared.image.Assembled.{Assembled}
use Rattle.spv_table.specs.declared.error.Memory.{Memory}
use Rattle.spvk.specs.inner.Faulty.{faulty_by}

-- all the bytes of the image
pub all_made : (G : Table) (o : Order) (text words : List ℕ) (a : Assembled) → IsUtf8 text
    → ((h : Header) × (is : List PlainInst) × IsReadText G h is (drop 5 words) text × IsHeaderOf words h
    × IsListing G is (drop 5 words)) → IsHeader words
    → HoldsBytes o words [] a.buffer.bytes (4 * length words) → a.fault.code ≡ 0 → a.fault.line ≡ 0 → ComesTo G o text a
all_made G o text words a u r b w c l =
    made words (record { utf8 = u; header = r.0; insts = r.1; read = r.2; begins = b; told = r.3 }) w c l

pub all_made_by : (G : Table) (o : Order) (text words : List ℕ) (r : Result Assembled Memory) → IsUtf8 text
    → ((h : Header) × (is : List PlainInst) × IsReadText G h is (drop 5 words) text × IsHeaderOf words h
    × IsListing G is (drop 5 words)) → IsHeader words
    → IfOk r (λ a. HoldsBytes o words [] a.buffer.bytes (4 * length words)) → IfOk r (λ a. a.fault.code ≡ 0)
    → IfOk r (λ a. a.fault.line ≡ 0) → IfOk r (ComesTo G o text)
all_made_by G o text words (Ok a) u r b w c l = all_made G o text words a u r b w c l
all_made_by G o text words (Err e) u r b w c l = tt

module _ (G : Table) (o : Order) (text : List ℕ) (line : ℕ) (a : Assembled) (u : IsUtf8 text) (l : a.fault.line ≡ line)
    (n : a.buffer.bytes ≡ None) where
  at_fault : (code : AsmCode) → code ≢ S6 → IsAsmFailure G text code line → a.fault.code ≡ text_code_number code
      → ComesTo G o text a
  at_fault S1 k f c = failed S1 line u f c l n
  at_fault S2 k f c = failed S2 line u f c l n
  at_fault S3 k f c = failed S3 line u f c l n
  at_fault S4 k f c = failed S4 line u f c l n
  at_fault S5 k f c = failed S5 line u f c l n
  at_fault S6 k f c = absurd (k refl)

abbrev got : AsmError → Result AsmError Memory → AsmError
got e (Ok f) = f
got e (Err u) = e

told : (code : AsmCode) (e f : AsmError) → faulty_by code e ≡ Ok f → (code ≢ S6) × (e ≡ f)
told S1 e f h = (λ z. cc, ap (got e) h)
told S2 e f h = (λ z. cc, ap (got e) h)
told S3 e f h = (λ z. cc, ap (got e) h)
told S4 e f h = (λ z. cc, ap (got e) h)
told S5 e f h = (λ z. cc, ap (got e) h)
told S6 e f h = absurd (subst (λ (r : Result AsmError Memory). IfOk r (λ _. ⊥)) h tt)

-- the first fault of a text that is UTF-8
pub first_fault : (G : Table) (o : Order) (text : List ℕ) (e f : AsmError) (a : Assembled) → IsUtf8 text
    → faulty_by e.code e ≡ Ok f → IsAsmFailure G text e.code e.line
    → a.fault.code ≡ text_code_number f.code → a.fault.line ≡ f.line → a.buffer.bytes ≡ None → ComesTo G o text a
first_fault G o text e f a u h d c l n =
    let t = told e.code e f h in
    let same : e ≡ f = t.1 in
    at_fault G o text e.line a u (subst (λ (x : AsmError). a.fault.line ≡ x.line) (sym same) l) n e.code t.0 d
    (subst (λ (x : AsmError). a.fault.code ≡ text_code_number x.code) (sym same) c)
