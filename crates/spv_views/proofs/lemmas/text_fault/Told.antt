-- The lines of a text that fails.
use Rattle.std.proofs.Common.{◌≡◌, ◌∷◌, [], ℕ, List, nat_eq, false, refl, ap, arith}
use Rattle.std.specs.Prelude.{codes, slice_index}
use Rattle.std.specs.Fmt.{digits}
use Rattle.std.proofs.lemmas.Bool.Decides.{nat_tests}
use Rattle.spv_table.specs.Table.{Table, IsWhole}
use Rattle.spv_module.specs.Operand.{PlainInst}
use Rattle.spv_module.specs.Example.{small}
use Rattle.spv_words.specs.declared.words.Header.{Header}
use Rattle.spv_lines.specs.declared.asm_error.AsmCode.{AsmCode}
use Rattle.spv_lines.specs.Fault.{IsFailure}
use Rattle.spv_lines.specs.Text.{IsReadText}
use Rattle.spv_lines.proofs.Failing.{failure_same, read_or_failed}
use Rattle.spv_lines.proofs.Given.{free_tidy}
use Rattle.spv_parser.specs.Reason.{Reason, FailsFor}
use Rattle.spv_parser.specs.Example.{reason_with}
use Rattle.spv_parser.specs.declared.text_reason.Wanted.TheVariants as wanted
use Rattle.spv_views.specs.text_fault.Lines.{Tells, first_of, found_text, reason_text}

pub told : (G : Table) (sentence t : List ℕ) (code other : AsmCode) (n m : ℕ) (why : Reason) (lines : List ℕ)
    → IsWhole G → IsFailure G t code n → FailsFor G t other m why → lines ≡ reason_text G sentence why
    → Tells G sentence t code n lines
told G sentence t code other n m why lines w f g e =
    let k = failure_same G t code other n m (free_tidy G w.apart) f g.failure in
    record { reason = why; fails = rw (k.0, k.1) g; text = e }

pub read_not_told : (G : Table) (t : List ℕ) (code : AsmCode) (n : ℕ) (h : Header) (is : List PlainInst) (ws : List ℕ)
    → IsWhole G → IsFailure G t code n → IsReadText G h is ws t → ⊥
read_not_told G t code n h is ws w f r = read_or_failed G h is ws t code n (free_tidy G w.apart) r f

-- worked examples
apart : (a b : ℕ) → nat_eq a b ≡ false → a ≡ b → ⊥
apart a b h e = grind (arith, nat_tests)

pub lines_shown : reason_text small (codes "S")
    (reason_with (codes "%9 = OpLoad %2 x")
    (codes "x") wanted.Id) ≡ codes "rule: S\nat: %9 = OpLoad %2 x\ncolumn: 16\nwanted: an id, as %7\nfound: x\n"
unfolding digits
lines_shown = refl

pub no_octet : first_of 1 (195 ∷ 169 ∷ 195 ∷ 168 ∷ []) ≡ 195 ∷ [] → ⊥
no_octet e = apart 169 0 refl (ap (λ t. slice_index t 1) e)

pub no_whole_line : found_text wanted.Id (codes "%2 %8") ≡ codes "%2 %8" → ⊥
no_whole_line e = apart 0 32 refl (ap (λ t. slice_index t 2) e)
