-- What is shown of bytes that were read.
use Rattle.std.proofs.Common.{◌≡◌, ◌+◌, ◌-◌, ℕ, List, Some, None, Result, Ok, Err, IfOk, ap, sym, subst, arith}
use Rattle.spv_words.specs.Header.{IsModule, RefusesBytes}
use Rattle.spv_words.specs.declared.words.Order.{Order}
use Rattle.spv_words.specs.declared.words.WordError.{WordError}
use Rattle.spv_words.specs.declared.words.WordError.TheVariants as word
use Rattle.spv_table.specs.Table.{Table}
use Rattle.spv_table.specs.declared.error.Memory.{Memory}
use Rattle.spv_inst.specs.Outcome.{IsDecodeFault}
use Rattle.spv_module.specs.declared.fault.Fault.{Fault}
use Rattle.spv_module.specs.declared.fault.Stop.{Stop}
use Rattle.spv_module.specs.declared.fault.Stop.TheVariants.{Fault as Dies}
use Rattle.spv_lines.specs.Image.{IsShownImage}
use Rattle.spv_extended.specs.declared.reach.Reach.{Reach}
use Rattle.spv_words.specs.Version.{as_1_6}
use Rattle.spv_scope.specs.Scope.{reach_of, told_text}
use Rattle.spv_scope.specs.declared.scope.Scope.TheVariants.{OpenCl}
use Rattle.spv_check.specs.declared.verdict_line.Judgment.{Judgment}
use Rattle.spv_check.specs.declared.verdict_line.Judgment.TheVariants.{Valid, Refused, Broken}
use Rattle.spvk.specs.Numbers.{numbers_of}
use Rattle.spvk.specs.Make.{Makes, done, memory}
use Rattle.spvk.specs.Show.{IsShowing, IsShowingForOpenCl, text, refused, dead}
use Rattle.spvk.specs.declared.text.Text.{Text}
use Rattle.spvk.specs.inner.Refusal.{refusal_of}

-- the text of the words that were read
pub text_shown : (G : Table) (reach : Reach) (bytes words lines : List ℕ) (order : Order) (r : Result Text Memory)
    → IsModule order bytes words → IsShownImage G words lines
    → IfOk r (λ t. t.verdict ≡ numbers_of Valid) → IfOk r (λ t. t.buffer.bytes ≡ Some (told_text reach lines))
    → IfOk r (λ t. IsShowing G reach bytes t)
text_shown G reach bytes words lines order (Err e) h s v b = tt
text_shown G reach bytes words lines order (Ok t) h s v b =
    text words order s.header s.insts lines h s.told s.listed s.shown v b

-- words that are no list of instructions
pub dead_shown : (G : Table) (reach : Reach) (bytes words : List ℕ) (order : Order) (s : Stop) (f : Fault) (t : Text) → s ≡ Dies f
    → IsModule order bytes words
    → IsDecodeFault G words s → t.verdict ≡ numbers_of (Broken f) → t.buffer.bytes ≡ None → IsShowing G reach bytes t
dead_shown G reach bytes words order s f t e h d v b =
    let died : IsDecodeFault G words (Dies f) = rw e at d in
    let low = died.0 in
    let at : f.word ≡ 5 + (f.word - 5) = omega arith in
    dead words order f (f.word - 5) h died.1 at v b

abbrev got : Result Judgment Memory → Judgment
got (Ok j) = j
got (Err e) = Valid

same : (code : WordError) (j : Judgment) → refusal_of code ≡ Ok j → got (refusal_of code) ≡ j
same code j e = ap got e

never : (code : WordError) (j : Judgment) → refusal_of code ≡ Ok j → IfOk (refusal_of code) (λ _. ⊥) → ⊥
never code j e h = subst (λ (r : Result Judgment Memory). IfOk r (λ _. ⊥)) e h

told_as : (k j : Judgment) (t : Text) → k ≡ j → t.verdict ≡ numbers_of j → t.verdict ≡ numbers_of k
told_as k j t e v = subst (λ (i : Judgment). t.verdict ≡ numbers_of i) (sym e) v

-- a code that was read, of bytes in memory
pub refused_shown : (G : Table) (reach : Reach) (bytes : List ℕ) (code : WordError) (j : Judgment) (t : Text) → refusal_of code ≡ Ok j
    → RefusesBytes code bytes
    → t.verdict ≡ numbers_of j → t.buffer.bytes ≡ None → IsShowing G reach bytes t
refused_shown G reach bytes word.W1 j t e h v b = absurd (never word.W1 j e tt)
refused_shown G reach bytes word.W9 j t e h v b = absurd (never word.W9 j e tt)
refused_shown G reach bytes word.W2 j t e h v b = refused word.W2 h (told_as (Refused word.W2) j t (same word.W2 j e) v) b
refused_shown G reach bytes word.W3 j t e h v b = refused word.W3 h (told_as (Refused word.W3) j t (same word.W3 j e) v) b
refused_shown G reach bytes word.W4 j t e h v b = refused word.W4 h (told_as (Refused word.W4) j t (same word.W4 j e) v) b
refused_shown G reach bytes word.W5 j t e h v b = refused word.W5 h (told_as (Refused word.W5) j t (same word.W5 j e) v) b
refused_shown G reach bytes word.W6 j t e h v b = refused word.W6 h (told_as (Refused word.W6) j t (same word.W6 j e) v) b
refused_shown G reach bytes word.W7 j t e h v b = refused word.W7 h (told_as (Refused word.W7) j t (same word.W7 j e) v) b
refused_shown G reach bytes word.W8 j t e h v b = refused word.W8 h (told_as (Refused word.W8) j t (same word.W8 j e) v) b

-- what is shown of a module of OpenCL
pub shown_for_opencl : (G : Table) (bytes : List ℕ) (old new : Text) (status : ℕ)
    → Makes (IsShowing G (reach_of OpenCl bytes) (as_1_6 bytes)) old new status
    → Makes (IsShowingForOpenCl G bytes) old new status
shown_for_opencl G bytes old _ _ (done new h) = done new (record { showing = h })
shown_for_opencl G bytes old _ _ memory = memory
