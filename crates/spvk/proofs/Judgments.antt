-- What was read has the verdict.
use Rattle.std.proofs.Common.{◌≡◌, ℕ, List, IfOk, sym, subst}
use Rattle.spv_words.specs.Header.{IsModule, RefusesBytes}
use Rattle.spv_words.specs.declared.words.Order.{Order}
use Rattle.spv_words.specs.declared.words.WordError.{WordError}
use Rattle.spv_words.specs.declared.words.WordError.TheVariants as word
use Rattle.spv_table.specs.Table.{Table}
use Rattle.spv_extended.specs.declared.reach.Reach.{Reach}
use Rattle.spv_module.specs.declared.fault.Fault as fault
use Rattle.spv_check.specs.Answer.{IsAnswer, IsFault}
use Rattle.spv_check.specs.Checked.{IsChecked}
use Rattle.spv_check.specs.Program.{Program}
use Rattle.spv_check.specs.Text.{line_of}
use Rattle.spv_check.specs.Verdict.{IsVerdict, refused, valid, unsound, dead, fault_line, valid_line}
use Rattle.spv_check.specs.declared.checked.Verdict.{Verdict}
use Rattle.spv_check.specs.declared.checked.Verdict.TheVariants.{Valid, Fault}
use Rattle.std.proofs.Common.{◌+◌, ◌-◌, arith}
use Rattle.spvk.specs.inner.Refusal.{refusal_of}

-- a code that was read, of bytes in memory
pub refused_bytes : (G : Table) (reach : Reach) (bytes : List ℕ) (code : WordError)
    → RefusesBytes code bytes → IfOk (refusal_of code) (λ j. IsVerdict G reach bytes (line_of j))
refused_bytes G reach bytes word.W1 h = tt
refused_bytes G reach bytes word.W9 h = tt
refused_bytes G reach bytes word.W2 h = refused word.W2 h
refused_bytes G reach bytes word.W3 h = refused word.W3 h
refused_bytes G reach bytes word.W4 h = refused word.W4 h
refused_bytes G reach bytes word.W5 h = refused word.W5 h
refused_bytes G reach bytes word.W6 h = refused word.W6 h
refused_bytes G reach bytes word.W7 h = refused word.W7 h
refused_bytes G reach bytes word.W8 h = refused word.W8 h

fault_verdict : (G : Table) (reach : Reach) (bytes words : List ℕ) (order : Order) (f : fault.Fault)
    → IsModule order bytes words → IsFault G reach words f
    → IsVerdict G reach bytes (fault_line f.rule f.inst f.word)
fault_verdict G reach bytes words order f h (IsFault.dead low d) =
    let e : 5 + (f.word - 5) ≡ f.word = omega arith in
    subst (λ (n : ℕ). IsVerdict G reach bytes (fault_line f.rule f.inst n)) e
    (dead words order f.rule f.inst (f.word - 5) h d)
fault_verdict G reach bytes words order f h (IsFault.broken is l first e) =
    subst (λ (n : ℕ). IsVerdict G reach bytes (fault_line f.rule f.inst n)) (sym e)
    (unsound words order is f.rule f.inst h l first)

valid_verdict : (G : Table) (reach : Reach) (bytes words : List ℕ) (order : Order) (p : Program)
    → IsModule order bytes words → IsChecked G reach words p
    → IsVerdict G reach bytes valid_line
valid_verdict G reach bytes words order p h c =
    valid (record {
      words = words;
      order = order;
      is_module = h;
      insts = p.insts;
      reading = c.reading;
      sound = rw c.bound at c.sound;
    })

pub valid_judged : (G : Table) (reach : Reach) (bytes words : List ℕ) (order : Order) (v : Verdict) (p : Program)
    → v ≡ Valid p → IsModule order bytes words
    → IsAnswer G reach words v → IsVerdict G reach bytes valid_line
valid_judged G reach bytes words order v p e h a = valid_verdict G reach bytes words order p h (rw e at a)

pub fault_judged : (G : Table) (reach : Reach) (bytes words : List ℕ) (order : Order) (v : Verdict) (f : fault.Fault)
    → v ≡ Fault f → IsModule order bytes words
    → IsAnswer G reach words v → IsVerdict G reach bytes (fault_line f.rule f.inst f.word)
fault_judged G reach bytes words order v f e h a = fault_verdict G reach bytes words order f h (rw e at a)
