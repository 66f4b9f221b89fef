-- JSON objects that tell what bytes come to.
use Rattle.std.proofs.Common.{◌≡◌, ◌-◌, ◌++◌, ◌∙◌, ℕ, List, [], Option, append_assoc, drop, slice_index, sym, subst, ap}
use Rattle.std.specs.Prelude.{IfOk, OnOk, Ok, Err}
use Rattle.std.specs.Prelude.{Result as Outcome}
use Rattle.json.specs.Token.{Token}
use Rattle.spv_words.specs.Header.{IsFirstBroken, IsModule, RefusesBytes}
use Rattle.spv_words.specs.declared.words.Order.{Order}
use Rattle.spv_words.specs.declared.words.WordError.{WordError}
use Rattle.spv_words.specs.declared.words.WordError.TheVariants as word
use Rattle.spv_table.specs.Table.{Table}
use Rattle.spv_module.specs.Module.{plain_insts}
use Rattle.spv_module.specs.declared.fault.Fault.{Fault}
use Rattle.spv_module.specs.declared.fault.Stop.TheVariants as stop
use Rattle.spv_module.specs.declared.module.Module.{Module}
use Rattle.spv_inst.specs.Outcome.{IsDecodeFault}
use Rattle.spv_extended.specs.declared.reach.Reach.{Reach}
use Rattle.spv_lines.specs.Text.{ShownLines}
use Rattle.spv_evidence.specs.declared.evidence.Evidence.{Evidence}
use Rattle.spv_form_evidence.specs.words.Evidence as instructions
use Rattle.spv_check.specs.Answer.{IsFault}
use Rattle.spv_check.specs.Checked.{IsChecked}
use Rattle.spv_check.specs.Program.{Program}
use Rattle.spv_check.specs.Text.{line_of, refusal_of}
use Rattle.spv_check.specs.Verdict.{IsVerdict, refused as refused_verdict}
use Rattle.spv_check.specs.declared.verdict_line.Judgment.{Judgment}
use Rattle.spv_check.specs.declared.verdict_line.Judgment.TheVariants as judgments
use Rattle.spv_check.proofs.Verdicts.{fault_verdict, valid_verdict}
use Rattle.spv_facts.specs.Facts.{facts_of}
use Rattle.spv_facts.specs.Refused.{front_of}
use Rattle.spv_facts.specs.Words.{malformed_facts}
use Rattle.spv_fault_json.specs.Members.{members_of, refused_members}
use Rattle.spv_explain.specs.Json.{AreMembers, IsCheckAnswer, IsExplainAnswer, json_line, object_of}
use Rattle.spv_explain.specs.declared.answers.Answer.{Answer}
use Rattle.spv_explain.specs.inner.Reading.{IsBrokenModule}
use Rattle.spv_explain.proofs.Readings.{broken_fault}

-- a verdict of the bytes, with members that tell why
explained_at : (G : Table) (reach : Reach) (name : Option (List ℕ)) (bytes : List ℕ) (j : Judgment)
    (members : List Token) (a : Answer) → IsVerdict G reach bytes (line_of j)
    → AreMembers G reach bytes j members → a.judgment ≡ j → a.text.items ≡ json_line (object_of reach name j members)
    → IsExplainAnswer G reach name bytes a
explained_at G reach name bytes j members a v m e t = record {
  verdict = subst (λ x. IsVerdict G reach bytes (line_of x)) (sym e) v;
  members = members;
  explain = subst (λ x. AreMembers G reach bytes x members) (sym e) m;
  told = subst (λ x. a.text.items ≡ json_line (object_of reach name x members)) (sym e) t;
}

checked_at : (G : Table) (reach : Reach) (name : Option (List ℕ)) (bytes : List ℕ) (j : Judgment) (a : Answer)
    → IsVerdict G reach bytes (line_of j)
    → a.judgment ≡ j → a.text.items ≡ json_line (object_of reach name j []) → IsCheckAnswer G reach name bytes a
checked_at G reach name bytes j a v e t = record {
  verdict = subst (λ x. IsVerdict G reach bytes (line_of x)) (sym e) v;
  told = subst (λ x. a.text.items ≡ json_line (object_of reach name x [])) (sym e) t;
}

pub explained_by : {E : Type 0} (G : Table) (reach : Reach) (name : Option (List ℕ)) (bytes : List ℕ) (j : Judgment)
    (members : List Token) (r : Outcome Answer E)
    → IsVerdict G reach bytes (line_of j) → AreMembers G reach bytes j members → IfOk r (λ a. a.judgment ≡ j)
    → IfOk r (λ a. a.text.items ≡ json_line (object_of reach name j members))
    → IfOk r (λ a. IsExplainAnswer G reach name bytes a)
explained_by G reach name bytes j members (Err _) v m e t = tt
explained_by G reach name bytes j members (Ok a) v m e t = explained_at G reach name bytes j members a v m e t

pub checked_by : {E : Type 0} (G : Table) (reach : Reach) (name : Option (List ℕ)) (bytes : List ℕ) (j : Judgment)
    (r : Outcome Answer E)
    → IsVerdict G reach bytes (line_of j) → IfOk r (λ a. a.judgment ≡ j)
    → IfOk r (λ a. a.text.items ≡ json_line (object_of reach name j [])) → IfOk r (λ a. IsCheckAnswer G reach name bytes a)
checked_by G reach name bytes j (Err _) v e t = tt
checked_by G reach name bytes j (Ok a) v e t = checked_at G reach name bytes j a v e t

-- a valid module, words that are no list of instructions, and a module with a fault
pub valid_explained : {E : Type 0} (G : Table) (reach : Reach) (name : Option (List ℕ)) (bytes words : List ℕ)
    (order : Order) (p : Program) (r : Outcome Answer E)
    → IsModule order bytes words → IsChecked G reach words p → IfOk r (λ a. a.judgment ≡ judgments.Valid)
    → IfOk r (λ a. a.text.items ≡ json_line (object_of reach name judgments.Valid []))
    → IfOk r (λ a. IsExplainAnswer G reach name bytes a)
valid_explained G reach name bytes words order p r h c e t =
    explained_by G reach name bytes judgments.Valid [] r
    (valid_verdict G reach bytes words order p h c) AreMembers.valid e t

pub dead_explained : {E : Type 0} (G : Table) (reach : Reach) (name : Option (List ℕ)) (bytes words : List ℕ)
    (order : Order) (f : Fault) (e : Evidence) (r : Outcome Answer E)
    → IsModule order bytes words → IsDecodeFault G words (stop.Fault f)
    → instructions.IsEvidence G (drop 5 words) f.rule f.inst (f.word - 5) e
    → IfOk r (λ a. a.judgment ≡ judgments.Broken f)
    → IfOk r (λ a. a.text.items ≡ json_line
    (object_of reach name (judgments.Broken f)
    (members_of G [] [] (malformed_facts (drop 5 words) f.inst (f.word - 5) e))))
    → IfOk r (λ a. IsExplainAnswer G reach name bytes a)
dead_explained G reach name bytes words order f e r h d shown j t =
    explained_by G reach name bytes (judgments.Broken f)
    (members_of G [] [] (malformed_facts (drop 5 words) f.inst (f.word - 5) e)) r
    (fault_verdict G reach bytes words order f h (IsFault.dead d.0 d.1)) (AreMembers.dead words order f e h shown) j t

pub broken_explained : {E : Type 0} (G : Table) (reach : Reach) (name : Option (List ℕ)) (bytes words : List ℕ)
    (order : Order) (f : Fault) (e : Evidence) (m : Module)
    (shown : List (List ℕ)) (r : Outcome Answer E) → IsModule order bytes words → IsBrokenModule G reach words f e m
    → ShownLines G [] (plain_insts m) shown
    → IfOk r (λ a. a.judgment ≡ judgments.Broken f)
    → IfOk r (λ a. a.text.items ≡ json_line
    (object_of reach name (judgments.Broken f)
    (members_of G (plain_insts m) shown (facts_of m.header.bound (plain_insts m) f.rule f.inst e))))
    → IfOk r (λ a. IsExplainAnswer G reach name bytes a)
broken_explained G reach name bytes words order f e m shown r h b s j t =
    let is = plain_insts m in
    explained_by G reach name bytes (judgments.Broken f)
    (members_of G is shown (facts_of (slice_index words 3) is f.rule f.inst e)) r
    (fault_verdict G reach bytes words order f h (broken_fault G reach words f e m b))
    (AreMembers.broken words order is f e shown h b.listing b.shown s) j
    (subst (λ x. IfOk r (λ a. a.text.items ≡ json_line
    (object_of reach name (judgments.Broken f) (members_of G is shown (facts_of x is f.rule f.inst e))))) b.header.bound
    t)

-- bytes that gave no image
explained_one : (G : Table) (reach : Reach) (name : Option (List ℕ)) (bytes : List ℕ) (code : WordError) (a : Answer)
    → IsFirstBroken code bytes
    → judgments.Refused code ≡ a.judgment
    → a.text.items ≡ json_line (object_of reach name (judgments.Refused code) (refused_members code (front_of bytes)))
    → IsExplainAnswer G reach name bytes a
explained_one G reach name bytes code a b e t =
    explained_at G reach name bytes (judgments.Refused code) (refused_members code (front_of bytes)) a
    (refused_verdict code b) (AreMembers.refused code b) (sym e) t

checked_one : (G : Table) (reach : Reach) (name : Option (List ℕ)) (bytes : List ℕ) (code : WordError) (a : Answer)
    → IsFirstBroken code bytes
    → judgments.Refused code ≡ a.judgment → a.text.items ≡ json_line (object_of reach name (judgments.Refused code) [])
    → IsCheckAnswer G reach name bytes a
checked_one G reach name bytes code a b e t =
    checked_at G reach name bytes (judgments.Refused code) a (refused_verdict code b) (sym e) t

pub refused_explained : {E : Type 0} (G : Table) (reach : Reach) (name : Option (List ℕ)) (bytes : List ℕ)
    (code : WordError) (r : Outcome Answer E) → RefusesBytes code bytes
    → IfOk r (λ a. refusal_of code ≡ Ok a.judgment)
    → IfOk r (λ a. a.text.items ≡ json_line
    (object_of reach name (judgments.Refused code) (refused_members code (front_of bytes))))
    → IfOk r (λ a. IsExplainAnswer G reach name bytes a)
refused_explained G reach name bytes code (Err _) h e t = tt
refused_explained G reach name bytes word.W1 (Ok a) h e t = absurd cc
refused_explained G reach name bytes word.W9 (Ok a) h e t = absurd cc
refused_explained G reach name bytes word.W2 (Ok a) h e t =
    (let j : judgments.Refused word.W2 ≡ a.judgment = cc in explained_one G reach name bytes word.W2 a h j t)
refused_explained G reach name bytes word.W3 (Ok a) h e t =
    (let j : judgments.Refused word.W3 ≡ a.judgment = cc in explained_one G reach name bytes word.W3 a h j t)
refused_explained G reach name bytes word.W4 (Ok a) h e t =
    (let j : judgments.Refused word.W4 ≡ a.judgment = cc in explained_one G reach name bytes word.W4 a h j t)
refused_explained G reach name bytes word.W5 (Ok a) h e t =
    (let j : judgments.Refused word.W5 ≡ a.judgment = cc in explained_one G reach name bytes word.W5 a h j t)
refused_explained G reach name bytes word.W6 (Ok a) h e t =
    (let j : judgments.Refused word.W6 ≡ a.judgment = cc in explained_one G reach name bytes word.W6 a h j t)
refused_explained G reach name bytes word.W7 (Ok a) h e t =
    (let j : judgments.Refused word.W7 ≡ a.judgment = cc in explained_one G reach name bytes word.W7 a h j t)
refused_explained G reach name bytes word.W8 (Ok a) h e t =
    (let j : judgments.Refused word.W8 ≡ a.judgment = cc in explained_one G reach name bytes word.W8 a h j t)

pub refused_checked : {E : Type 0} (G : Table) (reach : Reach) (name : Option (List ℕ)) (bytes : List ℕ)
    (code : WordError) (r : Outcome Answer E) → RefusesBytes code bytes
    → IfOk r (λ a. refusal_of code ≡ Ok a.judgment)
    → IfOk r (λ a. a.text.items ≡ json_line (object_of reach name (judgments.Refused code) []))
    → IfOk r (λ a. IsCheckAnswer G reach name bytes a)
refused_checked G reach name bytes code (Err _) h e t = tt
refused_checked G reach name bytes word.W1 (Ok a) h e t = absurd cc
refused_checked G reach name bytes word.W9 (Ok a) h e t = absurd cc
refused_checked G reach name bytes word.W2 (Ok a) h e t =
    (let j : judgments.Refused word.W2 ≡ a.judgment = cc in checked_one G reach name bytes word.W2 a h j t)
refused_checked G reach name bytes word.W3 (Ok a) h e t =
    (let j : judgments.Refused word.W3 ≡ a.judgment = cc in checked_one G reach name bytes word.W3 a h j t)
refused_checked G reach name bytes word.W4 (Ok a) h e t =
    (let j : judgments.Refused word.W4 ≡ a.judgment = cc in checked_one G reach name bytes word.W4 a h j t)
refused_checked G reach name bytes word.W5 (Ok a) h e t =
    (let j : judgments.Refused word.W5 ≡ a.judgment = cc in checked_one G reach name bytes word.W5 a h j t)
refused_checked G reach name bytes word.W6 (Ok a) h e t =
    (let j : judgments.Refused word.W6 ≡ a.judgment = cc in checked_one G reach name bytes word.W6 a h j t)
refused_checked G reach name bytes word.W7 (Ok a) h e t =
    (let j : judgments.Refused word.W7 ≡ a.judgment = cc in checked_one G reach name bytes word.W7 a h j t)
refused_checked G reach name bytes word.W8 (Ok a) h e t =
    (let j : judgments.Refused word.W8 ≡ a.judgment = cc in checked_one G reach name bytes word.W8 a h j t)

-- what `check` answers
pub valid_checked : {E : Type 0} (G : Table) (reach : Reach) (name : Option (List ℕ)) (bytes words : List ℕ)
    (order : Order) (p : Program) (r : Outcome Answer E)
    → IsModule order bytes words → IsChecked G reach words p → IfOk r (λ a. a.judgment ≡ judgments.Valid)
    → IfOk r (λ a. a.text.items ≡ json_line (object_of reach name judgments.Valid []))
    → IfOk r (λ a. IsCheckAnswer G reach name bytes a)
valid_checked G reach name bytes words order p r h c e t =
    checked_by G reach name bytes judgments.Valid r (valid_verdict G reach bytes words order p h c) e t

pub fault_checked : {E : Type 0} (G : Table) (reach : Reach) (name : Option (List ℕ)) (bytes words : List ℕ)
    (order : Order) (f : Fault) (r : Outcome Answer E)
    → IsModule order bytes words → IsFault G reach words f → IfOk r (λ a. a.judgment ≡ judgments.Broken f)
    → IfOk r (λ a. a.text.items ≡ json_line (object_of reach name (judgments.Broken f) []))
    → IfOk r (λ a. IsCheckAnswer G reach name bytes a)
fault_checked G reach name bytes words order f r h d e t =
    checked_by G reach name bytes (judgments.Broken f) r (fault_verdict G reach bytes words order f h d) e t

-- what stands before a text that may not be added any more
pub pushed_third : {A T E : Type 0} (r : Outcome T E) (a b c old one two three : List A) → one ≡ old ++ a
    → two ≡ one ++ b → OnOk r (three ≡ two ++ c)
    → OnOk r (three ≡ old ++ (a ++ (b ++ c)))
pushed_third (Err _) a b c old one two three f g h = tt
pushed_third (Ok _) a b c old one two three f g h =
    (let s : ((old ++ a) ++ b) ++ c ≡ old ++ (a ++ (b ++ c)) = simp append_assoc in
    h ∙ (ap (λ z. z ++ c) (g ∙ ap (λ z. z ++ b) f) ∙ s))

pub pushed_next : {A T E : Type 0} (r : Outcome T E) (a b old one two : List A) → one ≡ old ++ a
    → OnOk r (two ≡ one ++ b)
    → OnOk r (two ≡ old ++ (a ++ b))
pushed_next (Err _) a b old one two f g = tt
pushed_next (Ok _) a b old one two f g = g ∙ (ap (λ z. z ++ b) f ∙ append_assoc old a b)
