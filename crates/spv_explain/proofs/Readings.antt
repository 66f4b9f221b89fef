-- What a module of words comes to, and what its lines tell.
use Rattle.std.proofs.Common.{◌≡◌, ◌≤◌, ◌-◌, ◌∙◌, ℕ, List, [], ap, drop, slice_index, refl, sym, subst}
use Rattle.std.specs.Prelude.{IfOk, Ok, Err}
use Rattle.std.specs.Prelude.{Result as Answer}
use Rattle.spv_words.specs.Header.{IsModule}
use Rattle.spv_words.specs.declared.words.Order.{Order}
use Rattle.spv_table.specs.Table.{Table}
use Rattle.spv_module.specs.Operand.{PlainInst}
use Rattle.spv_module.specs.Module.{plain_insts}
use Rattle.spv_module.specs.Instruction.{IsListing}
use Rattle.spv_module.specs.Malformed.{IsMalformedAt}
use Rattle.spv_module.specs.declared.fault.Fault.{Fault}
use Rattle.spv_module.specs.declared.fault.Rule.{Rule}
use Rattle.spv_module.specs.declared.fault.Stop.TheVariants as stop
use Rattle.spv_module.specs.declared.module.Module.{Module}
use Rattle.spv_extended.specs.declared.reach.Reach.{Reach}
use Rattle.spv_extended.specs.declared.reach.Reach.TheVariants.{Profile}
use Rattle.spv_extended.specs.Reach.{looked_at}
use Rattle.spv_layout.specs.First.{stage_of}
use Rattle.spv_layout.specs.Stage as stages
use Rattle.spv_inst.specs.Outcome.{IsDecodeFault, IsHeaderOf}
use Rattle.spv_evidence.specs.declared.evidence.Evidence.{Evidence}
use Rattle.spv_check.specs.Answer.{IsAnswer, IsFault}
use Rattle.spv_check.specs.Broken.{Broken, IsFirstOfAll, IsTold}
use Rattle.spv_check.specs.Checked.{IsChecked}
use Rattle.spv_check.specs.Judged.{IsRefused}
use Rattle.spv_check.specs.Reading.{IsReading}
use Rattle.spv_check.specs.declared.judged.Reached.{Reached}
use Rattle.spv_check.specs.Program.{Program}
use Rattle.spv_check.proofs.Firsts.{one_first}
use Rattle.spv_check.proofs.Verdicts.{Laws, SameModule, dead_list, same_module}
use Rattle.spv_form_evidence.specs.words.Evidence as instructions
use Rattle.spv_explain.specs.Evidence.{IsEvidence}
use Rattle.spv_explain.specs.Explained.{IsShown, IsShownDead, IsSpelled, verdict_in}
use Rattle.spv_lines.specs.Text.{ShownLines}
use Rattle.spv_facts.specs.declared.fact.Detail.{Detail}
use Rattle.spv_explain.specs.Lines.{fault_text, malformed_text}
use Rattle.spv_explain.specs.Stream.{Explain, ExplainDead}
use Rattle.spv_explain.specs.declared.reading.Explained.{Explained}
use Rattle.spv_explain.specs.declared.reading.Explained.TheVariants as explained
use Rattle.spv_explain.specs.inner.Shown.{IsShownAt}
use Rattle.spv_explain.specs.inner.Reading.{IsBrokenModule, IsExplained}

-- words spell one list
abbrev pub OneListing : Type 0
OneListing = (G : Table) (is js : List PlainInst) (ws : List ℕ) → IsListing G is ws → IsListing G js ws → is ≡ js

-- what is spelled is what is read by the profile
spelled : (G : Table) (is : List PlainInst) (ws : List ℕ) → IsListing G is ws → IsReading G Profile is ws
spelled G is ws l = record { spelled = is; listing = l; seen = refl }

same_spelled : Laws → (G : Table) (bytes ws vs : List ℕ) (o p : Order) (is js : List PlainInst) → IsModule o bytes ws
    → IsModule p bytes vs
    → IsListing G is (drop 5 ws) → IsListing G js (drop 5 vs) → SameModule ws vs is js
same_spelled laws G bytes ws vs o p is js h g l k =
    same_module laws G Profile bytes ws vs o p is js h g (spelled G is (drop 5 ws) l) (spelled G js (drop 5 vs) k)

dead_spelled : Laws → (G : Table) (bytes ws vs : List ℕ) (o p : Order) (is : List PlainInst) (r : Rule) (i n : ℕ)
    → IsModule o bytes ws → IsModule p bytes vs
    → IsListing G is (drop 5 ws) → IsMalformedAt G (drop 5 vs) r i n → ⊥
dead_spelled laws G bytes ws vs o p is r i n h g l d =
    dead_list laws G Profile bytes ws vs o p is r i n h g (spelled G is (drop 5 ws) l) d

-- a module of the words that is judged, and the one that they spell
pub broken_reading : OneListing
    → (G : Table) (reach : Reach) (words : List ℕ) (m n o : Module) (f : Fault) (e : Evidence) (reached : Reached)
    → IsHeaderOf words m.header → IsReading G reach (plain_insts m) (drop 5 words)
    → IsRefused G reach m.header.bound (plain_insts m) f n reached
    → IsShownAt G reach n.header.bound (plain_insts n) f e → IsListing G (plain_insts o) (drop 5 words)
    → IsHeaderOf words o.header → IsBrokenModule G reach words f e o
broken_reading one G reach words m n o f e reached h d r shown l b =
    let bound = slice_index words 3 in
    let same : d.spelled ≡ plain_insts o = one G d.spelled (plain_insts o) (drop 5 words) d.listing l in
    let seen : plain_insts m ≡ looked_at reach (plain_insts o) = d.seen ∙ ap (λ is. looked_at reach is) same in
    record {
      listing = l;
      header = b;
      told = subst (λ is. IsTold G reach bound is (stop.Fault f)) seen
          (subst (λ k. IsTold G reach k (plain_insts m) (stop.Fault f)) h.bound r.told);
      shown = subst (λ is. IsShownAt G reach bound is f e) (r.same_insts ∙ seen)
          (subst (λ k. IsShownAt G reach k (plain_insts n) f e) (r.same_bound ∙ h.bound) shown);
    }

-- its fault is that of the words, and is shown
pub broken_fault : (G : Table) (reach : Reach) (words : List ℕ) (f : Fault) (e : Evidence) (m : Module)
    → IsBrokenModule G reach words f e m → IsFault G reach words f
broken_fault G reach words f e m h =
    IsFault.broken (looked_at reach (plain_insts m))
    (record { spelled = plain_insts m; listing = h.listing; seen = refl }) h.told.0 h.told.1

-- what `explain` says of it
pub answered : {E : Type 0} (G : Table) (reach : Reach) (words : List ℕ) (r : Answer Explained E)
    → IfOk r (λ e. IsExplained G reach words e)
    → IfOk r (λ e. IsAnswer G reach words (verdict_in e))
answered G reach words (Ok (explained.Valid c)) h = h
answered G reach words (Ok (explained.Malformed f e)) h = IsFault.dead h.0.0 h.0.1
answered G reach words (Ok (explained.Broken f e m)) h = broken_fault G reach words f e m h
answered G reach words (Err _) h = tt

pub shown : {E : Type 0}
    → OneListing
    → ((G : Table) (is : List PlainInst) (ws : List ℕ) (a : Rule) (k n : ℕ) → IsListing G is ws
    → ¬ (IsMalformedAt G ws a k n)) → (G : Table) (reach : Reach) (words : List ℕ) (r : Answer Explained E)
    → IfOk r (λ e. IsExplained G reach words e) → IfOk r (λ e. IsShown G reach words e)
shown one alive G reach words (Ok (explained.Valid c)) h = tt
shown one alive G reach words (Ok (explained.Malformed f e)) h = λ is l s.
    absurd (alive G is (drop 5 words) f.rule f.inst (f.word - 5) l h.0.1)
shown one alive G reach words (Ok (explained.Broken f e m)) h = λ is l s.
    let same : plain_insts m ≡ is = one G (plain_insts m) is (drop 5 words) h.listing l in
    subst (λ js. IsEvidence G reach (slice_index words 3) (looked_at reach js) f.rule f.inst e) same (h.shown s)
shown one alive G reach words (Err _) h = tt

pub shown_dead : {E : Type 0} (G : Table) (reach : Reach) (words : List ℕ) (r : Answer Explained E)
    → IfOk r (λ e. IsExplained G reach words e) → IfOk r (λ e. IsShownDead G words e)
shown_dead G reach words (Ok (explained.Valid c)) h = tt
shown_dead G reach words (Ok (explained.Malformed f e)) h = λ none. h.1
shown_dead G reach words (Ok (explained.Broken f e m)) h = λ none. absurd (none (plain_insts m) h.listing)
shown_dead G reach words (Err _) h = tt

pub spelled_out : {E : Type 0} (G : Table) (reach : Reach) (words : List ℕ) (r : Answer Explained E)
    → IfOk r (λ e. IsExplained G reach words e) → IfOk r (λ e. IsSpelled G words e)
spelled_out G reach words (Ok (explained.Valid c)) h = tt
spelled_out G reach words (Ok (explained.Malformed f e)) h = tt
spelled_out G reach words (Ok (explained.Broken f e m)) h = record { listing = h.listing; header = h.header }
spelled_out G reach words (Err _) h = tt

-- lines of a fault
pub explains : Laws → (z : Detail) (G : Table) (reach : Reach) (bytes words : List ℕ) (order : Order) (f : Fault)
    (e : Evidence) (m : Module) (shown : List (List ℕ)) (lines : List ℕ) → IsModule order bytes words
    → IsBrokenModule G reach words f e m → ShownLines G [] (plain_insts m) shown
    → lines ≡ fault_text z G m.header.bound (plain_insts m) shown f.rule f.inst e → Explain z G reach bytes lines
explains laws z G reach bytes words order f e m text lines h b are t = λ ws p js r n g l first s.
    let same = same_spelled laws G bytes words ws order p (plain_insts m) js h g b.listing l in
    let told : IsFirstOfAll G reach (slice_index ws 3) (looked_at reach js) f.rule f.inst = rw
    (same.words, same.insts) at b.told.0 in
    let one = one_first G reach (slice_index ws 3) (looked_at reach js) f.rule r f.inst n told first in
    let shown : IsShownAt G reach (slice_index ws 3) (looked_at reach js) f e = rw
    (same.words, same.insts) at b.shown in
    let late : stages.of_profile ≤ stage_of f.rule = subst (λ q. stages.of_profile ≤ stage_of q) (sym one.rule) s in
    let there : IsEvidence G reach (slice_index ws 3) (looked_at reach js) f.rule f.inst e = shown late in
    let t1 = subst (λ x. lines ≡ fault_text z G x (plain_insts m) text f.rule f.inst e) b.header.bound t in
    let t2 = subst (λ x. lines ≡ fault_text z G (slice_index x 3) (plain_insts m) text f.rule f.inst e) same.words t1 in
    let t3 = subst (λ x. lines ≡ fault_text z G (slice_index ws 3) x text f.rule f.inst e) same.insts t2 in
    let t4 = subst (λ x. lines ≡ fault_text z G (slice_index ws 3) js text x f.inst e) one.rule t3 in
    record {
      evidence = e;
      shows = subst (λ q. IsEvidence G reach (slice_index ws 3) (looked_at reach js) q n e) one.rule
          (subst (λ k. IsEvidence G reach (slice_index ws 3) (looked_at reach js) f.rule k e) one.inst there);
      shown = text;
      are_shown = subst (λ x. ShownLines G [] x text) same.insts are;
      told = subst (λ x. lines ≡ fault_text z G (slice_index ws 3) js text r x e) one.inst t4;
    }

-- nothing is to be told of a valid module, and of words that are no list
pub valid_explains : Laws
    → (z : Detail) (G : Table) (reach : Reach) (bytes words : List ℕ) (order : Order) (p : Program) (lines : List ℕ)
    → IsModule order bytes words → IsChecked G reach words p → Explain z G reach bytes lines
valid_explains laws z G reach bytes words order p lines h c = λ ws q js r n g l first s.
    let d = c.reading in
    let same = same_spelled laws G bytes words ws order q d.spelled js h g d.listing l in
    let told : IsFirstOfAll G reach (slice_index words 3) (looked_at reach d.spelled) r n = rw
    (sym same.words, sym same.insts) at first in
    let seen : Broken G reach (slice_index words 3) p.insts r n = subst
    (λ is. Broken G reach (slice_index words 3) is r n) (sym d.seen) told.broken in
    absurd (c.sound r n (subst (λ k. Broken G reach k p.insts r n) (sym c.bound) seen))

pub dead_explains : Laws
    → (z : Detail) (G : Table) (reach : Reach) (bytes words : List ℕ) (order : Order) (f : Fault) (lines : List ℕ)
    → IsModule order bytes words → IsDecodeFault G words (stop.Fault f) → Explain z G reach bytes lines
dead_explains laws z G reach bytes words order f lines h d =
    λ ws q js r n g l first s. absurd (dead_spelled laws G bytes ws words q order js f.rule f.inst _ g h l d.1)

-- lines of words that spell no list of instructions
pub dead_shows : Laws
    → (z : Detail) (G : Table) (bytes words : List ℕ) (order : Order) (f : Fault) (e : Evidence) (lines : List ℕ)
    → IsModule order bytes words → IsDecodeFault G words (stop.Fault f)
    → instructions.IsEvidence G (drop 5 words) f.rule f.inst (f.word - 5) e
    → lines ≡ malformed_text z G (drop 5 words) f.rule f.inst (f.word - 5) e → ExplainDead z G bytes lines
dead_shows laws z G bytes words order f e lines h d shown t = λ ws q r n word g k.
    let same : words ≡ ws = (laws.words order q bytes words ws h g).1 in
    let there = subst (λ v. IsMalformedAt G (drop 5 v) f.rule f.inst (f.word - 5)) same d.1 in
    let one = laws.death G (drop 5 ws) f.rule r f.inst n (f.word - 5) word there k in
    let of_words = subst (λ v. instructions.IsEvidence G (drop 5 v) f.rule f.inst (f.word - 5) e) same shown in
    let of_rule = subst (λ a. instructions.IsEvidence G (drop 5 ws) a f.inst (f.word - 5) e) one.0 of_words in
    let of_inst = subst (λ a. instructions.IsEvidence G (drop 5 ws) r a (f.word - 5) e) one.1 of_rule in
    let t1 = subst (λ v. lines ≡ malformed_text z G (drop 5 v) f.rule f.inst (f.word - 5) e) same t in
    let t2 = subst (λ a. lines ≡ malformed_text z G (drop 5 ws) a f.inst (f.word - 5) e) one.0 t1 in
    let t3 = subst (λ a. lines ≡ malformed_text z G (drop 5 ws) r a (f.word - 5) e) one.1 t2 in
    record {
      evidence = e;
      shows = subst (λ a. instructions.IsEvidence G (drop 5 ws) r n a e) one.2 of_inst;
      told = subst (λ a. lines ≡ malformed_text z G (drop 5 ws) r n a e) one.2 t3;
    }

-- words that spell a list have no dead instruction
pub listed_explains : Laws
    → (z : Detail) (G : Table) (bytes words : List ℕ) (order : Order) (is : List PlainInst) (lines : List ℕ)
    → IsModule order bytes words → IsListing G is (drop 5 words) → ExplainDead z G bytes lines
listed_explains laws z G bytes words order is lines h l = λ ws q r n word g k.
    absurd (dead_spelled laws G bytes words ws order q is r n word h g l k)
