-- Lines that tell what bytes come to.
use Rattle.std.proofs.Common.{◌≡◌, ◌≤◌, ◌↔◌, ◌++◌, ◌-◌, ◌∙◌, ℕ, List, [], Bool, false, Option, Some, None, IfSome, IsTrue}
use Rattle.std.proofs.Common.{◌∷◌, ◌+◌, ◌<◌, append-nil, arith, drop, length, sum_by, take, ap, refl, sym, subst}
use Rattle.std.proofs.Common.{string_bytes}
use Rattle.std.proofs.lemmas.List.Sums.{sum_by-cons}
use Rattle.std.specs.Io.KnownBytes.{Appends, Consumes, IsAtEnd}
use Rattle.std.specs.Prelude.{IfOk, IsSomeAnd, Ok, Err}
use Rattle.std.specs.Prelude.{Result as Answer}
use Rattle.spv_words.specs.Header.{BytesKeep, IsFirstBroken, IsModule, RefusesBytes, greatest_length, place_of}
use Rattle.spv_words.specs.Streams.{IsStop}
use Rattle.spv_words.specs.declared.words.WordError.{WordError}
use Rattle.spv_words.specs.declared.words.WordError.TheVariants as word
use Rattle.spv_words.specs.declared.words.Order.{Order}
use Rattle.spv_table.specs.Table.{Table}
use Rattle.spv_extended.specs.declared.reach.Reach.{Reach}
use Rattle.spv_extended.specs.Reach.{looked_at, opens}
use Rattle.spv_layout.specs.Place.{AreFew, word_count}
use Rattle.spv_module.specs.Operand.{PlainInst}
use Rattle.spv_module.specs.Instruction.{IsListing}
use Rattle.spv_module.specs.Module.{plain_insts}
use Rattle.spv_module.specs.declared.fault.Fault.{Fault}
use Rattle.spv_module.specs.declared.fault.Stop.TheVariants as stop
use Rattle.spv_module.specs.declared.module.Module.{Module}
use Rattle.spv_inst.specs.Outcome.{IsDecodeFault, IsHeaderOf}
use Rattle.spv_evidence.specs.declared.evidence.Evidence.{Evidence}
use Rattle.spv_check.specs.Answer.{IsFault}
use Rattle.spv_check.specs.Checked.{IsChecked}
use Rattle.spv_check.specs.Program.{Program}
use Rattle.spv_check.specs.Reading.{IsReading}
use Rattle.spv_check.specs.Text.{line_of, refusal_of}
use Rattle.spv_check.specs.Verdict.{IsVerdict, refused, valid_line}
use Rattle.spv_check.specs.declared.verdict_line.Judgment.{Judgment}
use Rattle.spv_check.specs.declared.verdict_line.Judgment.TheVariants as judgments
use Rattle.spv_check.proofs.Verdicts.{Laws, fault_is_not_valid, fault_verdict, valid_verdict}
use Rattle.spv_form_evidence.specs.words.Evidence as instructions
use Rattle.spv_lines.specs.Text.{ShownLines}
use Rattle.spv_facts.specs.declared.fact.Detail.{Detail}
use Rattle.spv_facts.specs.declared.refused.Front.{Front}
use Rattle.spv_explain.specs.Lines.{fault_text, malformed_text, refused_by, refused_text}
use Rattle.spv_explain.specs.Stream.{AreOthers, BeginsExplaining, Explains, IsExplanation, IsModuleIn, IsWalk, walk_in}
use Rattle.spv_explain.specs.declared.stream.Explanation.{Explanation}
use Rattle.spv_explain.specs.declared.stream.Told.{Told}
use Rattle.spv_explain.specs.inner.Reading.{IsBrokenModule}
use Rattle.spv_explain.proofs.Readings.{broken_fault, dead_explains, dead_shows, explains}
use Rattle.spv_explain.proofs.Readings.{listed_explains, valid_explains}

-- a list has no more instructions than words
counted : (is : List PlainInst) → length is ≤ sum_by word_count is
counted [] = omega arith
counted (i ∷ is) =
    let h = counted is in
    let w : 1 ≤ word_count i = omega arith in
    let e : sum_by word_count (i ∷ is) ≡ word_count i + sum_by word_count is = sum_by-cons word_count i is in
    omega (arith, h, w, e)

pub few_insts : (is : List PlainInst) (ws : List ℕ) → length ws ≡ sum_by word_count is → length ws ≤ greatest_length
    → AreFew is
few_insts is ws e l = let h = counted is in omega (arith, h, e, l)

-- a fault's line is not `valid`
fault_others : Laws → (bytes words : List ℕ) (order : Order) (f : Fault) (j : Judgment) (lines : List ℕ)
    → IsModule order bytes words
    → j ≡ judgments.Broken f → AreOthers bytes (line_of j) lines
fault_others laws bytes words order f j lines h e = record {
  valid = λ v. let w : line_of (judgments.Broken f) ≡ valid_line = subst (λ x. line_of x ≡ valid_line) e v in
      absurd (fault_is_not_valid f.rule f.inst f.word w);
  refused = λ code b. absurd (laws.never code order bytes words h b);
}

pub valid_told : Laws → (z : Detail) (G : Table) (reach : Reach) (bytes words : List ℕ) (order : Order) (p : Program)
    (t : Explanation) → IsModule order bytes words → IsChecked G reach words p → t.judgment ≡ judgments.Valid
    → string_bytes t.lines ≡ [] → IsExplanation z G reach bytes t
valid_told laws z G reach bytes words order p t h c e l = record {
  verdict = subst (λ j. IsVerdict G reach bytes (line_of j)) (sym e) (valid_verdict G reach bytes words order p h c);
  explain = valid_explains laws z G reach bytes words order p (string_bytes t.lines) h c;
  dead = listed_explains laws z G bytes words order c.reading.spelled (string_bytes t.lines) h c.reading.listing;
  others = record { valid = λ v. l; refused = λ code b. absurd (laws.never code order bytes words h b) };
}

pub dead_told : {E : Type 0} → Laws
    → (z : Detail) (G : Table) (reach : Reach) (bytes words : List ℕ) (order : Order) (f : Fault) (e : Evidence)
    (r : Answer Explanation E) → IsModule order bytes words → IsDecodeFault G words (stop.Fault f)
    → instructions.IsEvidence G (drop 5 words) f.rule f.inst (f.word - 5) e
    → IfOk r (λ t. t.judgment ≡ judgments.Broken f)
    → IfOk r (λ t. string_bytes t.lines ≡ malformed_text z G (drop 5 words) f.rule f.inst (f.word - 5) e)
    → IfOk r (λ t. IsExplanation z G reach bytes t)
dead_told laws z G reach bytes words order f e (Ok t) h d shown j l = record {
  verdict = subst (λ x. IsVerdict G reach bytes (line_of x)) (sym j)
      (fault_verdict G reach bytes words order f h (IsFault.dead d.0 d.1));
  explain = dead_explains laws z G reach bytes words order f (string_bytes t.lines) h d;
  dead = dead_shows laws z G bytes words order f e (string_bytes t.lines) h d shown l;
  others = fault_others laws bytes words order f t.judgment (string_bytes t.lines) h j;
}
dead_told laws z G reach bytes words order f e (Err _) h d shown j l = tt

pub broken_told : {E : Type 0} → Laws
    → (z : Detail) (G : Table) (reach : Reach) (bytes words : List ℕ) (order : Order) (f : Fault) (e : Evidence)
    (m : Module) (shown : List (List ℕ)) (r : Answer Explanation E) → IsModule order bytes words
    → IsBrokenModule G reach words f e m
    → ShownLines G [] (plain_insts m) shown → IfOk r (λ t. t.judgment ≡ judgments.Broken f)
    → IfOk r (λ t. string_bytes t.lines ≡ fault_text z G m.header.bound (plain_insts m) shown f.rule f.inst e)
    → IfOk r (λ t. IsExplanation z G reach bytes t)
broken_told laws z G reach bytes words order f e m shown (Ok t) h b s j l = record {
  verdict = subst (λ x. IsVerdict G reach bytes (line_of x)) (sym j)
      (fault_verdict G reach bytes words order f h (broken_fault G reach words f e m b));
  explain = explains laws z G reach bytes words order f e m shown (string_bytes t.lines) h b s l;
  dead = listed_explains laws z G bytes words order (plain_insts m) (string_bytes t.lines) h b.listing;
  others = fault_others laws bytes words order f t.judgment (string_bytes t.lines) h j;
}
broken_told laws z G reach bytes words order f e m shown (Err _) h b s j l = tt

-- the walk of the evidence whose lines are told
pub walk_told : (z : Detail) (G : Table) (reach : Reach) (bytes words : List ℕ) (order : Order) (f : Fault) (e : Evidence)
    (m : Module) (shown : List (List ℕ)) (t : Explanation) (walk : List ℕ) → IsModule order bytes words
    → IsBrokenModule G reach words f e m → ShownLines G [] (plain_insts m) shown → t.judgment ≡ judgments.Broken f
    → string_bytes t.lines ≡ fault_text z G m.header.bound (plain_insts m) shown f.rule f.inst e
    → walk ≡ walk_in (plain_insts m) e → IsWalk z G reach bytes t walk
walk_told z G reach bytes words order f e m shown t walk h b s j l w =
    subst (λ ids. IsWalk z G reach bytes t ids) (sym w)
    (IsWalk.broken words order (plain_insts m) f e shown j h b.listing b.shown s
    (l ∙ ap (λ n. fault_text z G n (plain_insts m) shown f.rule f.inst e) b.header.bound))

-- no evidence has one
pub no_walk_told : (z : Detail) (G : Table) (reach : Reach) (bytes : List ℕ) (t : Explanation) (walk : List ℕ)
    → walk ≡ [] → IsWalk z G reach bytes t [] → IsWalk z G reach bytes t walk
no_walk_told z G reach bytes t walk e w = subst (λ ids. IsWalk z G reach bytes t ids) (sym e) w

-- bytes that gave no image
refused_line_only : (bytes : List ℕ) (code : WordError) (j : Judgment) → judgments.Refused code ≡ j
    → ¬ (line_of j ≡ valid_line)
refused_line_only bytes code j e v =
    let w : line_of (judgments.Refused code) ≡ valid_line = subst (λ x. line_of x ≡ valid_line) (sym e) v in absurd cc

refused_one : ((d e : WordError) (bs : List ℕ) → IsFirstBroken d bs → IsFirstBroken e bs → d ≡ e)
    → ((e : WordError) (o : Order) (bs ws : List ℕ) → IsModule o bs ws → ¬ IsFirstBroken e bs)
    → (z : Detail) (G : Table) (reach : Reach) (bytes : List ℕ) (code : WordError) (t : Explanation)
    → IsFirstBroken code bytes
    → judgments.Refused code ≡ t.judgment → string_bytes t.lines ≡ refused_text code bytes
    → IsExplanation z G reach bytes t
refused_one once never z G reach bytes code t b j l =
    record {
      verdict = subst (λ x. IsVerdict G reach bytes (line_of x)) j (refused code b);
      explain = λ ws q js r n g l first s. absurd (never code q bytes ws g b);
      dead = λ ws q r n m g k. absurd (never code q bytes ws g b);
      others = record {
        valid = λ v. absurd (refused_line_only bytes code t.judgment j v);
        refused = λ d k. subst (λ x. string_bytes t.lines ≡ refused_text x bytes) (once code d bytes b k) l;
      };
    }

pub refused_told : ((d e : WordError) (bs : List ℕ) → IsFirstBroken d bs → IsFirstBroken e bs → d ≡ e)
    → ((e : WordError) (o : Order) (bs ws : List ℕ) → IsModule o bs ws → ¬ IsFirstBroken e bs)
    → (z : Detail) (G : Table) (reach : Reach) (bytes : List ℕ) (code : WordError) (r : Answer Explanation WordError)
    → RefusesBytes code bytes → IfOk r (λ t. refusal_of code ≡ Ok t.judgment)
    → IfOk r (λ t. string_bytes t.lines ≡ refused_text code bytes)
    → IfOk r (λ t. IsExplanation z G reach bytes t)
refused_told once never z G reach bytes code (Err _) h e l = tt
refused_told once never z G reach bytes word.W1 (Ok t) h e l = absurd cc
refused_told once never z G reach bytes word.W9 (Ok t) h e l = absurd cc
refused_told once never z G reach bytes word.W2 (Ok t) h e l =
    (let j : judgments.Refused word.W2 ≡ t.judgment = cc in refused_one once never z G reach bytes word.W2 t h j l)
refused_told once never z G reach bytes word.W3 (Ok t) h e l =
    (let j : judgments.Refused word.W3 ≡ t.judgment = cc in refused_one once never z G reach bytes word.W3 t h j l)
refused_told once never z G reach bytes word.W4 (Ok t) h e l =
    (let j : judgments.Refused word.W4 ≡ t.judgment = cc in refused_one once never z G reach bytes word.W4 t h j l)
refused_told once never z G reach bytes word.W5 (Ok t) h e l =
    (let j : judgments.Refused word.W5 ≡ t.judgment = cc in refused_one once never z G reach bytes word.W5 t h j l)
refused_told once never z G reach bytes word.W6 (Ok t) h e l =
    (let j : judgments.Refused word.W6 ≡ t.judgment = cc in refused_one once never z G reach bytes word.W6 t h j l)
refused_told once never z G reach bytes word.W7 (Ok t) h e l =
    (let j : judgments.Refused word.W7 ≡ t.judgment = cc in refused_one once never z G reach bytes word.W7 t h j l)
refused_told once never z G reach bytes word.W8 (Ok t) h e l =
    (let j : judgments.Refused word.W8 ≡ t.judgment = cc in refused_one once never z G reach bytes word.W8 t h j l)

-- bytes that are no image break the code first
pub refuses : (code : WordError) (bytes : List ℕ) → IsFirstBroken code bytes → RefusesBytes code bytes
refuses word.W1 bytes h = tt
refuses word.W9 bytes h = tt
refuses word.W2 bytes h = h
refuses word.W3 bytes h = h
refuses word.W4 bytes h = h
refuses word.W5 bytes h = h
refuses word.W6 bytes h = h
refuses word.W7 bytes h = h
refuses word.W8 bytes h = h

-- too many bytes, or a reader that failed, told by whatever stands in front
pub too_large : (bytes : List ℕ) → 16777216 < length bytes → IsFirstBroken word.W8 bytes
too_large bytes l = record { broken = λ h. absurd (omega (arith, l, h)); before = before }
  where
    before : (d : WordError) → place_of d < 1 → BytesKeep d bytes
    before word.W1 k = tt
    before word.W2 k = absurd (omega (arith, k))
    before word.W3 k = absurd (omega (arith, k))
    before word.W4 k = absurd (omega (arith, k))
    before word.W5 k = absurd (omega (arith, k))
    before word.W6 k = absurd (omega (arith, k))
    before word.W7 k = absurd (omega (arith, k))
    before word.W8 k = absurd (omega (arith, k))
    before word.W9 k = tt

pub stopped_told : ((d e : WordError) (bs : List ℕ) → IsFirstBroken d bs → IsFirstBroken e bs → d ≡ e)
    → ((e : WordError) (o : Order) (bs ws : List ℕ) → IsModule o bs ws → ¬ IsFirstBroken e bs)
    → (z : Detail) (G : Table) (reach : Reach) (known : Option (List ℕ)) (code : WordError) (front : Front)
    (r : Answer Explanation WordError)
    → IsStop code → (code ≡ word.W8 → IfSome known (λ xs. 16777216 < length xs))
    → IfOk r (λ t. refusal_of code ≡ Ok t.judgment) → IfOk r (λ t. string_bytes t.lines ≡ refused_by code front)
    → IfSome known (λ xs. IfOk r (λ t. IsExplanation z G reach xs t))
stopped_told once never z G reach None code front r s o e l = tt
stopped_told once never z G reach (Some xs) word.W8 front r s o e l =
    refused_told once never z G reach xs word.W8 r (too_large xs (o refl)) e l
stopped_told once never z G reach (Some xs) word.W1 front r s o e l =
    refused_told once never z G reach xs word.W1 r tt e l
stopped_told once never z G reach (Some xs) word.W9 front r s o e l =
    refused_told once never z G reach xs word.W9 r tt e l
stopped_told once never z G reach (Some xs) word.W2 front r s o e l = absurd s
stopped_told once never z G reach (Some xs) word.W3 front r s o e l = absurd s
stopped_told once never z G reach (Some xs) word.W4 front r s o e l = absurd s
stopped_told once never z G reach (Some xs) word.W5 front r s o e l = absurd s
stopped_told once never z G reach (Some xs) word.W6 front r s o e l = absurd s
stopped_told once never z G reach (Some xs) word.W7 front r s o e l = absurd s

-- all the bytes of a reader
pub octets_known : (z : Detail) (G : Table) (reach : Reach) (known after : Option (List ℕ)) (octets : List ℕ)
    (r : Answer Explanation WordError)
    → Consumes known after octets → IsAtEnd after → IfOk r (λ t. IsExplanation z G reach octets t)
    → IfSome known (λ xs. IfOk r (λ t. IsExplanation z G reach xs t))
octets_known z G reach None after octets r c e h = tt
octets_known z G reach (Some xs) None octets r c e h = absurd c
octets_known z G reach (Some xs) (Some ys) octets r c e h =
    subst (λ b. IfOk r (λ t. IsExplanation z G reach b t)) (sym (c ∙ (ap (λ q. octets ++ q) e ∙ append-nil octets))) h

-- words that gave an image
pub image_told : (z : Detail) (G : Table) (reach : Reach) (bytes words : List ℕ) (order : Order) (t : Explanation)
    → IsModule order bytes words
    → ((bs : List ℕ) (o : Order) → IsModule o bs words → IsExplanation z G reach bs t) → IsExplanation z G reach bytes t
image_told z G reach bytes words order t h v = v bytes order h

-- the lines were written whole, or a beginning of them
pub told_whole : (z : Detail) (G : Table) (reach : Reach) (known kept new : Option (List ℕ)) (t : Explanation)
    (bytes : List ℕ) (answer : Bool)
    → IfSome known (λ bs. IsExplanation z G reach bs t) → bytes ≡ line_of t.judgment ++ string_bytes t.lines
    → Appends kept new bytes → (IsTrue answer ↔ (line_of t.judgment ≡ valid_line))
    → IfSome known (λ bs. IfSome kept (λ old. Explains z G reach bs old new answer))
told_whole z G reach None kept new t bytes answer h e w a = tt
told_whole z G reach (Some bs) None new t bytes answer h e w a = tt
told_whole z G reach (Some bs) (Some old) None t bytes answer h e w a = absurd w
told_whole z G reach (Some bs) (Some old) (Some xs) t bytes answer h e w a =
    record {
      line = line_of t.judgment;
      lines = string_bytes t.lines;
      verdict = h.verdict;
      explain = h.explain;
      dead = h.dead;
      others = h.others;
      written = ap Some (w ∙ rw e refl);
      answered = a;
    }

pub told_begun : (z : Detail) (G : Table) (reach : Reach) (known kept new : Option (List ℕ)) (t : Explanation)
    (bytes : List ℕ)
    → IfSome known (λ bs. IsExplanation z G reach bs t) → bytes ≡ line_of t.judgment ++ string_bytes t.lines
    → IfSome kept (λ xs. (n : ℕ) × (n ≤ length bytes) × (new ≡ Some (xs ++ take n bytes)))
    → IfSome known (λ bs. IfSome kept (λ old. BeginsExplaining z G reach bs old new))
told_begun z G reach None kept new t bytes h e w = tt
told_begun z G reach (Some bs) None new t bytes h e w = tt
told_begun z G reach (Some bs) (Some old) new t bytes h e w =
    record {
      line = line_of t.judgment;
      lines = string_bytes t.lines;
      verdict = h.verdict;
      explain = h.explain;
      dead = h.dead;
      others = h.others;
      count = w.0;
      fits = rw (← e) w.1;
      written = rw (← e) w.2;
    }

-- where extended instructions are not looked at whole, a list is looked at as it is spelled
pub as_spelled : (G : Table) (reach : Reach) (is : List PlainInst) (ws : List ℕ) → opens reach ≡ false
    → IsReading G reach is ws → IsListing G is ws
as_spelled G reach is ws e d =
    let same : is ≡ d.spelled = rw e at d.seen in
    subst (λ js. IsListing G js ws) (sym same) d.listing

-- what a call answered that was told in either of two ways
pub ok_told : {E : Type 0} (r s : Answer Told E) (t : Told) (P : Told → Type 0) → s ≡ r → s ≡ Ok t → IfOk r P → P t
ok_told {E} r s t P e f h = subst (λ (x : Answer Told E). IfOk x P) (sym e ∙ f) h

-- a module that is handed out
pub some_module : (G : Table) (words : List ℕ) (is : List PlainInst) (o : Option Module)
    → IsSomeAnd o (λ m. (plain_insts m ≡ is) × IsHeaderOf words m.header)
    → IsListing G is (drop 5 words) → IsModuleIn G words o
some_module G words is None h l = absurd h
some_module G words is (Some m) h l =
    record { listing = subst (λ x. IsListing G x (drop 5 words)) (sym h.0) l; header = h.1 }
