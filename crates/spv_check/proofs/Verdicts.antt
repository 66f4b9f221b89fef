-- Bytes have one verdict line, and what was read has it.
use Rattle.std.proofs.Common.{◌≡◌, ◌⊎◌, ◌↔◌, ◌+◌, ◌-◌, ◌≤◌, ℕ, List, Option, Some, None, Result, Err, IfSome, IfOk}
use Rattle.std.proofs.Common.{IfErr, IsErrOf, IsTrue, Bool, ◌++◌, ◌∙◌, length, take, drop, slice_index, ap, refl, sym}
use Rattle.std.proofs.Common.{subst, inl, inr, arith}
use Rattle.spv_words.specs.Header.{IsFirstBroken, IsModule, RefusesBytes}
use Rattle.spv_words.specs.declared.words.Order.{Order}
use Rattle.spv_words.specs.declared.words.WordError.{WordError}
use Rattle.spv_words.specs.declared.words.WordError.TheVariants as word
use Rattle.spv_table.specs.Table.{Table}
use Rattle.spv_module.specs.Operand.{PlainInst}
use Rattle.spv_module.specs.Instruction.{IsListing}
use Rattle.spv_module.specs.Malformed.{IsMalformedAt}
use Rattle.spv_module.specs.declared.fault.Rule.{Rule}
use Rattle.spv_module.specs.declared.fault.Fault.{Fault}
use Rattle.spv_extended.specs.declared.reach.Reach.{Reach}
use Rattle.spv_extended.specs.Reach.{looked_at}
use Rattle.spv_layout.specs.Place.{first_word_of}
use Rattle.spv_check.specs.Broken.{IsFirstOfAll, IsSound}
use Rattle.spv_check.specs.Answer.{IsFault}
use Rattle.spv_check.specs.Checked.{IsChecked}
use Rattle.spv_check.specs.Program.{Program}
use Rattle.spv_check.specs.Reading.{IsReading}
use Rattle.spv_check.specs.Valid.{IsValid}
use Rattle.spv_check.specs.Verdict.{IsVerdict, refused, valid, unsound, dead, refused_line, valid_line, fault_line}
use Rattle.std.specs.Io.KnownBytes.{Appends}
use Rattle.spv_check.specs.Stream.{Begins, TellsVerdict}
use Rattle.spv_check.specs.declared.verdict_line.Judgment.{Judgment}
use Rattle.spv_check.specs.declared.verdict_line.Judgment.TheVariants.{Refused, Broken}
use Rattle.spv_check.specs.Text.{line_of, refusal_of}
use Rattle.spv_check.proofs.Firsts.{one_first}

-- the laws of the layers below
pub record Laws : Type 0 where
  pub words : (o p : Order) (bs ws vs : List ℕ) → IsModule o bs ws → IsModule p bs vs → (o ≡ p) × (ws ≡ vs)
  pub once : (d e : WordError) (bs : List ℕ) → IsFirstBroken d bs → IsFirstBroken e bs → d ≡ e
  pub never : (e : WordError) (o : Order) (bs ws : List ℕ) → IsModule o bs ws → ¬ IsFirstBroken e bs
  pub death : (G : Table) (ws : List ℕ) (a b : Rule) (k l n m : ℕ) → IsMalformedAt G ws a k n → IsMalformedAt G ws b l m
      → (a ≡ b) × (k ≡ l) × (n ≡ m)
  pub alive : (G : Table) (is : List PlainInst) (ws : List ℕ) (a : Rule) (k n : ℕ) → IsListing G is ws
      → ¬ (IsMalformedAt G ws a k n)
  pub list : (G : Table) (is js : List PlainInst) (ws : List ℕ) → IsListing G is ws → IsListing G js ws → is ≡ js

-- words have one list, as far as it is looked at
pub one_reading : Laws → (G : Table) (reach : Reach) (is js : List PlainInst) (ws : List ℕ) → IsReading G reach is ws
    → IsReading G reach js ws → is ≡ js
one_reading laws G reach is js ws l k =
    l.seen ∙ ap (looked_at reach) (laws.list G l.spelled k.spelled ws l.listing k.listing) ∙ sym k.seen

-- bytes that are words of two modules
pub record SameModule (ws vs : List ℕ) (is js : List PlainInst) : Type 0 where
  pub words : ws ≡ vs
  pub insts : is ≡ js

pub same_module : Laws → (G : Table) (reach : Reach) (bytes ws vs : List ℕ) (o p : Order) (is js : List PlainInst)
    → IsModule o bytes ws → IsModule p bytes vs
    → IsReading G reach is (drop 5 ws) → IsReading G reach js (drop 5 vs) → SameModule ws vs is js
same_module laws G reach bytes ws vs o p is js h g l k =
    let same : vs ≡ ws = (laws.words p o bytes vs ws g h).1 in
    record { words = sym same; insts = one_reading laws G reach is js (drop 5 ws) l (rw same at k) }

-- no rule is broken, and one is the first
not_both : (G : Table) (reach : Reach) (ws vs : List ℕ) (is js : List PlainInst) (r : Rule) (n : ℕ)
    → SameModule ws vs is js → IsSound G reach (slice_index ws 3) is → IsFirstOfAll G reach (slice_index vs 3) js r n
    → ⊥
not_both G reach ws vs is js r n same sound first =
    let s : IsSound G reach (slice_index vs 3) js = rw (same.words, same.insts) at sound in s r n first.broken

same_fault : (G : Table) (reach : Reach) (ws vs : List ℕ) (is js : List PlainInst) (q r : Rule) (m n : ℕ)
    → SameModule ws vs is js → IsFirstOfAll G reach (slice_index ws 3) is q m
    → IsFirstOfAll G reach (slice_index vs 3) js r n
    → fault_line q m (first_word_of is m) ≡ fault_line r n (first_word_of js n)
same_fault G reach ws vs is js q r m n same f g =
    let f' : IsFirstOfAll G reach (slice_index vs 3) js q m = rw (same.words, same.insts) at f in
    let one = one_first G reach (slice_index vs 3) js q r m n f' g in
    rw (one.rule, one.inst, same.insts) refl

pub dead_list : Laws → (G : Table) (reach : Reach) (bytes ws vs : List ℕ) (o p : Order) (is : List PlainInst) (r : Rule)
    (i n : ℕ) → IsModule o bytes ws → IsModule p bytes vs
    → IsReading G reach is (drop 5 ws) → IsMalformedAt G (drop 5 vs) r i n → ⊥
dead_list laws G reach bytes ws vs o p is r i n h g l d =
    let same : vs ≡ ws = (laws.words p o bytes vs ws g h).1 in
    laws.alive G l.spelled (drop 5 ws) r i n l.listing (rw same at d)

one_line : Laws → (G : Table) (reach : Reach) (bytes l m : List ℕ) → IsVerdict G reach bytes l
    → IsVerdict G reach bytes m → l ≡ m
one_line laws G reach bytes _ _ (refused c b) (refused d e) = ap refused_line (laws.once c d bytes b e)
one_line laws G reach bytes _ _ (refused c b) (valid w) = absurd (laws.never c w.order bytes w.words w.is_module b)
one_line laws G reach bytes _ _ (refused c b) (unsound ws o is r n h l f) = absurd (laws.never c o bytes ws h b)
one_line laws G reach bytes _ _ (refused c b) (dead ws o r i n h d) = absurd (laws.never c o bytes ws h b)
one_line laws G reach bytes _ _ (valid v) (refused c b) = absurd (laws.never c v.order bytes v.words v.is_module b)
one_line laws G reach bytes _ _ (valid v) (valid w) = refl
one_line laws G reach bytes _ _ (valid v) (unsound vs p js r n g k f) =
    absurd (not_both G reach v.words vs v.insts js r n
    (same_module laws G reach bytes v.words vs v.order p v.insts js v.is_module g v.reading k) v.sound f)
one_line laws G reach bytes _ _ (valid v) (dead vs p r i n g d) =
    absurd (dead_list laws G reach bytes v.words vs v.order p v.insts r i n v.is_module g v.reading d)
one_line laws G reach bytes _ _ (unsound ws o is q m h l e) (refused c b) = absurd (laws.never c o bytes ws h b)
one_line laws G reach bytes _ _ (unsound ws o is q m h l e) (valid w) =
    absurd (not_both G reach w.words ws w.insts is q m
    (same_module laws G reach bytes w.words ws w.order o w.insts is w.is_module h w.reading l) w.sound e)
one_line laws G reach bytes _ _ (unsound ws o is q m h l e) (unsound vs p js r n g k f) =
    same_fault G reach ws vs is js q r m n (same_module laws G reach bytes ws vs o p is js h g l k) e f
one_line laws G reach bytes _ _ (unsound ws o is q m h l e) (dead vs p r i n g d) =
    absurd (dead_list laws G reach bytes ws vs o p is r i n h g l d)
one_line laws G reach bytes _ _ (dead ws o r i n h d) (refused c b) = absurd (laws.never c o bytes ws h b)
one_line laws G reach bytes _ _ (dead ws o r i n h d) (valid w) =
    absurd (dead_list laws G reach bytes w.words ws w.order o w.insts r i n w.is_module h w.reading d)
one_line laws G reach bytes _ _ (dead ws o r i n h d) (unsound vs p js q m g k f) =
    absurd (dead_list laws G reach bytes vs ws p o js r i n g h k d)
one_line laws G reach bytes _ _ (dead ws o r i n h d) (dead vs p s j m g e) =
    let same : vs ≡ ws = (laws.words p o bytes vs ws g h).1 in
    let one = laws.death G (drop 5 ws) r s i j n m d (rw same at e) in
    rw (one.0, one.1, one.2) refl

pub one_verdict_line : Laws → (G : Table) (reach : Reach) (bytes l m : List ℕ) → IsVerdict G reach bytes l
    → IsVerdict G reach bytes m → l ≡ m
one_verdict_line = one_line

-- a code that was read
pub refused_bytes : (G : Table) (reach : Reach) (known : Option (List ℕ)) (code : WordError)
    → IfSome known (λ xs. RefusesBytes code xs)
    → IfSome known (λ xs. IfOk (refusal_of code) (λ v. IsVerdict G reach xs (line_of v)))
refused_bytes G reach None code h = tt
refused_bytes G reach (Some xs) word.W2 h = refused word.W2 h
refused_bytes G reach (Some xs) word.W3 h = refused word.W3 h
refused_bytes G reach (Some xs) word.W4 h = refused word.W4 h
refused_bytes G reach (Some xs) word.W5 h = refused word.W5 h
refused_bytes G reach (Some xs) word.W6 h = refused word.W6 h
refused_bytes G reach (Some xs) word.W7 h = refused word.W7 h
refused_bytes G reach (Some xs) word.W8 h = refused word.W8 h
refused_bytes G reach (Some xs) _ h = tt

pub refused_only : (code : WordError) → IfErr (refusal_of code) (λ e. (e ≡ word.W1) ⊎ (e ≡ word.W9))
refused_only word.W1 = inl refl
refused_only word.W9 = inr refl
refused_only code = tt

-- W1 is answered where it was read
pub refused_count : {X : Type 0} (P : Type 0) (code : WordError) (r : Result X WordError) → r ≡ Err code
    → (P ↔ IsErrOf r word.W1) → (P ↔ IsErrOf (refusal_of code) word.W1)
refused_count P word.W1 r q h = (λ p. refl, λ e. h.1 q)
refused_count P word.W9 r q h = (λ p. let e = h.0 p in cc, λ e. cc)
refused_count P code r q h = (λ p. let e = h.0 p in cc, λ e. cc)

-- what `check` answers of the words of a module has its line
fault_told : (G : Table) (reach : Reach) (bytes words : List ℕ) (order : Order) (f : Fault) → IsModule order bytes words
    → IsFault G reach words f → IsVerdict G reach bytes (fault_line f.rule f.inst f.word)
fault_told G reach bytes words order f h (IsFault.dead low d) =
    let e : 5 + (f.word - 5) ≡ f.word = omega arith in
    subst (λ (n : ℕ). IsVerdict G reach bytes (fault_line f.rule f.inst n)) e
    (dead words order f.rule f.inst (f.word - 5) h d)
fault_told G reach bytes words order f h (IsFault.broken is l first e) =
    subst (λ (n : ℕ). IsVerdict G reach bytes (fault_line f.rule f.inst n)) (sym e)
    (unsound words order is f.rule f.inst h l first)

pub fault_verdict : (G : Table) (reach : Reach) (bytes words : List ℕ) (order : Order) (f : Fault)
    → IsModule order bytes words → IsFault G reach words f → IsVerdict G reach bytes (line_of (Broken f))
fault_verdict G reach bytes words order f h d = fault_told G reach bytes words order f h d

pub valid_of : (G : Table) (reach : Reach) (bytes words : List ℕ) (order : Order) (p : Program)
    → IsModule order bytes words → IsChecked G reach words p → IsValid G reach bytes
valid_of G reach bytes words order p h c =
    record {
      words = words;
      order = order;
      is_module = h;
      insts = p.insts;
      reading = c.reading;
      sound = rw c.bound at c.sound;
    }

pub valid_verdict : (G : Table) (reach : Reach) (bytes words : List ℕ) (order : Order) (p : Program)
    → IsModule order bytes words → IsChecked G reach words p → IsVerdict G reach bytes valid_line
valid_verdict G reach bytes words order p h c = valid (valid_of G reach bytes words order p h c)

-- bytes that have a fault are no valid module
pub fault_invalid : Laws → (G : Table) (reach : Reach) (bytes words : List ℕ) (order : Order) (f : Fault)
    → IsModule order bytes words → IsFault G reach words f → ¬ (IsValid G reach bytes)
fault_invalid laws G reach bytes words order f h (IsFault.dead low d) v =
    dead_list laws G reach bytes v.words words v.order order v.insts f.rule f.inst
    (f.word - 5) v.is_module h v.reading d
fault_invalid laws G reach bytes words order f h (IsFault.broken is l first e) v =
    not_both G reach v.words words v.insts is f.rule f.inst
    (same_module laws G reach bytes v.words words v.order order v.insts is v.is_module h v.reading l) v.sound first

-- the verdict on the words that were read
pub known_verdict : (G : Table) (reach : Reach) (known : Option (List ℕ)) (words : List ℕ) (order : Order)
    (r : Result Judgment WordError)
    → IfSome known (λ xs. IsModule order xs words)
    → ((bytes : List ℕ) (o : Order) → IsModule o bytes words → IfOk r (λ v. IsVerdict G reach bytes (line_of v)))
    → IfSome known (λ xs. IfOk r (λ v. IsVerdict G reach xs (line_of v)))
known_verdict G reach None words order r h v = tt
known_verdict G reach (Some xs) words order r h v = v xs order h

-- the first byte tells a fault from `valid`
differ : (m n : ℕ) → m ≡ 102 → n ≡ 118 → ¬ (m ≡ n)
differ m n e f h = omega arith

pub refused_is_not_valid : (code : WordError) → ¬ (refused_line code ≡ valid_line)
refused_is_not_valid code e = differ 102 118 refl refl (ap (λ (l : List ℕ). slice_index l 0) e)

pub fault_is_not_valid : (broken : Rule) (inst at : ℕ) → ¬ (fault_line broken inst at ≡ valid_line)
fault_is_not_valid broken inst at e = differ 102 118 refl refl (ap (λ (l : List ℕ). slice_index l 0) e)

-- the line was written whole
pub tells : (G : Table) (reach : Reach) (known kept new : Option (List ℕ)) (v : Judgment) (bytes : List ℕ)
    (answer : Bool) → IfSome known (λ bs. IsVerdict G reach bs (line_of v)) → bytes ≡ line_of v
    → Appends kept new bytes → (IsTrue answer ↔ (line_of v ≡ valid_line))
    → IfSome known (λ bs. IfSome kept (λ old. TellsVerdict G reach bs old new answer))
tells G reach None kept new v bytes answer h e w a = tt
tells G reach (Some bs) None new v bytes answer h e w a = tt
tells G reach (Some bs) (Some old) None v bytes answer h e w a = absurd w
tells G reach (Some bs) (Some old) (Some xs) v bytes answer h e w a =
    record { line = line_of v; verdict = h; written = ap Some (w ∙ rw e refl); answered = a }

-- a beginning of it was
pub begins : (G : Table) (reach : Reach) (known kept new : Option (List ℕ)) (v : Judgment) (bytes : List ℕ)
    → IfSome known (λ bs. IsVerdict G reach bs (line_of v)) → bytes ≡ line_of v
    → IfSome kept (λ xs. (n : ℕ) × (n ≤ length bytes) × (new ≡ Some (xs ++ take n bytes)))
    → IfSome known (λ bs. IfSome kept (λ old. Begins G reach bs old new))
begins G reach None kept new v bytes h e w = tt
begins G reach (Some bs) None new v bytes h e w = tt
begins G reach (Some bs) (Some old) new v bytes h e w =
    record { line = line_of v; verdict = h; count = w.0; fits = rw (← e) w.1; written = rw (← e) w.2 }

pub refused_verdict : (v : Judgment) (code : WordError) → v ≡ Refused code → ¬ (line_of v ≡ valid_line)
refused_verdict v code q e = let f : line_of (Refused code) ≡ valid_line = rw q at e in refused_is_not_valid code f

pub broken_verdict : (v : Judgment) (f : Fault) → v ≡ Broken f → ¬ (line_of v ≡ valid_line)
broken_verdict v f q e = let g : line_of (Broken f) ≡ valid_line = rw q at e in
    fault_is_not_valid f.rule f.inst f.word g

-- the line is `valid` of a valid module alone
of_valid_line : (G : Table) (reach : Reach) (bytes line : List ℕ) → line ≡ valid_line → IsVerdict G reach bytes line
    → IsValid G reach bytes
of_valid_line G reach bytes _ e (refused c b) = absurd (refused_is_not_valid c e)
of_valid_line G reach bytes _ e (valid v) = v
of_valid_line G reach bytes _ e (unsound ws o is r n h l f) = absurd (fault_is_not_valid r n (first_word_of is n) e)
of_valid_line G reach bytes _ e (dead ws o r i n h d) = absurd (fault_is_not_valid r i (5 + n) e)

pub valid_exactly : (G : Table) (reach : Reach) (bytes : List ℕ)
    → IsVerdict G reach bytes valid_line ↔ IsValid G reach bytes
valid_exactly G reach bytes = (λ v. of_valid_line G reach bytes valid_line refl v, λ v. valid v)

-- two faults of the same words
pub record SameFault (f g : Fault) : Type 0 where
  pub rule : f.rule ≡ g.rule
  pub inst : f.inst ≡ g.inst
  pub word : f.word ≡ g.word

pub one_fault : Laws → (G : Table) (reach : Reach) (words : List ℕ) (f g : Fault) → IsFault G reach words f
    → IsFault G reach words g → SameFault f g
one_fault laws G reach words f g (IsFault.dead l d) (IsFault.dead m e) =
    let one = laws.death G (drop 5 words) f.rule g.rule f.inst g.inst (f.word - 5) (g.word - 5) d e in
    let w = one.2 in
    record { rule = one.0; inst = one.1; word = omega (arith, l, m, w) }
one_fault laws G reach words f g (IsFault.dead l d) (IsFault.broken is k first e) =
    absurd (laws.alive G k.spelled (drop 5 words) f.rule f.inst (f.word - 5) k.listing d)
one_fault laws G reach words f g (IsFault.broken is k first e) (IsFault.dead l d) =
    absurd (laws.alive G k.spelled (drop 5 words) g.rule g.inst (g.word - 5) k.listing d)
one_fault laws G reach words f g (IsFault.broken is k p e) (IsFault.broken js l q h) =
    let same : is ≡ js = one_reading laws G reach is js (drop 5 words) k l in
    let p' : IsFirstOfAll G reach (slice_index words 3) js f.rule f.inst = rw same at p in
    let one = one_first G reach (slice_index words 3) js f.rule g.rule f.inst g.inst p' q in
    record { rule = one.rule; inst = one.inst; word = e ∙ rw (same, one.inst) (sym h) }

-- a checked module's words have no fault
pub never_both : Laws → (G : Table) (reach : Reach) (words : List ℕ) (f : Fault) (p : Program) → IsFault G reach words f
    → ¬ (IsChecked G reach words p)
never_both laws G reach words f p (IsFault.dead l d) c =
    laws.alive G c.reading.spelled (drop 5 words) f.rule f.inst (f.word - 5) c.reading.listing d
never_both laws G reach words f p (IsFault.broken is k first e) c =
    let same : is ≡ p.insts = one_reading laws G reach is p.insts (drop 5 words) k c.reading in
    let first' : IsFirstOfAll G reach (slice_index words 3) p.insts f.rule f.inst = rw same at first in
    let s : IsSound G reach (slice_index words 3) p.insts = rw c.bound at c.sound in
    s f.rule f.inst first'.broken
