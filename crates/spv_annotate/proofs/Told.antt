-- Lines and operands in which literals of extended instructions are no ids.
use Rattle.std.proofs.Common.{◌≡◌, ◌≢◌, ◌++◌, ◌<◌, ◌≤◌, ◌+◌, ◌∙◌, ℕ, zero, suc, List, [], ◌∷◌, Bool, true, false}
use Rattle.std.proofs.Common.{nat_eq}
use Rattle.std.proofs.Common.{length, take, drop, get_or, refl, sym, ap, subst, arith, append_assoc, append-nil}
use Rattle.std.specs.Prelude.{◌==◌, sum_by, if◌then◌else◌}
use Rattle.std.specs.Str.{IsCharBoundary, IsUtf8}
use Rattle.std.proofs.lemmas.Bool.Decides.{nat_tests}
use Rattle.std.proofs.lemmas.List.Sums.{sum_by-append}
use Rattle.std.proofs.lemmas.Str.{IsCharBoundary-after_ascii}
use Rattle.spv_module.specs.Operand.{Plain, OfType, Result, Id, Word, Number, Text, Value, Mask, Argument, Mention}
use Rattle.spv_module.specs.Operand.{PlainInst}
use Rattle.spv_layout.specs.Place.{operand_words}
use Rattle.spv_extended.specs.declared.signature.Signature.{Signature}
use Rattle.spv_lines.proofs.Back.{NoFeed}
use Rattle.spv_annotate.specs.declared.linked.Quoting.{Quoting}
use Rattle.spv_annotate.specs.declared.linked.Quoting.TheVariants.{Outside, Within, Behind, Commented}
use Rattle.spv_annotate.specs.Bare as bare
use Rattle.spv_annotate.specs.Bare.{begins_comment, next_of}
use Rattle.spv_annotate.specs.Called.{is_literal_at, literal_of, mark_of, told_from, told_line, signature_at, unmarked}
use Rattle.spv_annotate.specs.Quoted.{after_byte, begins_id}
use Rattle.spv_annotate.specs.inner.Linked.{base, until_id}
use Rattle.spv_annotate.proofs.Cleans.{IsClean}
use Rattle.spv_annotate.proofs.Ends.{last_of}
use Rattle.spv_annotate.proofs.Parts.{at_id, begins_mark, same_base, begins_base}
use Rattle.spv_annotate.proofs.Shown.{IsQuiet}
use Rattle.spv_module.specs.declared.opcode.TheConstants.{EXT_INST}

-- Literals are words, of which there are as many.

literal_words : (o : Plain) → operand_words (literal_of o) ≡ operand_words o
literal_words (OfType x) = refl
literal_words (Result x) = refl
literal_words (Id x) = refl
literal_words (Word x) = refl
literal_words (Number a b w) = refl
literal_words (Text t) = refl
literal_words (Value k x) = refl
literal_words (Mask k x) = refl
literal_words (Argument x) = refl
literal_words (Mention x) = refl

either_words : (b : Bool) (o : Plain) → operand_words (if b then literal_of o else o) ≡ operand_words o
either_words true o = literal_words o
either_words false o = refl

pub told_words : (s : Signature) (place : ℕ) (os : List Plain)
    → sum_by operand_words (told_from s place os) ≡ sum_by operand_words os
told_words s place [] = refl
told_words s place (o ∷ os) =
    let h = told_words s (suc place) os in
    let e = either_words (is_literal_at s place) o in
    let p = if is_literal_at s place then literal_of o else o in
    let a = sum_by-append operand_words (p ∷ []) (told_from s (suc place) os) in
    let b = sum_by-append operand_words (o ∷ []) os in
    omega (arith, h, e, a, b)

-- A line without the `%` of literals begins no comment, ends in no space and is not empty, as it was before.

abbrev as_bare : Quoting → bare.Quoting
as_bare Outside = bare.Outside
as_bare Within = bare.Within
as_bare Behind = bare.Behind
as_bare Commented = bare.Outside

abbrev IsQuoting : Quoting → Type 0
IsQuoting q = q ≢ Commented

next_bare : (q : Quoting) (b : ℕ) → IsQuoting q → next_of (as_bare q) b ≡ as_bare (after_byte q b)
next_bare Outside b n = by (b == 34) refl
  where
    by : (x : Bool) → (b == 34) ≡ x → next_of bare.Outside b ≡ as_bare (after_byte Outside b)
    by true e = rw e refl
    by false e = rw e refl
next_bare Within b n = by (b == 34) (b == 92) refl refl
  where
    by : (x y : Bool) → (b == 34) ≡ x → (b == 92) ≡ y → next_of bare.Within b ≡ as_bare (after_byte Within b)
    by true y e f = rw e refl
    by false true e f = rw (e, f) refl
    by false false e f = rw (e, f) refl
next_bare Behind b n = refl
next_bare Commented b n = absurd (n refl)

still_quoting : (q : Quoting) (b : ℕ) → IsQuoting q → IsQuoting (after_byte q b)
still_quoting Outside b n = by (b == 34) refl
  where
    by : (x : Bool) → (b == 34) ≡ x → IsQuoting (after_byte Outside b)
    by true e = rw e (λ f. cc)
    by false e = rw e (λ f. cc)
still_quoting Within b n = by (b == 34) (b == 92) refl refl
  where
    by : (x y : Bool) → (b == 34) ≡ x → (b == 92) ≡ y → IsQuoting (after_byte Within b)
    by true y e f = rw e (λ g. cc)
    by false true e f = rw (e, f) (λ g. cc)
    by false false e f = rw (e, f) (λ g. cc)
still_quoting Behind b n = λ g. cc
still_quoting Commented b n = absurd (n refl)

clean_rest : (q r : bare.Quoting) (b : ℕ) (t : List ℕ) → IsClean q r (b ∷ t)
    → (begins_comment q b ≡ false) × IsClean (next_of q b) r t
clean_rest q r b t (IsClean.more _ _ _ _ e h) = (e, h)

-- a `%` leaves a reader of a line where it stands
mark_next : (q : Quoting) (b : ℕ) → IsQuoting q → begins_id q b ≡ true → (b ≡ 37) × (next_of (as_bare q) b ≡ as_bare q)
mark_next Outside b n e = (let f = begins_mark Outside b e in (f, rw f refl))
mark_next Within b n e = cc
mark_next Behind b n e = cc
mark_next Commented b n e = absurd (n refl)

mark_some : (h : Bool) (line u : List ℕ) (r p : bare.Quoting) → begins_comment p 37 ≡ false → next_of p 37 ≡ p
    → IsClean p r u → IsClean p r (mark_of h line ++ u)
mark_some true [] u r p e f c = IsClean.more p r 37 u e (subst (λ (z : bare.Quoting). IsClean z r u) (sym f) c)
mark_some true (b ∷ line) u r p e f c = c
mark_some false [] u r p e f c = IsClean.more p r 37 u e (subst (λ (z : bare.Quoting). IsClean z r u) (sym f) c)
mark_some false (b ∷ line) u r p e f c = IsClean.more p r 37 u e (subst (λ (z : bare.Quoting). IsClean z r u) (sym f) c)

pub unmarked_clean : (s : Signature) (n : ℕ) (q : Quoting) (r : bare.Quoting) (line : List ℕ) → IsQuoting q
    → IsClean (as_bare q) r line → IsClean (as_bare q) r (unmarked s n q line)
unmarked_clean s n q r [] g h = h
unmarked_clean s n q r (b ∷ line) g h =
    by (begins_id q b) refl (unmarked_clean s (suc n) q r line g)
    (unmarked_clean s n (after_byte q b) r line (still_quoting q b g))
  where
    rest : (begins_comment (as_bare q) b ≡ false) × IsClean (next_of (as_bare q) b) r line
    rest = clean_rest (as_bare q) r b line h

    by : (x : Bool) → begins_id q b ≡ x → (IsClean (as_bare q) r line
        → IsClean (as_bare q) r (unmarked s (suc n) q line))
        → (IsClean (as_bare (after_byte q b)) r line
        → IsClean (as_bare (after_byte q b)) r (unmarked s n (after_byte q b) line))
        → IsClean (as_bare q) r (unmarked s n q (b ∷ line))
    by true e f i =
        (let m = mark_next q b g e in
        let c : IsClean (as_bare q) r line = subst (λ (z : bare.Quoting). IsClean z r line) m.1 rest.1 in
        let k : begins_comment (as_bare q) 37 ≡ false = subst (λ z. begins_comment (as_bare q) z ≡ false) m.0 rest.0 in
        let l : next_of (as_bare q) 37 ≡ as_bare q = subst (λ z. next_of (as_bare q) z ≡ as_bare q) m.0 m.1 in
        rw e (mark_some (is_literal_at s (suc n)) line (unmarked s (suc n) q line) r (as_bare q) k l (f c)))
    by false e f i =
        (let c : IsClean (as_bare (after_byte q b)) r line =
        subst (λ (z : bare.Quoting). IsClean z r line) (next_bare q b g) rest.1 in
        rw e (IsClean.more (as_bare q) r b (unmarked s n (after_byte q b) line) rest.0
        (subst (λ (z : bare.Quoting). IsClean z r (unmarked s n (after_byte q b) line)) (sym (next_bare q b g)) (i c))))

mark_last : (h : Bool) (d : ℕ) (line u : List ℕ) → ((k : ℕ) → last_of k u ≡ last_of k line)
    → last_of d (mark_of h line ++ u) ≡ last_of d (37 ∷ line)
mark_last true d [] u f = f 37
mark_last true d (b ∷ line) u f = f d
mark_last false d [] u f = f 37
mark_last false d (b ∷ line) u f = f 37

pub unmarked_last : (s : Signature) (n : ℕ) (q : Quoting) (line : List ℕ) (d : ℕ)
    → last_of d (unmarked s n q line) ≡ last_of d line
unmarked_last s n q [] d = refl
unmarked_last s n q (b ∷ line) d =
    by (begins_id q b) refl (unmarked_last s (suc n) q line) (unmarked_last s n (after_byte q b) line b)
  where
    by : (x : Bool) → begins_id q b ≡ x → ((k : ℕ) → last_of k (unmarked s (suc n) q line) ≡ last_of k line)
        → last_of b (unmarked s n (after_byte q b) line) ≡ last_of b line
        → last_of d (unmarked s n q (b ∷ line)) ≡ last_of d (b ∷ line)
    by true e f g =
        (let m = begins_mark q b e in
        rw e (mark_last (is_literal_at s (suc n)) d line (unmarked s (suc n) q line) f
        ∙ ap (λ z. last_of d (z ∷ line)) (sym m)))
    by false e f g = rw e g

mark_feedless : (h : Bool) (line u : List ℕ) → NoFeed u → NoFeed (mark_of h line ++ u)
mark_feedless true [] u f = ((λ e. omega arith), f)
mark_feedless true (b ∷ line) u f = f
mark_feedless false [] u f = ((λ e. omega arith), f)
mark_feedless false (b ∷ line) u f = ((λ e. omega arith), f)

unmarked_feedless : (s : Signature) (n : ℕ) (q : Quoting) (line : List ℕ) → NoFeed line → NoFeed (unmarked s n q line)
unmarked_feedless s n q [] h = tt
unmarked_feedless s n q (b ∷ line) h =
    by (begins_id q b) refl (unmarked_feedless s (suc n) q line h.1) (unmarked_feedless s n (after_byte q b) line h.1)
  where
    by : (x : Bool) → begins_id q b ≡ x → NoFeed (unmarked s (suc n) q line)
        → NoFeed (unmarked s n (after_byte q b) line) → NoFeed (unmarked s n q (b ∷ line))
    by true e f g = rw e (mark_feedless (is_literal_at s (suc n)) line (unmarked s (suc n) q line) f)
    by false e f g = rw e (h.0, g)

mark_more : (h : Bool) (line u : List ℕ) → (line ≢ [] → u ≢ []) → (mark_of h line ++ u) ≢ []
mark_more true [] u f = λ e. cc
mark_more true (b ∷ line) u f = f (λ e. cc)
mark_more false [] u f = λ e. cc
mark_more false (b ∷ line) u f = λ e. cc

unmarked_some : (s : Signature) (n : ℕ) (q : Quoting) (line : List ℕ) → line ≢ [] → unmarked s n q line ≢ []
unmarked_some s n q [] h = absurd (h refl)
unmarked_some s n q (b ∷ line) h = by (begins_id q b) refl (unmarked_some s (suc n) q line)
  where
    by : (x : Bool) → begins_id q b ≡ x → (line ≢ [] → unmarked s (suc n) q line ≢ []) → unmarked s n q (b ∷ line) ≢ []
    by true e f = rw e (mark_more (is_literal_at s (suc n)) line (unmarked s (suc n) q line) f)
    by false e f = rw e (λ g. cc)

unmarked_quiet : (s : Signature) (line : List ℕ) → IsQuiet line → IsQuiet (unmarked s 0 Outside line)
unmarked_quiet s line h = record {
  clean = unmarked_clean s 0 Outside bare.Outside line (λ e. cc) h.clean;
  last = λ e. h.last (sym (unmarked_last s 0 Outside line 33) ∙ e);
  some = unmarked_some s 0 Outside line h.some;
  feedless = unmarked_feedless s 0 Outside line h.feedless;
}

pub told_quiet : (is : List PlainInst) (i : PlainInst) (line : List ℕ) → IsQuiet line → IsQuiet (told_line is i line)
told_quiet is i line h = by (nat_eq i.opcode EXT_INST)
  where
    by : (x : Bool) → IsQuiet (if x then unmarked (signature_at is i) 0 Outside line else line)
    by true = unmarked_quiet (signature_at is i) line h
    by false = h

-- A line is read up to its next id.

pub unmarked_until : (s : Signature) (n : ℕ) (q : Quoting) (line : List ℕ)
    → unmarked s n q line ≡ take (until_id q line) line ++ unmarked s n (base q) (drop (until_id q line) line)
unmarked_until s n q [] = refl
unmarked_until s n q (b ∷ line) = by (begins_id q b) refl (unmarked_until s n (after_byte q b) line)
  where
    by : (x : Bool) → begins_id q b ≡ x
        → unmarked s n (after_byte q b) line ≡ take (until_id (after_byte q b) line) line
        ++ unmarked s n (base (after_byte q b)) (drop (until_id (after_byte q b) line) line)
        → unmarked s n q (b ∷ line) ≡ take (until_id q (b ∷ line)) (b ∷ line)
        ++ unmarked s n (base q) (drop (until_id q (b ∷ line)) (b ∷ line))
    by true e h =
        (let z : until_id q (b ∷ line) ≡ 0 = rw e refl in
        ap (λ p. unmarked s n p (b ∷ line)) (sym (begins_base q b e))
        ∙ ap (λ k. take k (b ∷ line) ++ unmarked s n (base q) (drop k (b ∷ line))) (sym z))
    by false e h =
        (let m = until_id (after_byte q b) line in
        let z : until_id q (b ∷ line) ≡ suc m = rw e refl in
        let u : unmarked s n q (b ∷ line) ≡ b ∷ unmarked s n (after_byte q b) line = rw e refl in
        u ∙ (ap (λ t. b ∷ t) h ∙ (ap (λ p. b ∷ (take m line ++ unmarked s n p (drop m line))) (same_base q b)
        ∙ ap (λ k. take k (b ∷ line) ++ unmarked s n (base q) (drop k (b ∷ line))) (sym z))))

-- there is none: the line ends
pub unmarked_end : (s : Signature) (n k : ℕ) (line goal out more : List ℕ) → k ≡ until_id Outside line
    → k ≡ length line → out ++ unmarked s n Outside line ≡ goal
    → more ≡ out ++ take k line → more ≡ goal
unmarked_end s n k line goal out more e l f g =
    let a = unmarked_until s n Outside line in
    let d : drop (until_id Outside line) line ≡ [] = drop_all line (until_id Outside line) (sym e ∙ l) in
    let t = take (until_id Outside line) line in
    g ∙ (ap (λ z. out ++ take z line) e
    ∙ (ap (λ z. out ++ z) (sym (append-nil t) ∙ (ap (λ z. t ++ unmarked s n Outside z) (sym d) ∙ sym a)) ∙ f))
  where
    drop_all : (xs : List ℕ) (m : ℕ) → m ≡ length xs → drop m xs ≡ []
    drop_all [] m h = rw h refl
    drop_all (x ∷ xs) m h = rw h (drop_all xs (length xs) refl)

front_got : (xs : List ℕ) (k : ℕ) → k < length xs → drop k xs ≡ get_or xs k 0 ∷ drop (k + 1) xs
front_got [] k l = absurd (omega arith)
front_got (x ∷ xs) zero l = refl
front_got (x ∷ xs) (suc k) l = let m : suc k + 1 ≡ suc (k + 1) = omega arith in rw m (front_got xs k (omega arith))

-- there is one: its mark, and what follows
pub unmarked_more : (s : Signature) (n k : ℕ) (line goal out more mark : List ℕ) → k ≡ until_id Outside line
    → k < length line → out ++ unmarked s n Outside line ≡ goal
    → more ≡ out ++ take k line → mark ≡ more ++ mark_of (is_literal_at s (n + 1)) (drop (k + 1) line)
    → mark ++ unmarked s (n + 1) Outside (drop (k + 1) line) ≡ goal
unmarked_more s n k line goal out more mark e l f g h =
    let rest = drop (k + 1) line in
    let c : get_or line k 0 ≡ 37 =
    ap (λ z. get_or line z 0) e ∙ at_id Outside line (subst (λ z. z < length line) e l) in
    let d : drop k line ≡ 37 ∷ rest = front_got line k l ∙ ap (λ z. z ∷ rest) c in
    let m : suc n ≡ n + 1 = omega arith in
    let a : unmarked s n Outside line ≡ take k line ++ unmarked s n Outside (drop k line) =
    rw e (unmarked_until s n Outside line) in
    let b : unmarked s n Outside (drop k line)
    ≡ mark_of (is_literal_at s (n + 1)) rest ++ unmarked s (n + 1) Outside rest =
    ap (unmarked s n Outside) d ∙ ap (λ z. mark_of (is_literal_at s z) rest ++ unmarked s z Outside rest) m in
    let u = mark_of (is_literal_at s (n + 1)) rest in
    let v = unmarked s (n + 1) Outside rest in
    ap (λ z. z ++ v) (h ∙ ap (λ z. z ++ u) g)
    ∙ (append_assoc (out ++ take k line) u v
    ∙ (append_assoc out (take k line) (u ++ v)
    ∙ (ap (λ z. out ++ (take k line ++ z)) (sym b) ∙ (ap (λ z. out ++ z) (sym a) ∙ f))))

-- an id begins where a character does, and so does what stands behind its mark
pub mark_boundary : (line : List ℕ) (k : ℕ) → k ≡ until_id Outside line → k ≤ length line → IsCharBoundary line k
mark_boundary line k e l = (
  l,
  λ m g. absurd (
      let c : get_or line k 0 ≡ 37 =
      ap (λ z. get_or line z 0) e ∙ at_id Outside line (subst (λ z. z < length line) e m) in
      omega (arith, c, g)),
)

pub behind_boundary : (line : List ℕ) (k : ℕ) → IsUtf8 line → k ≡ until_id Outside line → k < length line
    → IsCharBoundary line (k + 1)
behind_boundary line k u e l =
    let c : get_or line k 0 ≡ 37 =
    ap (λ z. get_or line z 0) e ∙ at_id Outside line (subst (λ z. z < length line) e l) in
    IsCharBoundary-after_ascii line k u l (omega (arith, c))
