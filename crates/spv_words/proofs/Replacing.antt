use Rattle.std.proofs.Common.{◌≡◌, ◌≢◌, ◌≤◌, ◌<◌, ◌++◌, ◌∙◌, ◌⊎◌, ◌+◌, take-add, append_assoc, inl, inr, sym, ap, subst, refl, arith, append-nil, length-append, ℕ, List, [], ◌∷◌, length, take, drop, Bool, true, false, Option, Some, None, if◌then◌else◌, option_map, Result, Ok, Err}
use Rattle.std.proofs.lemmas.Bool.{and_parts, and_from, leb-true, le-leb, false_from_ne_true, cases_Bool}
use Rattle.std.proofs.lemmas.Bool.Decides.{Decides-eqb}
use Rattle.std.proofs.lemmas.Slice.Eq.{starts_is}
use Rattle.std.proofs.lemmas.List.{take_at, drop_at, take-append-le, length-take-le}
use borrow.Rule.Slice.PartMut.{put_mid, post_of}
use Rattle.std.specs.Io.KnownBytes.{Keeps, Consumes, ReadConsumes, IsAtEnd, prepend_known}
use Rattle.spv_words.specs.declared.words.Order.{Order}
use Rattle.spv_words.specs.declared.words.Order.TheVariants.{Little, Big}
use Rattle.spv_words.specs.Version.{version_front, minor_in, has_version, as_1_6}
use Rattle.spv_words.specs.inner.Pending.{version_due}

-- ---- a choice of three

first : (a b : Bool) (x y z : List ℕ) → a ≡ true → (if a then x else (if b then y else z)) ≡ x
first a b x y z e = rw e refl

second : (a b : Bool) (x y z : List ℕ) → a ≡ false → b ≡ true → (if a then x else (if b then y else z)) ≡ y
second a b x y z e f = rw (e, f) refl

third : (a b : Bool) (x y z : List ℕ) → a ≡ false → b ≡ false → (if a then x else (if b then y else z)) ≡ z
third a b x y z e f = rw (e, f) refl

three_more : (a b : Bool) (x y z rest : List ℕ) → (if a then x ++ rest else (if b then y ++ rest else z ++ rest)) ≡ (if a then x else (if b then y else z)) ++ rest
three_more true b x y z rest = refl
three_more false true x y z rest = refl
three_more false false x y z rest = refl

-- ---- what the bytes begin with

pub begins : (o : Order) (bytes : List ℕ) → has_version o bytes ≡ true → (minor_in o bytes ≤ 6) × (bytes ≡ version_front o (minor_in o bytes) ++ drop 8 bytes)
begins Little bytes h =
    let p = and_parts _ _ h in
    (leb-true _ _ p.0, (starts_is Decides-eqb bytes (version_front Little (minor_in Little bytes)) _ refl).0 p.1)
begins Big bytes h =
    let p = and_parts _ _ h in
    (leb-true _ _ p.0, (starts_is Decides-eqb bytes (version_front Big (minor_in Big bytes)) _ refl).0 p.1)

pub long : (o : Order) (bytes : List ℕ) → has_version o bytes ≡ true → 8 ≤ length bytes
long Little bytes h =
    let e : length bytes ≡ 8 + length (drop 8 bytes) = ap length (begins Little bytes h).1 ∙ length-append (version_front Little (minor_in Little bytes)) (drop 8 bytes) in
    omega arith
long Big bytes h =
    let e : length bytes ≡ 8 + length (drop 8 bytes) = ap length (begins Big bytes h).1 ∙ length-append (version_front Big (minor_in Big bytes)) (drop 8 bytes) in
    omega arith

-- ---- what is made of them

pub as-little : (bytes : List ℕ) → has_version Little bytes ≡ true → as_1_6 bytes ≡ version_front Little 6 ++ drop 8 bytes
as-little bytes e = first (has_version Little bytes) (has_version Big bytes) (version_front Little 6 ++ drop 8 bytes) (version_front Big 6 ++ drop 8 bytes) bytes e

pub as-big : (bytes : List ℕ) → has_version Little bytes ≡ false → has_version Big bytes ≡ true → as_1_6 bytes ≡ version_front Big 6 ++ drop 8 bytes
as-big bytes e f = second (has_version Little bytes) (has_version Big bytes) (version_front Little 6 ++ drop 8 bytes) (version_front Big 6 ++ drop 8 bytes) bytes e f

pub as-other : (bytes : List ℕ) → has_version Little bytes ≡ false → has_version Big bytes ≡ false → as_1_6 bytes ≡ bytes
as-other bytes e f = third (has_version Little bytes) (has_version Big bytes) (version_front Little 6 ++ drop 8 bytes) (version_front Big 6 ++ drop 8 bytes) bytes e f

-- none was found
pub kept_by : (bytes : List ℕ) → (has_version Little bytes ≡ true → ⊥) → (has_version Big bytes ≡ true → ⊥) → as_1_6 bytes ≡ bytes
kept_by bytes l b = as-other bytes (false_from_ne_true _ l) (false_from_ne_true _ b)

pub short : (bytes : List ℕ) → length bytes < 8 → as_1_6 bytes ≡ bytes
short bytes h =
    let no : (o : Order) → has_version o bytes ≡ true → ⊥ = λ o e. let l = long o bytes e in omega arith in
    kept_by bytes (no Little) (no Big)

-- the order that was found: in Little, if the bytes begin so
pub replaced_in : (bytes : List ℕ) (o : Order) → has_version o bytes ≡ true → (has_version Little bytes ≡ true → Some o ≡ Some Little)
    → as_1_6 bytes ≡ version_front o 6 ++ drop 8 bytes
replaced_in bytes Little h l = as-little bytes h
replaced_in bytes Big h l =
    let no : has_version Little bytes ≡ true → ⊥ = λ e. let f : Some Big ≡ Some Little = l e in cc in
    as-big bytes (false_from_ne_true _ no) h

pub replaced : (o : Order) (minor : ℕ) (rest : List ℕ) → minor ≤ 6 → as_1_6 (version_front o minor ++ rest) ≡ version_front o 6 ++ rest
replaced Little minor rest h =
    as-little (version_front Little minor ++ rest) (and_from _ _ (le-leb minor 6 h) ((starts_is Decides-eqb (version_front Little minor ++ rest) (version_front Little minor) _ refl).1 rest refl))
replaced Big minor rest h =
    as-big (version_front Big minor ++ rest) refl (and_from _ _ (le-leb minor 6 h) ((starts_is Decides-eqb (version_front Big minor ++ rest) (version_front Big minor) _ refl).1 rest refl))

pub kept : (bytes : List ℕ) → ((o : Order) (minor : ℕ) (rest : List ℕ) → minor ≤ 6 → bytes ≢ version_front o minor ++ rest) → as_1_6 bytes ≡ bytes
kept bytes other =
    let no : (o : Order) → has_version o bytes ≡ true → ⊥ = λ o e. let b = begins o bytes e in other o _ _ b.0 b.1 in
    as-other bytes (false_from_ne_true _ (no Little)) (false_from_ne_true _ (no Big))

fixed : (o : Order) (rest : List ℕ) → as_1_6 (version_front o 6 ++ rest) ≡ version_front o 6 ++ rest
fixed o rest = replaced o 6 rest (omega arith)

-- twice is once
pub again : (bytes : List ℕ) → as_1_6 (as_1_6 bytes) ≡ as_1_6 bytes
again bytes =
    let P : List ℕ → Type 0 = λ xs. as_1_6 xs ≡ xs in
    elim (cases_Bool (has_version Little bytes)) [
      | inl e ↦ subst P (sym (as-little bytes e)) (fixed Little _)
      | inr e ↦ elim (cases_Bool (has_version Big bytes)) [
        | inl f ↦ subst P (sym (as-big bytes e f)) (fixed Big _)
        | inr f ↦ subst P (sym (as-other bytes e f)) (as-other bytes e f)
      ]
    ]

-- eight bytes tell what becomes of them
pub more : (front rest : List ℕ) → length front ≡ 8 → as_1_6 (front ++ rest) ≡ as_1_6 front ++ rest
more [] rest l = absurd (omega arith)
more (a ∷ []) rest l = absurd (omega arith)
more (a ∷ b ∷ []) rest l = absurd (omega arith)
more (a ∷ b ∷ c ∷ []) rest l = absurd (omega arith)
more (a ∷ b ∷ c ∷ d ∷ []) rest l = absurd (omega arith)
more (a ∷ b ∷ c ∷ d ∷ e ∷ []) rest l = absurd (omega arith)
more (a ∷ b ∷ c ∷ d ∷ e ∷ f ∷ []) rest l = absurd (omega arith)
more (a ∷ b ∷ c ∷ d ∷ e ∷ f ∷ g ∷ []) rest l = absurd (omega arith)
more (a ∷ b ∷ c ∷ d ∷ e ∷ f ∷ g ∷ h ∷ []) rest l =
    let front : List ℕ = a ∷ b ∷ c ∷ d ∷ e ∷ f ∷ g ∷ h ∷ [] in
    three_more (has_version Little front) (has_version Big front) (version_front Little 6) (version_front Big 6) front rest
more (a ∷ b ∷ c ∷ d ∷ e ∷ f ∷ g ∷ h ∷ i ∷ front) rest l = absurd (omega arith)

-- ---- what a source gives

-- asking twice is asking once
pub due_again : (is_due : Bool) (x : Option (List ℕ)) → version_due true x ≡ option_map as_1_6 (version_due is_due x)
due_again false x = refl
due_again true None = refl
due_again true (Some xs) = ap Some (sym (again xs))

-- the version was replaced in eight bytes, or in all that there were
pub begun : (x y : Option (List ℕ)) (old front : List ℕ) → Keeps (prepend_known old x) (prepend_known front y) → (length front ≡ 8) ⊎ IsAtEnd y
    → Keeps (version_due true (prepend_known old x)) (version_due false (prepend_known (as_1_6 front) y))
begun None y old front k w = tt
begun (Some xs) None old front k w = absurd k
begun (Some xs) (Some ys) old front k (inl l) = sym (more front ys l) ∙ ap as_1_6 k
begun (Some xs) (Some ys) old front k (inr e) =
    let whole : front ≡ old ++ xs = sym (append-nil front) ∙ ap (λ zs. front ++ zs) (sym e) ∙ k in
    ap (λ zs. as_1_6 front ++ zs) e ∙ append-nil (as_1_6 front) ∙ ap as_1_6 whole

pub begun_by : (is_due : Bool) (x y : Option (List ℕ)) (old front new : List ℕ) → is_due ≡ true → new ≡ as_1_6 front
    → Keeps (prepend_known old x) (prepend_known front y) → (length front ≡ 8) ⊎ IsAtEnd y → Keeps (version_due is_due (prepend_known old x)) (prepend_known new y)
begun_by is_due x y old front new t e k w = rw (t, e) (begun x y old front k w)

consumed : (old mid new : Option (List ℕ)) (bs : List ℕ) → Keeps old mid → Consumes mid new bs → Consumes old (prepend_known [] new) bs
consumed None mid new bs k c = tt
consumed (Some xs) None new bs k c = absurd k
consumed (Some xs) (Some ys) None bs k c = absurd c
consumed (Some xs) (Some ys) (Some zs) bs k c = sym k ∙ c

unread : (old mid new : Option (List ℕ)) → Keeps old mid → Keeps mid new → Keeps old (prepend_known [] new)
unread None mid new k c = tt
unread (Some xs) None new k c = absurd k
unread (Some xs) (Some ys) None k c = absurd c
unread (Some xs) (Some ys) (Some zs) k c = c ∙ k

at_end : (new : Option (List ℕ)) → IsAtEnd new → IsAtEnd (prepend_known [] new)
at_end None e = tt
at_end (Some zs) e = e

plain : (mid : Option (List ℕ)) → prepend_known [] mid ≡ mid
plain None = refl
plain (Some xs) = refl

-- where nothing was read ahead, a read gives what the source gives
pub passed_on : {E : Type 0} (old mid new : Option (List ℕ)) (r : Result ℕ E) (buf : List ℕ) → Keeps old (prepend_known [] mid) → ReadConsumes mid new r buf
    → ReadConsumes old (prepend_known [] new) r buf
passed_on old mid new (Ok n) buf k c = let j = subst (Keeps old) (plain mid) k in (consumed old mid new _ j c.0, λ z l. at_end new (c.1 z l))
passed_on old mid new (Err e) buf k c = let j = subst (Keeps old) (plain mid) k in unread old mid new j c

pub passed_by : {E : Type 0} (is_due : Bool) (old mid new : Option (List ℕ)) (front : List ℕ) (r : Result ℕ E) (buf : List ℕ) → is_due ≡ false → front ≡ []
    → Keeps old (version_due is_due (prepend_known front mid)) → ReadConsumes mid new r buf → ReadConsumes old (version_due is_due (prepend_known front new)) r buf
passed_by is_due old mid new front r buf d e k c =
    let P : List ℕ → Type 0 = λ zs. Keeps old (prepend_known zs mid) in
    let j : Keeps old (prepend_known front mid) = rw d at k in
    rw (d, e) (passed_on old mid new r buf (subst P e j) c)

-- the first of the bytes that were read ahead are given
given : (old mid : Option (List ℕ)) (front new bs : List ℕ) → front ≡ bs ++ new → Keeps old (prepend_known front mid) → Consumes old (prepend_known new mid) bs
given None mid front new bs e k = tt
given (Some xs) None front new bs e k = absurd k
given (Some xs) (Some ys) front new bs e k = sym k ∙ ap (λ l. l ++ ys) e ∙ append_assoc bs new ys

pub given_by : (is_due : Bool) (old mid : Option (List ℕ)) (front new bs : List ℕ) → is_due ≡ false → front ≡ bs ++ new
    → Keeps old (version_due is_due (prepend_known front mid)) → Consumes old (version_due is_due (prepend_known new mid)) bs
given_by is_due old mid front new bs d e k =
    let j : Keeps old (prepend_known front mid) = rw d at k in
    rw d (given old mid front new bs e j)

-- ---- reading ahead

-- what was read into a part of the room is behind what was there
filled : (a k n : ℕ) (xs ys : List ℕ) → a ≤ length xs → n ≤ length ys → take (a + n) (put_mid a k xs ys) ≡ take a xs ++ take n ys
filled a k n xs ys h i =
    let front = take a xs in
    let rest = ys ++ post_of a k xs in
    let l : length front ≡ a = length-take-le a xs h in
    take-add a n (front ++ rest) ∙ rw (take_at front rest a l, drop_at front rest a l, take-append-le n ys (post_of a k xs) i) refl

kept_on : (start mid new : Option (List ℕ)) (front bs : List ℕ) → Keeps start (prepend_known front mid) → Consumes mid new bs → Keeps start (prepend_known (front ++ bs) new)
kept_on None mid new front bs k c = tt
kept_on (Some xs) None new front bs k c = absurd k
kept_on (Some xs) (Some ys) None front bs k c = absurd c
kept_on (Some xs) (Some ys) (Some zs) front bs k c = append_assoc front bs zs ∙ ap (λ l. front ++ l) (sym c) ∙ k

pub filled_on : (start mid new : Option (List ℕ)) (octets buf : List ℕ) (size k n : ℕ) → length octets ≡ 8 → size ≤ 8 → n ≤ length buf
    → Keeps start (prepend_known (take size octets) mid) → Consumes mid new (take n buf) → Keeps start (prepend_known (take (size + n) (put_mid size k octets buf)) new)
filled_on start mid new octets buf size k n l h i kept c =
    subst (λ (front : List ℕ). Keeps start (prepend_known front new)) (sym (filled size k n octets buf (omega arith) i)) (kept_on start mid new (take size octets) (take n buf) kept c)
