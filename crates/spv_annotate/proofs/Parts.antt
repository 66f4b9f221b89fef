-- A line, cut before each id.
use Rattle.std.proofs.Common.{◌≡◌, ◌++◌, ◌∙◌, ◌<◌, ◌≤◌, ◌+◌, ◌-◌, ◌^◌, ℕ, zero, suc, List, [], ◌∷◌, Option, Some, Bool}
use Rattle.std.proofs.Common.{true, false, length, take, drop, get_or, refl, sym, ap, subst, arith, append_assoc}
use Rattle.std.specs.Prelude.{◌==◌, nat_lt, decimal, option_and_then}
use Rattle.std.specs.List.{flat_map, onto_first, prefix_len}
use Rattle.std.specs.Str.{IsCharBoundary, IsUtf8}
use Rattle.std.proofs.Math.Seq.{take-length}
use Rattle.std.proofs.lemmas.Bool.Decides.{nat_tests}
use Rattle.std.proofs.lemmas.List.Sums.{prefix_len_passes}
use Rattle.std.proofs.lemmas.Str.{IsCharBoundary-after_ascii}
use Rattle.spv_lines.specs.Digits.{is_digit}
use Rattle.spv_lines.proofs.Numbers.{decimal_number, decimal_value}
use Rattle.spv_annotate.specs.declared.linked.Quoting.{Quoting}
use Rattle.spv_annotate.specs.declared.linked.Quoting.TheVariants.{Outside, Within, Behind, Commented}
use Rattle.spv_annotate.specs.Html.{escaped}
use Rattle.spv_annotate.specs.Page.{cut_from, id_of, id_html, digits_in, behind_digits, part_html, linked}
use Rattle.spv_annotate.specs.Quoted.{after_byte, begins_id}
use Rattle.spv_annotate.specs.inner.Linked.{base, until_id, part_len}

pub same_base : (q : Quoting) (b : ℕ) → base (after_byte q b) ≡ base q
same_base Outside b = by (b == 34) refl
  where
    by : (x : Bool) → (b == 34) ≡ x → base (after_byte Outside b) ≡ Outside
    by true e = rw e refl
    by false e = rw e refl
same_base Within b = by (b == 34) (b == 92) refl refl
  where
    by : (x y : Bool) → (b == 34) ≡ x → (b == 92) ≡ y → base (after_byte Within b) ≡ Outside
    by true y e f = rw e refl
    by false true e f = rw (e, f) refl
    by false false e f = rw (e, f) refl
same_base Behind b = refl
same_base Commented b = refl

-- an id begins at the front of a line, or behind it outside quotes
pub begins_base : (q : Quoting) (b : ℕ) → begins_id q b ≡ true → base q ≡ q
begins_base Outside b h = refl
begins_base Within b h = cc
begins_base Behind b h = cc
begins_base Commented b h = refl

pub eq_by : (a b : ℕ) → (a == b) ≡ true → a ≡ b
eq_by a b e = grind (arith, nat_tests)

stays : (q : Quoting) (b : ℕ) → begins_id q b ≡ true → after_byte q b ≡ q
stays Outside b h = rw (eq_by b 37 h) refl
stays Within b h = cc
stays Behind b h = cc
stays Commented b h = refl

-- the parts behind the first
pub record Later (q : Quoting) (line : List ℕ) : Type 0 where
  pub parts : List (List ℕ)
  pub cut : cut_from q line ≡ take (until_id q line) line ∷ parts
  pub same : (f : List ℕ → List ℕ) → f [] ≡ []
      → flat_map f parts ≡ flat_map f (cut_from (base q) (drop (until_id q line) line))

pub later : (q : Quoting) (line : List ℕ) → Later q line
later q [] = record { parts = []; cut = refl; same = λ f e. sym (ap (λ z. z ++ []) e) }
later q (b ∷ line) = by (begins_id q b) refl (later (after_byte q b) line)
  where
    by : (x : Bool) → begins_id q b ≡ x → Later (after_byte q b) line → Later q (b ∷ line)
    by true e r =
        (let c : cut_from q (b ∷ line) ≡ [] ∷ onto_first b (cut_from q line) = rw e refl in
        let n : until_id q (b ∷ line) ≡ 0 = rw e refl in
        record {
          parts = onto_first b (cut_from q line);
          cut = rw e refl;
          same = λ f z. sym (ap (λ k. flat_map f (cut_from (base q) (drop k (b ∷ line)))) n
              ∙ (ap (λ k. flat_map f (cut_from k (b ∷ line))) (begins_base q b e)
              ∙ (ap (flat_map f) c ∙ ap (λ y. y ++ flat_map f (onto_first b (cut_from q line))) z)));
        })
    by false e r =
        (record {
          parts = r.parts;
          cut = rw e (ap (onto_first b) r.cut);
          same = λ f z. rw e (rw (← same_base q b) (r.same f z));
        })

-- the first part of a line, and the others
pub first_part : (f : List ℕ → List ℕ) (q : Quoting) (line : List ℕ) → f [] ≡ [] → base q ≡ q → 0 < length line
    → flat_map f (cut_from q line) ≡ f (take (part_len q line) line)
    ++ flat_map f (cut_from q (drop (part_len q line) line))
first_part f q [] e h l = absurd (omega (arith, l))
first_part f q (b ∷ line) e h l = by (begins_id q b) refl
  where
    r : Later (after_byte q b) line
    r = later (after_byte q b) line

    rest : flat_map f r.parts ≡ flat_map f (cut_from q (drop (until_id (after_byte q b) line) line))
    rest = r.same f e ∙ ap (λ z. flat_map f (cut_from z (drop (until_id (after_byte q b) line) line)))
        (same_base q b ∙ h)

    by : (x : Bool) → begins_id q b ≡ x
        → flat_map f (cut_from q (b ∷ line)) ≡ f (b ∷ take (until_id (after_byte q b) line) line)
        ++ flat_map f (cut_from q (drop (until_id (after_byte q b) line) line))
    by true g =
        (let s = stays q b g in
        rw g (ap (λ z. z ++ flat_map f (onto_first b (cut_from q line))) e
        ∙ (ap (λ z. flat_map f (onto_first b (cut_from z line))) (sym s)
        ∙ (ap (λ z. flat_map f (onto_first b z)) r.cut
        ∙ ap (λ z. f (b ∷ take (until_id (after_byte q b) line) line) ++ z) rest))))
    by false g = rw g (ap (λ z. flat_map f (onto_first b z)) r.cut
        ∙ ap (λ z. f (b ∷ take (until_id (after_byte q b) line) line) ++ z) rest)

onto_front : (b : ℕ) (ws : List (List ℕ)) → flat_map (λ w. w) (onto_first b ws) ≡ b ∷ flat_map (λ w. w) ws
onto_front b [] = refl
onto_front b (w ∷ ws) = refl

-- all parts together are the line
pub joined : (q : Quoting) (line : List ℕ) → flat_map (λ w. w) (cut_from q line) ≡ line
joined q [] = refl
joined q (b ∷ line) = by (begins_id q b) refl (joined q line) (joined (after_byte q b) line)
  where
    by : (x : Bool) → begins_id q b ≡ x → flat_map (λ w. w) (cut_from q line) ≡ line
        → flat_map (λ w. w) (cut_from (after_byte q b) line) ≡ line
        → flat_map (λ w. w) (cut_from q (b ∷ line)) ≡ b ∷ line
    by true e f g = rw e (onto_front b (cut_from q line) ∙ ap (λ z. b ∷ z) f)
    by false e f g = rw e (onto_front b (cut_from (after_byte q b) line) ∙ ap (λ z. b ∷ z) g)

pub begins_mark : (q : Quoting) (b : ℕ) → begins_id q b ≡ true → b ≡ 37
begins_mark Outside b h = eq_by b 37 h
begins_mark Within b h = cc
begins_mark Behind b h = cc
begins_mark Commented b h = eq_by b 37 h

-- what stands behind the bytes before an id
pub at_id : (q : Quoting) (line : List ℕ) → until_id q line < length line → get_or line (until_id q line) 0 ≡ 37
at_id q [] l = absurd (omega (arith, l))
at_id q (b ∷ line) l = by (begins_id q b) refl l (at_id (after_byte q b) line)
  where
    by : (x : Bool) → begins_id q b ≡ x → until_id q (b ∷ line) < suc (length line)
        → (until_id (after_byte q b) line < length line → get_or line (until_id (after_byte q b) line) 0 ≡ 37)
        → get_or (b ∷ line) (until_id q (b ∷ line)) 0 ≡ 37
    by true e l f = rw e (begins_mark q b e)
    by false e l f = rw e (f (let m = rw e at l in omega (arith, m)))

-- a part ends where a character does
pub part_ends : (q : Quoting) (line : List ℕ) (n : ℕ) → n ≡ part_len q line → n ≤ length line → IsCharBoundary line n
part_ends q [] n e l = (l, λ m g. absurd (omega (arith, m)))
part_ends q (b ∷ line) n e l = (
  l,
  λ m g. absurd (
      let k : n ≡ suc (until_id (after_byte q b) line) = e in
      let i : until_id (after_byte q b) line < length line = omega (arith, m, k) in
      let f : get_or (b ∷ line) n 0 ≡ 37 = ap (λ z. get_or (b ∷ line) z 0) k ∙ at_id (after_byte q b) line i in
      omega (arith, f, g)),
)

-- an id ends where a character does
digit_small : (b : ℕ) → is_digit b ≡ true → b < 128
digit_small b h = grind (arith, nat_tests)

pub id_ends : (line : List ℕ) (n : ℕ) → IsUtf8 line → 1 ≤ length line → get_or line 0 0 ≡ 37
    → n ≡ prefix_len is_digit (drop 1 line)
    → n ≤ length (drop 1 line) → IsCharBoundary line (1 + n)
id_ends [] n u l f e h = absurd (omega (arith, l))
id_ends (b ∷ line) zero u l f e h = IsCharBoundary-after_ascii (b ∷ line) 0 u (omega arith) (omega (arith, f))
id_ends (b ∷ line) (suc n) u l f e h =
    let m : suc n + 1 ≡ 1 + suc n = omega arith in
    let d : is_digit (get_or line n 0) ≡ true = prefix_len_passes is_digit line n 0 (omega (arith, e)) in
    let s = digit_small (get_or line n 0) d in
    let i : suc n < length (b ∷ line) = omega (arith, h) in
    subst (λ k. IsCharBoundary (b ∷ line) k) m (IsCharBoundary-after_ascii (b ∷ line) (suc n) u i s)

-- the id that decimal digits are
pub id_of_decimal : (n : ℕ) → n < 2 ^ 32 → id_of (decimal n) ≡ Some n
id_of_decimal n h =
    let a = decimal_number n (omega arith) in
    let b = decimal_value n (omega arith) in
    let c : nat_lt n 4294967296 ≡ true = grind (arith, nat_tests) in
    rw (a, b, c) refl

pub found_id : (word ds : List ℕ) (n : ℕ) → (n < 2 ^ 32) × (word ≡ 37 ∷ decimal n) → word ≡ 37 ∷ ds → Some n ≡ id_of ds
found_id word ds n h e =
    let g = h.1 in
    let i : ds ≡ decimal n = cc in
    sym (ap id_of i ∙ id_of_decimal n h.0)

-- a part that begins with an id
pub word_front : (xs : List ℕ) (n : ℕ) (word : List ℕ) → 1 ≤ length xs → get_or xs 0 0 ≡ 37
    → n ≡ prefix_len is_digit (drop 1 xs) → word ≡ take (1 + n) xs → word ≡ 37 ∷ digits_in (drop 1 xs)
word_front [] n word l f e w = absurd (omega (arith, l))
word_front (x ∷ t) n word l f e w =
    let m : 1 + n ≡ suc n = omega arith in
    let x37 : x ≡ 37 = f in
    w ∙ (ap (λ z. take z (x ∷ t)) m ∙ (ap (λ z. x ∷ take z t) e ∙ ap (λ z. z ∷ digits_in t) x37))

pub part_whole : (d : ℕ → Option ℕ) (xs : List ℕ) (n : ℕ) (word rest : List ℕ) → 1 ≤ length xs → get_or xs 0 0 ≡ 37
    → n ≡ prefix_len is_digit (drop 1 xs) → word ≡ take (1 + n) xs → rest ≡ drop (1 + n) xs
    → id_html (option_and_then d (id_of (digits_in (drop 1 xs)))) word ++ escaped rest ≡ part_html d xs
part_whole d [] n word rest l f e w r = absurd (omega (arith, l))
part_whole d (x ∷ t) n word rest l f e w r =
    let m : 1 + n ≡ suc n = omega arith in
    let x37 : x ≡ 37 = f in
    let o = option_and_then d (id_of (digits_in t)) in
    let v : word ≡ 37 ∷ digits_in t = word_front (x ∷ t) n word l f e w in
    let s : rest ≡ behind_digits t = r ∙ (ap (λ z. drop z (x ∷ t)) m ∙ ap (λ z. drop z t) e) in
    let p : part_html d (x ∷ t) ≡ id_html o (37 ∷ digits_in t) ++ escaped (behind_digits t) = rw x37 refl in
    ap (λ z. id_html o z ++ escaped rest) v ∙ (ap (λ z. id_html o (37 ∷ digits_in t) ++ escaped z) s ∙ sym p)

-- one part more of a line
pub linked_more : (d : ℕ → Option ℕ) (q : Quoting) (xs goal out more : List ℕ) (n : ℕ) → base q ≡ q → 0 < length xs
    → n ≡ part_len q xs
    → out ++ linked d q xs ≡ goal → more ≡ out ++ part_html d (take n xs) → more ++ linked d q (drop n xs) ≡ goal
linked_more d q xs goal out more n b l e f g =
    let h = first_part (part_html d) q xs refl b l in
    let k : out ++ linked d q xs ≡ out ++ (part_html d (take n xs) ++ linked d q (drop n xs)) = rw e
    (ap (λ z. out ++ z) h) in
    ap (λ z. z ++ linked d q (drop n xs)) g
    ∙ (append_assoc out (part_html d (take n xs)) (linked d q (drop n xs)) ∙ (sym k ∙ f))

-- what stands behind the first byte
pub all_behind : (xs : List ℕ) → take (length xs - 1) (drop 1 xs) ≡ drop 1 xs
all_behind [] = refl
all_behind (x ∷ t) = let e : suc (length t) - 1 ≡ length t = omega arith in ap (λ n. take n t) e ∙ take-length t

pub behind_front : (xs ds : List ℕ) → xs ≡ 37 ∷ ds → take (length xs - 1) (drop 1 xs) ≡ ds
behind_front xs ds e = all_behind xs ∙ ap (drop 1) e

pub some_left : (xs : List ℕ) → false ≡ (length xs == 0) → 0 < length xs
some_left [] e = cc
some_left (x ∷ xs) e = omega arith
