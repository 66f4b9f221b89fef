-- The front of a line in which ids have links.
use Rattle.std.proofs.Common.{◌≡◌, ◌++◌, ◌∙◌, ◌<◌, ◌≤◌, ◌+◌, ℕ, zero, suc, List, [], ◌∷◌, Option, Some, Bool, true}
use Rattle.std.proofs.Common.{false, ◌&&◌, length, take, drop, get_or, refl, sym, ap, subst, arith, append_assoc}
use Rattle.std.proofs.Common.{length-drop}
use Rattle.std.specs.Prelude.{IsUtf8, ◌==◌, option_and_then}
use Rattle.std.specs.List.{AllByRecursion, flat_map, list_all, prefix_len}
use Rattle.std.specs.Str.{IsCharBoundary}
use Rattle.std.proofs.lemmas.Bool.Decides.{nat_tests}
use Rattle.std.proofs.lemmas.List.{drop-drop, drop-take, take-take}
use Rattle.std.proofs.lemmas.List.Sums.{prefix_len-le-length, prefix_len_passes}
use Rattle.std.proofs.lemmas.Str.{IsCharBoundary-from_take, IsUtf8-append}
use Rattle.spv_lines.specs.Digits.{is_digit}
use Rattle.spv_printer.proofs.Shorts.{ascii_utf8}
use Rattle.spv_annotate.specs.declared.linked.Quoting.{Quoting}
use Rattle.spv_annotate.specs.declared.linked.Quoting.TheVariants.{Outside, Within, Behind, Commented}
use Rattle.spv_annotate.specs.Html.{escaped}
use Rattle.spv_annotate.specs.Page.{behind_digits, cut_from, digits_in, id_html, id_of, link_to, linked, part_html}
use Rattle.spv_annotate.specs.Quoted.{after_byte, begins_id}
use Rattle.spv_annotate.specs.inner.Draft.{IsAdded, IsCopied, IsFront, is_plain}
use Rattle.spv_annotate.specs.inner.Linked.{base, is_bare_byte, is_steady, part_len, until_id}
use Rattle.spv_annotate.proofs.Drafts.{all_ascii, plain_bare}
use Rattle.spv_annotate.proofs.Parts.{first_part, later}
use Rattle.spv_annotate.proofs.Steadies.{bare_byte, id_escaped, steady_after, steady_begins, until_skip}

-- what stands before the first id

no_mark : (q : Quoting) (x : ℕ) → base q ≡ q → begins_id q x ≡ false → (x == 37) ≡ false
no_mark Outside x b e = e
no_mark Within x b e = cc
no_mark Behind x b e = cc
no_mark Commented x b e = e

no_id : (d : ℕ → Option ℕ) (q : Quoting) (xs : List ℕ) → base q ≡ q
    → part_html d (take (until_id q xs) xs) ≡ escaped (take (until_id q xs) xs)
no_id d q [] b = refl
no_id d q (x ∷ xs) b = by (begins_id q x) refl
  where
    by : (y : Bool) → begins_id q x ≡ y
        → part_html d (take (until_id q (x ∷ xs)) (x ∷ xs)) ≡ escaped (take (until_id q (x ∷ xs)) (x ∷ xs))
    by true e = rw e refl
    by false e = let f = no_mark q x b e in rw (e, f) refl

until_linked : (d : ℕ → Option ℕ) (q : Quoting) (xs : List ℕ) → base q ≡ q
    → linked d q xs ≡ escaped (take (until_id q xs) xs) ++ linked d q (drop (until_id q xs) xs)
until_linked d q xs b =
    let f = part_html d in
    let u = until_id q xs in
    let r = later q xs in
    let s : flat_map f r.parts ≡ linked d q (drop u xs) = r.same f refl
    ∙ ap (λ z. flat_map f (cut_from z (drop u xs))) b in
    ap (flat_map f) r.cut ∙ (ap (λ z. f (take u xs) ++ z) s ∙ ap (λ z. z ++ linked d q (drop u xs)) (no_id d q xs b))

-- an octet that is plain

bare_steady : (b : ℕ) → is_bare_byte b ≡ true → is_steady b ≡ true
bare_steady b h = grind (arith, nat_tests)

one_linked : (d : ℕ → Option ℕ) (q : Quoting) (b : ℕ) (xs : List ℕ) → base q ≡ q → is_bare_byte b ≡ true
    → linked d q (b ∷ xs) ≡ b ∷ linked d q xs
one_linked d q b xs e h =
    let s = bare_steady b h in
    let f = steady_begins q b s in
    let g = steady_after q b e s in
    let u = until_id q xs in
    let l = linked d q (drop u xs) in
    let n : until_id q (b ∷ xs) ≡ suc u = rw (f, g) refl in
    until_linked d q (b ∷ xs) e ∙ (ap (λ k. escaped (take k (b ∷ xs)) ++ linked d q (drop k (b ∷ xs))) n
    ∙ (ap (λ z. (z ++ escaped (take u xs)) ++ l) (bare_byte b h) ∙ ap (λ z. b ∷ z) (sym (until_linked d q xs e))))

plain_linked : (d : ℕ → Option ℕ) (q : Quoting) (n : ℕ) (xs : List ℕ) → base q ≡ q
    → AllByRecursion (λ b. is_plain b ≡ true) (take n xs)
    → linked d q xs ≡ take n xs ++ linked d q (drop n xs)
plain_linked d q zero xs e h = refl
plain_linked d q (suc n) [] e h = refl
plain_linked d q (suc n) (b ∷ xs) e h =
    one_linked d q b xs e (plain_bare b h.0) ∙ ap (λ z. b ∷ z) (plain_linked d q n xs e h.1)

-- an id

digit_steady : (b : ℕ) → is_digit b ≡ true → is_steady b ≡ true
digit_steady b h = grind (arith, nat_tests)

digit_ascii : (b : ℕ) → is_digit b ≡ true → b < 128
digit_ascii b h = grind (arith, nat_tests)

mark_after : (q : Quoting) → base q ≡ q → after_byte q 37 ≡ q
mark_after Outside b = refl
mark_after Within b = cc
mark_after Behind b = cc
mark_after Commented b = refl

-- how many digits stand at the front

digits_both : (a b : Bool) → (a && b) ≡ true → (a ≡ true) × (b ≡ true)
digits_both true b h = (refl, h)
digits_both false b h = cc

pub digit_high : (b : ℕ) → is_digit b ≡ true → b ≤ 57
digit_high b h = grind (arith, nat_tests)

pub digits_front : (xs : List ℕ) (n : ℕ) → list_all is_digit (take n xs) ≡ true → n < length xs
    → is_digit (get_or xs n 0) ≡ false → n ≡ prefix_len is_digit xs
digits_front [] n h l e = absurd (omega arith)
digits_front (x ∷ xs) zero h l e = rw e refl
digits_front (x ∷ xs) (suc n) h l e =
    let r = digits_both (is_digit x) (list_all is_digit (take n xs)) h in
    let m = digits_front xs n r.1 (omega arith) e in
    rw r.0 (omega (arith, m))

pub digits_end : (xs : List ℕ) → list_all is_digit xs ≡ true → length xs ≡ prefix_len is_digit xs
digits_end [] h = refl
digits_end (x ∷ xs) h =
    let r = digits_both (is_digit x) (list_all is_digit xs) h in
    let m = digits_end xs r.1 in
    rw r.0 (omega (arith, m))

pub digits_next : (xs : List ℕ) (n : ℕ) → n < length xs → is_digit (get_or xs n 0) ≡ true
    → list_all is_digit (take n xs) ≡ true → list_all is_digit (take (n + 1) xs) ≡ true
digits_next [] n l e h = absurd (omega arith)
digits_next (x ∷ xs) zero l e h = rw e refl
digits_next (x ∷ xs) (suc n) l e h =
    let r = digits_both (is_digit x) (list_all is_digit (take n xs)) h in
    let o : suc n + 1 ≡ suc (n + 1) = omega arith in
    let m = digits_next xs n (omega arith) e r.1 in
    rw (o, r.0) m

kept_digits : (u : ℕ) (xs : List ℕ) → prefix_len is_digit xs ≤ u
    → prefix_len is_digit (take u xs) ≡ prefix_len is_digit xs
kept_digits zero xs l = omega arith
kept_digits (suc u) [] l = refl
kept_digits (suc u) (x ∷ xs) l = by (is_digit x) refl l (kept_digits u xs)
  where
    by : (y : Bool) → is_digit x ≡ y → prefix_len is_digit (x ∷ xs) ≤ suc u
        → (prefix_len is_digit xs ≤ u → prefix_len is_digit (take u xs) ≡ prefix_len is_digit xs)
        → prefix_len is_digit (x ∷ take u xs) ≡ prefix_len is_digit (x ∷ xs)
    by true e m f = let n : 1 + prefix_len is_digit xs ≤ suc u = rw e at m in
        rw e (ap (λ z. 1 + z) (f (omega (arith, n))))
    by false e m f = rw e refl

id_linked : (d : ℕ → Option ℕ) (q : Quoting) (xs : List ℕ) → base q ≡ q
    → linked d q (37 ∷ xs) ≡ id_html (option_and_then d (id_of (digits_in xs))) (37 ∷ digits_in xs)
    ++ linked d q (behind_digits xs)
id_linked d q xs b =
    let k = prefix_len is_digit xs in
    let ys = drop k xs in
    let v = until_id q ys in
    let t = take (k + v) xs in
    let html : List ℕ → List ℕ = λ z. id_html (option_and_then d (id_of z)) (37 ∷ z) in
    let s : until_id q xs ≡ k + v = until_skip q xs k b (prefix_len-le-length is_digit xs)
    (λ j l. digit_steady (get_or xs j 0) (prefix_len_passes is_digit xs j 0 l)) in
    let p : part_len q (37 ∷ xs) ≡ suc (k + v) = ap suc (ap (λ z. until_id z xs) (mark_after q b) ∙ s) in
    let f : linked d q (37 ∷ xs) ≡ part_html d (37 ∷ t) ++ linked d q (drop (k + v) xs) =
    first_part (part_html d) q (37 ∷ xs) refl b (omega arith)
    ∙ ap (λ z. part_html d (take z (37 ∷ xs)) ++ linked d q (drop z (37 ∷ xs))) p in
    let m : prefix_len is_digit t ≡ k = kept_digits (k + v) xs (omega arith) in
    let g : digits_in t ≡ digits_in xs = ap (λ z. take z t) m ∙ take-take k (k + v) xs (omega arith) in
    let h : behind_digits t ≡ take v ys = ap (λ z. drop z t) m ∙ drop-take k v xs in
    let w : drop (k + v) xs ≡ drop v ys = sym (drop-drop v k xs) in
    let r : part_html d (37 ∷ t) ≡ html (digits_in xs)
    ++ escaped (take v ys) =
    ap (λ z. html z ++ escaped (behind_digits t)) g ∙ ap (λ z. html (digits_in xs) ++ escaped z) h in
    f ∙ (ap (λ z. z ++ linked d q (drop (k + v) xs)) r
    ∙ (ap (λ z. (html (digits_in xs) ++ escaped (take v ys)) ++ linked d q z) w
    ∙ (append_assoc (html (digits_in xs)) (escaped (take v ys)) (linked d q (drop v ys))
    ∙ ap (λ z. html (digits_in xs) ++ z) (sym (until_linked d q ys b)))))

-- fronts

pub front_plain : (d : ℕ → Option ℕ) (line : List ℕ) (n at : ℕ) (old new : List ℕ) → IsCopied line at n old new
    → IsFront d line n at (at + n) old new
front_plain d line n at old new c =
    let a = all_ascii (take n line) c.plain in
    record {
      within = c.within;
      ascii = a;
      all = λ q b. ap (λ z. z ++ linked d q (drop n line)) c.all
          ∙ (append_assoc (take at old) (take n line) (linked d q (drop n line))
          ∙ ap (λ z. take at old ++ z) (sym (plain_linked d q n line b c.plain)));
      utf8 = λ u. subst IsUtf8 (sym c.all) (IsUtf8-append (take at old) (take n line) u (ascii_utf8 (take n line) a));
    }

all_taken : (P : ℕ → Type 0) (a b : ℕ) (xs : List ℕ) → AllByRecursion P (take a xs)
    → AllByRecursion P (take b (drop a xs)) → AllByRecursion P (take (a + b) xs)
all_taken P zero b xs h k = let e : 0 + b ≡ b = omega arith in subst (λ n. AllByRecursion P (take n xs)) (sym e) k
all_taken P (suc a) b [] h k = let e : suc a + b ≡ suc (a + b) = omega arith in
    subst (λ (n : ℕ). AllByRecursion P (take n [])) (sym e) tt
all_taken P (suc a) b (x ∷ xs) h k = let e : suc a + b ≡ suc (a + b) = omega arith in
    subst (λ n. AllByRecursion P (take n (x ∷ xs))) (sym e) (h.0, all_taken P a b xs h.1 k)

-- one front behind the other
pub front_more : (d : ℕ → Option ℕ) (line : List ℕ) (a b at mid end : ℕ) (old one new : List ℕ)
    → IsFront d line a at mid old one → IsFront d (drop a line) b mid end one new
    → IsFront d line (a + b) at end old new
front_more d line a b at mid end old one new f g =
    let l = length-drop a line in
    let w = f.within in
    let z = g.within in
    record {
      within = omega (arith, l, w, z);
      ascii = all_taken (λ c. c < 128) a b line f.ascii g.ascii;
      all = λ q e. ap (λ y. take end new ++ linked d q y) (sym (drop-drop b a line)) ∙ (g.all q e ∙ f.all q e);
      utf8 = λ u. g.utf8 (f.utf8 u);
    }

digits_ascii : (xs : List ℕ) → AllByRecursion (λ b. b < 128) (take (prefix_len is_digit xs) xs)
digits_ascii [] = tt
digits_ascii (x ∷ xs) = by (is_digit x) refl (digits_ascii xs)
  where
    by : (y : Bool) → is_digit x ≡ y → AllByRecursion (λ b. b < 128) (take (prefix_len is_digit xs) xs)
        → AllByRecursion (λ b. b < 128) (take (prefix_len is_digit (x ∷ xs)) (x ∷ xs))
    by true e h = let o : 1 + prefix_len is_digit xs ≡ suc (prefix_len is_digit xs) = omega arith in
        rw (e, o) (digit_ascii x e, h)
    by false e h = rw e tt

-- an id at the front of a line

pub word_ascii : (line : List ℕ) (k : ℕ) → 1 ≤ length line → get_or line 0 0 ≡ 37
    → k ≡ prefix_len is_digit (drop 1 line) → AllByRecursion (λ b. b < 128) (take (1 + k) line)
word_ascii [] k l f e = absurd (omega arith)
word_ascii (x ∷ xs) k l f e =
    let o : 1 + k ≡ suc (prefix_len is_digit xs) = omega (arith, e) in
    subst (λ n. AllByRecursion (λ b. b < 128) (take n (x ∷ xs))) (sym o) (omega (arith, f), digits_ascii xs)

pub word_within : (line : List ℕ) (k : ℕ) → 1 ≤ length line → k ≡ prefix_len is_digit (drop 1 line)
    → 1 + k ≤ length line
word_within [] k l e = absurd (omega arith)
word_within (x ∷ xs) k l e = let m = prefix_len-le-length is_digit xs in omega (arith, e, m)

-- what is left of a line, with more behind it
pub padded_left : (line padded : List ℕ) (n : ℕ) → n ≤ length line → take (length line) padded ≡ line
    → take (length (drop n line)) (drop n padded) ≡ drop n line
padded_left line padded n l e =
    let d = length-drop n line in
    let k : n + length (drop n line) ≡ length line = omega (arith, d, l) in
    sym (drop-take n (length (drop n line)) padded) ∙ (ap (λ z. drop n (take z padded)) k ∙ ap (drop n) e)

pub front_id : (d : ℕ → Option ℕ) (line word : List ℕ) (k id inst at end : ℕ) (old new : List ℕ) → 1 ≤ length line
    → get_or line 0 0 ≡ 37 → k ≡ prefix_len is_digit (drop 1 line)
    → Some id ≡ id_of (take k (drop 1 line)) → Some inst ≡ d id → word ≡ take (1 + k) line
    → IsAdded (link_to inst word) at end old new → IsFront d line (1 + k) at end old new
front_id d [] word k id inst at end old new l f e i n w a = absurd (omega arith)
front_id d (x ∷ xs) word k id inst at end old new l f e i n w a =
    let x37 : x ≡ 37 = f in
    let o : 1 + k ≡ suc k = omega arith in
    let ds = digits_in xs in
    let s : take k xs ≡ ds = ap (λ z. take z xs) e in
    let v : word ≡ 37 ∷ ds = w ∙ (ap (λ z. take z (x ∷ xs)) o ∙ (ap (λ z. x ∷ z) s ∙ ap (λ z. z ∷ ds) x37)) in
    let j : id_of ds ≡ Some id = sym (i ∙ ap id_of s) in
    let o2 : option_and_then d (id_of ds) ≡ Some inst = ap (option_and_then d) j ∙ sym n in
    let c : id_html (option_and_then d (id_of ds)) (37 ∷ ds) ≡ link_to inst word =
    ap (λ z. id_html z (37 ∷ ds)) o2 ∙ (ap (link_to inst) (id_escaped d ds inst (sym o2)) ∙ ap (link_to inst) (sym v))
    in
    let b : drop (1 + k) (x ∷ xs) ≡ behind_digits xs = ap (λ z. drop z (x ∷ xs)) o ∙ ap (λ z. drop z xs) e in
    let m = prefix_len-le-length is_digit xs in
    record {
      within = omega (arith, e, m);
      ascii = word_ascii (x ∷ xs) k l f e;
      all = λ q g.
          ap (λ z. z ++ linked d q (drop (1 + k) (x ∷ xs))) a.all
          ∙ (append_assoc (take at old) (link_to inst word) (linked d q (drop (1 + k) (x ∷ xs)))
          ∙ ap (λ z. take at old ++ z) (ap (λ z. link_to inst word ++ linked d q z) b
          ∙ (ap (λ z. z ++ linked d q (behind_digits xs)) (sym c)
          ∙ (sym (id_linked d q xs g) ∙ ap (λ z. linked d q (z ∷ xs)) (sym x37)))));
      utf8 = a.utf8;
    }

-- what is left of a line
pub front_ends : (d : ℕ → Option ℕ) (line : List ℕ) (n at end : ℕ) (old new : List ℕ) → IsUtf8 line
    → IsFront d line n at end old new → IsCharBoundary line n
front_ends d line n at end old new u f = IsCharBoundary-from_take line n u f.within (ascii_utf8 (take n line) f.ascii)
