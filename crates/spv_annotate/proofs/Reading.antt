-- What is read of HTML, piece by piece.
use Rattle.std.proofs.Common.{◌≡◌, ◌++◌, ◌∙◌, ◌<◌, ◌/◌, ◌%◌, ℕ, zero, suc, List, [], ◌∷◌, Bool, true, false, not, ◌&&◌}
use Rattle.std.proofs.Common.{refl, sym, ap, arith, append_assoc, append-nil}
use Rattle.std.specs.Prelude.{flat_map, ◌==◌, decimal}
use Rattle.std.specs.Fmt.{digits, digits_onto, digit_glyph}
use Rattle.std.specs.List.{list_all}
use Rattle.std.proofs.lemmas.Bool.Decides.{nat_tests}
use Rattle.spv_annotate.specs.Html.{escaped, escaped_byte, is_harmless, untagged, read_from, InTag}

-- HTML is read as a text, whatever follows it
abbrev pub Reads : List ℕ → List ℕ → Type 0
Reads html text = (more : List ℕ) → untagged (html ++ more) ≡ text ++ untagged more

pub reads_none : Reads [] []
reads_none more = refl

pub reads_both : (a b s t : List ℕ) → Reads a s → Reads b t → Reads (a ++ b) (s ++ t)
reads_both a b s t f g more =
    ap untagged (append_assoc a b more) ∙ (f (b ++ more)
    ∙ (ap (λ z. s ++ z) (g more) ∙ sym (append_assoc s t (untagged more))))

pub reads_each : {X : Type 0} (f g : X → List ℕ) → ((x : X) → Reads (f x) (g x)) → (xs : List X)
    → Reads (flat_map f xs) (flat_map g xs)
reads_each f g h [] = reads_none
reads_each f g h (x ∷ xs) = reads_both (f x) (flat_map f xs) (g x) (flat_map g xs) (h x) (reads_each f g h xs)

pub reads_whole : (html text : List ℕ) → Reads html text → untagged html ≡ text
reads_whole html text h = ap untagged (sym (append-nil html)) ∙ (h [] ∙ append-nil text)

eq_by : (a b : ℕ) → (a == b) ≡ true → a ≡ b
eq_by a b e = grind (arith, nat_tests)

reads_byte : (b : ℕ) → Reads (escaped_byte b) (b ∷ [])
reads_byte b more = first (b == 60) refl
  where
    fifth : (x : Bool) → (b == 39) ≡ x → (b == 60) ≡ false → (b == 62) ≡ false → (b == 38) ≡ false → (b == 34) ≡ false
        → untagged (escaped_byte b ++ more) ≡ b ∷ untagged more
    fifth true e f g h i = rw (f, g, h, i, e, eq_by b 39 e) refl
    fifth false e f g h i = rw (f, g, h, i, e, f, h) refl

    fourth : (x : Bool) → (b == 34) ≡ x → (b == 60) ≡ false → (b == 62) ≡ false → (b == 38) ≡ false
        → untagged (escaped_byte b ++ more) ≡ b ∷ untagged more
    fourth true e f g h = rw (f, g, h, e, eq_by b 34 e) refl
    fourth false e f g h = fifth (b == 39) refl f g h e

    third : (x : Bool) → (b == 38) ≡ x → (b == 60) ≡ false → (b == 62) ≡ false
        → untagged (escaped_byte b ++ more) ≡ b ∷ untagged more
    third true e f g = rw (f, g, e, eq_by b 38 e) refl
    third false e f g = fourth (b == 34) refl f g e

    second : (x : Bool) → (b == 62) ≡ x → (b == 60) ≡ false → untagged (escaped_byte b ++ more) ≡ b ∷ untagged more
    second true e f = rw (f, e, eq_by b 62 e) refl
    second false e f = third (b == 38) refl f e

    first : (x : Bool) → (b == 60) ≡ x → untagged (escaped_byte b ++ more) ≡ b ∷ untagged more
    first true e = rw (e, eq_by b 60 e) refl
    first false e = second (b == 62) refl e

each_byte : (text : List ℕ) → flat_map (λ b. b ∷ []) text ≡ text
each_byte [] = refl
each_byte (b ∷ text) = ap (λ z. b ∷ z) (each_byte text)

pub reads_escaped : (text : List ℕ) → Reads (escaped text) text
reads_escaped text more =
    reads_each escaped_byte (λ b. b ∷ []) reads_byte text more ∙ ap (λ z. z ++ untagged more) (each_byte text)

-- no byte of a text ends a tag
abbrev pub is_inside : List ℕ → Bool
is_inside tag = list_all (λ b. not (b == 62)) tag

both : (a b : Bool) → (a && b) ≡ true → (a ≡ true) × (b ≡ true)
both true b h = (refl, h)
both false b h = cc

-- such a text is not read in a tag
skips : (tag more : List ℕ) → is_inside tag ≡ true → read_from InTag (tag ++ more) ≡ read_from InTag more
skips [] more h = refl
skips (b ∷ tag) more h =
    by (b == 62) refl (both (not (b == 62)) (is_inside tag) h).0
    (skips tag more (both (not (b == 62)) (is_inside tag) h).1)
  where
    by : (x : Bool) → (b == 62) ≡ x → not (b == 62) ≡ true → read_from InTag (tag ++ more) ≡ read_from InTag more
        → read_from InTag (b ∷ (tag ++ more)) ≡ read_from InTag more
    by true e f g = absurd (let k : false ≡ true = sym (ap not e) ∙ f in cc)
    by false e f g = rw e g

pub inside_both : (a b : List ℕ) → is_inside a ≡ true → is_inside b ≡ true → is_inside (a ++ b) ≡ true
inside_both [] b h g = g
inside_both (x ∷ a) b h g =
    let p = both (not (x == 62)) (is_inside a) h in
    rw (p.0) (inside_both a b p.1 g)

-- HTML behind a tag
pub reads_tag : (tag html text : List ℕ) → is_inside tag ≡ true → Reads html text
    → Reads (60 ∷ (tag ++ (62 ∷ html))) text
reads_tag tag html text h r more =
    ap (read_from InTag) (append_assoc tag (62 ∷ html) more) ∙ (skips tag (62 ∷ (html ++ more)) h ∙ r more)

glyph_inside : (n : ℕ) → not (digit_glyph false (n % 10) == 62) ≡ true
glyph_inside n = let l : n % 10 < 10 = omega arith in grind (arith, nat_tests)

digits_inside : (k n : ℕ) (acc : List ℕ) → is_inside acc ≡ true → is_inside (digits_onto k 10 false n acc) ≡ true
digits_inside zero n acc h = h
digits_inside (suc k) n acc h =
    by (n / 10 == 0) refl (rw (glyph_inside n) h)
    (digits_inside k (n / 10) (digit_glyph false (n % 10) ∷ acc) (rw (glyph_inside n) h))
  where
    by : (x : Bool) → (n / 10 == 0) ≡ x → is_inside (digit_glyph false (n % 10) ∷ acc) ≡ true
        → is_inside (digits_onto k 10 false (n / 10) (digit_glyph false (n % 10) ∷ acc)) ≡ true
        → is_inside (digits_onto (suc k) 10 false n acc) ≡ true
    by true e f g = rw e f
    by false e f g = rw e g

pub decimal_inside : (n : ℕ) → is_inside (decimal n) ≡ true
unfolding digits
decimal_inside n = digits_inside 64 n [] refl

-- what is written of a text begins and ends no tag
harmless_both : (a b : List ℕ) → list_all is_harmless a ≡ true → list_all is_harmless b ≡ true
    → list_all is_harmless (a ++ b) ≡ true
harmless_both [] b h g = g
harmless_both (x ∷ a) b h g =
    let p = both (is_harmless x) (list_all is_harmless a) h in
    rw (p.0) (harmless_both a b p.1 g)

harmless_byte : (b : ℕ) → list_all is_harmless (escaped_byte b) ≡ true
harmless_byte b = first (b == 60) refl
  where
    fifth : (x : Bool) → (b == 39) ≡ x → (b == 60) ≡ false → (b == 62) ≡ false → (b == 38) ≡ false → (b == 34) ≡ false
        → list_all is_harmless (escaped_byte b) ≡ true
    fifth true e f g h i = rw (f, g, h, i, e) refl
    fifth false e f g h i = rw (f, g, h, i, e, f, g, i, e) refl

    fourth : (x : Bool) → (b == 34) ≡ x → (b == 60) ≡ false → (b == 62) ≡ false → (b == 38) ≡ false
        → list_all is_harmless (escaped_byte b) ≡ true
    fourth true e f g h = rw (f, g, h, e) refl
    fourth false e f g h = fifth (b == 39) refl f g h e

    third : (x : Bool) → (b == 38) ≡ x → (b == 60) ≡ false → (b == 62) ≡ false
        → list_all is_harmless (escaped_byte b) ≡ true
    third true e f g = rw (f, g, e) refl
    third false e f g = fourth (b == 34) refl f g e

    second : (x : Bool) → (b == 62) ≡ x → (b == 60) ≡ false → list_all is_harmless (escaped_byte b) ≡ true
    second true e f = rw (f, e) refl
    second false e f = third (b == 38) refl f e

    first : (x : Bool) → (b == 60) ≡ x → list_all is_harmless (escaped_byte b) ≡ true
    first true e = rw e refl
    first false e = second (b == 62) refl e

pub harmless : (text : List ℕ) → list_all is_harmless (escaped text) ≡ true
harmless [] = refl
harmless (b ∷ text) = harmless_both (escaped_byte b) (escaped text) (harmless_byte b) (harmless text)
