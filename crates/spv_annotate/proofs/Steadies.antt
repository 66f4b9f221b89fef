-- Parts of a line that hold no id, and comments that stand for themselves.
use Rattle.std.proofs.Common.{◌≡◌, ◌++◌, ◌∙◌, ◌<◌, ◌≤◌, ◌+◌, ℕ, zero, suc, List, [], ◌∷◌, Option, Some, None, Bool}
use Rattle.std.proofs.Common.{true, false, ◌&&◌, length, drop, get_or, refl, ap, arith, append-nil}
use Rattle.std.specs.Prelude.{◌==◌, option_and_then}
use Rattle.std.specs.List.{flat_map, list_all, onto_first}
use Rattle.std.proofs.lemmas.Bool.Decides.{nat_tests}
use Rattle.spv_lines.specs.Digits.{is_digit, is_lean}
use Rattle.spv_annotate.specs.declared.linked.Quoting.{Quoting}
use Rattle.spv_annotate.specs.declared.linked.Quoting.TheVariants.{Outside, Within, Behind, Commented}
use Rattle.spv_annotate.specs.Html.{escaped, escaped_byte}
use Rattle.spv_annotate.specs.Page.{cut_from, id_of, linked, part_html}
use Rattle.spv_annotate.specs.Quoted.{after_byte, begins_id}
use Rattle.spv_annotate.specs.inner.Linked.{base, is_bare_byte, is_steady, until_id}

pub steady_begins : (q : Quoting) (b : ℕ) → is_steady b ≡ true → begins_id q b ≡ false
steady_begins Outside b h = grind (arith, nat_tests)
steady_begins Within b h = refl
steady_begins Behind b h = refl
steady_begins Commented b h = grind (arith, nat_tests)

pub steady_after : (q : Quoting) (b : ℕ) → base q ≡ q → is_steady b ≡ true → after_byte q b ≡ q
steady_after Outside b e h = let f : (b == 34) ≡ false = grind (arith, nat_tests) in rw f refl
steady_after Within b e h = cc
steady_after Behind b e h = cc
steady_after Commented b e h = refl

-- steady bytes stand before the next id
pub until_skip : (q : Quoting) (line : List ℕ) (n : ℕ) → base q ≡ q → n ≤ length line
    → ((k : ℕ) → k < n → is_steady (get_or line k 0) ≡ true) → until_id q line ≡ n + until_id q (drop n line)
until_skip q line zero e l h = omega arith
until_skip q [] (suc n) e l h = absurd (omega arith)
until_skip q (b ∷ line) (suc n) e l h =
    let s = h 0 (omega arith) in
    let f = steady_begins q b s in
    let g = steady_after q b e s in
    let m : n ≤ length line = omega arith in
    let r = until_skip q line n e m (λ k i. h (suc k) (omega arith)) in
    rw (f, g) (omega (arith, r))

both : (a b : Bool) → (a && b) ≡ true → (a ≡ true) × (b ≡ true)
both true b h = (refl, h)
both false b h = cc

bare_mark : (b : ℕ) → is_bare_byte b ≡ true → (b == 37) ≡ false
bare_mark b h = grind (arith, nat_tests)

pub bare_byte : (b : ℕ) → is_bare_byte b ≡ true → escaped_byte b ≡ b ∷ []
bare_byte b h = grind (arith, nat_tests)

bare_escaped : (t : List ℕ) → list_all is_bare_byte t ≡ true → escaped t ≡ t
bare_escaped [] h = refl
bare_escaped (b ∷ t) h =
    let r = both (is_bare_byte b) (list_all is_bare_byte t) h in
    ap (λ z. z ++ escaped t) (bare_byte b r.0) ∙ ap (λ z. b ∷ z) (bare_escaped t r.1)

bare_cut : (t : List ℕ) → list_all is_bare_byte t ≡ true → cut_from Commented t ≡ t ∷ []
bare_cut [] h = refl
bare_cut (b ∷ t) h =
    let r = both (is_bare_byte b) (list_all is_bare_byte t) h in
    let e = bare_mark b r.0 in
    rw e (ap (onto_first b) (bare_cut t r.1))

bare_part : (d : ℕ → Option ℕ) (t : List ℕ) → list_all is_bare_byte t ≡ true → part_html d t ≡ t
bare_part d [] h = refl
bare_part d (b ∷ t) h =
    let r = both (is_bare_byte b) (list_all is_bare_byte t) h in
    let e = bare_mark b r.0 in
    rw e (bare_escaped (b ∷ t) h)

-- a comment of such bytes stands as it is
pub bare_linked : (d : ℕ → Option ℕ) (t : List ℕ) → list_all is_bare_byte t ≡ true → linked d Commented t ≡ t
bare_linked d t h = ap (flat_map (part_html d)) (bare_cut t h) ∙ (append-nil (part_html d t) ∙ bare_part d t h)

digit_bare : (b : ℕ) → is_digit b ≡ true → is_bare_byte b ≡ true
digit_bare b h = grind (arith, nat_tests)

digits_bare : (t : List ℕ) → list_all is_digit t ≡ true → list_all is_bare_byte t ≡ true
digits_bare [] h = refl
digits_bare (b ∷ t) h =
    let r = both (is_digit b) (list_all is_digit t) h in
    rw (digit_bare b r.0) (digits_bare t r.1)

-- the digits of an id stand for themselves
pub id_escaped : (d : ℕ → Option ℕ) (ds : List ℕ) (n : ℕ) → Some n ≡ option_and_then d (id_of ds)
    → escaped (37 ∷ ds) ≡ 37 ∷ ds
id_escaped d ds n h = by (is_lean ds) (list_all is_digit ds) refl refl
  where
    by : (x y : Bool) → is_lean ds ≡ x → list_all is_digit ds ≡ y → escaped (37 ∷ ds) ≡ 37 ∷ ds
    by true true e f = ap (λ z. 37 ∷ z) (bare_escaped ds (digits_bare ds f))
    by true false e f = let k : Some n ≡ None = rw (e, f) at h in cc
    by false y e f = let k : Some n ≡ None = rw e at h in cc
