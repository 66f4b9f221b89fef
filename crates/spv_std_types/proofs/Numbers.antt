-- The numbers of the lines are those of the first lines that have the numbers of OpenCL.std.
use Rattle.std.proofs.Common.{◌≡◌, ◌∙◌, ◌<◌, ◌≤◌, ◌+◌, ℕ, zero, suc, nat_le, nat_lt, List, [], ◌∷◌, refl, sym, ap, Bool}
use Rattle.std.proofs.Common.{true, false, arith, ◌&&◌, ◌||◌, if◌then◌else◌, Some, None}
use Rattle.std.specs.Prelude.{slice_get, slice_index}
use Rattle.std.proofs.lemmas.Bool.{and_parts, ltb-true, lt-leb}
use Rattle.std.proofs.lemmas.Option.{get_or_from_slice_get}
use Rattle.spv_std_types.specs.declared.condition.Condition.{Condition}
use Rattle.spv_std_types.specs.declared.table.TheConstants.{NUMBERS}
use Rattle.spv_std_types.specs.Table.{Line, conditions_in, is_among, lines}
use Rattle.spv_std_types.specs.inner.Table.{asked_by}

-- the number of the first line that has the number, counted on from k, or 255 where there is none
position_from : List Line → ℕ → ℕ → ℕ
position_from [] k n = 255
position_from (l ∷ ls) k n = if is_among l.0.now n then k else position_from ls (suc k) n

found : (b : Bool) (l : Line) (full : List Line) (k p : ℕ) (cs : List Condition) → slice_get full k ≡ Some l
    → asked_by (slice_get full p) ≡ cs → asked_by (slice_get full (if b then k else p)) ≡ (if b then l.1.now else cs)
found true l full k p cs h g = ap asked_by h
found false l full k p cs h g = g

-- where the lines are those of a full list from k on
at_position : (full ls : List Line) (k n : ℕ) → slice_get full 255 ≡ None
    → ((j : ℕ) → slice_get ls j ≡ slice_get full (k + j))
    → asked_by (slice_get full (position_from ls k n)) ≡ conditions_in ls n
unfolding position_from
at_position full [] k n e h = ap asked_by e
at_position full (l ∷ ls) k n e h =
    let z : k + 0 ≡ k = omega arith in
    let here : slice_get full k ≡ Some l = ap (slice_get full) (sym z) ∙ sym (h 0) in
    let further : (j : ℕ) → slice_get ls j ≡ slice_get full (suc k + j) =
    λ j. let s : k + suc j ≡ suc k + j = omega arith in h (suc j) ∙ ap (slice_get full) s in
    found (is_among l.0.now n) l full k (position_from ls (suc k) n) (conditions_in ls n) here
    (at_position full ls (suc k) n e further)

-- no line has the number 255
none_past : slice_get lines 255 ≡ None
unfolding lines
none_past = refl

same_places : (j : ℕ) → slice_get lines j ≡ slice_get lines (0 + j)
same_places j = let z : j ≡ 0 + j = omega arith in ap (slice_get lines) z

-- the positions of count numbers, from n on
positions : List Line → ℕ → ℕ → List ℕ
positions ls n zero = []
positions ls n (suc count) = position_from ls 0 n ∷ positions ls (n + 1) count

agree : NUMBERS ≡ positions lines 0 205
unfolding positions position_from lines
agree = refl

position_at : (ls : List Line) (n count k : ℕ) → k < count
    → slice_get (positions ls n count) k ≡ Some (position_from ls 0 (n + k))
unfolding positions
position_at ls n zero k h = absurd (omega arith)
position_at ls n (suc count) zero h = let e : n ≡ n + 0 = omega arith in ap (λ m. Some (position_from ls 0 m)) e
position_at ls n (suc count) (suc k) h =
    let e : (n + 1) + k ≡ n + suc k = omega arith in
    position_at ls (n + 1) count k (omega arith) ∙ ap (λ m. Some (position_from ls 0 m)) e

-- a number that is in the list
pub listed : (n : ℕ) → n < 205 → asked_by (slice_get lines (slice_index NUMBERS n)) ≡ conditions_in lines n
listed n h =
    let z : 0 + n ≡ n = omega arith in
    let at : slice_get NUMBERS n ≡ Some (position_from lines 0 n) =
    ap (λ ns. slice_get ns n) agree ∙ position_at lines 0 205 n h ∙ ap (λ m. Some (position_from lines 0 m)) z in
    ap (λ p. asked_by (slice_get lines p)) (get_or_from_slice_get NUMBERS n (position_from lines 0 n) 0 at)
    ∙ at_position lines lines 0 n none_past same_places

-- the numbers of all these lines are below n
ranges_below : List (ℕ × ℕ) → ℕ → Bool
ranges_below [] n = true
ranges_below (r ∷ rs) n = nat_lt r.1 n && ranges_below rs n

are_below : List Line → ℕ → Bool
are_below [] n = true
are_below (l ∷ ls) n = ranges_below l.0.now n && are_below ls n

all_below : are_below lines 205 ≡ true
unfolding ranges_below are_below lines
all_below = refl

neither : (a b c : Bool) → b ≡ false → c ≡ false → ((a && b) || c) ≡ false
neither true b c h g = rw h g
neither false b c h g = g

not_among : (rs : List (ℕ × ℕ)) (m n : ℕ) → ranges_below rs m ≡ true → m ≤ n → is_among rs n ≡ false
unfolding ranges_below
not_among [] m n h l = refl
not_among (r ∷ rs) m n h l =
    let p = and_parts (nat_lt r.1 m) (ranges_below rs m) h in
    let t : r.1 < m = ltb-true r.1 m p.0 in
    let f : nat_le n r.1 ≡ false = lt-leb n r.1 (omega (arith, t, l)) in
    neither (nat_le r.0 n) (nat_le n r.1) (is_among rs n) f (not_among rs m n p.1 l)

skipped : (ls : List Line) (m n : ℕ) → are_below ls m ≡ true → m ≤ n → conditions_in ls n ≡ []
unfolding are_below
skipped [] m n h l = refl
skipped (k ∷ ls) m n h l =
    let p = and_parts (ranges_below k.0.now m) (are_below ls m) h in
    ap (λ (b : Bool). if b then k.1.now else conditions_in ls n) (not_among k.0.now m n p.0 l)
    ∙ skipped ls m n p.1 l

-- a number behind all of the list
pub unlisted : (n : ℕ) → 205 ≤ n → conditions_in lines n ≡ []
unlisted n h = skipped lines 205 n all_below h
