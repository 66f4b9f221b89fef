-- The numbers of the rows are those of the first rows that have the opcodes.
use Rattle.std.proofs.Common.{◌≡◌, ◌∙◌, ◌<◌, ◌≤◌, ◌+◌, ℕ, zero, suc, nat_le, nat_lt, List, [], ◌∷◌, refl, sym, ap, inl, inr, Bool, true, false, ◌&&◌, if◌then◌else◌, Option, Some, None, length, take, drop, arith}
use Rattle.std.specs.Prelude.{slice_get}
use Rattle.std.proofs.lemmas.Bool.{ltb-true, lt-leb}
use Rattle.std.proofs.lemmas.Bool.Decides.{leb_tells}
use Rattle.spv_layout.specs.Row.{PlainRow, row_in}
use Rattle.spv_layout.specs.declared.rows.TheConstants.{NUMBERS, NUMBERED}
use Rattle.spv_layout.specs.inner.Row.{listed, numbered}
use Rattle.spv_layout.specs.Rows.{rows, row_of}
use Rattle.spv_layout.proofs.Derivatives.{both_hold}

-- the number of the first row that has the opcode, counted on from k, or 255 where there is none
position_from : List PlainRow → ℕ → ℕ → ℕ
position_from [] k n = 255
position_from (r ∷ rs) k n = if nat_le r.from n && nat_le n r.to then k else position_from rs (suc k) n

found : (b : Bool) (r : PlainRow) (full : List PlainRow) (k p : ℕ) (o : Option PlainRow) → slice_get full k ≡ Some r
    → slice_get full p ≡ o → slice_get full (if b then k else p) ≡ (if b then Some r else o)
found true r full k p o h g = h
found false r full k p o h g = g

-- where the rows are those of a full list from k on
at_position : (full rs : List PlainRow) (k n : ℕ) → slice_get full 255 ≡ None
    → ((j : ℕ) → slice_get rs j ≡ slice_get full (k + j)) → slice_get full (position_from rs k n) ≡ row_in rs n
unfolding position_from
at_position full [] k n e h = e
at_position full (r ∷ rs) k n e h =
    let z : k + 0 ≡ k = omega arith in
    let here : slice_get full k ≡ Some r = ap (slice_get full) (sym z) ∙ sym (h 0) in
    let further : (j : ℕ) → slice_get rs j ≡ slice_get full (suc k + j) =
    λ j. let s : k + suc j ≡ suc k + j = omega arith in h (suc j) ∙ ap (slice_get full) s in
    found (nat_le r.from n && nat_le n r.to) r full k (position_from rs (suc k) n) (row_in rs n) here
    (at_position full rs (suc k) n e further)

-- no row has the number 255
none_past : slice_get rows 255 ≡ None
unfolding rows
none_past = refl

same_places : (j : ℕ) → slice_get rows j ≡ slice_get rows (0 + j)
same_places j = let z : j ≡ 0 + j = omega arith in ap (slice_get rows) z

-- the positions of count opcodes, from n on
positions : List PlainRow → ℕ → ℕ → List ℕ
positions rs n zero = []
positions rs n (suc count) = position_from rs 0 n ∷ positions rs (n + 1) count

-- there is a number for each opcode up to the last one of the rows
count : ℕ
count = length NUMBERS

agree : NUMBERS ≡ positions rows 0 count
unfolding count positions position_from rows
agree = refl

position_at : (rs : List PlainRow) (n count k : ℕ) → k < count → slice_get (positions rs n count) k ≡ Some (position_from rs 0 (n + k))
unfolding positions
position_at rs n zero k h = absurd (omega arith)
position_at rs n (suc count) zero h = let e : n ≡ n + 0 = omega arith in ap (λ m. Some (position_from rs 0 m)) e
position_at rs n (suc count) (suc k) h =
    let e : (n + 1) + k ≡ n + suc k = omega arith in
    position_at rs (n + 1) count k (omega arith) ∙ ap (λ m. Some (position_from rs 0 m)) e

-- the opcodes of all these rows are below n
are_below : List PlainRow → ℕ → Bool
are_below [] n = true
are_below (r ∷ rs) n = nat_lt r.to n && are_below rs n

all_below : are_below (take NUMBERED rows) count ≡ true
unfolding count are_below rows
all_below = refl

passed : (a b : Bool) (r : PlainRow) (o : Option PlainRow) → b ≡ false → (if a && b then Some r else o) ≡ o
passed true b r o h = rw h refl
passed false b r o h = refl

skipped : (k : ℕ) (rs : List PlainRow) (m n : ℕ) → are_below (take k rs) m ≡ true → m ≤ n → row_in rs n ≡ row_in (drop k rs) n
unfolding are_below
skipped zero rs m n h l = refl
skipped (suc k) [] m n h l = refl
skipped (suc k) (r ∷ rs) m n h l =
    let p = both_hold (nat_lt r.to m) (are_below (take k rs) m) h in
    let t : r.to < m = ltb-true r.to m p.0 in
    let f : nat_le n r.to ≡ false = lt-leb n r.to (omega arith) in
    passed (nat_le r.from n) (nat_le n r.to) r (row_in rs n) f ∙ skipped k rs m n p.1 l

-- an opcode that has a number, one that has none, and each
numbered_row : (n : ℕ) → n < length NUMBERS → numbered rows (slice_get NUMBERS n) ≡ row_of n
unfolding count
numbered_row n h =
    let z : 0 + n ≡ n = omega arith in
    ap (λ ns. numbered rows (slice_get ns n)) agree ∙ ap (numbered rows) (position_at rows 0 count n h) ∙ at_position rows rows 0 (0 + n) none_past same_places ∙ ap row_of z

far_row : (n : ℕ) → length NUMBERS ≤ n → row_in (drop NUMBERED rows) n ≡ row_of n
unfolding count
far_row n h = sym (skipped NUMBERED rows count n all_below h)

pub listed_row : (n : ℕ) → listed NUMBERS rows NUMBERED n ≡ row_of n
listed_row n = elim (leb_tells (suc n) (length NUMBERS)) [
  | inl t ↦ (let e : nat_lt n (length NUMBERS) ≡ true = t.0 in rw e (numbered_row n (omega (arith, t.1))))
  | inr t ↦ (let e : nat_lt n (length NUMBERS) ≡ false = t.0 in rw e (far_row n (omega (arith, t.1))))
]
