-- The parts of the table: where the line of a number stands in them.
use Rattle.std.proofs.Common.{◌≡◌, ◌≤◌, ◌<◌, ◌+◌, ◌-◌, ◌++◌, ◌∙◌, ℕ, zero, suc, List, [], ◌∷◌, refl, ap, length, arith}
use Rattle.std.specs.Prelude.{slice_get}
use Rattle.spv_ops.specs.declared.table.TheConstants.{TABLE, FURTHER, OBJECTS, FURTHER_FROM, OBJECTS_FROM}
use Rattle.spv_ops.specs.Table.{Line, lines}

in_front : (xs ys : List Line) (k : ℕ) → k < length xs → slice_get (xs ++ ys) k ≡ slice_get xs k
in_front [] ys k h = absurd (omega (arith, h))
in_front (x ∷ xs) ys zero h = refl
in_front (x ∷ xs) ys (suc k) h = in_front xs ys k (omega (arith, h))

behind : (xs ys : List Line) (k : ℕ) → length xs ≤ k → slice_get (xs ++ ys) k ≡ slice_get ys (k - length xs)
behind [] ys k h = let e : k ≡ k - 0 = omega arith in ap (slice_get ys) e
behind (x ∷ xs) ys zero h = absurd (omega (arith, h))
behind (x ∷ xs) ys (suc k) h =
    let e : k - length xs ≡ suc k - length (x ∷ xs) = omega arith in
    behind xs ys k (omega (arith, h)) ∙ ap (slice_get ys) e

first_length : length TABLE ≡ FURTHER_FROM
first_length = refl

further_length : FURTHER_FROM + length FURTHER ≡ OBJECTS_FROM
further_length = refl

pub first_part : (k : ℕ) → k < FURTHER_FROM → slice_get lines k ≡ slice_get TABLE k
unfolding lines
first_part k h = in_front TABLE (FURTHER ++ OBJECTS) k (let e = first_length in omega (arith, e, h))

past_first : (k : ℕ) → FURTHER_FROM ≤ k → slice_get lines k ≡ slice_get (FURTHER ++ OBJECTS) (k - FURTHER_FROM)
unfolding lines
past_first k h =
    let e = first_length in
    behind TABLE (FURTHER ++ OBJECTS) k (omega (arith, e, h)) ∙ ap (λ m. slice_get (FURTHER ++ OBJECTS) (k - m)) e

pub further_part : (k : ℕ) → FURTHER_FROM ≤ k → k < OBJECTS_FROM
    → slice_get lines k ≡ slice_get FURTHER (k - FURTHER_FROM)
further_part k h l =
    let e = further_length in
    past_first k h ∙ in_front FURTHER OBJECTS (k - FURTHER_FROM) (omega (arith, e, h, l))

pub last_part : (k : ℕ) → OBJECTS_FROM ≤ k → slice_get lines k ≡ slice_get OBJECTS (k - OBJECTS_FROM)
last_part k h =
    let e = further_length in
    let low : FURTHER_FROM ≤ k = omega (arith, e, h) in
    let less : (k - FURTHER_FROM) - length FURTHER ≡ k - OBJECTS_FROM = omega (arith, e, h) in
    past_first k low ∙ behind FURTHER OBJECTS (k - FURTHER_FROM) (omega (arith, e, h)) ∙ ap (slice_get OBJECTS) less
