-- The codes of rows, and after them those of errors.
use Rattle.std.proofs.Common.{◌≡◌, ◌≤◌, ◌-◌, ◌++◌, ◌∙◌, ℕ, zero, suc, List, [], ◌∷◌, Some, refl, ap, arith, length, map, slice_get}
use Rattle.spv_rules.specs.declared.errors.AnyCode.{AnyCode}
use Rattle.spv_rules.specs.declared.errors.AnyCode.TheVariants.{Verdict, Error}
use Rattle.spv_rules.specs.Errors.{error_codes}
use Rattle.spv_rules.specs.Codes.{all_codes}
use Rattle.spv_rules.specs.Table.{Row, row_count, rows}

among_first : (xs : List Row) (ys : List AnyCode) (k : ℕ) (row : Row) → slice_get xs k ≡ Some row
    → slice_get (map (λ (r : Row). Verdict r.0) xs ++ ys) k ≡ Some (Verdict row.0)
among_first [] ys k row e = absurd cc
among_first (x ∷ xs) ys zero row e = let s : x ≡ row = cc in ap (λ (r : Row). Some (Verdict r.0)) s
among_first (x ∷ xs) ys (suc k) row e = among_first xs ys k row e

among_last : (xs : List Row) (ys : List AnyCode) (k : ℕ) → length xs ≤ k
    → slice_get (map (λ (r : Row). Verdict r.0) xs ++ ys) k ≡ slice_get ys (k - length xs)
among_last [] ys k l = let e : k - 0 ≡ k = omega arith in rw e refl
among_last (x ∷ xs) ys zero l = absurd (omega (arith, l))
among_last (x ∷ xs) ys (suc k) l = let e : suc k - suc (length xs) ≡ k - length xs = omega arith in rw e (among_last xs ys k (omega (arith, l)))

rows_long : length rows ≡ row_count
unfolding rows
rows_long = refl

pub verdict_at : (k : ℕ) (row : Row) → slice_get rows k ≡ Some row → slice_get all_codes k ≡ Some (Verdict row.0)
unfolding all_codes
verdict_at k row e = among_first rows (map Error error_codes) k row e

pub error_at : (k : ℕ) → row_count ≤ k → slice_get all_codes k ≡ slice_get (map Error error_codes) (k - row_count)
unfolding all_codes
error_at k l =
    let m : length rows ≤ k = omega (arith, rows_long) in
    among_last rows (map Error error_codes) k m ∙ ap (λ n. slice_get (map Error error_codes) (k - n)) rows_long
