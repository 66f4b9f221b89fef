-- The rows of a function by the place of its OpFunction.
use Rattle.std.proofs.Common.{◌≡◌, ◌<◌, ◌≤◌, ◌+◌, ℕ, zero, suc, Bool, not, cond, List, [], ◌∷◌, length, take, drop}
use Rattle.std.proofs.Common.{refl, ap, ◌∙◌, arith}
use Rattle.std.specs.List.{position_or_len}
use Rattle.spv_module.specs.Operand.{PlainInst}
use Rattle.spv_pictures.specs.Blocks.{Row, rows_from, function_rows}
use Rattle.spv_pictures.specs.Function.{ends_function, is_function}
use Rattle.spv_pictures.specs.inner.Rows.{rows_at}
use Rattle.spv_pictures.proofs.Grouped.{first_group, no_group}

rows-drop : (n : ℕ) (is : List PlainInst) (ls : List (List ℕ)) (k : ℕ) → length is ≤ length ls
    → drop k (rows_from n is ls) ≡ rows_from (n + k) (drop k is) (drop k ls)
rows-drop n is ls zero h = ap (λ m. rows_from m is ls) (omega arith)
rows-drop n [] ls (suc k) h = refl
rows-drop n (i ∷ is) [] (suc k) h = absurd (omega arith)
rows-drop n (i ∷ is) (l ∷ ls) (suc k) h =
    rows-drop (n + 1) is ls k (omega arith) ∙ ap (λ m. rows_from m (drop k is) (drop k ls)) (omega arith)

rows-take : (n : ℕ) (is : List PlainInst) (ls : List (List ℕ)) (k : ℕ)
    → take k (rows_from n is ls) ≡ rows_from n (take k is) ls
rows-take n is ls zero = refl
rows-take n [] ls (suc k) = refl
rows-take n (i ∷ is) [] (suc k) = refl
rows-take n (i ∷ is) (l ∷ ls) (suc k) =
    ap (λ z. record { number = n; inst = i; line = l } ∷ z) (rows-take (n + 1) is ls k)

rows-position : (p : PlainInst → Bool) (n : ℕ) (is : List PlainInst) (ls : List (List ℕ)) → length is ≤ length ls
    → position_or_len (λ (r : Row). p r.inst) (rows_from n is ls) ≡ position_or_len p is
rows-position p n [] ls h = refl
rows-position p n (i ∷ is) [] h = absurd (omega arith)
rows-position p n (i ∷ is) (l ∷ ls) h =
    ap (λ m. cond (not (p i)) (1 + m) 0) (rows-position p (n + 1) is ls (omega arith))

rows-length : (n : ℕ) (is : List PlainInst) (ls : List (List ℕ)) → length is ≤ length ls
    → length (rows_from n is ls) ≡ length is
rows-length n [] ls h = refl
rows-length n (i ∷ is) [] h = absurd (omega arith)
rows-length n (i ∷ is) (l ∷ ls) h = ap suc (rows-length (n + 1) is ls (omega arith))

-- lines behind those of the instructions are not looked at
pub rows_of_lines : (n : ℕ) (is : List PlainInst) (ls : List (List ℕ)) (k : ℕ) → length is ≤ k
    → rows_from n is (take k ls) ≡ rows_from n is ls
rows_of_lines n [] ls k h = refl
rows_of_lines n (i ∷ is) ls zero h = absurd (omega arith)
rows_of_lines n (i ∷ is) [] (suc k) h = refl
rows_of_lines n (i ∷ is) (l ∷ ls) (suc k) h =
    ap (λ z. record { number = n; inst = i; line = l } ∷ z) (rows_of_lines (n + 1) is ls k (omega arith))

drop_le : {A B : Type 0} (k : ℕ) (xs : List A) (ys : List B) → length xs ≤ length ys
    → length (drop k xs) ≤ length (drop k ys)
drop_le zero xs ys h = h
drop_le (suc k) [] ys h = omega arith
drop_le (suc k) (x ∷ xs) [] h = absurd (omega arith)
drop_le (suc k) (x ∷ xs) (y ∷ ys) h = drop_le k xs ys (omega arith)

-- the rows of the first function with an id
pub rows_at_place : (x : ℕ) (is : List PlainInst) (ls : List (List ℕ)) (n : ℕ) → length is ≤ length ls
    → position_or_len (is_function x) is ≡ n → n < length is
    → function_rows x (rows_from 0 is ls) ≡ rows_at n is ls
rows_at_place x is ls n h e l =
    let rows = rows_from 0 is ls in
    let p : position_or_len (λ (r : Row). is_function x r.inst) rows ≡ n = rows-position (is_function x) 0 is ls h
    ∙ e in
    let m : n < length rows = let q = rows-length 0 is ls h in omega (arith, q) in
    let g = first_group (λ (r : Row). is_function x r.inst) (λ (r : Row). ends_function r.inst.opcode) rows n p m in
    let d : drop n rows ≡ rows_from n (drop n is) (drop n ls) = rows-drop 0 is ls n h
    ∙ ap (λ z. rows_from z (drop n is) (drop n ls)) (omega arith) in
    let f : position_or_len (λ (r : Row). ends_function r.inst.opcode) (drop (n + 1) rows) ≡ position_or_len
    (λ (i : PlainInst). ends_function i.opcode) (drop (n + 1) is)
    = ap (position_or_len (λ (r : Row). ends_function r.inst.opcode)) (rows-drop 0 is ls (n + 1) h)
    ∙ rows-position (λ (i : PlainInst). ends_function i.opcode) (0 + (n + 1)) (drop (n + 1) is) (drop (n + 1) ls)
    (drop_le (n + 1) is ls h) in
    let k = 1 + position_or_len (λ (i : PlainInst). ends_function i.opcode) (drop (n + 1) is) in
    g ∙ (ap (λ z. take (1 + z) (drop n rows)) f ∙ (ap (take k) d ∙ rows-take n (drop n is) (drop n ls) k))

pub no_rows : (x : ℕ) (is : List PlainInst) (ls : List (List ℕ)) → length is ≤ length ls
    → length is ≤ position_or_len (is_function x) is → function_rows x (rows_from 0 is ls) ≡ []
no_rows x is ls h e =
    let rows = rows_from 0 is ls in
    let p = rows-position (is_function x) 0 is ls h in
    let q = rows-length 0 is ls h in
    let m : length rows ≤ position_or_len (λ (r : Row). is_function x r.inst) rows = omega (arith, p, q, e) in
    let g = no_group (λ (r : Row). is_function x r.inst) (λ (r : Row). ends_function r.inst.opcode) rows m in
    rw g refl
