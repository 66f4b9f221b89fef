-- From the rows of a function to its picture.
use Rattle.std.proofs.Common.{◌≡◌, ◌<◌, ◌≤◌, ◌+◌, ℕ, zero, suc, Bool, true, false, cond, List, [], ◌∷◌, Some, None, map}
use Rattle.std.proofs.Common.{length, take, drop, refl, sym, ap, ◌∙◌, nat_lt, arith}
use Rattle.std.proofs.lemmas.List.{length-map}
use Rattle.std.specs.List.{position, position_or_len, range_with_len, before_first}
use Rattle.std.proofs.lemmas.Bool.Decides.{nat_tests}
use Rattle.spv_table.specs.Table.{Table}
use Rattle.spv_module.specs.declared.module.Inst.{Inst}
use Rattle.spv_module.specs.Module.{plain_inst}
use Rattle.spv_module.specs.Operand.{PlainInst}
use Rattle.spv_lines.specs.Text.{ShownLines, ended, inst_line, lines_of}
use Rattle.spv_pictures.specs.Blocks.{Row, function_rows, rows_from}
use Rattle.spv_pictures.specs.Function.{ends_function, is_function}
use Rattle.spv_pictures.specs.inner.Rows.{function_at, rows_at}
use Rattle.spv_pictures.proofs.Feedless.{feedless_lines}
use Rattle.spv_pictures.proofs.Grouped.{length-before, position-map}
use Rattle.spv_pictures.proofs.Placed.{no_rows, rows_at_place, rows_of_lines}
use Rattle.spv_pictures.proofs.Shown.{lines_length, lines_taken}

-- the instructions of a function, by its body
abbrev pub ends : PlainInst → Bool
ends i = ends_function i.opcode

pub function_taken : (insts body : List Inst) (n : ℕ) → n < length insts
    → map plain_inst body ≡ before_first ends (map plain_inst (drop (n + 1) insts))
    → map plain_inst (take (1 + length body) (drop n insts)) ≡ function_at n (map plain_inst insts)
function_taken insts body n h e =
    let l : length body ≡ position_or_len ends (map plain_inst (drop (n + 1) insts)) = sym (length-map body plain_inst)
    ∙ (ap length e ∙ length-before ends (map plain_inst (drop (n + 1) insts))) in
    let d = dropped (n + 1) insts in
    let k : length body ≡ position_or_len ends (drop (n + 1) (map plain_inst insts)) = l
    ∙ ap (position_or_len ends) (sym d) in
    taken (1 + length body) (drop n insts)
    ∙ (ap (λ z. take (1 + z) (map plain_inst (drop n insts))) k
    ∙ ap (take (1 + position_or_len ends (drop (n + 1) (map plain_inst insts)))) (sym (dropped n insts)))
  where
    dropped : (k : ℕ) (xs : List Inst) → drop k (map plain_inst xs) ≡ map plain_inst (drop k xs)
    dropped zero xs = refl
    dropped (suc k) [] = refl
    dropped (suc k) (x ∷ xs) = dropped k xs

    taken : (k : ℕ) (xs : List Inst) → map plain_inst (take k xs) ≡ take k (map plain_inst xs)
    taken zero xs = refl
    taken (suc k) [] = refl
    taken (suc k) (x ∷ xs) = ap (λ z. plain_inst x ∷ z) (taken k xs)

-- its rows
pub rows_drawn : (G : Table) (is fs : List PlainInst) (lines : List (List ℕ)) (n k : ℕ) (text : List ℕ)
    (rows : List Row) → ShownLines G [] is lines
    → fs ≡ function_at n is → k ≡ length fs → n + k ≤ length is
    → text ≡ ended (map (inst_line lines) (range_with_len n k)) → rows ≡ rows_from n fs (lines_of text)
    → rows ≡ rows_at n is lines
rows_drawn G is fs lines n k text rows s f e h t r =
    let l = lines_length G [] is lines s in
    let a = lines_taken lines n k (feedless_lines G [] is lines s) (omega (arith, l, h)) in
    let b : rows_from n fs (lines_of text) ≡ rows_from n fs (take k (drop n lines)) = ap (rows_from n fs)
    (ap lines_of t ∙ a) in
    let c : rows_from n fs (take k (drop n lines)) ≡ rows_from n fs (drop n lines) = rows_of_lines n fs (drop n lines) k
    (omega (arith, e)) in
    r ∙ (b ∙ (c ∙ ap (λ z. rows_from n z (drop n lines)) f))

found_by : (n k : ℕ) (b : Bool) → nat_lt k n ≡ b → (m : ℕ) → Some m ≡ cond b (Some k) None → (k ≡ m) × (m < n)
found_by n k true e m f = let g : k ≡ m = cc in (g, grind (arith, nat_tests))
found_by n k false e m f = cc

found : {A : Type 0} (p : A → Bool) (xs : List A) (m : ℕ) → Some m ≡ position p xs
    → (position_or_len p xs ≡ m) × (m < length xs)
found p xs m e = found_by (length xs) (position_or_len p xs) (nat_lt (position_or_len p xs) (length xs)) refl m e

missed_by : (n k : ℕ) (b : Bool) → nat_lt k n ≡ b → None ≡ cond b (Some k) None → n ≤ k
missed_by n k true e f = cc
missed_by n k false e f = grind (arith, nat_tests)

missed : {A : Type 0} (p : A → Bool) (xs : List A) → None ≡ position p xs → length xs ≤ position_or_len p xs
missed p xs e = missed_by (length xs) (position_or_len p xs) (nat_lt (position_or_len p xs) (length xs)) refl e

pub place_within : (insts : List Inst) (x n : ℕ) → Some n ≡ position (λ (i : Inst). is_function x (plain_inst i)) insts
    → n < length insts
place_within insts x n e = (found (λ (i : Inst). is_function x (plain_inst i)) insts n e).1

-- the picture of the function that was found, or of none
pub found_drawn : (G : Table) (insts : List Inst) (lines : List (List ℕ)) (x n : ℕ)
    → ShownLines G [] (map plain_inst insts) lines
    → Some n ≡ position (λ (i : Inst). is_function x (plain_inst i)) insts
    → function_rows x (rows_from 0 (map plain_inst insts) lines) ≡ rows_at n (map plain_inst insts) lines
found_drawn G insts lines x n s e =
    let is = map plain_inst insts in
    let l = lines_length G [] is lines s in
    let m = length-map insts plain_inst in
    let f = found (λ (i : Inst). is_function x (plain_inst i)) insts n e in
    rows_at_place x is lines n (omega (arith, l)) (position-map (is_function x) plain_inst insts ∙ f.0)
    (let q = f.1 in omega (arith, m, q))

pub none_drawn : (G : Table) (insts : List Inst) (lines : List (List ℕ)) (x : ℕ)
    → ShownLines G [] (map plain_inst insts) lines → None ≡ position (λ (i : Inst). is_function x (plain_inst i)) insts
    → function_rows x (rows_from 0 (map plain_inst insts) lines) ≡ []
none_drawn G insts lines x s e =
    let is = map plain_inst insts in
    let l = lines_length G [] is lines s in
    let m = length-map insts plain_inst in
    let f = missed (λ (i : Inst). is_function x (plain_inst i)) insts e in
    let q = position-map (is_function x) plain_inst insts in
    no_rows x is lines (omega (arith, l)) (omega (arith, m, q, f))
