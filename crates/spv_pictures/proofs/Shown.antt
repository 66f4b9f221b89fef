-- The lines of some instructions of a module, taken out of their joined text.
use Rattle.std.proofs.Common.{◌≡◌, ◌++◌, ◌<◌, ◌≤◌, ◌+◌, ℕ, zero, suc, List, [], ◌∷◌, map, length, take, drop, get_or}
use Rattle.std.proofs.Common.{refl, sym, ap, ◌∙◌, arith}
use Rattle.std.specs.List.{range_with_len}
use Rattle.std.proofs.lemmas.List.{drop_more}
use Rattle.spv_table.specs.Table.{Table}
use Rattle.spv_module.specs.Operand.{PlainInst}
use Rattle.spv_lines.specs.Text.{ShownLines, ended, inst_line, lines_of}
use Rattle.spv_lines.proofs.Showing.{AreLines, lines_ended}

-- as many lines as instructions
pub lines_length : (G : Table) (before is : List PlainInst) (ls : List (List ℕ)) → ShownLines G before is ls
    → length ls ≡ length is
lines_length G _ _ _ (ShownLines.end before) = refl
lines_length G _ _ _ (ShownLines.more before i is further l ls a m) =
    ap suc (lines_length G (before ++ (i ∷ [])) is ls m)

line_at : (ls : List (List ℕ)) (n : ℕ) → get_or ls n [] ≡ inst_line ls n
line_at [] n = refl
line_at (l ∷ ls) zero = refl
line_at (l ∷ ls) (suc n) = line_at ls n

at_drop : (ls : List (List ℕ)) (n : ℕ) → n < length ls → drop n ls ≡ inst_line ls n ∷ drop (n + 1) ls
at_drop ls n h = drop_more ls n [] h ∙ ap (λ l. l ∷ drop (n + 1) ls) (line_at ls n)

chosen : (ls : List (List ℕ)) (n k : ℕ) → n + k ≤ length ls
    → map (inst_line ls) (range_with_len n k) ≡ take k (drop n ls)
chosen ls n zero h = refl
chosen ls n (suc k) h =
    let d = at_drop ls n (omega arith) in
    ap (λ z. inst_line ls n ∷ z) (chosen ls (n + 1) k (omega arith)) ∙ ap (take (suc k)) (sym d)

lines-drop : (k : ℕ) (ls : List (List ℕ)) → AreLines ls → AreLines (drop k ls)
lines-drop zero ls h = h
lines-drop (suc k) [] h = tt
lines-drop (suc k) (l ∷ ls) h = lines-drop k ls h.1

lines-take : (k : ℕ) (ls : List (List ℕ)) → AreLines ls → AreLines (take k ls)
lines-take zero ls h = tt
lines-take (suc k) [] h = tt
lines-take (suc k) (l ∷ ls) h = (h.0, lines-take k ls h.1)

-- the lines in the text of instructions n to n + k
pub lines_taken : (ls : List (List ℕ)) (n k : ℕ) → AreLines ls → n + k ≤ length ls
    → lines_of (ended (map (inst_line ls) (range_with_len n k))) ≡ take k (drop n ls)
lines_taken ls n k a h =
    ap (λ z. lines_of (ended z)) (chosen ls n k h)
    ∙ lines_ended (take k (drop n ls)) (lines-take k (drop n ls) (lines-drop n ls a))

-- one number more
pub range_more : (a k n : ℕ) → a + k ≡ n → range_with_len a k ++ (n ∷ []) ≡ range_with_len a (suc k)
range_more a zero n e = let q : n ≡ a = omega (arith, e) in ap (λ z. z ∷ []) q
range_more a (suc k) n e = ap (λ z. a ∷ z) (range_more (a + 1) k n (omega (arith, e)))
