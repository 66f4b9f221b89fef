-- Forms of instructions.
use Rattle.std.proofs.Common.{◌≡◌, ◌≤◌, ◌+◌, ◌↔◌, ℕ, List, [], ◌∷◌, Bool, true, false, IsTrue, cond, count_by, fold, length}
use Rattle.std.proofs.Common.{drop, get_or, refl, sym, ap, subst, arith}
use Rattle.spv_module.specs.declared.operand.Operand.{Operand}
use Rattle.spv_module.specs.Module.{plain_operand, plain_operands}
use Rattle.spv_module.specs.Operand.{Plain, OfType, Result, Id, PlainInst}
use Rattle.spv_versions.specs.Missing.{SelectsWhole, is_mask}
use Rattle.spv_versions.specs.inner.Shapes.{AreWhole}

fold_masks : (a : ℕ) (os : List Operand) → fold (λ (n : ℕ) (o : Plain). n + cond (is_mask o) 1 0) a (plain_operands os)
    ≡ fold (λ (n : ℕ) (o : Operand). n + cond (is_mask (plain_operand o)) 1 0) a os
fold_masks a [] = refl
fold_masks a (o ∷ os) = fold_masks (a + cond (is_mask (plain_operand o)) 1 0) os

pub masks_read : (os : List Operand) → count_by is_mask (plain_operands os) ≡ count_by (λ o. is_mask (plain_operand o)) os
masks_read os = fold_masks 0 os

-- the operands of an OpSelect by its first three
abbrev pub is_result : Plain → Bool
is_result (Result x) = true
is_result _ = false

drop_none : (os : List Operand) → os ≡ drop 0 os
drop_none [] = refl
drop_none (x ∷ os) = refl

three_of : (os : List Operand) (d : Operand) → 3 ≤ length os
    → get_or os 0 d ∷ get_or os 1 d ∷ get_or os 2 d ∷ drop 3 os ≡ os
three_of [] d l = absurd (omega (arith, l))
three_of (a ∷ []) d l = absurd (let m : 3 ≤ 1 = l in omega (arith, m))
three_of (a ∷ b ∷ []) d l = absurd (let m : 3 ≤ 2 = l in omega (arith, m))
three_of (a ∷ b ∷ e ∷ os) d l = ap (λ ps. a ∷ b ∷ e ∷ ps) (sym (drop_none os))

whole_by : (is : List PlainInst) (p q u : Plain) (ps : List Plain) (t x : ℕ) (r : Bool) → p ≡ OfType t
    → is_result q ≡ true → u ≡ Id x → IsTrue r ↔ SelectsWhole is t x → IsTrue r ↔ AreWhole is (p ∷ q ∷ u ∷ ps)
whole_by is p (Result y) u ps t x r e f g h = rw (e, g) h
whole_by is p _ u ps t x r e f g h = absurd (let no : false ≡ true = f in cc)

pub whole_parts : (is : List PlainInst) (os : List Operand) (d : Operand) (t x : ℕ) (r : Bool) → 3 ≤ length os
    → plain_operand (get_or os 0 d) ≡ OfType t → is_result (plain_operand (get_or os 1 d)) ≡ true
    → plain_operand (get_or os 2 d) ≡ Id x → IsTrue r ↔ SelectsWhole is t x → IsTrue r ↔ AreWhole is (plain_operands os)
whole_parts is os d t x r l e f g h =
    subst (λ (ps : List Operand). IsTrue r ↔ AreWhole is (plain_operands ps)) (three_of os d l)
    (whole_by is (plain_operand (get_or os 0 d)) (plain_operand (get_or os 1 d)) (plain_operand (get_or os 2 d))
    (plain_operands (drop 3 os)) t x r e f g h)
