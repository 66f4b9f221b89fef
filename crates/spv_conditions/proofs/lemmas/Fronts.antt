-- The first of some indexes.
use Rattle.std.proofs.Common.{◌≡◌, ◌∙◌, ◌≤◌, ℕ, zero, suc, List, [], ◌∷◌, refl, sym, ap, length, take, arith}
use Rattle.spv_module.specs.Operand.{Plain}
use Rattle.spv_module.specs.Operand as operand
use Rattle.spv_type_kinds.specs.Operands.{ids_in}

pub front_ids : (os : List Plain) (k : ℕ) → ids_in (take k os) ≡ take k (ids_in os)
front_ids [] zero = refl
front_ids [] (suc k) = refl
front_ids (o ∷ os) zero = refl
front_ids (operand.Id x ∷ os) (suc k) = ap (λ ys. x ∷ ys) (front_ids os k)
front_ids (operand.OfType x ∷ os) (suc k) = refl
front_ids (operand.Result x ∷ os) (suc k) = refl
front_ids (operand.Word x ∷ os) (suc k) = refl
front_ids (operand.Argument x ∷ os) (suc k) = refl
front_ids (operand.Mention x ∷ os) (suc k) = refl
front_ids (operand.Number a b w ∷ os) (suc k) = refl
front_ids (operand.Text t ∷ os) (suc k) = refl
front_ids (operand.Value a b ∷ os) (suc k) = refl
front_ids (operand.Mask a b ∷ os) (suc k) = refl

pub all_ids : (os : List Plain) (k : ℕ) → length os ≤ k → ids_in os ≡ take k (ids_in os)
all_ids os k l = ap ids_in (sym (taken os k l)) ∙ front_ids os k where
  taken : (xs : List Plain) (n : ℕ) → length xs ≤ n → take n xs ≡ xs
  taken [] zero m = refl
  taken [] (suc n) m = refl
  taken (x ∷ xs) zero m = absurd (let o : suc (length xs) ≤ 0 = m in omega arith)
  taken (x ∷ xs) (suc n) m = ap (λ ys. x ∷ ys) (taken xs n (let o : suc (length xs) ≤ suc n = m in omega arith))
