-- Operands that are the same, one by one.
use Rattle.std.proofs.Common.{◌≡◌, ◌∙◌, ◌<◌, ◌≤◌, ◌+◌, ◌↔◌, inl, inr, ℕ, suc, List, [], ◌∷◌, Bool, true, false, Some}
use Rattle.std.proofs.Common.{refl, sym, ap, length, get_or, arith}
use Rattle.std.specs.Prelude.{slice_get, IsTrue, option_map}
use Rattle.std.proofs.lemmas.List.{length-map}
use Rattle.std.proofs.lemmas.Option.{slice_get-map, slice_get-get_or}
use Rattle.std.proofs.lemmas.Bool.{cases_lt}
use Rattle.spv_module.specs.Operand.{Plain}
use Rattle.spv_module.specs.Module.{plain_operand, plain_operands}
use Rattle.spv_module.specs.declared.operand.Operand.{Operand}

pub operand_there : (s : List Operand) (k : ℕ) (d : Operand) → k < length s
    → slice_get (plain_operands s) k ≡ Some (plain_operand (get_or s k d))
operand_there s k d l = slice_get-map plain_operand s k ∙ ap (option_map plain_operand) (slice_get-get_or s k d l)

same_lists : (xs ys : List Plain) → length xs ≡ length ys → ((j : ℕ) → j < length xs → slice_get xs j ≡ slice_get ys j)
    → xs ≡ ys
same_lists [] [] l h = refl
same_lists [] (y ∷ ys) l h = absurd (let no : 0 ≡ suc (length ys) = l in omega arith)
same_lists (x ∷ xs) [] l h = absurd (let no : suc (length xs) ≡ 0 = l in omega arith)
same_lists (x ∷ xs) (y ∷ ys) l h =
    let first : Some x ≡ Some y = h 0 (omega arith) in
    let long : suc (length xs) ≡ suc (length ys) = l in
    let rest : xs ≡ ys = same_lists xs ys (omega arith) (λ j b. h (suc j) (omega arith)) in
    cc

pub apart : (s t : List Operand) (k : ℕ) (d e : Operand) (b : Bool) → k < length s → length s ≡ length t → b ≡ false
    → (IsTrue b ↔ (plain_operand (get_or s k d) ≡ plain_operand (get_or t k e))) → plain_operands s ≡ plain_operands t
    → ⊥
apart s t k d e b l long off h same =
    let one = operand_there s k d l in
    let other = operand_there t k e (omega arith) in
    let both : Some (plain_operand (get_or s k d)) ≡ Some (plain_operand (get_or t k e)) = sym one
    ∙ ap (λ ps. slice_get ps k) same ∙ other in
    let yes : b ≡ true = h.1 cc in
    cc

pub one_same : (s t : List Operand) (k : ℕ) (d e : Operand) (b : Bool) → k < length s → length s ≡ length t → b ≡ true
    → (IsTrue b ↔ (plain_operand (get_or s k d) ≡ plain_operand (get_or t k e)))
    → ((j : ℕ) → j < k → slice_get (plain_operands s) j ≡ slice_get (plain_operands t) j) → (j : ℕ) → j < k + 1
    → slice_get (plain_operands s) j ≡ slice_get (plain_operands t) j
one_same s t k d e b l long on h before j below = elim (cases_lt j k) [
  | inl u ↦ before j u
  | inr u ↦
      let same : j ≡ k = omega arith in
      let here : slice_get (plain_operands s) k ≡ slice_get (plain_operands t) k = operand_there s k d l
      ∙ ap Some (h.0 on) ∙ sym (operand_there t k e (omega arith)) in
      rw same here
]

pub all_same : (s t : List Operand) (k : ℕ) → length s ≡ length t → length s ≤ k
    → ((j : ℕ) → j < k → slice_get (plain_operands s) j ≡ slice_get (plain_operands t) j)
    → plain_operands s ≡ plain_operands t
all_same s t k long l h =
    let a = length-map s plain_operand in
    let b = length-map t plain_operand in
    same_lists (plain_operands s) (plain_operands t) (a ∙ long ∙ sym b) (λ j c. h j (omega arith))
