-- Lists whose numbers never go down, and the first element of a number.
use Rattle.std.proofs.Common.{◌≡◌, ◌≢◌, ℕ, ◌<◌, zero, suc, true, false, nat_eq, List, [], ◌∷◌, Some, None, length, get_or, refl, sym, ap, ◌∙◌, arith}
use Rattle.std.proofs.lemmas.Bool.Decides.{nat_tests}
use Rattle.spv_table.specs.Table.{first_with}

module _ {A : Type 0} (number : A → ℕ) where
  passed : (x : A) (xs : List A) (v : ℕ) → number x ≢ v → first_with number v (x ∷ xs) ≡ first_with number v xs
  passed x xs v other = let no : nat_eq (number x) v ≡ false = grind (arith, nat_tests) in rw no refl

  -- no element has the number
  pub none_has : (xs : List A) (v : ℕ) → ((k : ℕ) (d : A) → k < length xs → number (get_or xs k d) ≢ v) → first_with number v xs ≡ None
  none_has [] v other = refl
  none_has (x ∷ xs) v other = passed x xs v (other 0 x (omega arith)) ∙ none_has xs v (λ k d h. other (suc k) d (omega (arith, h)))

  -- the element at a place has it, and none before
  pub first_has : (xs : List A) (i v : ℕ) (x : A) → i < length xs → x ≡ get_or xs i x → number x ≡ v → ((k : ℕ) (d : A) → k < i → number (get_or xs k d) ≢ v) → first_with number v xs ≡ Some x
  first_has [] i v x h is same other = absurd (omega (arith, h))
  first_has (y ∷ xs) zero v x h is same other =
      let yes : nat_eq (number y) v ≡ true = let e : number y ≡ v = ap number (sym is) ∙ same in grind (arith, nat_tests) in
      rw yes (ap Some (sym is))
  first_has (y ∷ xs) (suc i) v x h is same other =
      passed y xs v (other 0 x (omega arith)) ∙ first_has xs i v x (omega (arith, h)) is same (λ k d l. other (suc k) d (omega (arith, l)))
