-- What a loop has made so far, joined with what the rest gives.
use Rattle.std.proofs.Common.{◌≡◌, ℕ, ◌<◌, ◌+◌, Bool, true, false, List, [], ◌∷◌, ◌++◌, Option, Some, None, option_map, drop, get_or, length, if◌then◌else◌, refl, sym, ap, ◌∙◌, append_assoc, add-one, drop-cons}
use Rattle.std.specs.List.{filter}
use Rattle.spv_grammar.specs.Made.{all_of}

abbrev pub with_front : {A : Type 0} → List A → Option (List A) → Option (List A)
with_front front rest = option_map (λ later. front ++ later) rest

pub joined : {B : Type 0} (front : List B) (b : B) (rest : Option (List B)) → with_front front (option_map (λ bs. b ∷ bs) rest) ≡ with_front (front ++ b ∷ []) rest
joined front b None = refl
joined front b (Some bs) = ap Some (sym (append_assoc front (b ∷ []) bs))

-- a filter of what is left, at its first element
pub kept_more : {A : Type 0} (p : A → Bool) (xs : List A) (i : ℕ) (d : A) → i < length xs
    → filter p (drop i xs) ≡ (if p (get_or xs i d) then get_or xs i d ∷ filter p (drop (i + 1) xs) else filter p (drop (i + 1) xs))
kept_more p xs i d h = rw (add-one, drop-cons xs i d h) refl

module _ {A B : Type 0} (make : A → Option B) (p : A → Bool) (xs : List A) (i : ℕ) (x : A) (whole : Option (List B)) (front found : List B) where
  -- an element that is kept
  pub keep_step : (b : B) → i < length xs → x ≡ get_or xs i x → whole ≡ with_front front (all_of make (filter p (drop i xs))) → p x ≡ true → make x ≡ Some b → found ≡ front ++ b ∷ []
      → whole ≡ with_front found (all_of make (filter p (drop (i + 1) xs)))
  keep_step b h is w kept made grown =
      let first : filter p (drop i xs) ≡ x ∷ filter p (drop (i + 1) xs) = kept_more p xs i x h ∙ (rw (← is, kept) refl) in
      w ∙ (rw (first, made, grown) (joined front b (all_of make (filter p (drop (i + 1) xs)))))

  -- an element that is not
  pub skip_step : i < length xs → x ≡ get_or xs i x → whole ≡ with_front front (all_of make (filter p (drop i xs))) → p x ≡ false → found ≡ front
      → whole ≡ with_front found (all_of make (filter p (drop (i + 1) xs)))
  skip_step h is w dropped same =
      let first : filter p (drop i xs) ≡ filter p (drop (i + 1) xs) = kept_more p xs i x h ∙ (rw (← is, dropped) refl) in
      w ∙ (rw (first, same) refl)
