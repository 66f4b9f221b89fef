-- What is found in a list that is made of another, by what is found in that.
use Rattle.std.proofs.Common.{◌≡◌, ℕ, ◌+◌, ◌<◌, ◌≤◌, Bool, true, false, cond, nat_eq, nat_lt, not, List, [], ◌∷◌, Option, Some, None, option_map, if◌then◌else◌, length, get_or, map, position, slice_get, refl, sym, ap, ap₂, ◌∙◌, arith}
use Rattle.std.specs.List.{find, prefix_len}
use Rattle.std.specs.Str.{bytes_eq}
use Rattle.std.proofs.lemmas.List.{length-map}
use Rattle.std.proofs.lemmas.Option.{slice_get-map, slice_get_read, slice_get_past}
use Rattle.spv_table.specs.declared.row.EnumerantRow.{EnumerantRow}
use Rattle.spv_table.specs.declared.span.Span.{Span}
use Rattle.spv_table.specs.declared.table.Enumerant.{Enumerant}
use Rattle.spv_table.specs.Lookups.{value_named}
use Rattle.spv_table.specs.Rows.{enumerant_in}
use Rattle.spv_table.specs.Table.{first_with}
use Rattle.spv_table.specs.inner.Rows.{told}

module _ {A B : Type 0} (f : A → B) where
  -- the first element of a number
  pub first_made : (number : B → ℕ) (n : ℕ) (xs : List A) → first_with number n (map f xs) ≡ option_map f (first_with (λ x. number (f x)) n xs)
  first_made number n [] = refl
  first_made number n (x ∷ xs) = by (nat_eq (number (f x)) n) (first_made number n xs)
    where
      by : (b : Bool) → first_with number n (map f xs) ≡ option_map f (first_with (λ y. number (f y)) n xs)
          → (if b then Some (f x) else first_with number n (map f xs)) ≡ option_map f (if b then Some x else first_with (λ y. number (f y)) n xs)
      by true later = refl
      by false later = later

  prefix_made : (q : B → Bool) (xs : List A) → prefix_len q (map f xs) ≡ prefix_len (λ x. q (f x)) xs
  prefix_made q [] = refl
  prefix_made q (x ∷ xs) = ap (λ n. cond (q (f x)) (1 + n) 0) (prefix_made q xs)

  -- the first place at which a test passes
  pub place_made : (p : B → Bool) (xs : List A) → position (λ x. p (f x)) xs ≡ position p (map f xs)
  place_made p xs =
      ap₂ (λ (i n : ℕ). cond (nat_lt i n) (Some i) None) (sym (prefix_made (λ y. not (p y)) xs)) (sym (length-map xs f))

  -- the element at a place
  pub got_made : (xs : List A) (i : ℕ) (x : A) → i < length xs → x ≡ get_or xs i x → Some (f x) ≡ slice_get (map f xs) i
  got_made xs i x h is = sym (slice_get-map f xs i ∙ ap (option_map f) (slice_get_read xs (length xs) i x refl h is))

  pub none_made : (xs : List A) (i : ℕ) → length xs ≤ i → None ≡ slice_get (map f xs) i
  none_made xs i h = sym (slice_get-map f xs i ∙ ap (option_map f) (slice_get_past xs i h))

  -- the first element that passes a test
  pub find_made : (p : B → Bool) (xs : List A) → find p (map f xs) ≡ option_map f (find (λ x. p (f x)) xs)
  find_made p [] = refl
  find_made p (x ∷ xs) = by (p (f x)) (find_made p xs)
    where
      by : (b : Bool) → find p (map f xs) ≡ option_map f (find (λ y. p (f y)) xs)
          → cond b (Some (f x)) (find p (map f xs)) ≡ option_map f (cond b (Some x) (find (λ y. p (f y)) xs))
      by true later = refl
      by false later = later

once_more : {A B C : Type 0} (f : A → B) (g : B → C) (o : Option A) → option_map (λ x. g (f x)) o ≡ option_map g (option_map f o)
once_more f g None = refl
once_more f g (Some x) = refl

-- the value of the first row that tells a name
pub value_made : (text numbers : List ℕ) (names : List Span) (q : List ℕ) (rows : List EnumerantRow)
    → option_map (λ (r : EnumerantRow). r.0) (find (λ r. bytes_eq q (told text (λ (x : EnumerantRow). x.1) r)) rows) ≡ value_named (map (enumerant_in text numbers names) rows) q
value_made text numbers names q rows =
    once_more (enumerant_in text numbers names) (λ (e : Enumerant). e.value) (find (λ r. bytes_eq q (told text (λ (x : EnumerantRow). x.1) r)) rows)
    ∙ ap (option_map (λ (e : Enumerant). e.value)) (sym (find_made (enumerant_in text numbers names) (λ (e : Enumerant). bytes_eq q e.name) rows))
