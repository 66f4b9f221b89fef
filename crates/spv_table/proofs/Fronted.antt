-- The fronts that a table keeps, by their opcodes.
use Rattle.std.proofs.Common.{◌≡◌, ℕ, zero, suc, ◌<◌, ◌≤◌, ◌^◌, Bool, true, false, nat_lt, List, [], ◌∷◌, length, map, take, get_or, slice_get, option_map, min, if◌then◌else◌, refl, sym, ap, ◌∙◌, arith}
use Rattle.std.proofs.lemmas.Bool.Decides.{nat_tests}
use Rattle.std.proofs.lemmas.Option.{slice_get_past}
use Rattle.spv_table.specs.Table.{Table, first_with, entry_of}
use Rattle.spv_table.specs.declared.front.Front.{Front}
use Rattle.spv_table.specs.inner.Front.{no_front, entry_front, place_front, front_at}

past : {A : Type 0} (xs : List A) (n : ℕ) (d : A) → length xs ≤ n → get_or xs n d ≡ d
past [] n d h = refl
past (x ∷ xs) zero d h = absurd (omega arith)
past (x ∷ xs) (suc n) d h = past xs n d (omega arith)

mapped : {A B : Type 0} (f : A → B) (xs : List A) (n : ℕ) (d : A) → get_or (map f xs) n (f d) ≡ f (get_or xs n d)
mapped f [] n d = refl
mapped f (x ∷ xs) zero d = refl
mapped f (x ∷ xs) (suc n) d = mapped f xs n d

taken : {A : Type 0} (m : ℕ) (xs : List A) (n : ℕ) (d : A) → n < m → get_or (take m xs) n d ≡ get_or xs n d
taken zero xs n d h = absurd (omega arith)
taken (suc m) [] n d h = refl
taken (suc m) (x ∷ xs) zero d h = refl
taken (suc m) (x ∷ xs) (suc n) d h = taken m xs n d (omega arith)

past_taken : {A : Type 0} (m : ℕ) (xs : List A) (n : ℕ) (d : A) → m ≤ n → get_or (take m xs) n d ≡ d
past_taken zero xs n d h = refl
past_taken (suc m) [] n d h = refl
past_taken (suc m) (x ∷ xs) zero d h = absurd (omega arith)
past_taken (suc m) (x ∷ xs) (suc n) d h = past_taken m xs n d (omega arith)

-- below 331 the places that are taken are all
within : (ps : List ℕ) (m n d : ℕ) → m ≡ min (length ps) 331 → n < 331 → get_or (take m ps) n d ≡ get_or ps n d
within ps m n d e h = by (nat_lt n m) refl
  where
    by : (b : Bool) → nat_lt n m ≡ b → get_or (take m ps) n d ≡ get_or ps n d
    by true t = taken m ps n d (grind (arith, nat_tests))
    by false t =
        let o : m ≤ n = grind (arith, nat_tests) in
        past_taken m ps n d o ∙ sym (past ps n d (omega (arith, e, h, o)))

module _ (G : Table) where
  abbrev front_in : ℕ → Front
  front_in = place_front G G.entries

  none : length G.entries < 2 ^ 32 → front_in 4294967295 ≡ no_front
  none few = ap (λ o. entry_front G (option_map (λ e. e.1) o)) (slice_get_past G.entries 4294967295 (omega (arith, few)))

  -- the fronts of the entries at the places that are taken are those of the opcodes
  pub fronts_found : (ps : List ℕ) (fs : List Front) (m : ℕ) → length G.entries < 2 ^ 32
      → ((n : ℕ) → slice_get G.entries (get_or ps n 4294967295) ≡ first_with (λ e. e.0) n G.entries)
      → m ≡ min (length ps) 331 → fs ≡ map (place_front G G.entries) (take m ps) → (n : ℕ) → get_or fs n no_front ≡ front_at G n
  fronts_found ps fs m few placed e f n = by (nat_lt n 331) refl
    where
      here : get_or fs n no_front ≡ front_in (get_or (take m ps) n 4294967295)
      here =
          ap (λ (d : Front). get_or fs n d) (sym (none few)) ∙ ap (λ (xs : List Front). get_or xs n (front_in 4294967295)) f
          ∙ mapped front_in (take m ps) n 4294967295

      by : (b : Bool) → nat_lt n 331 ≡ b → get_or fs n no_front ≡ (if b then entry_front G (entry_of G n) else no_front)
      by true t =
          here ∙ ap front_in (within ps m n 4294967295 e (grind (arith, nat_tests)))
          ∙ ap (λ o. entry_front G (option_map (λ e. e.1) o)) (placed n)
      by false t =
          let o : 331 ≤ n = grind (arith, nat_tests) in
          here ∙ ap front_in (past_taken m ps n 4294967295 (omega (arith, e, o))) ∙ none few
