-- Places in lists.
use Rattle.std.proofs.Common.{◌≡◌, ℕ, zero, suc, Bool, true, false, List, [], ◌∷◌, Option, Some, None, option_map, option_and_then, unwrap_or, slice_get, nat_lt, ◌≤◌, if◌then◌else◌, refl, sym, ap, ◌∙◌, map, length, position, arith}
use Rattle.std.specs.List.{position_or_len, find}
use Rattle.std.proofs.lemmas.List.Folds.{find_at}
use Rattle.std.proofs.lemmas.Option.{slice_get_past}
use Rattle.std.proofs.lemmas.Grind.{common_steps}
use Rattle.spv_table.specs.declared.table.Entry.{Entry}
use Rattle.spv_table.specs.declared.results.Results.{Results}
use Rattle.spv_table.specs.Table.{Table, first_with, entry_of}
use Rattle.spv_table.specs.inner.Results.{results_of, entry_has_result}

-- the element at the first place
pub found_at : {X : Type 0} (p : X → Bool) (xs : List X) (r : Option ℕ) → r ≡ position p xs → find p xs ≡ option_and_then (slice_get xs) r
found_at p xs r e = by (nat_lt (position_or_len p xs) (length xs)) refl
  where
    by : (b : Bool) → nat_lt (position_or_len p xs) (length xs) ≡ b → find p xs ≡ option_and_then (slice_get xs) r
    by true t = rw (e, t) (find_at p xs)
    by false t =
        let past : length xs ≤ position_or_len p xs = grind (arith, common_steps) in
        rw (e, t) (find_at p xs ∙ slice_get_past xs (position_or_len p xs) past)

-- the entry of an opcode at its place
pub entry_found : (G : Table) (opcode place : ℕ) (o : Option (ℕ × Entry)) → slice_get G.entries place ≡ o
    → slice_get G.entries place ≡ first_with (λ e. e.0) opcode G.entries → option_map (λ e. e.1) o ≡ entry_of G opcode
entry_found G opcode place o e p = ap (option_map (λ e. e.1)) (sym e ∙ p)

-- the pattern of what is found
pub pattern_found : (o : Option (ℕ × Entry))
    → option_map (λ (e : ℕ × Entry). e.1.operands) o ≡ option_map (λ (e : Entry). e.operands) (option_map (λ e. e.1) o)
pattern_found None = refl
pattern_found (Some e) = refl

-- at a place of a list and of one that is made of it
get_mapped : {A B : Type 0} (f : A → B) (xs : List A) (n : ℕ) → slice_get (map f xs) n ≡ option_map f (slice_get xs n)
get_mapped f [] n = refl
get_mapped f (x ∷ xs) zero = refl
get_mapped f (x ∷ xs) (suc n) = get_mapped f xs n

abbrev result_of : Table → ℕ × Entry → Results
result_of G e = results_of G e.1

-- what a pattern's result is, by what is kept of an entry, or where nothing is
result_by : (G : Table) (may : Bool) (o : Option (ℕ × Entry)) (r : Option Results) → r ≡ option_map (result_of G) o
    → unwrap_or (option_map (λ (x : Results). if may then x.ever else x.always) r) false ≡ entry_has_result may G (option_map (λ e. e.1) o)
result_by G may None r e = rw e refl
result_by G true (Some x) r e = rw e refl
result_by G false (Some x) r e = rw e refl

pub result_found : (G : Table) (opcode place : ℕ) (may : Bool) (rs : List Results) (r : Option Results) → slice_get rs place ≡ r → rs ≡ map (λ e. results_of G e.1) G.entries
    → slice_get G.entries place ≡ first_with (λ e. e.0) opcode G.entries
    → unwrap_or (option_map (λ (x : Results). if may then x.ever else x.always) r) false ≡ entry_has_result may G (entry_of G opcode)
result_found G opcode place may rs r e m p =
    result_by G may (first_with (λ e. e.0) opcode G.entries) r
    (sym e ∙ (ap (λ zs. slice_get zs place) m ∙ (get_mapped (result_of G) G.entries place ∙ ap (option_map (result_of G)) p)))
