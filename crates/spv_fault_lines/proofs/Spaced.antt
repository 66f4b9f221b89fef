-- Texts that are lent, each after a space.
use Rattle.std.proofs.Common.{◌≡◌, ◌++◌, ◌∙◌, ℕ, List, [], ◌∷◌, refl, ap, flat_map, map}
use Rattle.std.specs.Borrow.{Bor}
use Rattle.spv_fault_lines.specs.Lines.{name_part}
use Rattle.spv_fault_lines.specs.inner.Parts.{spaced}

pub all_spaced : (xs : List (Bor (List ℕ))) → flat_map spaced xs ≡ flat_map name_part (map (λ x. x.now) xs)
all_spaced [] = refl
all_spaced (x ∷ xs) = ap (λ z. name_part x.now ++ z) (all_spaced xs)

pub names_spaced : (xs : List (Bor (List ℕ))) (names : List (List ℕ)) → map (λ x. x.now) xs ≡ names
    → flat_map spaced xs ≡ flat_map name_part names
names_spaced xs names e = all_spaced xs ∙ ap (λ z. flat_map name_part z) e
