-- Texts that are lent, as tokens.
use Rattle.std.proofs.Common.{◌≡◌, ◌++◌, ◌∙◌, ℕ, List, [], ◌∷◌, refl, ap, flat_map, map}
use Rattle.std.specs.Borrow.{Bor}
use Rattle.spv_fault_json.specs.Members.{name_token}
use Rattle.spv_fault_json.specs.inner.Texts.{text_token}

all_tokens : (xs : List (Bor (List ℕ))) → flat_map text_token xs ≡ flat_map name_token (map (λ x. x.now) xs)
all_tokens [] = refl
all_tokens (x ∷ xs) = ap (λ z. name_token x.now ++ z) (all_tokens xs)

pub names_told : (xs : List (Bor (List ℕ))) (names : List (List ℕ)) → map (λ x. x.now) xs ≡ names
    → flat_map text_token xs ≡ flat_map name_token names
names_told xs names e = all_tokens xs ∙ ap (λ z. flat_map name_token z) e
