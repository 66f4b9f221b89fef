-- The names of extensions as they are lent, and as definitions have them.
use Rattle.std.proofs.Common.{◌≡◌, ◌∙◌, ℕ, List, [], ◌∷◌, Option, Some, refl, ap, map, option_map, unwrap_or}
use Rattle.std.specs.Prelude.{slice_get}
use Rattle.std.specs.Borrow.{Bor}
use Rattle.spv_versions.specs.Table.{Line, lines}
use Rattle.spv_versions.specs.inner.Lines.{Read, plain_line, plain_name}
use Rattle.spv_facts.specs.Versions.{extensions_of, names_in, text_of}

names_same : (xs : List (Bor (List ℕ))) → map (λ x. x.now) xs ≡ map text_of (map plain_name xs)
names_same [] = refl
names_same (x ∷ xs) = ap (λ ns. x.now ∷ ns) (names_same xs)

pub extensions_same : (line : ℕ) (r : Read) → Some (plain_line r) ≡ slice_get lines line
    → map (λ x. x.now) r.4.now ≡ extensions_of line
extensions_same line r e =
    names_same r.4.now ∙ ap (λ (o : Option Line). unwrap_or (option_map names_in o) []) e
