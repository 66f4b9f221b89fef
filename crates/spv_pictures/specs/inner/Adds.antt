-- What is added to a text part by part. (For the code alone.)
use Rattle.std.specs.Prelude.{◌≡◌, ◌++◌, ℕ, List, flat_map}

-- With what is left then, the new text is what the old one is with all that was left.
abbrev pub Adds : {A : Type 0} → (A → List ℕ) → List A → List A → List ℕ → List ℕ → Type 0
Adds f all left old new = new ++ flat_map f left ≡ old ++ flat_map f all
