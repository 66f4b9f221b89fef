-- Nodes that are added while a text is read. (For the code alone.)
use Rattle.std.specs.Prelude.{◌≡◌, ℕ, suc, ◌+◌, List, [], ◌∷◌, ◌++◌, length, Some}
use Rattle.serde_json.specs.Data.{Data}
use Rattle.json_tree.specs.View.{Content, values}

-- how many nodes the values take
abbrev pub total : List (ℕ × Data) → ℕ
total [] = 0
total (v ∷ vs) = suc v.0 + total vs

-- the nodes are the values, whatever comes after them
pub record IsRun (own : List Content) (vs : List (ℕ × Data)) : Type 0 where
  pub count : length own ≡ total vs
  pub runs : (rest : List Content) (ws : List (ℕ × Data)) → values rest ≡ Some ws
      → values (own ++ rest) ≡ Some (vs ++ ws)

-- the nodes of one value were added
pub record AddsOne (old : List Content) (d : Data) (new : List Content) : Type 0 where
  pub own : List Content
  pub inner : ℕ
  pub added : new ≡ old ++ own
  pub run : IsRun own ((inner, d) ∷ [])
