-- The ranks of ids. [own]
use Rattle.std.specs.Prelude.{ℕ, suc, List, [], ◌∷◌, Option, Some, None, option_map, nat_eq, if◌then◌else◌, slice_index_or}

-- The rank of an id among ids: how many come before it, if it is one of them.
abbrev pub rank_in : List ℕ → ℕ → Option ℕ
rank_in [] x = None
rank_in (i ∷ rest) x = if nat_eq i x then Some 0 else option_map suc (rank_in rest x)

-- the value at a rank, or another one where there is none
abbrev pub value_at : {A : Type 0} → A → List A → Option ℕ → A
value_at other values None = other
value_at other values (Some k) = slice_index_or values k other

-- What a list has at the rank of an id, or another value where it has none.
abbrev pub at_rank : {A : Type 0} → A → List A → List ℕ → ℕ → A
at_rank other values ids x = value_at other values (rank_in ids x)
