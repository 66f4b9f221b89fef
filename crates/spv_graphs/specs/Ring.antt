-- A ring of three nodes.
use Rattle.std.specs.Prelude.{List, [], ◌∷◌, Bool, true, false}
use Rattle.spv_graphs.specs.declared.edge.Edge.{Edge}

abbrev pub ring : List Edge
ring = record { from = 0; to = 1 } ∷ record { from = 1; to = 2 } ∷ record { from = 2; to = 0 } ∷ []

abbrev pub all_open : List Bool
all_open = false ∷ false ∷ false ∷ []

abbrev pub second_closed : List Bool
second_closed = false ∷ true ∷ false ∷ []
