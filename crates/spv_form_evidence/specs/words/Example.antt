-- Small examples.
use Rattle.std.specs.Prelude.{ℕ, List, [], ◌∷◌}

-- 0x0005003D 2 9 8 4: an OpLoad whose operand 3 is a mask with an unknown bit
abbrev pub masked : List ℕ
masked = 327741 ∷ 2 ∷ 9 ∷ 8 ∷ 4 ∷ []
