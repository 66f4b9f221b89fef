-- The types on the way of literal indexes. [3.49.12 OpCompositeExtract, OpCompositeInsert; 2.2.2]
use Rattle.std.specs.Prelude.{ℕ, List, [], ◌∷◌, option_map, unwrap_or}
use Rattle.spv_module.specs.Operand.{PlainInst}
use Rattle.spv_conditions.specs.Path.{part_within}

-- t, and the types that indexes lead to from it, one after another, as far as each is that of a part [3.49.12]
abbrev pub path_by : List PlainInst → List ℕ → ℕ → List ℕ
path_by is [] t = t ∷ []
path_by is (k ∷ ks) t = t ∷ unwrap_or (option_map (λ u. path_by is ks u) (part_within is t k)) []
