-- Lines and merges among classes. [3.49.2, 3.49.17] (For the code alone.)
use Rattle.std.specs.Prelude.{List, [], ◌∷◌, Bool, not, filter}
use Rattle.spv_layout.specs.declared.class.Class.{Class}
use Rattle.spv_layout.specs.declared.class.Class.TheVariants.{LoopMerge, SelectionMerge, Line, Label, Phi, Extended}
use Rattle.spv_layout.specs.Class.{is_among}
use Rattle.spv_layout.specs.Expression.{Expression, ◌then◌, one, mixed}
use Rattle.spv_layout.specs.Layout.{body, ending}

-- OpLoopMerge and OpSelectionMerge [3.49.17]
abbrev pub is_merge : Class → Bool
is_merge c = is_among c (LoopMerge ∷ SelectionMerge ∷ [])

-- OpLine and OpNoLine [3.49.2]
abbrev pub is_line : Class → Bool
is_line c = is_among c (Line ∷ [])

-- the classes without OpLine and OpNoLine [2.4]
abbrev pub without_lines : List Class → List Class
without_lines cs = filter (λ c. not (is_line c)) cs

-- a block that is not the first of its definition: its label, its phis, a body and an end
abbrev pub other_block : Expression
other_block = one Label then mixed (Phi ∷ Extended ∷ []) then body then ending
