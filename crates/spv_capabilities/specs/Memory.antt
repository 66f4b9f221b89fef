-- M1: the addressing and memory model. [3.4, 3.5; the choice own]
use Rattle.std.specs.Prelude.{◌≡◌, ◌⊎◌, List, [], ◌∷◌}
use Rattle.spv_module.specs.Operand.{Plain, Value}

-- The operands of an OpMemoryModel are Physical32 (1) or Physical64 (2), and OpenCL (2). [3.49.5; own]
abbrev pub IsModel : List Plain → Type 0
IsModel (Value k a ∷ Value l m ∷ []) = ((a ≡ 1) ⊎ (a ≡ 2)) × (m ≡ 2)
IsModel _ = ⊥
