-- Which models the operands of an OpMemoryModel and an OpEntryPoint begin with. (For the code alone.)
use Rattle.std.specs.Prelude.{◌≡◌, ◌⊎◌, List, ◌∷◌}
use Rattle.spv_module.specs.Operand.{Plain, Value}

-- the first is Physical32 (1) or Physical64 (2)
abbrev pub HasAddressing : List Plain → Type 0
HasAddressing (Value k a ∷ os) = (a ≡ 1) ⊎ (a ≡ 2)
HasAddressing _ = ⊥

-- the second is OpenCL (2)
abbrev pub HasMemory : List Plain → Type 0
HasMemory (o ∷ Value k m ∷ os) = m ≡ 2
HasMemory _ = ⊥

-- the first is Kernel (6)
abbrev pub HasKernelModel : List Plain → Type 0
HasKernelModel (Value k m ∷ os) = m ≡ 6
HasKernelModel _ = ⊥
