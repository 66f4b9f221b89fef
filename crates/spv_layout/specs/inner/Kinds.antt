-- The numbers that are kept of a grammar table. (For the code alone.)
use Rattle.std.specs.Prelude.{◌≡◌, ◌<◌, ℕ, Some, slice_get}
use Rattle.spv_table.specs.Lookups.{number_named}
use Rattle.spv_layout.specs.declared.form.Named.{Named}
use Rattle.spv_layout.specs.declared.form.Named.TheVariants as kind_of
use Rattle.spv_layout.specs.declared.kinds.Kinds.TheInside.{Inside}
use Rattle.spv_layout.specs.Row.{name_of}

-- the place of a kind in their order
abbrev pub place_of : Named → ℕ
place_of kind_of.SourceLanguage = 0
place_of kind_of.AddressingModel = 1
place_of kind_of.MemoryModel = 2
place_of kind_of.ExecutionModel = 3
place_of kind_of.ExecutionMode = 4
place_of kind_of.Capability = 5
place_of kind_of.StorageClass = 6
place_of kind_of.Decoration = 7
place_of kind_of.FunctionControl = 8
place_of kind_of.MemoryAccess = 9
place_of kind_of.LoopControl = 10
place_of kind_of.SelectionControl = 11
place_of kind_of.Dim = 12
place_of kind_of.ImageFormat = 13
place_of kind_of.AccessQualifier = 14
place_of kind_of.SamplerAddressingMode = 15
place_of kind_of.SamplerFilterMode = 16
place_of kind_of.GroupOperation = 17
place_of kind_of.PackedVectorFormat = 18
place_of kind_of.ImageOperands = 19

-- each number that is kept is that of the kind of the name
pub record AreNumbered (k : Inside) : Type 0 where
  pub known : (kind : Named) → place_of kind < 10
      → slice_get k.numbers (place_of kind) ≡ Some (number_named k.table.now (name_of kind))
