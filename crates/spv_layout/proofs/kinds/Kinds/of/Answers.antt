use Rattle.std.proofs.Common.{◌≡◌, ◌<◌, ap, arith, Some}
use Rattle.std.specs.Prelude.{slice_get}
use Rattle.spv_table.specs.Lookups.{number_named}
use Rattle.spv_layout.specs.declared.form.Named.{Named}
use Rattle.spv_layout.specs.declared.form.Named.TheVariants as kind_of
use Rattle.spv_layout.specs.declared.kinds.Kinds.TheInside.{Inside}
use Rattle.spv_layout.specs.Row.{name_of}
use Rattle.spv_layout.specs.inner.Kinds.{place_of, AreNumbered}
use Rattle.spv_layout.proofs.kinds.Kinds.of.Goals as goal

by_kind : (k : Inside)
    → slice_get k.numbers 0 ≡ Some (number_named k.table.now (name_of kind_of.SourceLanguage))
    → slice_get k.numbers 1 ≡ Some (number_named k.table.now (name_of kind_of.AddressingModel))
    → slice_get k.numbers 2 ≡ Some (number_named k.table.now (name_of kind_of.MemoryModel))
    → slice_get k.numbers 3 ≡ Some (number_named k.table.now (name_of kind_of.ExecutionModel))
    → slice_get k.numbers 4 ≡ Some (number_named k.table.now (name_of kind_of.ExecutionMode))
    → slice_get k.numbers 5 ≡ Some (number_named k.table.now (name_of kind_of.Capability))
    → slice_get k.numbers 6 ≡ Some (number_named k.table.now (name_of kind_of.StorageClass))
    → slice_get k.numbers 7 ≡ Some (number_named k.table.now (name_of kind_of.Decoration))
    → slice_get k.numbers 8 ≡ Some (number_named k.table.now (name_of kind_of.FunctionControl))
    → slice_get k.numbers 9 ≡ Some (number_named k.table.now (name_of kind_of.MemoryAccess))
    → AreNumbered k
by_kind k h0 h1 h2 h3 h4 h5 h6 h7 h8 h9 = record { known = of_kind } where
  of_kind : (kind : Named) → place_of kind < 10
      → slice_get k.numbers (place_of kind) ≡ Some (number_named k.table.now (name_of kind))
  of_kind kind_of.SourceLanguage l = h0
  of_kind kind_of.AddressingModel l = h1
  of_kind kind_of.MemoryModel l = h2
  of_kind kind_of.ExecutionModel l = h3
  of_kind kind_of.ExecutionMode l = h4
  of_kind kind_of.Capability l = h5
  of_kind kind_of.StorageClass l = h6
  of_kind kind_of.Decoration l = h7
  of_kind kind_of.FunctionControl l = h8
  of_kind kind_of.MemoryAccess l = h9
  of_kind kind_of.LoopControl l = absurd (omega arith)
  of_kind kind_of.SelectionControl l = absurd (omega arith)
  of_kind kind_of.Dim l = absurd (omega arith)
  of_kind kind_of.ImageFormat l = absurd (omega arith)
  of_kind kind_of.AccessQualifier l = absurd (omega arith)
  of_kind kind_of.SamplerAddressingMode l = absurd (omega arith)
  of_kind kind_of.SamplerFilterMode l = absurd (omega arith)
  of_kind kind_of.GroupOperation l = absurd (omega arith)
  of_kind kind_of.PackedVectorFormat l = absurd (omega arith)
  of_kind kind_of.ImageOperands l = absurd (omega arith)

pub invariant_of-result : goal.invariant_of-result
invariant_of-result c =
    by_kind _ (ap Some c.number_of.ensures) (ap Some c.number_of-2.ensures) (ap Some c.number_of-3.ensures)
    (ap Some c.number_of-4.ensures) (ap Some c.number_of-5.ensures) (ap Some c.number_of-6.ensures)
    (ap Some c.number_of-7.ensures) (ap Some c.number_of-8.ensures) (ap Some c.number_of-9.ensures)
    (ap Some c.number_of-10.ensures)
