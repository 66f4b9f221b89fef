use Rattle.std.proofs.Common.{take}
use Rattle.std.specs.List.{filter_map}
use Rattle.spv_table.specs.Table.{kind_of}
use Rattle.spv_table.specs.Lookups.{value_named}
use Rattle.spv_table.specs.Implied.{enumerants_of}
use Rattle.spv_table.specs.inner.Reached.{AddsAll}
use Rattle.spv_table.proofs.implied.Reached.add_named.Given as goal

abbrev pub invariant-loop-place : goal.invariant-loop-place
invariant-loop-place l = AddsAll (filter_map (value_named (enumerants_of (kind_of l.table l.kind))) (take l.place l.names)) l.initial.self l.self
