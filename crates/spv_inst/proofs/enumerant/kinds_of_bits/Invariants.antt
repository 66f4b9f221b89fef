use Rattle.std.proofs.Common.{◌≡◌, ◌-◌, ◌^◌}
use Rattle.spv_table.specs.Table.{kind_of}
use Rattle.spv_module.specs.Spelling.{mask_parameters}
use Rattle.spv_inst.specs.Reading.{enumerants_at}
use Rattle.spv_inst.proofs.Opened.{kinds_from, with_kinds}
use Rattle.spv_inst.proofs.enumerant.kinds_of_bits.Given as goal

abbrev pub invariant-loop-position : goal.invariant-loop-position
invariant-loop-position l =
    mask_parameters (enumerants_at (kind_of l.table l.kind)) l.mask ≡ with_kinds l.kinds
    (kinds_from (enumerants_at (kind_of l.table l.kind)) l.mask (32 - l.position) (2 ^ l.position))
