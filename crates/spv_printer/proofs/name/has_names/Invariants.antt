use Rattle.std.proofs.Common.{◌≡◌, is_some}
use Rattle.spv_table.specs.Table.{kind_of}
use Rattle.spv_inst.specs.Reading.{enumerants_at}
use Rattle.spv_lines.specs.Name.{names_from}
use Rattle.spv_printer.specs.inner.Names.{AreNames}
use Rattle.spv_printer.proofs.name.has_names.Given as goal

abbrev pub invariant-loop-position : goal.invariant-loop-position
invariant-loop-position l = record {
  bits : is_some (names_from (enumerants_at (kind_of l.table l.kind)) l.mask 0) ≡ is_some
      (names_from (enumerants_at (kind_of l.table l.kind)) l.mask l.position);
  names : AreNames l.table l.names;
}
