use Rattle.std.proofs.Common.{◌≡◌, ◌++◌, ℕ, List, Some, string_bytes}
use Rattle.spv_table.specs.Table.{kind_of}
use Rattle.spv_inst.specs.Reading.{enumerants_at}
use Rattle.spv_lines.specs.Name.{names_from, joined}
use Rattle.spv_printer.specs.inner.Names.{AreNames}
use Rattle.spv_printer.proofs.BitNames.{Left}
use Rattle.spv_printer.proofs.name.push_names.Given as goal

abbrev pub invariant-loop-position : goal.invariant-loop-position
invariant-loop-position l = record {
  left : (ts : List (List ℕ)) → names_from (enumerants_at (kind_of l.table l.kind)) l.mask 0 ≡ Some ts
      → Left (enumerants_at (kind_of l.table l.kind)) l.mask (string_bytes l.fn.out ++ joined ts)
      (string_bytes l.out) l.is_first l.position;
  names : AreNames l.table l.names;
}
