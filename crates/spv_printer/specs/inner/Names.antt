-- Which names were found to be shown. (For the code alone.)
use Rattle.std.specs.Prelude.{◌≡◌, ◌<◌, ◌+◌, ◌*◌, ℕ, Some, Bool, true, false, is_some, if◌then◌else◌}
use Rattle.std.specs.Prelude.{slice_index_or}
use Rattle.std.specs.declared.cmp.Ordering.{Ordering}
use Rattle.std.specs.BTreeMap as tree
use Rattle.spv_table.specs.declared.table.Entry.{Entry}
use Rattle.spv_table.specs.Table.{Table, entry_of, kind_of}
use Rattle.spv_inst.specs.Reading.{enumerants_at}
use Rattle.spv_lines.specs.Name.{by_number, first_name, names_from}
use Rattle.spv_lines.specs.Line.{shown_name}
use Rattle.spv_printer.specs.declared.named.Named.{Named}
use Rattle.spv_printer.specs.declared.named.Named.TheVariants.{Opcode, Value, Mask}
use Rattle.spv_printer.specs.declared.names.Names.{Names}
use Rattle.spv_printer.specs.contracts.named.NamedOrd.TheImpl as named_order

-- whether an opcode is shown by the name of its entry, a value by that of its enumerant, a mask by those of its set
-- bits
abbrev pub IsShownBy : Table → Named → Bool → Type 0
IsShownBy G (Opcode x) by_name =
    (e : Entry) → entry_of G x ≡ Some e → shown_name G x e ≡ (if by_name then e.name else by_number x)
IsShownBy G (Value k x) by_name = is_some (first_name (enumerants_at (kind_of G k)) x) ≡ by_name
IsShownBy G (Mask k x) by_name = is_some (names_from (enumerants_at (kind_of G k)) x 0) ≡ by_name

-- the place at which it is kept whether something was found to be shown by a name
abbrev pub IsPlace : Named → ℕ → Type 0
IsPlace (Opcode x) at = (x < 1024) × (at ≡ x)
IsPlace (Value k x) at = (k < 128) × (x < 64) × (at ≡ 1024 + 64 * k + x)
IsPlace (Mask k x) at = (k < 128) × (x < 64) × (at ≡ 9216 + 64 * k + x)

-- the order of the keys
abbrev pub named_cmp : Named → Named → Ordering
named_cmp = (named_order.ghosts).cmp

-- What is kept is so by the table.
pub record AreNames (G : Table) (n : Names) : Type 0 where
  pub found : (named : Named) (at : ℕ) → IsPlace named at → slice_index_or n.found.items at false ≡ true
      → IsShownBy G named true
  pub others : (named : Named) (by_name : Bool) → tree.get named_cmp n.others named ≡ Some by_name
      → IsShownBy G named by_name
