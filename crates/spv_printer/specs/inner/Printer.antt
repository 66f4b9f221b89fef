-- What is kept from one instruction to the next. (For the code alone.)
use Rattle.std.specs.Prelude.{◌≡◌, Bool, List, false, map, true}
use Rattle.std.specs.List.{list_any}
use Rattle.spv_inst.specs.declared.definitions.Definitions.{Definitions}
use Rattle.spv_inst.specs.inner.Known.{Knows}
use Rattle.spv_module.specs.declared.operand.Operand.{Operand}
use Rattle.spv_module.specs.declared.operand.Operand.TheVariants as code
use Rattle.spv_module.specs.Operand.{PlainInst}
use Rattle.spv_table.specs.Table.{Table, IsWhole}
use Rattle.spv_table.specs.inner.Form.{form_of}
use Rattle.spv_printer.specs.declared.printer.Printer.{Printer}
use Rattle.spv_printer.specs.inner.Names.{AreNames}

-- What is kept is by the table, whatever instructions came before.
pub record IsReady (G : Table) (p : Printer) : Type 0 where
  pub whole : IsWhole G
  pub forms : p.forms.now ≡ map form_of G.kinds
  pub names : AreNames G p.names

-- is an operand a number: of no other does the text depend on the instructions before
abbrev pub is_number : Operand → Bool
is_number (code.Number low high words) = true
is_number _ = false

-- What is kept is what the instructions before tell, if one of the operands is a number.
abbrev pub KnowsFor : Definitions → List PlainInst → List Operand → Type 0
KnowsFor d before operands = list_any is_number operands ≡ true → Knows d before
