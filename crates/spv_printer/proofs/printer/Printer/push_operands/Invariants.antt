use Rattle.std.proofs.Common.{◌≡◌, ℕ, List, Option, is_some, map, take, string_bytes}
use Rattle.spv_module.specs.Operand.{PlainInst, start, result_in, type_in}
use Rattle.spv_module.specs.Module.{plain_operands}
use Rattle.spv_module.specs.Width.{first_id}
use Rattle.spv_inst.specs.Flat.{due}
use Rattle.spv_inst.specs.inner.Pending.{items_of, pending_due}
use Rattle.spv_lines.specs.Operand.{Shown}
use Rattle.spv_lines.specs.Written.{Written}
use Rattle.spv_printer.specs.inner.Printer.{IsReady, KnowsFor}
use Rattle.spv_printer.proofs.Steps.{At}
use Rattle.spv_printer.proofs.printer.Printer.push_operands.Given as goal

abbrev pub invariant-loop-number : goal.invariant-loop-number
invariant-loop-number l = record {
  opcode : l.known.opcode ≡ l.opcode;
  type_id : l.known.type_id ≡ type_in (plain_operands (take l.number l.operands));
  first : l.known.first ≡ first_id (plain_operands (take l.number l.operands));
  has_result : l.has_result ≡ is_some (result_in (plain_operands (take l.number l.operands)));
  shown : (before : List PlainInst) (r : Option ℕ) (us t : List ℕ) → KnowsFor l.fn.self.definitions before l.operands
      → Written (Shown l.table) l.table r (start before l.opcode) (map due (items_of l.pattern))
      (plain_operands l.operands) us t
      → At (Shown l.table) l.table r before l.opcode l.operands (pending_due l.table l.self.pending)
      (string_bytes l.fn.out) (string_bytes l.out) t l.number;
  ready : IsReady l.table l.self;
  same : l.self.definitions ≡ l.fn.self.definitions;
}
