use Rattle.std.proofs.Common.{◌∙◌, sym}
use Rattle.spv_module.specs.declared.operand.Operand.TheVariants as code
use Rattle.spv_module.specs.Module.{plain_operands}
use Rattle.spv_interfaces.specs.inner.Entries.{NamesIn}
use Rattle.spv_interfaces.proofs.Counting.{counts_id, counts_none}
use Rattle.spv_interfaces.proofs.Interfaces.{id_there, operand_there}
use Rattle.spv_interfaces.proofs.counted.count_all.Goals.{in-Some, in_default}
use Rattle.spv_interfaces.proofs.counted.count_all.Goals as goal

pub loop-operand-init : goal.loop-operand-init
loop-operand-init c = counts_none c.args.k (NamesIn c.args.definitions.now (plain_operands c.args.interface.now))
    c.args.counts.now.items

pub loop-operand-preserved : goal.loop-operand-preserved
loop-operand-preserved c =
    let is = c.args.definitions.now in
    let os = plain_operands c.args.interface.now in
    let i = c.loop-operand.operand-index in
    let t = operand_there c.args.interface.now i (code.OfType 0) c.loop-operand-test.true in
    elim c.match-id_of.branch [
      | in-Some w ↦
          let at = id_there os i w.in-Some.x _ t (sym c.id_of.ensures ∙ w.in-Some.is) in
          rw w.counts-is (counts_id c.args.k is os i w.in-Some.x c.args.counts.now.items c.loop-operand.counts.items
          w.count_id.new.counts.items at c.loop-operand.invariant w.count_id.ensures)
      | in_default w ↦ rw w.counts-is c.loop-operand.invariant
    ]
