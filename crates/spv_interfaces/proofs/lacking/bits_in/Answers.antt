use Rattle.std.proofs.Common.{◌≤◌, ◌∙◌, sym, length, arith}
use Rattle.std.proofs.lemmas.List.{length-map}
use Rattle.spv_module.specs.declared.operand.Operand.TheVariants as code
use Rattle.spv_module.specs.Module.{plain_operand, plain_operands}
use Rattle.spv_interfaces.proofs.Interfaces.{id_there, no_id_there, operand_there}
use Rattle.spv_interfaces.proofs.Missing.{marked_all, marked_more, marked_none, marked_past}
use Rattle.spv_interfaces.proofs.lacking.bits_in.Goals.{in-Some, in_default}
use Rattle.spv_interfaces.proofs.lacking.bits_in.Goals as goal

pub loop-operand-init : goal.loop-operand-init
loop-operand-init c = marked_none c.args.definitions.now (plain_operands c.args.interface.now) c.args.words.now

pub loop-operand-preserved : goal.loop-operand-preserved
loop-operand-preserved c =
    let is = c.args.definitions.now in
    let os = plain_operands c.args.interface.now in
    let words = c.args.words.now in
    let i = c.loop-operand.operand-index in
    let old = c.loop-operand.bits in
    let t = operand_there c.args.interface.now i (code.OfType 0) c.loop-operand-test.true in
    elim c.match-id_of.branch [
      | in-Some w ↦
          let at = id_there os i w.in-Some.x _ t (sym c.id_of.ensures ∙ w.in-Some.is) in
          rw w.bits-is (marked_more is os i w.in-Some.x old w.bits_of-bits.result words at c.loop-operand.invariant
          w.bits_of-bits.ensures)
      | in_default w ↦
          let none = no_id_there os i _ t (sym c.id_of.ensures ∙ w.in_default.is) in
          rw w.bits-is (marked_past is os i old words none c.loop-operand.invariant)
    ]

pub returns : goal.returns
returns c =
    let os = plain_operands c.args.interface.now in
    let i = c.loop-operand.operand-index in
    let m = length-map c.args.interface.now plain_operand in
    let t = c.loop-operand-test.false in
    let l : length os ≤ i = omega (arith, m, t) in
    marked_all c.args.definitions.now os i c.loop-operand.bits c.args.words.now l c.loop-operand.invariant
