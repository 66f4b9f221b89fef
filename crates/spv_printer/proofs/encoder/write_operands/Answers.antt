use Rattle.std.proofs.Common.{◌≤◌, ◌<◌, refl, map, take, length, arith, ap, List, get_or}
use Rattle.spv_module.specs.declared.operand.Operand.{Operand}
use Rattle.spv_module.specs.declared.operand.Operand.TheVariants as code
use Rattle.spv_inst.specs.inner.Pending.{plain_slot, items_of}
use Rattle.spv_inst.specs.Flat.{due}
use Rattle.spv_module.specs.Module.{plain_operands}
use Rattle.spv_inst.proofs.Shapes.{shape_is_leaf}
use Rattle.spv_inst.proofs.Contexts.{near_after}
use Rattle.spv_printer.proofs.Progress.{context_at, at_first, at_step, at_stuck, at_done, at_missing}
use Rattle.spv_printer.proofs.encoder.write_operands.Goals as goal

pub loop-number-init : goal.loop-number-init
loop-number-init c = λ before k.
    at_first c.args.setting.now.table.now c.args.setting.now.definitions.now before c.args.inst.now.opcode
    (map due (items_of c.args.pattern.now)) _ c.args.inst.now.operands _ _
    (rw c.new-known.ensures (record { definitions = k; opcode = refl; type_id = refl; first = refl }))
    (c.start.ensures c.args.setting.now.table.now) c.clear.ensures.items

pub loop-number-preserved : goal.loop-number-preserved
loop-number-preserved c = λ before k.
    let a = c.loop-number.invariant before k in
    let s = rw c.if-not-branch.false at (c.in_ok-write_next.ensures
    (context_at before c.args.inst.now.opcode (plain_operands (take c.loop-number.number c.args.inst.now.operands)))
    a.near) in
    let h : c.loop-number.number < length c.args.inst.now.operands = omega
    (arith, ap length c.as_slice-operands.ensures.value) in
    let tk = ap (λ (xs : List Operand). take c.loop-number.number xs) c.as_slice-operands.ensures.value in
    let t = rw tk at c.known_after-known.ensures.type_id in
    let f = rw tk at c.known_after-known.ensures.first in
    at_step c.args.setting.now.table.now c.args.setting.now.definitions.now before c.args.inst.now.opcode
    (map due (items_of c.args.pattern.now)) c.args.inst.now.operands _ _ _ _ _ _ c.loop-number.number _ _ a h
    (ap (λ (xs : List Operand). get_or xs c.loop-number.number (code.OfType 0)) c.as_slice-operands.ensures.value) s
    (near_after _ _ _ (context_at before c.args.inst.now.opcode
    (plain_operands (take c.loop-number.number c.args.inst.now.operands))) _ a.near
    c.known_after-known.ensures.opcode t f)

pub returns-then-not-branch : goal.returns-then-not-branch
returns-then-not-branch c = λ before k.
    let a = c.loop-number.invariant before k in
    let s = rw c.if-not-branch.true at (c.in_ok-write_next.ensures
    (context_at before c.args.inst.now.opcode (plain_operands (take c.loop-number.number c.args.inst.now.operands)))
    a.near) in
    let h : c.loop-number.number < length c.args.inst.now.operands = omega
    (arith, ap length c.as_slice-operands.ensures.value) in
    at_stuck c.args.setting.now.table.now c.args.setting.now.definitions.now before c.args.inst.now.opcode
    (items_of c.args.pattern.now) c.args.inst.now.operands _ _ _ c.loop-number.number _ _ a h
    (ap (λ (xs : List Operand). get_or xs c.loop-number.number (code.OfType 0)) c.as_slice-operands.ensures.value) s

pub returns-in-None : goal.returns-in-None
returns-in-None c = λ before k.
    let a = c.loop-number.invariant before k in
    let e = rw c.in-None.is at c.in_ok-next_leaf.ensures.due in
    let h : length c.args.inst.now.operands ≤ c.loop-number.number = omega
    (arith, ap length c.as_slice-operands.ensures.value) in
    at_done c.args.setting.now.table.now c.args.setting.now.definitions.now before c.args.inst.now.opcode
    (items_of c.args.pattern.now) c.args.inst.now.operands _ _ _ c.loop-number.number a h e

pub returns-in-Some : goal.returns-in-Some
returns-in-Some c = λ before k.
    let G = c.args.setting.now.table.now in
    let a = c.loop-number.invariant before k in
    let l = rw c.in-Some.is at c.in_ok-next_leaf.ensures.leaf in
    let e = rw c.in-Some.is at c.in_ok-next_leaf.ensures.due in
    let h : length c.args.inst.now.operands ≤ c.loop-number.number = omega
    (arith, ap length c.as_slice-operands.ensures.value) in
    at_missing G c.args.setting.now.definitions.now before c.args.inst.now.opcode
    (items_of c.args.pattern.now) c.args.inst.now.operands _ _ _ c.loop-number.number _ _ a h e
    (shape_is_leaf G _ (plain_slot c.in-Some.field-0.slot) c.in-Some.field-0.leaf l)
