use Rattle.std.proofs.Common.{◌≡◌, ◌≤◌, ◌<◌, ◌+◌, length, map, drop, set, sym, ◌∙◌, arith}
use Rattle.std.proofs.lemmas.List.{length-set, drop-set-lt}
use Rattle.spv_module.specs.declared.opcode.TheConstants.{EXT_INST}
use Rattle.spv_module.specs.declared.module.Inst.{Inst}
use Rattle.spv_module.specs.Module.{plain_inst, plain_operands}
use Rattle.spv_extended.specs.inner.Parts.{given, operands_in}
use Rattle.spv_extended.proofs.Parting.{handed_more, handed_same, room_more, room_same}
use Rattle.spv_extended.proofs.opening.give.Goals.{then-inst-eq-EXT_INST+in_ok-operands, else-inst-eq-EXT_INST}
use Rattle.spv_extended.proofs.opening.give.Goals as goal

pub loop-at-preserved : goal.loop-at-preserved
loop-at-preserved c =
    let os = c.args.shared.now.value.items in
    let xs = c.loop-at.insts.items in
    let k = c.loop-at.at in
    let x = c.index-inst.result.now in
    let h : k < length xs = omega arith in
    elim c.if-inst-eq-EXT_INST.branch [
      | then-inst-eq-EXT_INST+in_ok-operands w ↦
          let y : Inst = record { opcode = EXT_INST; operands = w.in_ok-operands.operands } in
          let count = w.len-count.result in
          let e : x.opcode ≡ EXT_INST = w.if-inst-eq-EXT_INST.true in
          let r = room_more xs k x h c.index-inst.ensures e in
          let n : count ≡ length x.operands = w.len-count.ensures in
          let d : drop (k + 1) (set xs k y) ≡ drop (k + 1) xs = drop-set-lt (k + 1) xs k y (omega arith) in
          let room : c.loop-at.first + count + operands_in (map plain_inst (drop (k + 1) (set xs k y))) ≤ length os = rw d (omega arith) in
          let all = given (plain_operands os) (map plain_inst c.args.insts.now.items) in
          rw w.insts-is (rw w.first-is (record {
            count = length-set xs k y ∙ c.loop-at.invariant.count;
            room = room;
            handed = handed_more os xs k c.loop-at.first count x y all h c.index-inst.ensures e (sym e) w.in_ok-operands.ensures n c.loop-at.invariant.handed;
          }))
      | else-inst-eq-EXT_INST w ↦
          let all = given (plain_operands os) (map plain_inst c.args.insts.now.items) in
          let e : x.opcode ≡ EXT_INST → ⊥ = w.if-inst-eq-EXT_INST.false in
          let r = room_same xs k x h c.index-inst.ensures e in
          let room : c.loop-at.first + operands_in (map plain_inst (drop (k + 1) xs)) ≤ length os = omega arith in
          rw w.insts-is (rw w.first-is (record {
            count = c.loop-at.invariant.count;
            room = room;
            handed = handed_same os xs k c.loop-at.first x all h c.index-inst.ensures e c.loop-at.invariant.handed;
          }))
    ]
