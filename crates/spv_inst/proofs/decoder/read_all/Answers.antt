use Rattle.std.proofs.lemmas.Grind.{common_steps}
use Rattle.std.proofs.Common.{◌≡◌, ◌++◌, ◌+◌, ◌-◌, ◌∙◌, ◌∷◌, [], length, drop, take, map, sym, ap, arith, length-append}
use Rattle.std.proofs.lemmas.Result.{err_from_is_err_and}
use Rattle.std.proofs.lemmas.List.{take_all, length-drop}
use Rattle.spv_module.specs.Module.{plain_inst}
use Rattle.spv_inst.specs.inner.Batch.{batch_insts}
use Rattle.spv_inst.proofs.Batches.{batch_next, inst_with}
use Rattle.spv_inst.proofs.Decoding.{listed_next, listed_all, listed_only, dead_here, none_there}
use Rattle.spv_inst.proofs.decoder.read_all.Goals as goal

pub returns-in_err-opcode-clause-dead : goal.returns-in_err-opcode-clause-dead
returns-in_err-opcode-clause-dead c =
    let r = err_from_is_err_and c.from_residual.result c.from_residual.ensures.1 in
    let so = map plain_inst c.loop-at.insts.items ++ batch_insts c.loop-at.batch in
    rw (r.1, r.2)
    (dead_here c.args.table.now c.args.image.now so c.loop-at.at c.loop-at.number _ c.loop-at.invariant.listed
    c.loop-at.invariant.number (c.in_err-opcode.ensures.dead so c.loop-at.invariant.knows))

pub returns-in_err-opcode-clause-none : goal.returns-in_err-opcode-clause-none
returns-in_err-opcode-clause-none c =
    let r = err_from_is_err_and c.from_residual.result c.from_residual.ensures.1 in
    let so = map plain_inst c.loop-at.insts.items ++ batch_insts c.loop-at.batch in
    rw (r.1, r.2)
    (none_there c.args.table.now c.args.image.now _
    (dead_here c.args.table.now c.args.image.now so c.loop-at.at c.loop-at.number _ c.loop-at.invariant.listed
    c.loop-at.invariant.number (c.in_err-opcode.ensures.dead so c.loop-at.invariant.knows)))

pub loop-at-preserved : goal.loop-at-preserved
loop-at-preserved c =
    let x = c.in_ok-opcode.field-0 in
    let os = c.loop-at.batch.operands.items in
    let new = c.read_instruction.new.operands.items in
    let so = map plain_inst c.loop-at.insts.items ++ batch_insts c.loop-at.batch in
    let first = x.first in
    let kept = c.in_ok-opcode.ensures.kept in
    let f0 = kept.0 in
    let fewer = c.in_ok-settle.ensures.fewer in
    let same : length c.close.new.self.operands.items ≡ length new = ap length c.close.ensures.operands in
    let few = c.in_ok-opcode.ensures.few in
    let was = c.loop-at.invariant.few in
    let number = c.loop-at.invariant.number in
    let d = length-drop first new in
    let v : take (length new - first) (drop first new) ≡ drop first new = take_all (length new - first) (drop first new)
    (omega arith) in
    let a = rw (c.deref.ensures.value, v) at (c.in_ok-add.ensures.knows so c.loop-at.invariant.knows) in
    let e = batch_next os new c.loop-at.batch.heads.items (map plain_inst c.loop-at.insts.items) _ _ first
    (inst_with x.opcode (drop first new)) kept.1 c.in_ok-close.ensures.added c.in_ok-settle.ensures.same in
    let l = length-append so (inst_with x.opcode (drop first new) ∷ []) in
    record {
      tidy = c.in_ok-settle.ensures.tidy;
      few = omega arith;
      number = ap (λ n. n + 1) number ∙ sym (ap length e ∙ l);
      knows = rw e a;
      listed = listed_next c.args.table.now c.args.image.now so _
          (inst_with x.opcode (drop first new)) c.loop-at.at x.end c.loop-at.invariant.listed
          c.in_ok-opcode.ensures.within.0 c.in_ok-opcode.ensures.within.1
          (c.in_ok-opcode.ensures.read so c.loop-at.invariant.knows) e;
    }

pub returns-clause-found : goal.returns-clause-found
returns-clause-found c =
    let h = rw c.len-len.ensures.words at c.loop-at-test.false in
    rw c.in_ok-move_into.ensures.moved
    (listed_all c.args.table.now c.args.image.now
    (map plain_inst c.loop-at.insts.items ++ batch_insts c.loop-at.batch) c.loop-at.at c.loop-at.invariant.listed h)

pub returns-clause-only : goal.returns-clause-only
returns-clause-only c = λ is m.
    let h = rw c.len-len.ensures.words at c.loop-at-test.false in
    let so = map plain_inst c.loop-at.insts.items ++ batch_insts c.loop-at.batch in
    rw c.in_ok-move_into.ensures.moved
    (listed_only c.args.table.now c.args.image.now so is
    (listed_all c.args.table.now c.args.image.now so c.loop-at.at c.loop-at.invariant.listed h) m)

pub slice_bounds-add-count : goal.slice_bounds-add-count
slice_bounds-add-count c = grind (arith, common_steps)

pub slice_bounds-add-start : goal.slice_bounds-add-start
slice_bounds-add-start c = grind (arith, common_steps)

pub close-requires-clause-within : goal.close-requires-clause-within
close-requires-clause-within c = grind (arith, common_steps)
