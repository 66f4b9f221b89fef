use Rattle.std.proofs.Common.{◌≤◌, ◌∙◌, length, map, ap, sym, arith}
use Rattle.std.proofs.lemmas.List.{take_all}
use Rattle.spv_module.specs.declared.module.Inst.{Inst}
use Rattle.spv_pictures.specs.Function.{ends_function}
use Rattle.spv_module.specs.Module.{plain_inst}
use Rattle.spv_module.specs.Operand.{PlainInst}
use Rattle.spv_pictures.proofs.Grouped.{before-map, position_end, position_here}
use Rattle.spv_pictures.proofs.function.body_of.Goals as goal

pub returns-then-ends_before-clause-body : goal.returns-then-ends_before-clause-body
returns-then-ends_before-clause-body c =
    let insts = c.args.insts.now in
    let p = position_here (λ (i : Inst). ends_function i.opcode) insts c.loop-count.count c.index-insts-count.result
    (omega arith) c.index-insts-count.is
    (ap (λ (i : Inst). ends_function i.opcode) c.index-insts-count.is
    ∙ (sym c.ends_before.ensures ∙ c.if-ends_before.true)) c.loop-count.invariant.1 in
    before-map (λ (i : PlainInst). ends_function i.opcode) plain_inst insts c.loop-count.count p

pub returns-clause-body : goal.returns-clause-body
returns-clause-body c =
    let insts = c.args.insts.now in
    let h : length insts ≤ c.loop-count.count = omega arith in
    let p = position_end (λ (i : Inst). ends_function i.opcode) insts c.loop-count.count h c.loop-count.invariant.1 in
    ap (map plain_inst) (sym (take_all c.loop-count.count insts h))
    ∙ before-map (λ (i : PlainInst). ends_function i.opcode) plain_inst insts c.loop-count.count p
