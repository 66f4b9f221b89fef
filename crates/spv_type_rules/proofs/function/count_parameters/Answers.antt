use Rattle.std.proofs.lemmas.Grind.{common_steps}
use Rattle.std.proofs.Common.{◌≡◌, ◌<◌, ◌+◌, ◌∷◌, ◌∙◌, false, sym, ap, map, drop, length, arith, nat_eq}
use Rattle.std.specs.Prelude.{◌||◌}
use Rattle.spv_module.specs.declared.opcode.TheConstants as opcode
use Rattle.spv_module.specs.Module.{plain_inst}
use Rattle.spv_type_rules.specs.inner.Function.{parameters_in}
use Rattle.spv_type_rules.proofs.Counting.{step_counts, step_passes, item_front}
use Rattle.spv_type_rules.proofs.function.count_parameters.Goals.{then-inst-eq-FUNCTION_PARAMETER}
use Rattle.spv_type_rules.proofs.function.count_parameters.Goals.{else-inst-eq-FUNCTION_PARAMETER}
use Rattle.spv_type_rules.proofs.function.count_parameters.Goals as goal

pub loop-inst-preserved : goal.loop-inst-preserved
loop-inst-preserved c =
    let xs = c.args.insts.now in
    let k = c.loop-inst.inst-index in
    let x = c.inst-item.result in
    let l : k < length xs = c.loop-inst-test.true in
    let front = item_front xs k x l c.inst-item.is in
    let e : nat_eq (plain_inst x).opcode opcode.LABEL
    || nat_eq (plain_inst x).opcode opcode.FUNCTION_END ≡ false =
    sym c.ends_parameters.ensures ∙ c.if-ends_parameters.false in
    let inv = c.loop-inst.invariant in
    let most = inv.most in
    let all = parameters_in (map plain_inst xs) in
    let rest = map plain_inst (drop (k + 1) xs) in
    let at : c.loop-inst.count + parameters_in (plain_inst x ∷ rest) ≡ all = ap
    (λ ys. c.loop-inst.count + parameters_in ys) (sym front) ∙ inv.counted in
    elim c.if-inst-eq-FUNCTION_PARAMETER.branch [
      | then-inst-eq-FUNCTION_PARAMETER w ↦ record {
        most = let s = w.count-is in omega arith;
        counted = rw w.count-is (step_counts
            (plain_inst x) rest c.loop-inst.count all e w.if-inst-eq-FUNCTION_PARAMETER.true at);
      }
      | else-inst-eq-FUNCTION_PARAMETER w ↦ record {
        most = let s = w.count-is in omega arith;
        counted = rw w.count-is (step_passes
            (plain_inst x) rest c.loop-inst.count all e w.if-inst-eq-FUNCTION_PARAMETER.false at);
      }
    ]

pub returns-then-ends_parameters : goal.returns-then-ends_parameters
returns-then-ends_parameters c = grind (arith, common_steps)

pub returns : goal.returns
returns c = grind (arith, common_steps)
