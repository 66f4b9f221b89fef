use Rattle.std.proofs.Common.{◌∙◌, ◌+◌, ◌*◌, sym, arith}
use Rattle.spv_module.specs.Module.{plain_inst}
use Rattle.spv_run.proofs.Moving.{switch_target, one_target, no_target}
use Rattle.spv_run.proofs.moves.target_of.Goals as goal

pub returns-then-inst-eq-SWITCH : goal.returns-then-inst-eq-SWITCH
returns-then-inst-eq-SWITCH c = λ G v xs fits h.
    c.named_id.ensures ∙ switch_target G (plain_inst c.args.inst.now) v c.args.choice
    (c.args.choice * 2 + 1) xs c.if-inst-eq-SWITCH.true (omega arith) fits h

pub returns-then-choice-lt2 : goal.returns-then-choice-lt2
returns-then-choice-lt2 c = λ G v xs fits h.
    c.named_id-then-choice-lt2.ensures ∙ one_target G (plain_inst c.args.inst.now) v c.args.choice
    (c.args.choice + 1) xs c.if-inst-eq-SWITCH.false c.if-choice-lt2.true (omega arith) fits h

pub returns-else-choice-lt2 : goal.returns-else-choice-lt2
returns-else-choice-lt2 c =
    λ G v xs fits h. sym (no_target G (plain_inst c.args.inst.now) v c.args.choice xs c.if-inst-eq-SWITCH.false
    c.if-choice-lt2.false fits h)
