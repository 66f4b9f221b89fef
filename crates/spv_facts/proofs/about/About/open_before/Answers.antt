use Rattle.std.proofs.Common.{◌∙◌, sym, arith}
use Rattle.spv_module.specs.Module.{plain_inst, plain_insts}
use Rattle.spv_facts.proofs.Steps.{open_last, open_none, open_step}
use Rattle.spv_facts.proofs.about.About.open_before.Goals as goal

pub loop-at-preserved : goal.loop-at-preserved
loop-at-preserved c =
    rw (c.left_by-before.ensures, c.entered.ensures)
    (sym (open_step (plain_insts c.args.self.now.«module».now) c.args.inst c.loop-at.at c.loop-at.before
    (plain_inst c.in-Some.next.now)
    (sym c.in-Some.ensures) (omega arith)) ∙ c.loop-at.invariant)

pub returns-in_default : goal.returns-in_default
returns-in_default c =
    sym (open_none (plain_insts c.args.self.now.«module».now) c.args.inst c.loop-at.at c.loop-at.before
    (sym c.in_default.ensures)) ∙ c.loop-at.invariant

pub returns : goal.returns
returns c =
    sym (open_last (plain_insts c.args.self.now.«module».now) c.args.inst c.loop-at.at c.loop-at.before (omega arith))
    ∙ c.loop-at.invariant
