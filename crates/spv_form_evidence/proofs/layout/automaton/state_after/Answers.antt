use Rattle.std.proofs.Common.{sym, arith}
use Rattle.spv_layout.specs.declared.state.State.TheVariants as at
use Rattle.spv_layout.proofs.Layouts.{leads_first}
use Rattle.spv_form_evidence.proofs.lemmas.layout.States.{leads_to}
use Rattle.spv_form_evidence.proofs.lemmas.layout.Finding.{leads_all, leads_more, nowhere}
use Rattle.spv_form_evidence.proofs.layout.automaton.state_after.Goals as goal

pub loop-inst-init : goal.loop-inst-init
loop-inst-init c = leads_to _ at.Capabilities leads_first

pub returns-in_default : goal.returns-in_default
returns-in_default c =
    nowhere c.args.profile c.args.insts.now c.loop-inst.inst-index c.inst-item.result c.loop-inst.state
    c.loop-inst-test.true c.inst-item.is (sym c.in_default.ensures) c.loop-inst.invariant

pub loop-inst-preserved : goal.loop-inst-preserved
loop-inst-preserved c =
    leads_more c.args.profile c.args.insts.now c.loop-inst.inst-index c.inst-item.result c.loop-inst.state
    c.in-Some.after c.loop-inst-test.true c.inst-item.is (sym c.in-Some.ensures) c.loop-inst.invariant

pub returns : goal.returns
returns c = leads_all c.args.profile c.args.insts.now c.loop-inst.inst-index c.loop-inst.state (omega arith) c.loop-inst.invariant
