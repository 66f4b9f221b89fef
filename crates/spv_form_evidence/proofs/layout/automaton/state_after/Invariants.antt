use Rattle.std.proofs.Common.{map, take}
use Rattle.spv_module.specs.Module.{plain_inst}
use Rattle.spv_layout.specs.Layout.{seen_classes}
use Rattle.spv_form_evidence.specs.layout.inner.Automaton.{LeadsTo}
use Rattle.spv_form_evidence.proofs.layout.automaton.state_after.Given as goal

abbrev pub invariant-loop-inst : goal.invariant-loop-inst
invariant-loop-inst l = LeadsTo (seen_classes l.profile (map plain_inst (take l.inst-index l.insts))) l.state
