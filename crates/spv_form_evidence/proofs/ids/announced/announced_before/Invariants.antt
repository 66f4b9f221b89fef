use Rattle.std.proofs.Common.{map}
use Rattle.spv_module.specs.Module.{plain_inst}
use Rattle.spv_form_evidence.specs.ids.inner.Order.{AreAnnounced}
use Rattle.spv_form_evidence.proofs.ids.announced.announced_before.Given as goal

abbrev pub invariant-loop-m : goal.invariant-loop-m
invariant-loop-m l = AreAnnounced l.bound (map plain_inst l.insts) l.m l.announced
