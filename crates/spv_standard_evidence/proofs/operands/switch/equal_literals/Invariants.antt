use Rattle.spv_module.specs.Module.{plain_inst}
use Rattle.spv_limits.specs.inner.Kept.{kept}
use Rattle.spv_standard_evidence.proofs.Switched.{AreApart, AreFirsts}
use Rattle.spv_standard_evidence.proofs.operands.switch.equal_literals.Given as goal

abbrev pub invariant-loop-k : goal.invariant-loop-k
invariant-loop-k l = record {
  firsts : AreFirsts (plain_inst l.inst).operands l.k (kept l.firsts);
  apart : AreApart (plain_inst l.inst).operands l.k;
}
