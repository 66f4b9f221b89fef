use Rattle.std.proofs.Common.{◌↔◌}
use Rattle.spv_capabilities.specs.Capable.{IsCoveredValue, IsCoveredMask}
use Rattle.spv_capabilities.proofs.Bits.{AllFrom}
use Rattle.spv_form_evidence.proofs.capabilities.needs.uncovered_bit.Given as goal

abbrev pub invariant-loop-position : goal.invariant-loop-position
invariant-loop-position l =
    IsCoveredMask l.survey.table l.survey.insts l.kind l.mask
    ↔ AllFrom (IsCoveredValue l.survey.table l.survey.insts l.kind) l.mask l.position
