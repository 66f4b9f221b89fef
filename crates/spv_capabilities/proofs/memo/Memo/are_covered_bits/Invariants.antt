use Rattle.std.proofs.Common.{◌↔◌}
use Rattle.spv_capabilities.specs.Capable.{IsCoveredValue, IsCoveredMask}
use Rattle.spv_capabilities.specs.inner.Known.{IsKnown}
use Rattle.spv_capabilities.proofs.Bits.{AllFrom}
use Rattle.spv_capabilities.proofs.memo.Memo.are_covered_bits.Given as goal

abbrev pub invariant-loop-position : goal.invariant-loop-position
invariant-loop-position l = record {
  known : IsKnown l.survey l.self;
  left : IsCoveredMask l.survey.table l.survey.insts l.kind l.mask
      ↔ AllFrom (IsCoveredValue l.survey.table l.survey.insts l.kind) l.mask l.position;
}
