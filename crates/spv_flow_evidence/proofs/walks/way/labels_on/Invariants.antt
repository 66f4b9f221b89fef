use Rattle.std.proofs.Common.{◌≡◌, take}
use Rattle.spv_flow_evidence.specs.walks.inner.Way.{labels_of}
use Rattle.spv_flow_evidence.proofs.walks.way.labels_on.Given as goal

abbrev pub invariant-loop-at : goal.invariant-loop-at
invariant-loop-at l = l.labels.items ≡ labels_of l.starts (take l.at l.way)
