use Rattle.std.proofs.Common.{◌≡◌, ◌+◌, drop}
use Rattle.spv_annotate.specs.inner.Linked.{until_id}
use Rattle.spv_annotate.proofs.linked.size_by_bytes.Given as goal

abbrev pub invariant-loop-at : goal.invariant-loop-at
invariant-loop-at l = until_id l.fn.quoting l.line ≡ l.at + until_id l.here (drop l.at l.line)
