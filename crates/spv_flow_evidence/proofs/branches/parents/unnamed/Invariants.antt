use Rattle.std.proofs.Common.{◌≡◌, ◌<◌, ℕ, true, None}
use Rattle.spv_flow.specs.branches.inner.Edges.{marked}
use Rattle.spv_flow_evidence.specs.branches.inner.Known.{name_of}
use Rattle.spv_flow_evidence.proofs.branches.parents.unnamed.Given as goal

abbrev pub invariant-loop-block : goal.invariant-loop-block
invariant-loop-block l = (p : ℕ) → p < l.block → marked l.marks p ≡ true → ¬ (name_of l.names p ≡ None)
