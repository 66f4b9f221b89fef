use Rattle.spv_flow.proofs.lemmas.branches.Marking.{IsSeeking}
use Rattle.spv_flow.proofs.branches.edges.Edges.has_marked.Given as goal

abbrev pub invariant-loop-head : goal.invariant-loop-head
invariant-loop-head l = IsSeeking l.self.links.items l.self.heads.items l.target l.marks l.head

abbrev pub decreases-loop-head : goal.decreases-loop-head
decreases-loop-head l = l.head
