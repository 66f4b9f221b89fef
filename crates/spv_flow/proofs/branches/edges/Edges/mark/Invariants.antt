use Rattle.spv_flow.proofs.lemmas.branches.Marking.{IsMarking}
use Rattle.spv_flow.proofs.branches.edges.Edges.mark.Given as goal

abbrev pub invariant-loop-head : goal.invariant-loop-head
invariant-loop-head l = IsMarking l.self.links.items l.self.heads.items l.target l.fn.marks l.marks l.head

abbrev pub decreases-loop-head : goal.decreases-loop-head
decreases-loop-head l = l.head
