use Rattle.spv_table.specs.Implied.{capabilities_in}
use Rattle.spv_table.proofs.Search.{Sofar, Nothing, work}
use Rattle.spv_table.proofs.table.Table.implied.Given as goal

abbrev pub invariant-loop-capability : goal.invariant-loop-capability
invariant-loop-capability l = Sofar l.self l.declared l.reached Nothing

abbrev pub decreases-loop-capability : goal.decreases-loop-capability
decreases-loop-capability l = work (capabilities_in l.self) l.reached
