use Rattle.spv_declarations.specs.inner.Said.{GivesGroup, ImportsGroup}
use Rattle.spv_declarations.specs.inner.Sets.{Gathers, GathersBoth}
use Rattle.spv_declarations.proofs.said.Said.gather.Given as goal

abbrev pub invariant-loop-number : goal.invariant-loop-number
invariant-loop-number l = record {
  pairs : GathersBoth l.number l.definitions (GivesGroup l.groups) l.pairs;
  importing : Gathers l.number l.definitions (ImportsGroup l.groups l.linkage) l.importing;
}
