use Rattle.spv_declarations.specs.inner.BuiltIn.{AreTheirs}
use Rattle.spv_declarations.specs.inner.Said.{BuildsIn}
use Rattle.spv_declarations.specs.inner.Sets.{GathersBoth}
use Rattle.spv_declarations.proofs.built_in.built_ins.Given as goal

abbrev pub invariant-loop-number : goal.invariant-loop-number
invariant-loop-number l = record {
  members : GathersBoth l.number l.definitions (BuildsIn l.definitions) l.found.members;
  structs : AreTheirs l.found;
}
