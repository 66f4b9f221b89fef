use Rattle.std.proofs.lemmas.Bool.{both_ways}
use Rattle.spv_flow.specs.branches.inner.Edges.{marked}
use Rattle.spv_flow.proofs.branches.faults.target_of.Goals as goal

pub returns-in_default : goal.returns-in_default
returns-in_default c = λ G is. c.in_default.ensures.label G is

pub returns-then-entries-target : goal.returns-then-entries-target
returns-then-entries-target c =
    λ G is. (
      c.in-Some.target,
      c.in-Some.ensures.label G is,
      c.requires.entries.sound c.in-Some.target c.if-entries-target.true,
    )

pub returns-else-entries-target : goal.returns-else-entries-target
returns-else-entries-target c = λ G is.
    let t = c.in-Some.target in (
      t,
      c.in-Some.ensures.label G is,
      λ e. both_ways (marked c.args.entries.now t) c.if-entries-target.false
          (c.requires.entries.complete t c.in-Some.ensures.within e),
    )
