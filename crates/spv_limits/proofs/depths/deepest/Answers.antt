use Rattle.std.proofs.lemmas.Option.{slice_get-get_or}
use Rattle.std.proofs.Common.{arith}
use Rattle.spv_module.specs.Operand.{Id}
use Rattle.spv_limits.proofs.Deepest.{deepest_more, plain_within}
use Rattle.spv_limits.proofs.depths.deepest.Goals as goal

pub loop-k-preserved : goal.loop-k-preserved
loop-k-preserved c =
    let d = deepest_more c.args.definitions.now c.args.depths.now c.args.members.now c.loop-k.k c.loop-k.deepest
    c.operand_depth.result c.greater-deepest.result _
    (slice_get-get_or c.args.members.now c.loop-k.k _ c.loop-k-test.true) c.operand_depth.ensures
    c.greater-deepest.ensures c.requires
    (record {
      bound = c.loop-k.invariant.bound;
      reached = c.loop-k.invariant.reached;
      few = c.loop-k.invariant.few;
    }) in
    record { bound = d.bound; reached = d.reached; few = d.few }

pub returns-clause-deepest : goal.returns-clause-deepest
returns-clause-deepest c = record {
  bound = λ p x j at only.
      let w = plain_within c.args.members.now p (Id x) at in
      c.loop-k.invariant.bound p (omega (arith, w)) x j at only;
  reached = c.loop-k.invariant.reached;
}
