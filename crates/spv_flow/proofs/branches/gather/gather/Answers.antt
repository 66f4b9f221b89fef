use Rattle.std.proofs.Common.{◌≡◌, ℕ, length, subst, arith}
use Rattle.spv_flow.specs.branches.inner.Code.{insts_of}
use Rattle.spv_flow.specs.branches.inner.Graph.{AreGathered}
use Rattle.spv_flow.proofs.lemmas.branches.Gathering.{gathered_more}
use Rattle.spv_flow.proofs.branches.gather.gather.Goals as goal

pub loop-at-preserved : goal.loop-at-preserved
loop-at-preserved c = record {
  edges = c.in_ok-gather_at.ensures.edges;
  count = c.in_ok-gather_at.ensures.count;
  gathered = λ G is. gathered_more G (insts_of c.args.code.now) c.loop-at.edges c.gather_at.new.edges c.loop-at.at
      (c.loop-at.invariant.gathered G is) (c.in_ok-gather_at.ensures.adds G is);
}

pub returns-clause-gathered : goal.returns-clause-gathered
returns-clause-gathered c = λ G is.
    let e : c.loop-at.at ≡ length c.args.code.now.insts.now = omega arith in
    subst (λ (n : ℕ). AreGathered G (insts_of c.args.code.now) c.loop-at.edges n) e (c.loop-at.invariant.gathered G is)
