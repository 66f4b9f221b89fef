use Rattle.std.proofs.Common.{sym, subst, rules}
use Rattle.spv_ranks.specs.inner.Rising.{AreRising}
use Rattle.spv_ranks.proofs.Ranking.{found_at, gap_at}
use Rattle.spv_ranks.proofs.ranks.Ranks.rank.Goals as goal

pub returns-then-ids-at : goal.returns-then-ids-at
returns-then-ids-at c =
    let e = c.as_slice-ids.ensures.value in
    found_at _ _ _ _ c.self.view_is e (subst AreRising c.self.view_is c.self.invariant) _ c.if-at-ids.true
    c.if-ids-at.true

pub returns-then-is_gap : goal.returns-then-is_gap
returns-then-is_gap c =
    gap_at _ _ _ _ c.self.view_is c.as_slice-ids.ensures.value
    (subst AreRising c.self.view_is c.self.invariant) c.guess-at.result (c.if-is_gap.ensures (search rules))
