use Rattle.std.proofs.Common.{sym, subst}
use Rattle.spv_ranks.specs.inner.Rising.{AreRising}
use Rattle.spv_ranks.proofs.Ranking.{halves_found, halves_none}
use Rattle.spv_ranks.proofs.ranks.Ranks.search.Goals as goal

pub returns-in-Ok : goal.returns-in-Ok
returns-in-Ok c =
    let r = subst AreRising c.self.view_is c.self.invariant in
    sym (halves_found _ r c.args.id _ (rw (← c.self.view_is, ← c.deref.ensures.value) c.in-Ok.ensures.position))

pub returns-in-Err : goal.returns-in-Err
returns-in-Err c =
    let r = subst AreRising c.self.view_is c.self.invariant in
    sym (halves_none _ r c.args.id c.in-Err.field-0
    (rw (← c.self.view_is, ← c.deref.ensures.value) c.in-Err.ensures.position))
