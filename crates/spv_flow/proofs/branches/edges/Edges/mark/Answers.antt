use Rattle.std.proofs.Common.{◌≡◌, ◌<◌, ◌-◌, Some, length, refl, arith}
use Rattle.std.specs.Prelude.{slice_get}
use Rattle.std.proofs.lemmas.Option.{slice_get_read}
use Rattle.spv_flow.proofs.lemmas.branches.Marking.{marking_more}
use Rattle.spv_flow.proofs.branches.edges.Edges.mark.Goals as goal

pub loop-head-preserved : goal.loop-head-preserved
loop-head-preserved c =
    let s = c.args.self.now in
    let links = s.links.items in
    let h = c.loop-head.head in
    let bound = c.loop-head.invariant.within in
    let lt : h - 1 < length links = omega arith in
    let at : slice_get links (h - 1) ≡ Some c.index-link.result.now = slice_get_read links (length links)
    (h - 1) c.index-link.result.now refl lt c.index-link.ensures in
    marking_more links s.heads.items c.args.target c.args.marks.now c.loop-head.marks h c.index-link.result.now
    c.requires.edges (omega (arith, c.requires.marks, c.loop-head.auto.marks))
    (omega arith) at c.loop-head.invariant
