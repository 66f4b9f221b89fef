use Rattle.std.proofs.Common.{◌≡◌, ◌<◌, ◌-◌, Some, length, refl, arith}
use Rattle.std.specs.Prelude.{slice_get}
use Rattle.std.proofs.lemmas.Option.{slice_get_read}
use Rattle.spv_flow.proofs.lemmas.branches.Marking.{seeking_found, seeking_more}
use Rattle.spv_flow.proofs.branches.edges.Edges.has_marked.Goals as goal

pub returns-then-marks-link : goal.returns-then-marks-link
returns-then-marks-link c =
    let s = c.args.self.now in
    let links = s.links.items in
    let h = c.loop-head.head in
    let bound = c.loop-head.invariant.within in
    let lt : h - 1 < length links = omega arith in
    let at : slice_get links (h - 1) ≡ Some c.index-link.result.now = slice_get_read links (length links)
    (h - 1) c.index-link.result.now refl lt c.index-link.ensures in
    seeking_found links s.heads.items c.args.target c.args.marks.now h c.index-link.result.now
    (omega arith) at c.if-marks-link.true c.loop-head.invariant

pub loop-head-smaller : goal.loop-head-smaller
loop-head-smaller c =
    let s = c.args.self.now in
    let links = s.links.items in
    let h = c.loop-head.head in
    let bound = c.loop-head.invariant.within in
    let lt : h - 1 < length links = omega arith in
    let at : slice_get links (h - 1) ≡ Some c.index-link.result.now = slice_get_read links (length links)
    (h - 1) c.index-link.result.now refl lt c.index-link.ensures in
    let below = c.requires.edges.next (h - 1) c.index-link.result.now at in
    omega arith

pub loop-head-preserved : goal.loop-head-preserved
loop-head-preserved c =
    let s = c.args.self.now in
    let links = s.links.items in
    let h = c.loop-head.head in
    let bound = c.loop-head.invariant.within in
    let lt : h - 1 < length links = omega arith in
    let at : slice_get links (h - 1) ≡ Some c.index-link.result.now = slice_get_read links (length links)
    (h - 1) c.index-link.result.now refl lt c.index-link.ensures in
    seeking_more links s.heads.items c.args.target c.args.marks.now h c.index-link.result.now c.requires.edges
    (omega arith) at c.if-marks-link.false c.loop-head.invariant
