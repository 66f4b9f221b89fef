use Rattle.std.proofs.Common.{◌≡◌, ◌<◌, ◌-◌, Some, length, refl, arith}
use Rattle.std.specs.Prelude.{slice_get, slice_index}
use Rattle.std.proofs.lemmas.List.{get_or_read}
use Rattle.std.proofs.lemmas.Option.{slice_get_read}
use Rattle.spv_flow.proofs.lemmas.branches.Chains.{adds_none, adds_at}
use Rattle.spv_flow.proofs.branches.edges.Edges.add.Goals as goal

pub returns-then-index-source : goal.returns-then-index-source
returns-then-index-source c =
    let s = c.args.self.now in
    let links = s.links.items in
    let h = c.index-head.result.now in
    let top : h ≡ slice_index s.heads.items c.args.target = get_or_read s.heads.items c.args.target h c.requires.target
    c.index-head.ensures 0 in
    let bound = c.requires.edges.tops c.args.target in
    let lt : h - 1 < length links = omega arith in
    let at : slice_get links (h - 1) ≡ Some c.index.result.now = slice_get_read links (length links)
    (h - 1) c.index.result.now refl lt c.index.ensures in
    adds_none links s.heads.items c.args.source c.args.target h c.index.result.now c.requires.edges top
    (omega arith) at c.if-index-source.true

pub returns : goal.returns
returns c =
    let s = c.args.self.now in
    let h = c.index-head.result.now in
    let top : h ≡ slice_index s.heads.items c.args.target = get_or_read s.heads.items c.args.target h c.requires.target
    c.index-head.ensures 0 in
    let count : c.len.result ≡ length c.push.new.self.items = omega (arith, c.len.ensures, c.push.new.self.ok.0) in
    adds_at s.links.items c.push.new.self.items s.heads.items _ c.args.source c.args.target h c.len.result
    c.requires.edges c.requires.source c.requires.target top c.in_ok-push.ensures.items refl count
