use Rattle.spv_ids.specs.inner.Survey.{insts_of}
use Rattle.spv_ids.proofs.Scopes.{if_first, if_later, scope_tells}
use Rattle.spv_ids.proofs.survey.Survey.is_in_scope.Goals as goal

pub returns : goal.returns
returns c =
    let s = c.args.self.now in
    let v = c.requires.survey in
    let o = (c.is_scoped.ensures (insts_of s) c.args.site.now.inst c.requires.site.section).0 c.if-not-is_scoped.false
    in
    let a = c.home_of-first.ensures (insts_of s) c.args.id v.places
    (if_first s c.args.id c.args.first v c.requires.first) in
    let b = c.home_of-later.ensures (insts_of s) c.args.id v.places
    (if_later s c.args.id c.get.result v c.get.ensures) in
    scope_tells s c.args.site.now c.args.id c.home_of-first.result c.home_of-later.result c.is_scope.result v
    c.requires.site (rw c.requires.first at a) (rw c.get.ensures at b) c.is_scope.ensures o
