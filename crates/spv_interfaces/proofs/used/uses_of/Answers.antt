use Rattle.std.proofs.Common.{◌≡◌, length, arith}
use Rattle.spv_interfaces.proofs.Using.{uses_all, uses_none}
use Rattle.spv_interfaces.proofs.used.uses_of.Goals as goal

pub loop-number-init : goal.loop-number-init
loop-number-init c = rw c.new.ensures.items (record {
  noted = c.in_ok-nothing_noted.ensures;
  uses = λ G fit. uses_none G c.args.minor c.args.definitions.now c.args.start c.requires.before;
})

pub returns : goal.returns
returns c = λ G fit.
    let t = c.loop-number-test.false in
    let w = c.requires.total in
    let u = c.loop-number.auto.number-end c.requires.start in
    let e : c.loop-number.number ≡ length c.args.definitions.now = omega (arith, t, u, w) in
    uses_all G c.args.minor c.args.definitions.now c.loop-number.number (length c.args.definitions.now)
    c.loop-number.uses.found.items e (c.loop-number.invariant.uses G fit)
