use Rattle.std.proofs.Common.{arith}
use Rattle.spv_ids.proofs.Homes.{home_of_function, more_local_none, more_local_test}
use Rattle.spv_ids.proofs.definitions.is_more_local.Goals as goal

pub returns-then-other-floor_of : goal.returns-then-other-floor_of
returns-then-other-floor_of c = λ is x from p o d e.
    more_local_none is from c.args.one c.args.other
    (λ f. c.floor_of.ensures.home is f p (omega arith))

pub returns : goal.returns
returns c = λ is x from p o d e.
    let l = c.if-other-floor_of.false in
    let m = c.if-one-function.false in
    let r = c.ranges.other.fits in
    let s = c.ranges.one.fits in
    let g = c.floor_of.ensures.function is p (omega (arith, l, r)) in
    let h = c.floor_of-function.ensures.function is p (omega (arith, m, s)) in
    more_local_test is from c.args.one c.args.other c.floor_of-function.result c.floor_of.result c.args.here c.eq.result
    c.eq.ensures o
    (home_of_function is c.args.plan.now x c.args.one c.floor_of-function.result p d h (λ q. omega (arith, m, q)))
    (home_of_function is c.args.plan.now x c.args.other c.floor_of.result p e g (λ q. omega (arith, l, q)))
