use Rattle.std.proofs.Common.{arith}
use Rattle.spv_ids.proofs.Homes.{no_home, no_home_at}
use Rattle.spv_ids.proofs.definitions.floor_of.Goals as goal

pub returns-in-Some-clause-function : goal.returns-in-Some-clause-function
returns-in-Some-clause-function c = λ is p l. c.in-Some.ensures is p

pub returns-in-Some-clause-home : goal.returns-in-Some-clause-home
returns-in-Some-clause-home c = λ is f p l h.
    let o = c.in-Some.ensures is p in
    let u = o.begun.up_to in
    no_home_at is c.args.inst c.in-Some.function f (omega (arith, l)) o h

pub returns-in-None-clause-function : goal.returns-in-None-clause-function
returns-in-None-clause-function c = λ is p l. absurd (omega (arith, l))

pub returns-in-None-clause-home : goal.returns-in-None-clause-home
returns-in-None-clause-home c = λ is f p l. no_home is c.args.inst f (c.in-None.ensures is p)
