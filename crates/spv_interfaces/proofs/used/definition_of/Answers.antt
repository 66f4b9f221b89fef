use Rattle.std.proofs.Common.{arith}
use Rattle.spv_interfaces.proofs.Placing.{by_function, by_none, by_other, function_below}
use Rattle.spv_interfaces.proofs.used.definition_of.Goals as goal

pub place-requires-2 : goal.place-requires-2
place-requires-2 c =
    let of = rw c.in-Some.is at c.place.ensures.function in
    let b = function_below c.args.definitions.now c.args.number c.in-Some.function of in
    let w = c.requires in
    omega (arith, b, w)

pub returns-then-place-eq-DEFINITIONS : goal.returns-then-place-eq-DEFINITIONS
returns-then-place-eq-DEFINITIONS c =
    let of = rw c.in-Some.is at c.place.ensures.function in
    by_function c.args.definitions.now c.args.number c.in-Some.function c.place-2.result.section of
    c.place-2.ensures.section c.if-place-eq-DEFINITIONS.true

pub returns-else-place-eq-DEFINITIONS : goal.returns-else-place-eq-DEFINITIONS
returns-else-place-eq-DEFINITIONS c =
    let of = rw c.in-Some.is at c.place.ensures.function in
    by_other c.args.definitions.now c.args.number c.in-Some.function c.place-2.result.section of
    c.place-2.ensures.section c.if-place-eq-DEFINITIONS.false

pub returns-in_default : goal.returns-in_default
returns-in_default c =
    by_none c.args.definitions.now c.args.number (rw c.in_default.is at c.place.ensures.function)
