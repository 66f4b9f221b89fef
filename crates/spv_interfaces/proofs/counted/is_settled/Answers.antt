use Rattle.std.proofs.Common.{ℕ, subst}
use Rattle.spv_module.specs.Module.{plain_inst}
use Rattle.spv_interfaces.specs.inner.Wanted.{IsWanted}
use Rattle.spv_interfaces.proofs.Counting.{no_result, one_result}
use Rattle.spv_interfaces.proofs.Placing.{no_variable}
use Rattle.spv_interfaces.proofs.counted.is_settled.Goals as goal

pub returns-then-inst-ne-VARIABLE : goal.returns-then-inst-ne-VARIABLE
returns-then-inst-ne-VARIABLE c = λ t x g w e.
    absurd (no_variable c.args.definitions.now c.args.number (plain_inst c.inst-inst.result.now) c.inst-inst.ensures
    c.if-inst-ne-VARIABLE.true x g e)

pub returns-then-is_full : goal.returns-then-is_full
returns-then-is_full c = λ t x g w e. c.is_full.ensures c.if-is_full.true

pub returns-in-Some : goal.returns-in-Some
returns-in-Some c = λ t x g w e.
    let is = c.args.definitions.now in
    let same = one_result is c.args.number c.in-Some.x (plain_inst c.inst-inst.result.now) c.inst-inst.ensures
    c.in-Some.ensures x g e in
    let u = c.is_wanted.ensures.1 (subst (λ (y : ℕ). IsWanted c.args.minor is y) same w) in
    let f = rw u at t in
    absurd (cc)

pub returns-in-None : goal.returns-in-None
returns-in-None c = λ t x g w e.
    absurd (no_result c.args.definitions.now c.args.number (plain_inst c.inst-inst.result.now) c.inst-inst.ensures
    c.in-None.ensures x g e)
