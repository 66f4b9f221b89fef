use Rattle.std.proofs.Common.{inl, inr, arith}
use Rattle.std.proofs.lemmas.Bool.{cases_lt}
use Rattle.spv_module.specs.Module.{plain_inst}
use Rattle.spv_interfaces.proofs.Early.{between_by, between_none}
use Rattle.spv_interfaces.proofs.Placing.{no_variable}
use Rattle.spv_interfaces.proofs.used.first_variable.Goals as goal

pub inst-requires : goal.inst-requires
inst-requires c =
    let t = c.loop-number-test.true in
    let w = c.requires.within in
    omega (arith, t, w)

pub loop-number-init : goal.loop-number-init
loop-number-init c = λ x g lt. absurd (omega (arith, lt))

pub returns-then-inst-eq-VARIABLE : goal.returns-then-inst-eq-VARIABLE
returns-then-inst-eq-VARIABLE c =
    between_by c.args.definitions.now c.args.before c.loop-number.number c.requires c.loop-number.invariant

pub loop-number-preserved : goal.loop-number-preserved
loop-number-preserved c = λ x g lt. elim (cases_lt g.place c.loop-number.number) [
  | inl less ↦ c.loop-number.invariant x g less
  | inr last ↦ no_variable c.args.definitions.now c.loop-number.number (plain_inst c.inst.result.now) c.inst.ensures
      c.if-inst-eq-VARIABLE.false x g (omega (arith, lt, last))
]

pub returns : goal.returns
returns c =
    let t = c.loop-number-test.false in
    between_none c.args.definitions.now c.args.before c.loop-number.number c.requires t c.loop-number.invariant
