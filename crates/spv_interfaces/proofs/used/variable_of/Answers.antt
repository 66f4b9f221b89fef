use Rattle.std.proofs.Common.{arith}
use Rattle.spv_module.specs.Module.{plain_inst}
use Rattle.spv_interfaces.proofs.Placing.{no_variable}
use Rattle.spv_interfaces.proofs.Using.{none_wanted}
use Rattle.spv_interfaces.proofs.used.variable_of.Goals.{then-number-wanted-via-then-number-wanted}
use Rattle.spv_interfaces.proofs.used.variable_of.Goals.{then-number-wanted-via-else-number-wanted+then-wanted-number}
use Rattle.spv_interfaces.proofs.used.variable_of.Goals.{else-inst-eq-VARIABLE-via-then-inst-eq-VARIABLE+else-is_wanted}
use Rattle.spv_interfaces.proofs.used.variable_of.Goals.{else-inst-eq-VARIABLE-via-else-inst-eq-VARIABLE}
use Rattle.spv_interfaces.proofs.used.variable_of.Goals as goal

pub returns-in_default : goal.returns-in_default
returns-in_default c = λ v h. c.in_default.ensures v h.defined

pub returns-then-number-wanted : goal.returns-then-number-wanted
returns-then-number-wanted c =
    none_wanted c.args.wanted.minor c.args.definitions.now c.args.x c.in-Some.number c.in-Some.ensures (λ g w e.
    let f = c.requires.from c.args.x g in
    let b = c.requires.before c.args.x g in
    elim c.then-number-wanted.branch [
      | then-number-wanted-via-then-number-wanted w ↦
          let l = w.if-number-wanted.true in
          absurd (omega (arith, f, e, l))
      | then-number-wanted-via-else-number-wanted+then-wanted-number w ↦
          let l = w.if-wanted-number.true in
          absurd (omega (arith, b, e, l))
    ])

pub returns-else-inst-eq-VARIABLE : goal.returns-else-inst-eq-VARIABLE
returns-else-inst-eq-VARIABLE c =
    let is = c.args.definitions.now in
    none_wanted c.args.wanted.minor is c.args.x c.in-Some.number c.in-Some.ensures (λ g h e.
    elim c.else-inst-eq-VARIABLE.branch [
      | else-inst-eq-VARIABLE-via-then-inst-eq-VARIABLE+else-is_wanted w ↦
          let t = w.is_wanted.ensures.1 h in
          let f = w.if-is_wanted.false in
          cc
      | else-inst-eq-VARIABLE-via-else-inst-eq-VARIABLE w ↦
          no_variable is c.in-Some.number (plain_inst c.inst.result.now) c.inst.ensures w.if-inst-eq-VARIABLE.false
          c.args.x g e
    ])
