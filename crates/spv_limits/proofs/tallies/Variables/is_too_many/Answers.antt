use Rattle.std.proofs.Common.{◌≡◌, ◌∙◌, sym, arith}
use Rattle.spv_module.specs.declared.opcode.TheConstants as opcode
use Rattle.spv_module.specs.Module.{plain_inst}
use Rattle.spv_limits.proofs.Locals.{function_answer, no_variable, other_answer, variable_answer}
use Rattle.spv_limits.proofs.tallies.Variables.is_too_many.Goals as goal

pub returns-in-59 : goal.returns-in-59
returns-in-59 c = λ is n at vars.
    variable_answer is n (plain_inst c.args.inst.now) c.args.self.now.are_local c.add.result c.args.self.now.count
    c.add.new.self.are_local c.add.new.self.count at c.in-59.is c.add.ensures.local c.add.ensures.count
    c.add.ensures.answer vars

pub returns-in-54 : goal.returns-in-54
returns-in-54 c = λ is n at vars. (
  no_variable is n (plain_inst c.args.inst.now)
      (λ f. let e : opcode.FUNCTION ≡ opcode.VARIABLE = sym c.in-54.is ∙ f in omega (arith, e)),
  function_answer is n (plain_inst c.args.inst.now) c.args.self.now.are_local c.args.self.now.count
      c.begin.new.self.are_local c.begin.new.self.count at c.in-54.is c.begin.ensures.local c.begin.ensures.count vars,
)

pub returns-in_default : goal.returns-in_default
returns-in_default c = λ is n at vars.
    other_answer is n (plain_inst c.args.inst.now) c.args.self.now.are_local c.args.self.now.count at
    (λ f. omega (arith, f)) (λ f. omega (arith, f)) vars
