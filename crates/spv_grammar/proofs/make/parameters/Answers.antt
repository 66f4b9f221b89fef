use Rattle.std.proofs.Common.{◌∙◌, length, refl, sym, ap, arith}
use Rattle.std.proofs.lemmas.Grind.{common_steps}
use Rattle.std.proofs.lemmas.Option.{slice_get_read}
use Rattle.spv_grammar.specs.Kinds.{number_in}
use Rattle.spv_grammar.specs.Made.{parameter_of}
use Rattle.spv_grammar.proofs.Turns.{made_step}
use Rattle.spv_grammar.proofs.make.parameters.Goals as goal

pub loop-operand-preserved : goal.loop-operand-preserved
loop-operand-preserved c =
    let all = c.args.operands.now in
    let i = c.loop-operand.operand-index in
    let at = slice_get_read all (length all) i c.operand-item.result refl c.loop-operand-test.true c.operand-item.is in
    let made = ap (number_in c.args.numbers.now) (sym c.as_str.ensures) ∙ (sym c.number.ensures ∙ c.in-Some.is) in
    made_step (parameter_of c.args.numbers.now) all i c.operand-item.result _ c.loop-operand.found.items c.push.new.self.items _ at c.loop-operand.invariant made c.in_ok-push.ensures.items

pub returns-in_default : goal.returns-in_default
returns-in_default c = grind (arith, common_steps)

pub returns : goal.returns
returns c = grind (arith, common_steps)
