use Rattle.std.proofs.Common.{◌∙◌, length, refl, sym, ap, arith}
use Rattle.std.proofs.lemmas.Grind.{common_steps}
use Rattle.std.proofs.lemmas.Option.{slice_get_read}
use Rattle.spv_grammar.specs.Kinds.{number_in}
use Rattle.spv_grammar.proofs.Turns.{made_step}
use Rattle.spv_grammar.proofs.make.bases.Goals as goal

pub loop-name-preserved : goal.loop-name-preserved
loop-name-preserved c =
    let all = c.args.names.now in
    let i = c.loop-name.name-index in
    let at = slice_get_read all (length all) i c.name-item.result refl c.loop-name-test.true c.name-item.is in
    let made = ap (number_in c.args.numbers.now) (sym c.as_str.ensures) ∙ (sym c.number.ensures ∙ c.in-Some.is) in
    made_step (number_in c.args.numbers.now) all i c.name-item.result _ c.loop-name.found.items c.push.new.self.items _ at c.loop-name.invariant made c.in_ok-push.ensures.items

pub returns-in_default : goal.returns-in_default
returns-in_default c = grind (arith, common_steps)

pub returns : goal.returns
returns c = grind (arith, common_steps)
