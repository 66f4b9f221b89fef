use Rattle.std.proofs.Common.{length, refl, arith}
use Rattle.std.proofs.lemmas.Grind.{common_steps}
use Rattle.std.proofs.lemmas.Option.{slice_get_read}
use Rattle.spv_grammar.specs.Made.{entry_from}
use Rattle.spv_grammar.proofs.Turns.{made_step}
use Rattle.spv_grammar.proofs.make.entries.Goals as goal

pub loop-instruction-preserved : goal.loop-instruction-preserved
loop-instruction-preserved c =
    let all = c.args.instructions.now in
    let i = c.loop-instruction.instruction-index in
    let at = slice_get_read all (length all) i c.instruction-item.result refl c.loop-instruction-test.true c.instruction-item.is in
    made_step (entry_from c.args.numbers.now) all i c.instruction-item.result _ c.loop-instruction.found.items c.push.new.self.items _ at c.loop-instruction.invariant c.in_ok-entry.ensures c.in_ok-push.ensures.items

pub returns-in_err-entry : goal.returns-in_err-entry
returns-in_err-entry c = grind (arith, common_steps)

pub returns : goal.returns
returns c = grind (arith, common_steps)
