use Rattle.std.proofs.Common.{◌∙◌}
use Rattle.spv_grammar.proofs.Firsts.{number_of_first}
use Rattle.spv_grammar.proofs.numbers.place_of.Goals as goal

pub returns-in_err-place : goal.returns-in_err-place
returns-in_err-place c = rw c.from_residual.ensures (c.in_err-place.ensures ∙ number_of_first c.args.kinds.now c.args.name.now)

pub returns : goal.returns
returns c = c.in_ok-place.ensures ∙ number_of_first c.args.kinds.now c.args.name.now
