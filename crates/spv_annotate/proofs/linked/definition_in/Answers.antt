use Rattle.std.proofs.Common.{◌∙◌, ap, option_and_then}
use Rattle.spv_annotate.specs.inner.Numbers.{kept}
use Rattle.spv_annotate.proofs.linked.definition_in.Goals as goal

pub returns-in-Some : goal.returns-in-Some
returns-in-Some c = λ ds e. c.get.ensures ∙ ap (option_and_then (kept c.args.definitions.now)) (c.in-Some.ensures ds e)

pub returns-in-None : goal.returns-in-None
returns-in-None c = λ ds e. ap (option_and_then (kept c.args.definitions.now)) (c.in-None.ensures ds e)
