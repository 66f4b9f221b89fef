use Rattle.std.proofs.Common.{arith}
use Rattle.std.proofs.lemmas.Grind.{elements}
use Rattle.spv_annotate.proofs.look.Look.is_walked.Goals as goal

pub returns-in_default : goal.returns-in_default
returns-in_default c = grind (arith, elements)

pub returns-then-inst-ne-LABEL : goal.returns-then-inst-ne-LABEL
returns-then-inst-ne-LABEL c = grind (arith, elements)

pub returns-in-Some-result_id : goal.returns-in-Some-result_id
returns-in-Some-result_id c = grind (arith, elements)

pub returns-in-None : goal.returns-in-None
returns-in-None c = grind (arith, elements)
