use Rattle.std.proofs.Common.{◌∙◌, ap}
use Rattle.spv_annotate.specs.Page.{id_of}
use Rattle.spv_annotate.proofs.Parts.{found_id}
use Rattle.spv_annotate.proofs.linked.id_in.Goals as goal

pub returns-in-Ok : goal.returns-in-Ok
returns-in-Ok c = λ ds e. found_id c.args.word.now ds c.in-Ok.id c.in-Ok.ensures e

pub returns-in-Some : goal.returns-in-Some
returns-in-Some c = λ ds e. c.in-Some.ensures ∙ ap id_of (c.behind_mark.ensures ds e)
