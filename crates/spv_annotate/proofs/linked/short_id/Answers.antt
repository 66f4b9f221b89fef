use Rattle.std.proofs.Common.{◌∙◌, ap, arith}
use Rattle.std.proofs.lemmas.List.{take_all}
use Rattle.spv_annotate.specs.Page.{id_of}
use Rattle.spv_annotate.proofs.linked.short_id.Goals as goal

pub returns : goal.returns
returns c =
    let lean = c.in_ok-lean.lean in
    c.in_ok-lean.ensures.id ∙ ap id_of (take_all lean.count c.args.text.now (omega arith))
