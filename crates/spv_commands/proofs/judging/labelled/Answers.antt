use Rattle.std.proofs.Common.{◌∙◌, [], Some, ap}
use Rattle.spv_commands.proofs.Parts.{got_nothing, got_whole}
use Rattle.spv_commands.proofs.judging.labelled.Goals as goal

pub returns-clause-text : goal.returns-clause-text
returns-clause-text c =
    let text = c.new-text.result in
    let held = Some text.inner.items in
    got_whole c.write_label.result _ text.inner.items _ _ _ c.if-not-write_label.false
    (ap (λ v. v.items) c.new-text.ensures.writer ∙ c.new.ensures.items)
    (c.write_label.ensures [] held text.failures (got_nothing held text.failures))
