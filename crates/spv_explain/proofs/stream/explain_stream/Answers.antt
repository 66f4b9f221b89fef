use Rattle.std.proofs.Common.{◌∙◌}
use Rattle.spv_explain.proofs.Tellings.{told_begun, told_whole}
use Rattle.spv_explain.proofs.stream.explain_stream.Goals as goal

pub returns-clause-explained : goal.returns-clause-explained
returns-clause-explained g c =
    told_whole c.args.detail c.args.table.now c.args.reach _ _ _ c.in_ok-told.told c.as_slice.result.now
    c.is_valid.result
    c.in_ok-told.ensures.known (c.as_slice.ensures.value ∙ c.in-Ok.ensures) c.in_ok-write_all.ensures.all
    c.is_valid.ensures

pub returns-in_err-write_all-clause-begun : goal.returns-in_err-write_all-clause-begun
returns-in_err-write_all-clause-begun g c = λ failed.
    told_begun c.args.detail c.args.table.now c.args.reach _ _ _ c.in_ok-told.told c.as_slice.result.now
    c.in_ok-told.ensures.known (c.as_slice.ensures.value ∙ c.in-Ok.ensures)
    c.in_err-write_all.ensures.begun
