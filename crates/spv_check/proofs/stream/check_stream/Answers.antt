use Rattle.std.proofs.Common.{◌∙◌}
use Rattle.spv_check.proofs.Verdicts.{tells}
use Rattle.spv_check.proofs.stream.check_stream.Goals as goal

pub returns-clause-verdict : goal.returns-clause-verdict
returns-clause-verdict g c =
    tells c.args.table.now c.args.reach _ _ _ c.in_ok-verdict.verdict c.as_slice.result.now c.is_valid.result
    c.in_ok-verdict.ensures.known (c.as_slice.ensures ∙ c.line_for-line.ensures) c.in_ok-write_all.ensures.all
    c.is_valid.ensures
