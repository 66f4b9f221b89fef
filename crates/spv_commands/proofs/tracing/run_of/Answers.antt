use Rattle.std.proofs.lemmas.Result.{err_from_is_err_and}
use Rattle.spv_commands.proofs.Tracings.{unchosen}
use Rattle.spv_commands.proofs.tracing.run_of.Goals as goal

pub returns-in_err-id-clause-why : goal.returns-in_err-id-clause-why
returns-in_err-id-clause-why c =
    let q = err_from_is_err_and c.from_residual.result c.from_residual.ensures.1 in
    rw (q.1, q.2) (unchosen c.args.checked.now.insts c.args.function _ c.in_err-id.ensures.why)
