use Rattle.spv_run.proofs.Runs.{one_trace}
use Rattle.spv_run.proofs.tracing.laws.one_trace.Goals as goal

pub returns : goal.returns
returns c = λ p x choices limit t u a b. let same = one_trace p x choices limit t u a b in (same.steps, same.ending)
