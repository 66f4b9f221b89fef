use Rattle.spv_run.proofs.Runs.{sound_run}
use Rattle.spv_run.proofs.tracing.laws.never_stuck.Goals as goal

pub returns : goal.returns
returns c = λ G reach p k g entry choices.
    c.run_never_gets_stuck.ensures G p.bound p.insts (sound_run G reach p k) g entry choices
