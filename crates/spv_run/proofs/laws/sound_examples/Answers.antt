use Rattle.spv_check.specs.Kernel.{grammar, kernel}
use Rattle.spv_run.proofs.KernelRun.{sound, not_sound_below, entry_function}
use Rattle.spv_run.proofs.laws.sound_examples.Goals as goal

pub returns : goal.returns
returns c = record {
  sound = sound;
  out_of_range = not_sound_below;
  free = λ choices. c.run_never_gets_stuck.ensures grammar 5 kernel sound 6 entry_function choices;
}
