use Rattle.std.proofs.Common.{refl}
use Rattle.spv_run.specs.Act.{act_of}
use Rattle.spv_run.specs.At.{act_at}
use Rattle.spv_run.proofs.laws.act_examples.Goals as goal

pub returns : goal.returns
unfolding act_of act_at
returns c = record { switch = refl; misfit = refl; goes_on = refl; past = refl }
