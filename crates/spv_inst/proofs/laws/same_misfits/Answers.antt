use Rattle.spv_inst.proofs.Misfits.{misfit_fails}
use Rattle.spv_inst.proofs.Fronts.{fails_misfit}
use Rattle.spv_inst.proofs.laws.same_misfits.Goals as goal

pub returns : goal.returns
returns c = λ G d is us a n. (misfit_fails G d is us a n, fails_misfit G d is us a n)
