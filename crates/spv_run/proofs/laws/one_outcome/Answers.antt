use Rattle.spv_run.proofs.Sound.{checked}
use Rattle.spv_run.proofs.Once.{one_outcome}
use Rattle.spv_run.proofs.laws.one_outcome.Goals as goal

pub returns : goal.returns
returns c = λ G H bound is sound s o p d e. let ok = checked G bound is sound in
    one_outcome G H is ok.fits ok.laying ok.layout ok.once s o p d e
