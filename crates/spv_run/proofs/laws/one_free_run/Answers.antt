use Rattle.std.proofs.Common.{refl}
use Rattle.spv_run.proofs.Sound.{checked}
use Rattle.spv_run.proofs.Once.{one_free_run}
use Rattle.spv_run.proofs.laws.one_free_run.Goals as goal

pub returns : goal.returns
returns c = λ G H bound is sound n s steps others e f p q x y.
    let ok = checked G bound is sound in
    let r = one_free_run G H is ok.fits ok.laying ok.layout ok.once n n s s steps others e f p q refl refl x y in
    (r.steps_same, r.ending_same)
