use Rattle.std.proofs.Common.{refl}
use Rattle.spv_run.proofs.Sound.{checked}
use Rattle.spv_run.proofs.Once.{one_run}
use Rattle.spv_run.proofs.laws.one_run.Goals as goal

pub returns : goal.returns
returns c = λ G bound is sound n s steps others e f p q.
    let ok = checked G bound is sound in
    let r = one_run G is ok.fits ok.laying ok.layout ok.once n n s s steps others e f p q refl refl in
    (r.steps_same, r.ending_same)
