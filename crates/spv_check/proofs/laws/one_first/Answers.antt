use Rattle.spv_check.proofs.Firsts.{one_first}
use Rattle.spv_check.proofs.laws.one_first.Goals as goal

pub returns : goal.returns
returns c = λ G reach bound is q r m n f g. let s = one_first G reach bound is q r m n f g in (s.rule, s.inst)
