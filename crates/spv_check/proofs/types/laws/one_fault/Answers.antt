use Rattle.spv_layout.proofs.Firsts.{one_first}
use Rattle.spv_check.specs.types.Broken.{Broken}
use Rattle.spv_check.proofs.types.laws.one_fault.Goals as goal

pub returns : goal.returns
returns c = λ G is stage q r m n f g. let s = one_first (Broken G is) stage q r m n f g in (s.rule, s.inst)
