use Rattle.spv_layout.proofs.Firsts.{one_first}
use Rattle.spv_flow.specs.calls.Broken.{Broken}
use Rattle.spv_flow.proofs.calls.laws.one_fault.Goals as goal

pub returns : goal.returns
returns c = λ is q r m n f g. let s = one_first (Broken is) 8 q r m n f g in (s.rule, s.inst)
