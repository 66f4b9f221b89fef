use Rattle.spv_layout.proofs.Firsts.{one_first}
use Rattle.spv_flow.specs.branches.Broken.{Broken}
use Rattle.spv_flow.proofs.branches.laws.one_fault.Goals as goal

pub returns : goal.returns
returns c = λ fork G is stage q r m n f g. let s = one_first (Broken fork G is) stage q r m n f g in (s.rule, s.inst)
