use Rattle.std.proofs.Common.{refl}
use Rattle.spv_module.specs.declared.fault.Rule.TheVariants.{G1}
use Rattle.spv_flow.specs.calls.Broken.{on_cycle}
use Rattle.spv_flow.proofs.calls.laws.no_way_back.Goals as goal

pub returns : goal.returns
returns c = λ is e f g u h a k b. u G1 k.place refl (on_cycle k.place e f g k.call h a b)
