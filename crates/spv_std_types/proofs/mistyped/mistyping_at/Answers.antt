use Rattle.spv_std_types.proofs.Telling.{of_number}
use Rattle.spv_std_types.proofs.mistyped.mistyping_at.Goals as goal

pub returns : goal.returns
returns c = of_number c.args.definitions.now c.args.number _ _ c.inst.ensures c.failing_inst.ensures
