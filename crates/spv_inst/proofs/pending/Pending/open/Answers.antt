use Rattle.std.proofs.Common.{ap, map, refl}
use Rattle.spv_module.specs.Shape.{alone}
use Rattle.spv_inst.specs.Flat.{OneOf, due}
use Rattle.spv_inst.specs.inner.Pending.{items_of}
use Rattle.spv_inst.proofs.Frames.{opened_due}
use Rattle.spv_inst.proofs.pending.Pending.open.Goals as goal

pub returns-in_ok-push-in-Value : goal.returns-in_ok-push-in-Value
returns-in_ok-push-in-Value c =
    rw c.in-Value.is
    (opened_due c.args.table.now _ _ _ (map due (items_of c.args.self.now.items.left.now)) _
    c.in_ok-push-in-Value.ensures.items (ap (λ ks. map OneOf (map alone ks)) c.parameters_in-left.ensures))

pub returns-in_ok-push-in-Mask : goal.returns-in_ok-push-in-Mask
returns-in_ok-push-in-Mask c =
    rw c.in-Mask.is
    (opened_due c.args.table.now _ _ _ (map due (items_of c.args.self.now.items.left.now)) _
    c.in_ok-push-in-Mask.ensures.items refl)
