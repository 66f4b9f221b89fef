use Rattle.std.proofs.Common.{◌∙◌, ◌++◌, ap, map, refl}
use Rattle.spv_module.specs.Shape.{alone}
use Rattle.spv_inst.specs.Flat.{OneOf, due}
use Rattle.spv_inst.specs.inner.Items.{items_of}
use Rattle.spv_inst.specs.inner.Pending.{frames_due}
use Rattle.spv_inst.proofs.Frames.{opened_due}
use Rattle.spv_inst.proofs.pending.Pending.resume.Goals as goal

pub returns-in_ok-push : goal.returns-in_ok-push
returns-in_ok-push c = λ G.
    let kinds = map OneOf (map alone c.args.kinds.now) in
    let rest = map due (items_of c.args.items.left.now) in
    opened_due G c.clear.new.self.items c.push.new.self.items kinds rest _ c.in_ok-push.ensures.items refl
    ∙ ap (λ fs. kinds ++ (frames_due G fs ++ rest)) c.clear.ensures.items
