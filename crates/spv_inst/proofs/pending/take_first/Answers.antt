use Rattle.std.proofs.Common.{ap, ◌∙◌, refl}
use Rattle.spv_inst.proofs.Frames.{kinds_pushed, no_kinds, by_empty, behind}
use Rattle.spv_inst.proofs.pending.take_first.Goals as goal
use Rattle.spv_inst.proofs.pending.take_first.Goals.{then-not-is_empty+in_ok-push, else-not-is_empty}

pub returns : goal.returns
returns c = λ G.
    let e = c.in-Some.ensures.cases.0 in
    rw e
    (behind _ _ _ (elim c.if-not-is_empty.branch [
      | then-not-is_empty+in_ok-push w ↦
          kinds_pushed G c.args.frames.now.items c.if-not-is_empty.frames.items c.in-Some.left.now c.args.paired _ refl
          (ap (λ v. v.items) w.frames-is ∙ w.in_ok-push.ensures.items)
      | else-not-is_empty w ↦
          no_kinds G c.args.frames.now.items c.if-not-is_empty.frames.items c.in-Some.left.now c.args.paired
          (by_empty _ w.if-not-is_empty.ensures) (ap (λ v. v.items) w.frames-is)
    ]))
