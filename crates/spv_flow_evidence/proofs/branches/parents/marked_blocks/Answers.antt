use Rattle.std.proofs.Common.{◌≡◌, ◌∙◌, refl, sym, true, false}
use Rattle.std.proofs.lemmas.List.{append-nil}
use Rattle.spv_flow.specs.branches.inner.Edges.{marked}
use Rattle.spv_flow_evidence.proofs.lemmas.branches.Marked.{marked_more, none_marked}
use Rattle.spv_flow_evidence.proofs.branches.parents.marked_blocks.Goals.{then-marks-block+in_ok-push, else-marks-block}
use Rattle.spv_flow_evidence.proofs.branches.parents.marked_blocks.Goals as goal

pub loop-block-init : goal.loop-block-init
loop-block-init c = c.new-blocks.ensures.items ∙ sym (none_marked c.args.marks.now)

pub loop-block-preserved : goal.loop-block-preserved
loop-block-preserved c =
    let n = c.loop-block.block in
    let marks = c.args.marks.now in
    let more = marked_more marks n in
    elim c.if-marks-block.branch [
      | then-marks-block+in_ok-push w ↦
          let on : marked marks n ≡ true = w.if-marks-block.true in
          rw (w.blocks-is, w.in_ok-push.ensures.items, more, on, c.loop-block.invariant) refl
      | else-marks-block w ↦
          let off : marked marks n ≡ false = w.if-marks-block.false in
          rw (w.blocks-is, more, off, c.loop-block.invariant) (sym (append-nil _))
    ]
