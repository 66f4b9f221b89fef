use Rattle.spv_annotate.specs.inner.Numbers.{kept}
use Rattle.spv_annotate.proofs.Walks.{id_more}
use Rattle.spv_annotate.proofs.walk.keep_all.Goals as goal

pub loop-id-preserved : goal.loop-id-preserved
loop-id-preserved c = λ x.
    id_more x c.args.ids.now c.loop-id.id-index (kept c.loop-id.walk x) (kept c.put.new.self x) _ c.loop-id-test.true
    (c.in_ok-put.ensures x) (c.loop-id.invariant x)
