use Rattle.std.proofs.Common.{arith}
use Rattle.spv_pictures.proofs.Looked.{name_more}
use Rattle.spv_pictures.proofs.names.places_of.Goals as goal

pub loop-at-preserved-in_ok-insert : goal.loop-at-preserved-in_ok-insert
loop-at-preserved-in_ok-insert c = λ y.
    name_more c.args.naming c.args.insts.now c.loop-at.at c.index-insts-at.result c.in-Some.id c.in-Some.field-0-1.now _
    _ y (omega arith) (omega arith) c.index-insts-at.is c.in-Some.ensures (c.loop-at.invariant y)
    (c.in_ok-insert.ensures.updates.0 y)
