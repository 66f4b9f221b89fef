use Rattle.spv_inst.specs.inner.Pending.{plain_slot}
use Rattle.spv_inst.proofs.Shapes.{shape_is_leaf}
use Rattle.spv_parser.proofs.Halting.{refuses_by, stop_at_slot}
use Rattle.spv_parser.proofs.stops.refused.Goals as goal

pub returns-in_default : goal.returns-in_default
returns-in_default c = λ r d ds a e f.
    let G = c.args.setting.now.table.now in
    let s = plain_slot c.args.asked.slot in
    stop_at_slot G r d s ds c.args.rest.now c.skip_space.result.now c.leaf_wanted.result c.args.code
    (shape_is_leaf G d s c.args.asked.leaf e)
    (refuses_by G r d s c.args.rest.now c.args.code c.in_default.not-S6 f) c.skip_space.ensures
    (c.leaf_wanted.ensures d a e)
