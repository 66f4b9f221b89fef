use Rattle.serde_json.specs.Data.{string}
use Rattle.spv_builtin.proofs.Trees.{one_more}
use Rattle.spv_builtin.proofs.tree.names.Goals as goal

pub loop-place-preserved : goal.loop-place-preserved
loop-place-preserved c =
    one_more string c.args.names.now c.loop-place.place c.name.result.now c.loop-place.found.items c.push.new.self.items c.in_ok-try_from_str.field-0 c.name.ensures c.loop-place.invariant c.in_ok-try_from_str.ensures c.in_ok-push.ensures.items
