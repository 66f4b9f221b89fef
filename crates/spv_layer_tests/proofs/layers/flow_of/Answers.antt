use Rattle.std.proofs.Common.{arith}
use Rattle.std.proofs.lemmas.List.{length-drop}
use Rattle.spv_layer_tests.proofs.layers.flow_of.Goals as goal

pub number-requires-clause-plan : goal.number-requires-clause-plan
number-requires-clause-plan c = (c.args.table.now, c.in_ok-plan.ensures.plan)

pub type_check-requires-clause-ids : goal.type_check-requires-clause-ids
type_check-requires-clause-ids c = (c.in_ok-ids.ensures.ids c.args.table.now c.in_ok-plan.ensures.plan).each

pub flow_check-requires-clause-known : goal.flow_check-requires-clause-known
flow_check-requires-clause-known c = (c.args.table.now, c.in_ok-plan.ensures.plan, c.in_ok-ids.ensures.ids c.args.table.now c.in_ok-plan.ensures.plan)

pub flow_check-requires-clause-words : goal.flow_check-requires-clause-words
flow_check-requires-clause-words c =
    omega (arith, c.word_counts.ensures c.args.table.now _ _ c.in_ok-module.ensures.found, length-drop 5 c.args.image.now, c.len-words.ensures.least, c.len-words.ensures.most)
