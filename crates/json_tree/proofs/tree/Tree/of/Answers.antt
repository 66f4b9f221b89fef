use Rattle.std.proofs.Common.{ap, ◌∙◌}
use Rattle.serde_json.specs.View.{view as value_view}
use Rattle.json_tree.specs.View.{view}
use Rattle.json_tree.proofs.Runs.{whole_alone}
use Rattle.json_tree.proofs.tree.Tree.of.Goals as goal

pub of_nodes-requires-clause-whole : goal.of_nodes-requires-clause-whole
of_nodes-requires-clause-whole c = (whole_alone c.new-nodes.result c.of_value.new.nodes (value_view c.args.value.now) c.new-nodes.ensures c.in_ok-of_value.ensures).some

pub returns : goal.returns
returns c = ap view c.of_nodes.ensures ∙ (whole_alone c.new-nodes.result c.of_value.new.nodes (value_view c.args.value.now) c.new-nodes.ensures c.in_ok-of_value.ensures).is
