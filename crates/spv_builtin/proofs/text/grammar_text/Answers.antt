use Rattle.serde_json.specs.View.{view}
use Rattle.spv_builtin.proofs.Trees.{text_is}
use Rattle.spv_builtin.proofs.text.grammar_text.Goals as goal

pub returns : goal.returns
returns c = text_is c.args.table.now (view c.in_ok-tree.field-0) c.to_string.result c.in_ok-tree.ensures c.to_string.ensures.text c.to_string.ensures.reads_back
