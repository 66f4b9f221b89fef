use Rattle.spv_rules.specs.inner.Held.{plain}
use Rattle.spv_rules.proofs.Rows.{sentence_by}
use Rattle.spv_rules.proofs.rules.Code.c_sentence.Goals as goal

pub returns : goal.returns
returns c = sentence_by c.args.self (plain c.row.result.now) c.row.ensures
