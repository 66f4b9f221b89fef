use Rattle.spv_flow.specs.branches.inner.Code.{insts_of}
use Rattle.spv_flow.proofs.lemmas.branches.Firsts.{merge_broken, merge_fine}
use Rattle.spv_flow.proofs.branches.rules.merge_rule.Goals as goal

pub returns-then-not-has_labels : goal.returns-then-not-has_labels
returns-then-not-has_labels c =
    λ fork G is. merge_broken fork G (insts_of c.args.code.now) c.args.at c.requires.op
    (c.if-not-has_labels.ensures G is)

pub returns : goal.returns
returns c = λ fork G is. merge_fine fork G (insts_of c.args.code.now) c.args.at c.requires.op
    (c.if-not-has_labels.ensures G is)
