use Rattle.std.proofs.Common.{◌≡◌, ◌∙◌, sym}
use Rattle.spv_flow.specs.declared.branches.fork.Fork.TheVariants.{Distinct, Free}
use Rattle.spv_flow.specs.branches.inner.Code.{insts_of}
use Rattle.spv_flow.proofs.lemmas.branches.Firsts.{branch_lacks, branch_enters, branch_same, branch_fine}
use Rattle.spv_flow.proofs.branches.rules.branch_rule.Goals as goal

pub returns-in-Lacking : goal.returns-in-Lacking
returns-in-Lacking c =
    λ G is. branch_lacks c.args.fork G (insts_of c.args.code.now) c.args.at c.requires.op
    (rw c.in-Lacking.is at (c.targets_of.ensures G is))

pub returns-in-Entering : goal.returns-in-Entering
returns-in-Entering c = λ G is. let t = rw c.in-Entering.is at (c.targets_of.ensures G is) in
    branch_enters c.args.fork G (insts_of c.args.code.now) c.args.at c.requires.op t.0 t.1

pub returns-then-has_same_labels : goal.returns-then-has_same_labels
returns-then-has_same_labels c = λ G is.
    let t = rw c.in-Sound.is at (c.targets_of.ensures G is) in
    branch_same c.args.fork G (insts_of c.args.code.now) c.args.at c.in-Distinct.is c.requires.op
    c.if-has_opcode.ensures t.0 t.1
    (c.if-has_same_labels.ensures G is)

pub returns-else-has_same_labels : goal.returns-else-has_same_labels
returns-else-has_same_labels c = λ G is.
    let t = rw c.in-Sound.is at (c.targets_of.ensures G is) in
    branch_fine c.args.fork G (insts_of c.args.code.now) c.args.at c.requires.op t.0 t.1
    (λ e op. c.if-has_same_labels.ensures G is)

pub returns-else-has_opcode : goal.returns-else-has_opcode
returns-else-has_opcode c = λ G is.
    let t = rw c.in-Sound.is at (c.targets_of.ensures G is) in
    branch_fine c.args.fork G (insts_of c.args.code.now) c.args.at c.requires.op t.0 t.1
    (λ e op. absurd (c.if-has_opcode.ensures op))

pub returns-in-Free : goal.returns-in-Free
returns-in-Free c = λ G is.
    let t = rw c.in-Sound.is at (c.targets_of.ensures G is) in
    branch_fine c.args.fork G (insts_of c.args.code.now) c.args.at c.requires.op t.0 t.1
    (λ e op. absurd (let no : Free ≡ Distinct = sym c.in-Free.is ∙ e in cc))
