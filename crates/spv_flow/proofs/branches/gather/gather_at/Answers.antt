use Rattle.std.proofs.Common.{◌≡◌, ◌∙◌, Some, get_or, sym, arith}
use Rattle.std.proofs.lemmas.Grind.{elements}
use Rattle.std.specs.Prelude.{slice_get}
use Rattle.std.proofs.lemmas.Result.{on_ok_weaker}
use Rattle.spv_module.specs.Operand.{PlainInst}
use Rattle.spv_module.specs.Module.{plain_inst}
use Rattle.spv_flow.specs.branches.inner.Code.{insts_of}
use Rattle.spv_flow.specs.branches.Target.{is_branch}
use Rattle.spv_flow.proofs.lemmas.branches.Labelled.{inst_get, op_holds}
use Rattle.spv_flow.proofs.lemmas.branches.Gathering.{none_added}
use Rattle.spv_flow.proofs.branches.gather.gather_at.Goals as goal

pub add_targets-requires-clause-block : goal.add_targets-requires-clause-block
add_targets-requires-clause-block c = let p = c.requires.code in c.in-Some.ensures.within p.0 p.1 c.requires.at

pub add_targets-requires-clause-op : goal.add_targets-requires-clause-op
add_targets-requires-clause-op c =
    let code = c.args.code.now in
    let i : PlainInst = plain_inst (get_or code.insts.now c.args.at c.index-code-at.result) in
    let there : slice_get (insts_of code) c.args.at ≡ Some i = inst_get code.insts.now c.args.at c.index-code-at.result
    c.requires.at in
    op_holds (insts_of code) c.args.at i is_branch there (sym c.is_branch.ensures ∙ c.if-not-is_branch.false)

pub returns-in-Some-clause-adds : goal.returns-in-Some-clause-adds
returns-in-Some-clause-adds c =
    on_ok_weaker c.add_targets.result (λ h G is. h G is (c.in-Some.ensures.block G is c.requires.at))
    c.add_targets.ensures.adds

pub returns-in-None-clause-adds : goal.returns-in-None-clause-adds
returns-in-None-clause-adds c =
    λ G is. none_added G (insts_of c.args.code.now) c.args.edges.now c.args.at
    (λ p b l. c.in-None.ensures.block G is c.requires.at p l.of)

pub returns-then-not-is_branch-clause-adds : goal.returns-then-not-is_branch-clause-adds
returns-then-not-is_branch-clause-adds c = grind (arith, elements)
