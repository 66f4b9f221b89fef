use Rattle.std.proofs.Common.{get_or}
use Rattle.spv_module.specs.Module.{plain_inst}
use Rattle.spv_flow.proofs.lemmas.branches.Labelled.{inst_get}
use Rattle.spv_flow.specs.walks.inner.Code.{insts_of}
use Rattle.spv_block_order.proofs.Using.{no_operand, operand_by}
use Rattle.spv_block_order.proofs.operand.early_place.Goals as goal

pub returns-in-Some : goal.returns-in-Some
returns-in-Some c = λ G is.
    let insts = c.args.code.now.insts.now in
    let at = c.args.at in
    let i = plain_inst (get_or insts at c.index-code-at.result) in
    let there = inst_get insts at c.index-code-at.result c.requires in
    operand_by G (insts_of c.args.code.now) at c.args.n c.in-Some.id i c.later_place.result there
    (c.in-Some.ensures G (is.plan.fits at i there)) (c.later_place.ensures G is)

pub returns-in-None : goal.returns-in-None
returns-in-None c = λ G is.
    let insts = c.args.code.now.insts.now in
    let at = c.args.at in
    let i = plain_inst (get_or insts at c.index-code-at.result) in
    let there = inst_get insts at c.index-code-at.result c.requires in
    no_operand G (insts_of c.args.code.now) at c.args.n i there (c.in-None.ensures G (is.plan.fits at i there))
