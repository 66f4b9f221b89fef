use Rattle.std.proofs.Common.{◌∙◌, sym, arith}
use Rattle.std.proofs.lemmas.List.{length-map}
use Rattle.spv_module.specs.Module.{plain_inst}
use Rattle.spv_flow.specs.walks.inner.Code.{insts_of}
use Rattle.spv_block_order.proofs.Using.{of_block, not_past}
use Rattle.spv_block_order.proofs.uses.is_of_block.Goals as goal

pub returns-in-Some : goal.returns-in-Some
returns-in-Some c = λ G is.
    let place = is.plan.place c.args.at c.in-Some.place (sym c.at.ensures ∙ c.in-Some.is) in
    of_block (insts_of c.args.code.now) c.args.at c.in-Some.place.block c.is_some.result c.is_some.ensures place.block

pub returns-in-None : goal.returns-in-None
returns-in-None c = λ G is b of.
    let count = is.plan.count in
    let l = length-map c.args.code.now.insts.now plain_inst in
    let within = c.requires in
    not_past c.args.code.now.plan.now c.args.at (omega (arith, count, l, within)) (sym c.at.ensures ∙ c.in-None.is)
