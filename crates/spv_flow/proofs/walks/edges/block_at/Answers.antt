use Rattle.spv_flow.specs.walks.inner.Code.{insts_of}
use Rattle.spv_flow.proofs.lemmas.walks.Asking.{no_place, target_by}
use Rattle.spv_flow.proofs.walks.edges.block_at.Goals as goal

pub returns-in_err-place : goal.returns-in_err-place
returns-in_err-place c = λ G at n i is there used.
    let code = c.args.code.now in
    rw c.from_residual.ensures (no_place G code c.args.blocks.now.starts.now at n c.args.id i is there used
    (c.in_err-place.ensures.label G is))

pub returns : goal.returns
returns c = λ G at n i is there used.
    let code = c.args.code.now in
    let label = c.in_ok-place.ensures.label G is in
    target_by G code c.args.blocks.now at n c.args.id c.in_ok-place.place i is c.requires.blocks there used label
    c.at_label.result
    (c.at_label.ensures (insts_of code) c.requires.blocks label.label)
