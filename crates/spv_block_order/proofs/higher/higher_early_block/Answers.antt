use Rattle.std.proofs.Common.{ℕ, subst, arith}
use Rattle.std.proofs.lemmas.List.{length-map}
use Rattle.spv_module.specs.Module.{plain_inst}
use Rattle.spv_flow.specs.branches.Target.{IsOp}
use Rattle.spv_flow.specs.branches.inner.Target.{is_function}
use Rattle.spv_flow.specs.walks.inner.Code.{insts_of}
use Rattle.spv_block_order.specs.Early.{IsEarlyIn}
use Rattle.spv_block_order.proofs.Bridging.{early_at_within, early_function, of_function, walk_function}
use Rattle.spv_block_order.proofs.higher.higher_early_block.Goals as goal

pub unreachable-requires : goal.unreachable-requires
unreachable-requires c =
    let code = c.args.code.now in
    let k = c.requires.broken in
    let within = early_at_within k.0 (insts_of code) k.2.0 c.args.at k.2.1 in
    let long = length-map code.insts.now plain_inst in
    c.in_default.ensures k.0 k.1 (omega (arith, within, long)) k.2.0
    (of_function k.0 (insts_of code) k.2.0 c.args.at k.2.1)

pub function_extent-end-requires-clause-function : goal.function_extent-end-requires-clause-function
function_extent-end-requires-clause-function c =
    let code = c.args.code.now in
    let k = c.requires.broken in
    let within = early_at_within k.0 (insts_of code) k.2.0 c.args.at k.2.1 in
    let long = length-map code.insts.now plain_inst in
    let of = c.in-Some.ensures k.0 k.1 (omega (arith, within, long)) in
    let same = early_function k.0 (insts_of code) k.2.0 c.in-Some.function c.args.at k.2.1 of in
    let w = k.2.1.way in
    subst (λ (f : ℕ). IsOp (insts_of code) f is_function) same
    (walk_function k.0 (insts_of code) k.2.0 w.past c.args.at w.walk)

pub higher_in_function-requires-clause-broken : goal.higher_in_function-requires-clause-broken
higher_in_function-requires-clause-broken c =
    let code = c.args.code.now in
    let k = c.requires.broken in
    let within = early_at_within k.0 (insts_of code) k.2.0 c.args.at k.2.1 in
    let long = length-map code.insts.now plain_inst in
    let of = c.in-Some.ensures k.0 k.1 (omega (arith, within, long)) in
    let same = early_function k.0 (insts_of code) k.2.0 c.in-Some.function c.args.at k.2.1 of in
    (k.0, k.1, subst (λ (f : ℕ). IsEarlyIn k.0 (insts_of code) f c.args.at) same k.2.1)
