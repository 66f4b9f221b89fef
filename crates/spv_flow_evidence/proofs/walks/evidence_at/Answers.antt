use Rattle.std.proofs.Common.{arith}
use Rattle.std.proofs.lemmas.Grind.{common_steps}
use Rattle.std.proofs.lemmas.List.{length-map}
use Rattle.spv_module.specs.Module.{plain_inst}
use Rattle.spv_flow.specs.walks.inner.Code.{insts_of}
use Rattle.spv_flow.proofs.lemmas.walks.Alone.{function_op}
use Rattle.spv_flow_evidence.proofs.lemmas.walks.Asked.{walk_function}
use Rattle.spv_flow_evidence.proofs.walks.evidence_at.Goals as goal

pub unreachable-requires : goal.unreachable-requires
unreachable-requires c =
    let code = c.args.code.now in
    let k = c.requires.code in
    let f = walk_function k.0 (insts_of code) c.args.taking c.args.inst k.2 in
    let w = f.1.begun.within in
    let l = length-map code.insts.now plain_inst in
    c.in_default.ensures k.0 k.1 (omega (arith, w, l)) f.0 f.1

pub function_extent-extent-requires-clause-function : goal.function_extent-extent-requires-clause-function
function_extent-extent-requires-clause-function c =
    let code = c.args.code.now in
    let k = c.requires.code in
    let f = walk_function k.0 (insts_of code) c.args.taking c.args.inst k.2 in
    let w = f.1.begun.within in
    let l = length-map code.insts.now plain_inst in
    let of = c.in-Some.ensures k.0 k.1 (omega (arith, w, l)) in
    function_op (insts_of code) c.in-Some.function of.begun.there

pub evidence_in-requires-clause-of : goal.evidence_in-requires-clause-of
evidence_in-requires-clause-of c =
    let code = c.args.code.now in
    let k = c.requires.code in
    let f = walk_function k.0 (insts_of code) c.args.taking c.args.inst k.2 in
    let w = f.1.begun.within in
    let l = length-map code.insts.now plain_inst in
    c.in-Some.ensures k.0 k.1 (omega (arith, w, l))

pub divide-requires-clause-extent : goal.divide-requires-clause-extent
divide-requires-clause-extent c = grind (arith, common_steps)

pub divide-requires-clause-count : goal.divide-requires-clause-count
divide-requires-clause-count c = grind (arith, common_steps)

pub divide-requires-clause-most : goal.divide-requires-clause-most
divide-requires-clause-most c = grind (arith, common_steps)

pub evidence_in-requires-clause-blocks : goal.evidence_in-requires-clause-blocks
evidence_in-requires-clause-blocks c = grind (arith, common_steps)

pub evidence_in-requires-clause-most : goal.evidence_in-requires-clause-most
evidence_in-requires-clause-most c = grind (arith, common_steps)
