use Rattle.std.proofs.Common.{arith}
use Rattle.std.proofs.lemmas.List.{length-map}
use Rattle.spv_module.specs.Module.{plain_operand, plain_operands}
use Rattle.spv_type_forms.specs.Types.{IsData}
use Rattle.spv_type_evidence.proofs.lemmas.types.Firsts.{ends_here, all_each, one_fails, one_before, id_there}
use Rattle.spv_type_evidence.proofs.types.declaration.first_no_data.Goals as goal

pub returns-in_default : goal.returns-in_default
returns-in_default c =
    ends_here (λ j t. IsData c.args.definitions.now t) c.args.first c.loop-k.k c.args.operands.now _ c.loop-k-test.true
    c.in_default.not-Id c.loop-k.invariant

pub returns-then-not-is_data : goal.returns-then-not-is_data
returns-then-not-is_data c =
    let s = c.args.operands.now in
    one_fails (λ j t. IsData c.args.definitions.now t) c.args.first c.loop-k.k c.in-Id.t (plain_operands s)
    (id_there s c.loop-k.k c.in-Id.t _ c.loop-k-test.true c.in-Id.is)
    (λ d. let on = c.is_data.ensures.1 d in let off = c.if-not-is_data.true in cc)
    c.loop-k.invariant

pub loop-k-preserved : goal.loop-k-preserved
loop-k-preserved c =
    let s = c.args.operands.now in
    one_before (λ j t. IsData c.args.definitions.now t) (plain_operands s) c.loop-k.k c.in-Id.t
    (id_there s c.loop-k.k c.in-Id.t _ c.loop-k-test.true c.in-Id.is)
    (c.is_data.ensures.0 c.if-not-is_data.false)
    c.loop-k.invariant

pub returns : goal.returns
returns c =
    let s = c.args.operands.now in
    let l = length-map s plain_operand in
    all_each (λ j t. IsData c.args.definitions.now t) c.args.first c.loop-k.k (plain_operands s)
    (let t = c.loop-k-test.false in omega arith) c.loop-k.invariant
