use Rattle.std.proofs.Common.{◌<◌, ◌∙◌, ℕ, length, arith}
use Rattle.std.proofs.lemmas.List.{length-map}
use Rattle.spv_module.specs.Module.{plain_operand, plain_operands}
use Rattle.spv_layout.specs.Place.{AreFew}
use Rattle.spv_type_kinds.specs.Operands.{ids_in}
use Rattle.spv_type_evidence.specs.types.Constant.{IsPartOf}
use Rattle.spv_type_evidence.proofs.lemmas.types.Firsts.{ends_here, all_each, one_fails, one_before, id_there}
use Rattle.spv_type_evidence.proofs.lemmas.types.Firsts.{among_ids}
use Rattle.spv_type_evidence.proofs.lemmas.types.Parts.{is_part}
use Rattle.spv_type_evidence.proofs.types.constant.first_no_part.Goals as goal

pub returns-in_default : goal.returns-in_default
returns-in_default c =
    ends_here (λ j x. IsPartOf c.args.definitions.now c.args.spec c.args.r j x) 2 c.loop-k.k c.args.operands.now _
    c.loop-k-test.true c.in_default.not-Id c.loop-k.invariant

pub overflow_cast-result : goal.overflow_cast-result
overflow_cast-result c =
    let s = c.args.operands.now in
    let Q : ℕ → ℕ → Type 0 = λ j x. IsPartOf c.args.definitions.now c.args.spec c.args.r j x in
    let l : c.loop-k.k < length (ids_in (plain_operands s)) = among_ids Q c.loop-k.k c.in-Id.x (plain_operands s)
    (id_there s c.loop-k.k c.in-Id.x _ c.loop-k-test.true c.in-Id.is) c.loop-k.invariant in
    let few : AreFew (ids_in (plain_operands s)) = c.requires in
    omega arith

pub overflow_add-result : goal.overflow_add-result
overflow_add-result c =
    let s = c.args.operands.now in
    let Q : ℕ → ℕ → Type 0 = λ j x. IsPartOf c.args.definitions.now c.args.spec c.args.r j x in
    let l : c.loop-k.k < length (ids_in (plain_operands s)) = among_ids Q c.loop-k.k c.in-Id.x (plain_operands s)
    (id_there s c.loop-k.k c.in-Id.x _ c.loop-k-test.true c.in-Id.is) c.loop-k.invariant in
    let few : AreFew (ids_in (plain_operands s)) = c.requires in
    omega arith

pub returns-then-not-is_typed_part : goal.returns-then-not-is_typed_part
returns-then-not-is_typed_part c =
    let s = c.args.operands.now in
    let is = c.args.definitions.now in
    let part = is_part is c.args.spec c.args.r c.loop-k.k c.in-Id.x c.at.result c.is_typed_part.result
    (c.at.ensures ∙ c.parts_of-parts.ensures c.loop-k.k) c.is_typed_part.ensures in
    one_fails (λ j x. IsPartOf is c.args.spec c.args.r j x) 2 c.loop-k.k c.in-Id.x (plain_operands s)
    (id_there s c.loop-k.k c.in-Id.x _ c.loop-k-test.true c.in-Id.is)
    (λ p. let on = part.1 p in let off = c.if-not-is_typed_part.true in cc)
    c.loop-k.invariant

pub loop-k-preserved : goal.loop-k-preserved
loop-k-preserved c =
    let s = c.args.operands.now in
    let is = c.args.definitions.now in
    let part = is_part is c.args.spec c.args.r c.loop-k.k c.in-Id.x c.at.result c.is_typed_part.result
    (c.at.ensures ∙ c.parts_of-parts.ensures c.loop-k.k) c.is_typed_part.ensures in
    one_before (λ j x. IsPartOf is c.args.spec c.args.r j x) (plain_operands s) c.loop-k.k c.in-Id.x
    (id_there s c.loop-k.k c.in-Id.x _ c.loop-k-test.true c.in-Id.is)
    (part.0 c.if-not-is_typed_part.false)
    c.loop-k.invariant

pub returns : goal.returns
returns c =
    let s = c.args.operands.now in
    let l = length-map s plain_operand in
    all_each (λ j x. IsPartOf c.args.definitions.now c.args.spec c.args.r j x) 2 c.loop-k.k (plain_operands s)
    (let t = c.loop-k-test.false in omega arith) c.loop-k.invariant
