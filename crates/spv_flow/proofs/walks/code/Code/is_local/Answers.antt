use Rattle.std.proofs.Common.{◌≡◌, List, get_or, subst, arith}
use Rattle.std.specs.Prelude.{is_some}
use Rattle.spv_module.specs.declared.operand.Operand.{Operand}
use Rattle.spv_module.specs.Operand.{type_in}
use Rattle.spv_module.specs.Module.{plain_inst, plain_operands}
use Rattle.spv_flow.specs.branches.Ready.{IsLocalValue}
use Rattle.spv_flow.proofs.lemmas.branches.Labelled.{inst_get}
use Rattle.spv_flow.specs.walks.inner.Code.{insts_of}
use Rattle.spv_flow.proofs.lemmas.walks.Alone.{function_op}
use Rattle.spv_flow.proofs.lemmas.walks.Coded.{value_here, value_inside, value_typed, value_not, by_type, by_order}
use Rattle.spv_flow.proofs.walks.code.Code.is_local.Goals as goal

pub returns-then-place-self : goal.returns-then-place-self
returns-then-place-self c = λ G x is at v.
    let r = value_inside G c.args.self.now x c.args.place is at v in
    let lt = c.if-place-self.true in
    let after = r.1 in
    is.global r.0 (omega (arith, lt, after)) (function_op (insts_of c.args.self.now) r.0 r.2.begun.there)

pub returns-in_default : goal.returns-in_default
returns-in_default c = λ G x is at v.
    let r = value_inside G c.args.self.now x c.args.place is at v in
    c.in_default.ensures G is c.requires r.0 r.2

pub returns-then-function-place : goal.returns-then-function-place
returns-then-function-place c = λ G x is at.
    let code = c.args.self.now in
    let insts = code.insts.now in
    let i = plain_inst (get_or insts c.args.place c.index-self-place.result) in
    let there = inst_get insts c.args.place c.index-self-place.result c.requires in
    let e = subst (λ (os : List Operand). c.has_type.result ≡ is_some (type_in (plain_operands os)))
    c.as_slice.ensures.value c.has_type.ensures in
    by_type (is_some (type_in i.operands)) c.has_type.result (IsLocalValue (insts_of code) x) e
    (λ typed. value_here G code x c.args.place c.in-Some.function i is at there
    (c.in-Some.ensures G is c.requires) c.if-function-place.true typed)
    (λ v. value_typed G code x c.args.place i is at there v)

pub returns-else-function-place : goal.returns-else-function-place
returns-else-function-place c = λ G x is at.
    let code = c.args.self.now in
    let f = c.if-function-place.false in
    by_order c.in-Some.function c.args.place (IsLocalValue (insts_of code) x) (omega (arith, f))
    (value_not G code x c.args.place c.in-Some.function is at (c.in-Some.ensures G is c.requires)
    (omega (arith, f)))
