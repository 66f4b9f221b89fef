use Rattle.std.proofs.Common.{◌≡◌, List, get_or, subst, arith}
use Rattle.std.specs.Prelude.{is_some}
use Rattle.spv_module.specs.declared.operand.Operand.{Operand}
use Rattle.spv_module.specs.Operand.{type_in}
use Rattle.spv_module.specs.Module.{plain_inst, plain_operands}
use Rattle.spv_flow.specs.branches.Ready.{IsLocalValue}
use Rattle.spv_flow.proofs.lemmas.branches.Labelled.{inst_get}
use Rattle.spv_flow.specs.walks.inner.Code.{insts_of}
use Rattle.spv_flow.proofs.lemmas.walks.Coded.{value_here, value_typed, by_type}
use Rattle.spv_flow.proofs.walks.queries.is_local_in.Goals as goal

pub returns-then-place-blocks : goal.returns-then-place-blocks
returns-then-place-blocks c = λ G x is at.
    let code = c.args.code.now in
    let b = c.args.blocks.now in
    let insts = code.insts.now in
    let i = plain_inst (get_or insts c.args.place c.index-code-place.result) in
    let there = inst_get insts c.args.place c.index-code-place.result c.requires.place in
    let e = subst (λ (os : List Operand). c.has_type.result ≡ is_some (type_in (plain_operands os)))
    c.as_slice.ensures.value c.has_type.ensures in
    let after = c.if-blocks-place.true in
    let of = c.requires.blocks.laid.extent.of c.args.place (omega (arith, after)) c.if-place-blocks.true in
    by_type (is_some (type_in i.operands)) c.has_type.result (IsLocalValue (insts_of code) x) e
    (λ typed. value_here G code x c.args.place b.function i is at there of after typed)
    (λ v. value_typed G code x c.args.place i is at there v)

pub returns-else-blocks-place : goal.returns-else-blocks-place
returns-else-blocks-place c = λ G x is at. c.is_local.ensures G x is at
