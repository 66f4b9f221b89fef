use Rattle.std.proofs.lemmas.Grind.{common_steps}
use Rattle.std.proofs.Common.{◌≡◌, Some, sym, ap, map, subst, ◌∙◌, arith}
use Rattle.std.specs.Prelude.{slice_get}
use Rattle.spv_module.specs.Module.{plain_inst, plain_insts}
use Rattle.spv_ids.specs.Outcome.{IsDefinitionOf, definition_in}
use Rattle.spv_ops.specs.inner.Typed.{IsTypedIn}
use Rattle.spv_ops.proofs.Judged.{told}
use Rattle.spv_check.proofs.operation.op_holds.Goals as goal

pub new-definitions-requires-clause-ids : goal.new-definitions-requires-clause-ids
new-definitions-requires-clause-ids c = λ x.
    subst (λ is. IsDefinitionOf is x (definition_in c.args.ids.now x))
    (ap (λ items. map plain_inst items) (sym c.as_slice.ensures.value)) (c.requires.ids x)

pub returns : goal.returns
returns c = λ G plan.
    let is = plain_insts c.args.module.now in
    let i = plain_inst c.inst.result.now in
    let same : c.new-definitions.result ≡ is = c.new-definitions.ensures
    ∙ ap (λ items. map plain_inst items) c.as_slice.ensures.value in
    let at : slice_get is c.args.inst ≡ Some i = rw (← same) c.inst.ensures in
    let d = told G is c.args.inst i at (plan.fits c.args.inst i at) in
    let by = λ (js : _). IsTypedIn js c.args.inst i in
    let e = c.in_ok-holds.ensures.answer in
    (λ y. d.0 (subst by same (e.0 y)), λ r. e.1 (subst by (sym same) (d.1 r)))

pub new-definitions-requires-clause-plan : goal.new-definitions-requires-clause-plan
new-definitions-requires-clause-plan c = grind (arith, common_steps)

pub new-matching-requires : goal.new-matching-requires
new-matching-requires c = grind (arith, common_steps)

pub inst-requires : goal.inst-requires
inst-requires c = grind (arith, common_steps)

pub operation_holds-requires-clause-matching : goal.operation_holds-requires-clause-matching
operation_holds-requires-clause-matching c = grind (arith, common_steps)

pub operation_holds-requires-clause-number : goal.operation_holds-requires-clause-number
operation_holds-requires-clause-number c = grind (arith, common_steps)

pub returns-in_err-holds : goal.returns-in_err-holds
returns-in_err-holds c = grind (arith, common_steps)
