use Rattle.std.proofs.Common.{◌≡◌, ◌<◌, ◌∙◌, ℕ, sym, ap, subst, length, map}
use Rattle.std.proofs.lemmas.Option.{slice_get_within}
use Rattle.std.proofs.lemmas.Result.{IfOk-weaker}
use Rattle.spv_table.specs.Table.{Table}
use Rattle.spv_module.specs.Module.{plain_inst, plain_insts}
use Rattle.spv_module.specs.declared.fault.Rule.TheVariants.{Y5}
use Rattle.spv_layout.specs.Shape.{FitsShape}
use Rattle.spv_ids.specs.Outcome.{IsDefinitionOf, definition_in}
use Rattle.spv_ops.specs.Typed.{IsTyped}
use Rattle.spv_operation_evidence.specs.Evidence.{IsEvidence, Shows}
use Rattle.spv_operation_evidence.proofs.lemmas.Knowing.{known_of, is_evidence}
use Rattle.spv_operation_evidence.proofs.operation.operation_evidence.Goals as goal

pub new-definitions-requires-clause-ids : goal.new-definitions-requires-clause-ids
new-definitions-requires-clause-ids c =
    subst (λ is. (x : ℕ) → IsDefinitionOf is x (definition_in c.args.ids.now x))
    (sym (ap (λ xs. map plain_inst xs) c.as_slice-insts.ensures.value)) c.requires.ids

pub inst-inst-requires : goal.inst-inst-requires
inst-inst-requires c =
    let e : c.new-definitions.result ≡ plain_insts c.args.module.now = c.new-definitions.ensures
    ∙ ap (λ xs. map plain_inst xs) c.as_slice-insts.ensures.value in
    let b = c.requires.broken.1 in
    subst (λ is. c.args.number < length is) (sym e)
    (slice_get_within (plain_insts c.args.module.now) c.args.number b.inst b.there)

pub evidence_at-requires-clause-within : goal.evidence_at-requires-clause-within
evidence_at-requires-clause-within c =
    slice_get_within c.new-definitions.result c.args.number (plain_inst c.inst-inst.result.now) c.inst-inst.ensures

pub evidence_at-requires-clause-ids : goal.evidence_at-requires-clause-ids
evidence_at-requires-clause-ids c =
    let e : c.new-definitions.result ≡ plain_insts c.args.module.now = c.new-definitions.ensures
    ∙ ap (λ xs. map plain_inst xs) c.as_slice-insts.ensures.value in
    subst (λ is. (x : ℕ) → IsDefinitionOf is x (definition_in c.args.ids.now x)) (sym e) c.requires.ids

pub evidence_at-requires-clause-typeable : goal.evidence_at-requires-clause-typeable
evidence_at-requires-clause-typeable c =
    let e : c.new-definitions.result ≡ plain_insts c.args.module.now = c.new-definitions.ensures
    ∙ ap (λ xs. map plain_inst xs) c.as_slice-insts.ensures.value in
    let b = c.requires.broken in
    let known = known_of b.0 (plain_insts c.args.module.now) c.new-definitions.result c.args.plan.now c.args.number
    (plain_inst c.inst-inst.result.now) e c.inst-inst.ensures b.1 in
    (b.0, known.typeable)

pub evidence_at-requires-clause-broken : goal.evidence_at-requires-clause-broken
evidence_at-requires-clause-broken c =
    let e : c.new-definitions.result ≡ plain_insts c.args.module.now = c.new-definitions.ensures
    ∙ ap (λ xs. map plain_inst xs) c.as_slice-insts.ensures.value in
    let b = c.requires.broken in
    let known = known_of b.0 (plain_insts c.args.module.now) c.new-definitions.result c.args.plan.now c.args.number
    (plain_inst c.inst-inst.result.now) e c.inst-inst.ensures b.1 in
    (b.0, known.fits, known.never)

pub returns : goal.returns
returns c = λ G b.
    let is = plain_insts c.args.module.now in
    let js = c.new-definitions.result in
    let i = plain_inst c.inst-inst.result.now in
    let n = c.args.number in
    let e : js ≡ is = c.new-definitions.ensures ∙ ap (λ xs. map plain_inst xs) c.as_slice-insts.ensures.value in
    let known = known_of G is js c.args.plan.now n i e c.inst-inst.ensures b in
    IfOk-weaker c.evidence_at.result (λ v. (H : Table) → FitsShape H i → ¬ (IsTyped H js n i) → Shows H js n i Y5 v)
    (λ v. IsEvidence G is Y5 n v)
    (λ v h. is_evidence G is js n i v e c.inst-inst.ensures (h G known.fits known.never))
    c.evidence_at.ensures
