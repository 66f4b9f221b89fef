use Rattle.std.proofs.Common.{◌∙◌, ◌≡◌, ap, map, sym, subst}
use Rattle.std.proofs.lemmas.Option.{slice_get_within}
use Rattle.spv_module.specs.Module.{plain_inst, plain_insts}
use Rattle.spv_ids.specs.Outcome.{IsDefinitionOf, definition_in}
use Rattle.spv_std_types.specs.Mistyped.{IsMistyped, IsMistypedBy}
use Rattle.spv_explain.specs.Mistyped.{IsEvidence}
use Rattle.spv_explain.proofs.evidence.std_evidence.Goals as goal

pub new-definitions-requires-clause-ids : goal.new-definitions-requires-clause-ids
new-definitions-requires-clause-ids c = λ x.
    subst (λ is. IsDefinitionOf is x (definition_in c.args.ids.now x))
    (ap (λ items. map plain_inst items) (sym c.as_slice.ensures.value)) (c.requires.ids x)

pub mistyping_at-requires : goal.mistyping_at-requires
mistyping_at-requires c =
    let same : c.new-definitions.result ≡ plain_insts c.args.module.now = c.new-definitions.ensures
    ∙ ap (λ items. map plain_inst items) c.as_slice.ensures.value in
    let m = subst (λ is. IsMistyped is c.args.inst) (sym same) c.requires.broken in
    slice_get_within c.new-definitions.result c.args.inst m.1.inst m.1.there

pub unreachable-requires : goal.unreachable-requires
unreachable-requires c =
    let same : c.new-definitions.result ≡ plain_insts c.args.module.now = c.new-definitions.ensures
    ∙ ap (λ items. map plain_inst items) c.as_slice.ensures.value in
    c.in_default.ensures (subst (λ is. IsMistyped is c.args.inst) (sym same) c.requires.broken)

pub returns : goal.returns
returns c =
    let same : c.new-definitions.result ≡ plain_insts c.args.module.now = c.new-definitions.ensures
    ∙ ap (λ items. map plain_inst items) c.as_slice.ensures.value in
    let told = subst (λ is. IsMistypedBy is c.args.inst c.in-Some.condition) same c.in-Some.ensures in
    rw c.operand_of.ensures (IsEvidence.mistyped c.args.inst c.in-Some.condition told)
