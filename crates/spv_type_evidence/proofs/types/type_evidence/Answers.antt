use Rattle.std.proofs.Common.{◌≡◌, ◌<◌, ◌∙◌, ℕ, sym, ap, subst, length, map, arith}
use Rattle.std.proofs.lemmas.List.{length-map}
use Rattle.std.proofs.lemmas.Option.{slice_get_within}
use Rattle.spv_module.specs.Module.{plain_inst, plain_insts}
use Rattle.spv_layout.specs.Place.{AreFew}
use Rattle.spv_layout.proofs.Misfits.{short_list}
use Rattle.spv_ids.specs.Outcome.{IsDefinitionOf, definition_in}
use Rattle.spv_type_evidence.proofs.lemmas.types.Knowing.{known_of, call_opcode}
use Rattle.spv_type_evidence.proofs.lemmas.types.Parts.{few_parts}
use Rattle.spv_type_evidence.proofs.lemmas.types.Shaped.{call_shape}
use Rattle.spv_type_evidence.proofs.types.type_evidence.Goals as goal

pub new-definitions-requires-clause-ids : goal.new-definitions-requires-clause-ids
new-definitions-requires-clause-ids c =
    subst (λ is. (x : ℕ) → IsDefinitionOf is x (definition_in c.args.ids.now x))
    (sym (ap (λ xs. map plain_inst xs) c.as_slice-insts.ensures.value)) c.requires.ids

pub inst-inst-requires : goal.inst-inst-requires
inst-inst-requires c =
    let e : c.new-definitions.result ≡ plain_insts c.args.module.now = c.new-definitions.ensures
    ∙ ap (λ xs. map plain_inst xs) c.as_slice-insts.ensures.value in
    let b = c.requires.broken.1 in
    subst (λ is. c.args.number < length is) (sym e)
    (slice_get_within (plain_insts c.args.module.now) c.args.number b.inst b.there)

pub declaration_evidence-requires-clause-ids : goal.declaration_evidence-requires-clause-ids
declaration_evidence-requires-clause-ids c =
    let e : c.new-definitions.result ≡ plain_insts c.args.module.now = c.new-definitions.ensures
    ∙ ap (λ xs. map plain_inst xs) c.as_slice-insts.ensures.value in
    subst (λ is. (x : ℕ) → IsDefinitionOf is x (definition_in c.args.ids.now x)) (sym e) c.requires.ids

pub constant_evidence-requires-clause-few : goal.constant_evidence-requires-clause-few
constant_evidence-requires-clause-few c =
    let e : c.new-definitions.result ≡ plain_insts c.args.module.now = c.new-definitions.ensures
    ∙ ap (λ xs. map plain_inst xs) c.as_slice-insts.ensures.value in
    let b = c.requires.broken in
    let known = known_of b.0 (plain_insts c.args.module.now) c.new-definitions.result c.args.plan.now c.args.rule
    c.args.number e c.requires.words b.1 in
    few_parts b.0 c.new-definitions.result c.args.number (plain_inst c.inst-inst.result.now) known c.inst-inst.ensures

pub constant_evidence-requires-clause-insts : goal.constant_evidence-requires-clause-insts
constant_evidence-requires-clause-insts c =
    let e : c.new-definitions.result ≡ plain_insts c.args.module.now = c.new-definitions.ensures
    ∙ ap (λ xs. map plain_inst xs) c.as_slice-insts.ensures.value in
    let l = short_list (plain_insts c.args.module.now) in
    let w = c.requires.words in
    subst (λ is. AreFew is) (sym e) (omega arith)

pub constant_evidence-requires-clause-ids : goal.constant_evidence-requires-clause-ids
constant_evidence-requires-clause-ids c =
    let e : c.new-definitions.result ≡ plain_insts c.args.module.now = c.new-definitions.ensures
    ∙ ap (λ xs. map plain_inst xs) c.as_slice-insts.ensures.value in
    subst (λ is. (x : ℕ) → IsDefinitionOf is x (definition_in c.args.ids.now x)) (sym e) c.requires.ids

pub evidence_of_function-requires-clause-few : goal.evidence_of_function-requires-clause-few
evidence_of_function-requires-clause-few c =
    let l = short_list (plain_insts c.args.module.now) in
    let m = length-map c.args.module.now.insts.items plain_inst in
    let s = ap (λ xs. length xs) c.as_slice-insts.ensures.value in
    let w = c.requires.words in
    omega arith

pub call_evidence-requires-clause-shape : goal.call_evidence-requires-clause-shape
call_evidence-requires-clause-shape c =
    let e : c.new-definitions.result ≡ plain_insts c.args.module.now = c.new-definitions.ensures
    ∙ ap (λ xs. map plain_inst xs) c.as_slice-insts.ensures.value in
    let b = c.requires.broken in
    let known = known_of b.0 (plain_insts c.args.module.now) c.new-definitions.result c.args.plan.now c.args.rule
    c.args.number e c.requires.words b.1 in
    call_shape b.0 c.new-definitions.result c.args.number (plain_inst c.inst-inst.result.now) known c.inst-inst.ensures
    (call_opcode b.0 (plain_insts c.args.module.now) c.new-definitions.result c.args.plan.now c.args.rule c.args.number
    (plain_inst c.inst-inst.result.now) e c.inst-inst.ensures c.in-Y8.is b.1)
