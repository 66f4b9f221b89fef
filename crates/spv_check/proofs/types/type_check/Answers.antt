use Rattle.std.proofs.Common.{◌≡◌, inl, length, map, refl, sym, ap, subst, ◌∙◌, arith}
use Rattle.std.proofs.lemmas.List.{length-map}
use Rattle.std.proofs.lemmas.Option.{slice_get_within}
use Rattle.spv_module.specs.Module.{plain_inst, plain_insts}
use Rattle.spv_layout.specs.Place.{IsShort}
use Rattle.spv_layout.specs.Plan.{IsPlan}
use Rattle.spv_ids.specs.Outcome.{IsDefinitionOf, definition_in}
use Rattle.spv_layout.proofs.Misfits.{short_list}
use Rattle.spv_type_forms.specs.inner.Meaning.{AreMeant}
use Rattle.spv_capabilities.specs.inner.Subject.{Subject}
use Rattle.spv_check.proofs.Typing.Firsts.{roles_first, roles_unbroken, kept_moved, fault_moved, fault_within}
use Rattle.spv_check.proofs.Typing.Firsts.{refusal_told, kept_unbroken}
use Rattle.spv_check.proofs.types.type_check.Goals as goal

pub new-definitions-requires-clause-plan : goal.new-definitions-requires-clause-plan
new-definitions-requires-clause-plan c = (
  c.args.table.now,
  subst (λ ks. IsPlan c.args.table.now ks c.args.plan.now)
      (ap (λ items. map plain_inst items) (sym c.as_slice-insts.ensures.value)) c.requires.plan,
)

pub new-definitions-requires-clause-ids : goal.new-definitions-requires-clause-ids
new-definitions-requires-clause-ids c = λ x.
    subst (λ is. IsDefinitionOf is x (definition_in c.args.ids.now x))
    (ap (λ items. map plain_inst items) (sym c.as_slice-insts.ensures.value)) (c.requires.ids x)

pub meanings_of-requires : goal.meanings_of-requires
meanings_of-requires c =
    let is = plain_insts c.args.module.now in
    let s = short_list is in
    let v = ap length (c.new-definitions.ensures ∙ ap (λ items. map plain_inst items) c.as_slice-insts.ensures.value) in
    let q : IsShort is = c.requires.words in
    omega arith

pub noted-noted-requires : goal.noted-noted-requires
noted-noted-requires c =
    subst (λ ms. AreMeant c.new-definitions.result ms) (sym c.as_slice.ensures.value) c.in-Ok.ensures

pub roles_check-requires-clause-words : goal.roles_check-requires-clause-words
roles_check-requires-clause-words c = c.requires.words

pub roles_check-requires-clause-definitions : goal.roles_check-requires-clause-definitions
roles_check-requires-clause-definitions c =
    c.noted-noted.ensures ∙ (c.new-definitions.ensures
    ∙ ap (λ items. map plain_inst items) c.as_slice-insts.ensures.value)

pub returns-in-Err-clause-refused : goal.returns-in-Err-clause-refused
returns-in-Err-clause-refused c =
    let f = c.in-Err.ensures.refused c.args.table.now c.args.plan.now c.requires.plan in (
      inl (roles_first c.args.table.now (plain_insts c.args.module.now) c.in-Err.fault.rule c.in-Err.fault.inst f.first),
      f.word,
    )

pub survey-requires-clause-plan : goal.survey-requires-clause-plan
survey-requires-clause-plan c = (c.args.table.now, c.requires.plan)

pub survey-requires-clause-ids : goal.survey-requires-clause-ids
survey-requires-clause-ids c = c.requires.ids

pub new-rules-requires-clause-plan : goal.new-rules-requires-clause-plan
new-rules-requires-clause-plan c = (c.args.table.now, c.requires.plan)

pub new-rules-requires-clause-ids : goal.new-rules-requires-clause-ids
new-rules-requires-clause-ids c = c.requires.ids

pub new-rules-requires-clause-definitions : goal.new-rules-requires-clause-definitions
new-rules-requires-clause-definitions c =
    c.noted-noted.ensures ∙ (c.new-definitions.ensures
    ∙ ap (λ items. map plain_inst items) c.as_slice-insts.ensures.value)

pub first_fault-requires-clause-most : goal.first_fault-requires-clause-most
first_fault-requires-clause-most c =
    let v = c.as_slice-insts.ensures.value in
    let xs = c.as_slice-insts.result.now in
    let s = short_list (map plain_inst xs) in
    let l = length-map xs plain_inst in
    let q : IsShort (map plain_inst xs) = rw v c.requires.words in
    omega arith

pub first_fault-requires-clause-rules : goal.first_fault-requires-clause-rules
first_fault-requires-clause-rules c = c.new-rules.ensures.rules

pub first_fault-requires-clause-judged : goal.first_fault-requires-clause-judged
first_fault-requires-clause-judged c =
    c.new-rules.ensures.insts ∙ ap (λ items. map plain_inst items) (sym c.as_slice-insts.ensures.value)

pub first_fault-requires-clause-surveyed : goal.first_fault-requires-clause-surveyed
first_fault-requires-clause-surveyed c =
    ap (λ s. s.insts) c.in-Ok-survey.ensures ∙ ap (λ items. map plain_inst items) (sym c.as_slice-insts.ensures.value)

pub first_fault-requires-clause-plan : goal.first_fault-requires-clause-plan
first_fault-requires-clause-plan c =
    let is = plain_insts c.args.module.now in
    let js = map plain_inst c.as_slice-insts.result.now in
    let v : is ≡ js = ap (λ items. map plain_inst items) (sym c.as_slice-insts.ensures.value) in
    let a = subst (λ ps. IsPlan c.args.table.now is ps) (sym c.new-rules.ensures.plan) c.requires.plan in
    let b = subst (λ ks. IsPlan c.args.table.now ks c.new-rules.result.plan.now) v a in
    subst (λ G. IsPlan G js c.new-rules.result.plan.now) (sym (ap (λ s. s.table) c.in-Ok-survey.ensures)) b

pub stop_at-requires : goal.stop_at-requires
stop_at-requires c =
    let js = map plain_inst c.as_slice-insts.result.now in
    let f = rw c.in-Ok-Some.field-0-is at c.in-Ok-Some.ensures.first in
    let w = fault_within c.in-Ok-survey.entries.table js c.in-Ok-Some.found.rule c.in-Ok-Some.found.inst f in
    let v = ap length (ap (λ items. map plain_inst items) c.as_slice-insts.ensures.value) in
    let n = c.requires.plan.count in
    omega arith

pub returns-in-Ok-Some-clause-refused : goal.returns-in-Ok-Some-clause-refused
returns-in-Ok-Some-clause-refused c =
    let G = c.args.table.now in
    let is = plain_insts c.args.module.now in
    let js = map plain_inst c.as_slice-insts.result.now in
    let v : js ≡ is = ap (λ items. map plain_inst items) c.as_slice-insts.ensures.value in
    let f = rw c.in-Ok-Some.field-0-is at c.in-Ok-Some.ensures.first in
    let r = c.in-Ok-Some.found.rule in
    let n = c.in-Ok-Some.found.inst in
    let g = fault_moved c.in-Ok-survey.entries.table G is js r n (ap (λ s. s.table) c.in-Ok-survey.ensures) v f in
    refusal_told G is r n c.stop_at.result
    (roles_unbroken G is (c.in_default-roles_check.ensures.unbroken G c.args.plan.now c.requires.plan)) g
    (c.stop_at.ensures is c.requires.plan.place)

pub same-entries : goal.same-entries
same-entries c = refl

pub invariant_of-result : goal.invariant_of-result
invariant_of-result c =
    let v = ap (λ items. map plain_inst items) c.as_slice-insts.ensures.value in
    let same = c.into_capabilities.ensures ∙ (c.first_fault.ensures.same ∙ c.in-Ok-survey.ensures) in
    (c.new-definitions.ensures ∙ (v ∙ sym (ap (λ (s : Subject). s.insts) same)), c.in-Ok.ensures)

pub returns-clause-types : goal.returns-clause-types
returns-clause-types c =
    let G = c.args.table.now in
    let is = plain_insts c.args.module.now in
    let js = map plain_inst c.as_slice-insts.result.now in
    let v : js ≡ is = ap (λ items. map plain_inst items) c.as_slice-insts.ensures.value in
    let m : length c.as_slice-insts.result.now ≡ length is = sym (length-map c.as_slice-insts.result.now plain_inst)
    ∙ ap length v in
    let k = kept_moved c.in-Ok-survey.entries.table G is js (length c.as_slice-insts.result.now)
    (ap (λ s. s.table) c.in-Ok-survey.ensures) v m (rw c.in-Ok-None.field-0-is at c.in-Ok-None.ensures.first) in
    record {
      roles = c.in_default-roles_check.ensures.roles G c.args.plan.now c.requires.plan;
      capabilities = λ r n i at. (k.each r n i (slice_get_within is n i at) at).capabilities;
      rules = λ r n i at. (k.each r n i (slice_get_within is n i at) at).types;
      same = c.into_capabilities.ensures ∙ (c.first_fault.ensures.same ∙ c.in-Ok-survey.ensures);
    }

pub returns-clause-unbroken : goal.returns-clause-unbroken
returns-clause-unbroken c =
    let G = c.args.table.now in
    let is = plain_insts c.args.module.now in
    let js = map plain_inst c.as_slice-insts.result.now in
    let v : js ≡ is = ap (λ items. map plain_inst items) c.as_slice-insts.ensures.value in
    let m : length c.as_slice-insts.result.now ≡ length is = sym (length-map c.as_slice-insts.result.now plain_inst)
    ∙ ap length v in
    let k = kept_moved c.in-Ok-survey.entries.table G is js (length c.as_slice-insts.result.now)
    (ap (λ s. s.table) c.in-Ok-survey.ensures) v m (rw c.in-Ok-None.field-0-is at c.in-Ok-None.ensures.first) in (
      roles_unbroken G is (c.in_default-roles_check.ensures.unbroken G c.args.plan.now c.requires.plan),
      kept_unbroken G is k,
    )
