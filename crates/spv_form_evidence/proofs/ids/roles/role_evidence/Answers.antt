use Rattle.std.proofs.Common.{◌≡◌, ◌∙◌, Some, ap, sym, subst, map, length, below_more, arith}
use Rattle.std.specs.Prelude.{slice_get}
use Rattle.std.proofs.lemmas.List.{length-map}
use Rattle.spv_module.specs.Module.{plain_inst, plain_insts, plain_operand}
use Rattle.spv_module.specs.declared.fault.Rule.TheVariants.{Y1}
use Rattle.spv_ids.specs.Outcome.{IsDefinitionOf, definition_in}
use Rattle.spv_form_evidence.specs.ids.inner.Uses.{HasUse}
use Rattle.spv_form_evidence.specs.ids.inner.Casts.{IsMiscast}
use Rattle.spv_form_evidence.specs.ids.Roles.{IsEvidence}
use Rattle.spv_form_evidence.proofs.lemmas.ids.Using.{there}
use Rattle.spv_form_evidence.proofs.lemmas.ids.Casting.{within, some_miscast}
use Rattle.spv_form_evidence.proofs.ids.roles.role_evidence.Goals as goal

pub new-definitions-requires-clause-ids : goal.new-definitions-requires-clause-ids
new-definitions-requires-clause-ids c = λ x.
    subst (λ is. IsDefinitionOf is x (definition_in c.args.ids.now x))
    (ap (λ items. map plain_inst items) (sym c.as_slice-insts.ensures.value)) (c.requires.ids x)

pub bounds-insts-inst : goal.bounds-insts-inst
bounds-insts-inst c =
    let b = c.requires.broken in
    let w = within b.0 (plain_insts c.args.module.now) Y1 c.args.inst b.3 in
    let v = ap length c.as_slice-insts.ensures.value in
    let l = length-map c.args.module.now.insts.items plain_inst in
    omega arith

pub miscast_at-requires : goal.miscast_at-requires
miscast_at-requires c = record {
  ids = λ x.
      let same : c.new-definitions.result ≡ plain_insts c.args.module.now = c.new-definitions.ensures
      ∙ ap (λ items. map plain_inst items) c.as_slice-insts.ensures.value in
      subst (λ is. IsDefinitionOf is x (definition_in c.args.ids.now x)) (sym same) (c.requires.ids x);
}

pub returns-in-Some : goal.returns-in-Some
returns-in-Some c = λ G p.
    let b = c.requires.broken in
    let is = plain_insts c.args.module.now in
    let n = c.args.inst in
    let i = plain_inst c.index-insts-inst.result in
    let v : map plain_inst c.as_slice-insts.result.now ≡ is = ap
    (λ items. map plain_inst items) c.as_slice-insts.ensures.value in
    let same : c.new-definitions.result ≡ is = c.new-definitions.ensures ∙ v in
    let w = within b.0 is Y1 n b.3 in
    let t : slice_get is n ≡ Some i = there c.as_slice-insts.result.now is n c.index-insts-inst.result v w
    c.index-insts-inst.is in
    let t' : slice_get c.new-definitions.result n ≡ Some i = rw same t in
    subst (λ js. IsEvidence G js Y1 n c.in-Some.evidence) same (c.in-Some.ensures G n (p.fits n i t) t')

pub loop-k-preserved : goal.loop-k-preserved
loop-k-preserved c = λ G f.
    let b = c.requires.broken in
    let is = plain_insts c.args.module.now in
    let n = c.args.inst in
    let i = plain_inst c.index-insts-inst.result in
    let v : map plain_inst c.as_slice-insts.result.now ≡ is = ap
    (λ items. map plain_inst items) c.as_slice-insts.ensures.value in
    let same : c.new-definitions.result ≡ is = c.new-definitions.ensures ∙ v in
    let w = within b.0 is Y1 n b.3 in
    let t : slice_get is n ≡ Some i = there c.as_slice-insts.result.now is n c.index-insts-inst.result v w
    c.index-insts-inst.is in
    let t' : slice_get c.new-definitions.result n ≡ Some i = rw same t in
    below_more _ _ (c.loop-k.invariant G f)
    (subst (λ js. ¬ (HasUse G i (IsMiscast js) c.loop-k.k)) same (c.in_default.ensures G n f t'))

pub unreachable-requires : goal.unreachable-requires
unreachable-requires c =
    let b = c.requires.broken in
    let is = plain_insts c.args.module.now in
    let n = c.args.inst in
    let i = plain_inst c.index-insts-inst.result in
    let v : map plain_inst c.as_slice-insts.result.now ≡ is = ap
    (λ items. map plain_inst items) c.as_slice-insts.ensures.value in
    let w = within b.0 is Y1 n b.3 in
    let t : slice_get is n ≡ Some i = there c.as_slice-insts.result.now is n c.index-insts-inst.result v w
    c.index-insts-inst.is in
    let a = ap length c.as_slice-k-end.ensures.value in
    let l = length-map c.index-insts-inst.result.operands plain_operand in
    let e = c.loop-k-test.false in
    some_miscast b.0 c.args.module.now.header.bound is Y1 n i t b.2 b.3
    (λ k h. c.loop-k.invariant b.0 (b.1.fits n i t) k (omega arith))
