use Rattle.std.proofs.Common.{◌≡◌, ◌∙◌, ◌<◌, sym, ap, subst, length, map, take, List, Some, arith}
use Rattle.std.specs.Prelude.{slice_get}
use Rattle.std.proofs.lemmas.List.{length-map, length-take-le}
use Rattle.std.proofs.lemmas.Result.{IfOk-weaker}
use Rattle.spv_module.specs.declared.module.Inst.{Inst}
use Rattle.spv_module.specs.Module.{plain_inst, plain_insts}
use Rattle.spv_layout.specs.Layout.{BeginsLayout, seen_classes}
use Rattle.spv_layout.proofs.Misfits.{inst_there}
use Rattle.spv_form_evidence.specs.layout.Evidence.{IsEvidence}
use Rattle.spv_form_evidence.specs.layout.inner.Told.{IsMayCome}
use Rattle.spv_form_evidence.proofs.lemmas.layout.Telling.{before_of, begun_at, dead_at, dead_within, misfit_within}
use Rattle.spv_form_evidence.proofs.lemmas.layout.Telling.{placed, shaped}
use Rattle.spv_form_evidence.proofs.layout.layout_evidence.Goals as goal

pub bounds-insts-at : goal.bounds-insts-at
bounds-insts-at c =
    let b = c.requires.broken in
    let w = misfit_within c.args.profile b.0 c.args.module.now.insts.items c.args.rule c.args.inst b.1 c.in-P1.is in
    subst (λ (xs : List Inst). c.args.inst < length xs) (sym c.as_slice-insts.ensures.value) w

pub slice_bounds-may_come-end : goal.slice_bounds-may_come-end
slice_bounds-may_come-end c =
    let b = c.requires.broken in
    let d = dead_within c.args.profile (plain_insts c.args.module.now) c.args.rule c.args.inst
    (dead_at c.args.profile b.0 _ _ _ b.1 c.in_default.not-P1) in
    let v = ap (λ (xs : List Inst). length xs) c.as_slice-insts.ensures.value in
    let l = length-map c.args.module.now.insts.items plain_inst in
    sym (length-take-le c.args.inst c.as_slice-insts.result.now (omega arith))

pub may_come-requires : goal.may_come-requires
may_come-requires c =
    let b = c.requires.broken in
    let g = begun_at c.args.profile (plain_insts c.args.module.now) c.args.rule c.args.inst
    (dead_at c.args.profile b.0 _ _ _ b.1 c.in_default.not-P1) in
    let h = subst (λ l. BeginsLayout (seen_classes c.args.profile l)) (sym (before_of c.args.module.now.insts.items c.args.inst)) g in
    subst (λ (xs : List Inst). BeginsLayout (seen_classes c.args.profile (map plain_inst (take c.args.inst xs))))
    (sym c.as_slice-insts.ensures.value) h

pub returns-in-P1 : goal.returns-in-P1
returns-in-P1 c = λ G b.
    let r = c.requires.broken in
    let v = c.as_slice-insts.ensures.value in
    let w = misfit_within c.args.profile r.0 c.args.module.now.insts.items c.args.rule c.args.inst r.1 c.in-P1.is in
    let within : c.args.inst < length c.as_slice-insts.result.now = subst
    (λ (xs : List Inst). c.args.inst < length xs) (sym v) w in
    let t = inst_there c.as_slice-insts.result.now c.args.inst c.index-insts-at.result within c.index-insts-at.is in
    let there = subst (λ (xs : List Inst). slice_get (map plain_inst xs) c.args.inst ≡ Some
    (plain_inst c.index-insts-at.result)) v t in
    shaped c.args.profile G (plain_insts c.args.module.now) c.args.rule c.args.inst (plain_inst c.index-insts-at.result)
    c.shape_of.result there b c.in-P1.is c.shape_of.ensures

pub returns-in_default : goal.returns-in_default
returns-in_default c = λ G b.
    let is = plain_insts c.args.module.now in
    let d = dead_at c.args.profile G is c.args.rule c.args.inst b c.in_default.not-P1 in
    let e = ap (λ (xs : List Inst). map plain_inst (take c.args.inst xs)) c.as_slice-insts.ensures.value ∙ before_of
    c.args.module.now.insts.items c.args.inst in
    IfOk-weaker c.may_come.result
    (λ x. IsMayCome c.args.profile (map plain_inst (take c.args.inst c.as_slice-insts.result.now)) x)
    (λ x. IsEvidence c.args.profile G is c.args.rule c.args.inst x)
    (λ x h. placed c.args.profile G is c.args.rule c.args.inst x d (subst (λ l. IsMayCome c.args.profile l x) e h))
    c.may_come.ensures
