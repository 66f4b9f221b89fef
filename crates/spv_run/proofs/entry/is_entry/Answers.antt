use Rattle.std.proofs.Common.{◌≡◌, ◌∙◌, Some, map, slice_get, ap, sym, refl, arith, length}
use Rattle.std.proofs.lemmas.List.{length-map}
use Rattle.std.proofs.lemmas.Option.{none-some, same_Some}
use Rattle.spv_module.specs.declared.module.Inst.{Inst}
use Rattle.spv_module.specs.Module.{plain_inst}
use Rattle.spv_flow.proofs.lemmas.branches.Labelled.{inst_get}
use Rattle.spv_run.proofs.Entries.{none_yet, entry_here, still_none, none_at_all}
use Rattle.spv_run.proofs.entry.is_entry.Goals.{in-Some+else-id-function, in_default}
use Rattle.spv_run.proofs.entry.is_entry.Goals as goal

pub loop-at-init : goal.loop-at-init
loop-at-init c = none_yet (map plain_inst c.args.insts.now) c.args.function

pub returns-then-id-function : goal.returns-then-id-function
returns-then-id-function c =
    let there : slice_get (map plain_inst c.args.insts.now) c.loop-at.at ≡ Some (plain_inst c.index-insts-at.result) =
    inst_get c.args.insts.now c.loop-at.at c.index-insts-at.result c.loop-at-test.true
    ∙ ap (λ (j : Inst). Some (plain_inst j)) (sym c.index-insts-at.is) in (
      λ told. entry_here (map plain_inst c.args.insts.now) c.loop-at.at c.in-Some.id c.args.function
          (plain_inst c.index-insts-at.result) there (sym c.named_by.ensures ∙ c.in-Some.is) c.if-id-function.true,
      λ entry. refl,
    )

pub loop-at-preserved : goal.loop-at-preserved
loop-at-preserved c =
    let is = map plain_inst c.args.insts.now in
    let i = plain_inst c.index-insts-at.result in
    let there : slice_get is c.loop-at.at ≡ Some i =
    inst_get c.args.insts.now c.loop-at.at c.index-insts-at.result c.loop-at-test.true
    ∙ ap (λ (j : Inst). Some (plain_inst j)) (sym c.index-insts-at.is) in
    elim c.match-named_by.branch [
      | in-Some+else-id-function w ↦
          still_none is c.loop-at.at c.args.function i there c.loop-at.invariant
          (λ named. w.if-id-function.false
          (same_Some w.in-Some.id c.args.function (sym (sym c.named_by.ensures ∙ w.in-Some.is) ∙ named)))
      | in_default w ↦ still_none is c.loop-at.at c.args.function i there c.loop-at.invariant
          (λ named. none-some c.args.function (sym (sym c.named_by.ensures ∙ w.in_default.is) ∙ named))
    ]

pub returns : goal.returns
returns c =
    let e : length (map plain_inst c.args.insts.now) ≡ length c.args.insts.now = length-map c.args.insts.now plain_inst
    in (
      λ told. absurd (let w = told in cc),
      λ entry. absurd
          (none_at_all (map plain_inst c.args.insts.now) c.loop-at.at c.args.function
          (omega (arith, e, c.loop-at-test.false)) c.loop-at.invariant entry),
    )
