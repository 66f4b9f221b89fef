use Rattle.std.proofs.Common.{inl, inr}
use Rattle.std.proofs.lemmas.Bool.{iff_false}
use Rattle.spv_module.specs.Module.{plain_inst}
use Rattle.spv_standard_evidence.proofs.Versioned.{copy_masks, copy_shown, import_shown, select_shown}
use Rattle.spv_standard_evidence.proofs.versions.form_place.Goals as goal

pub mask_place-requires : goal.mask_place-requires
mask_place-requires c =
    let r = c.requires in
    copy_masks r.0 r.1 (plain_inst c.args.inst.now) (c.is_copy.ensures.0 c.if-is_copy.true) r.2

pub returns-then-is_copy : goal.returns-then-is_copy
returns-then-is_copy c = λ G minor is h.
    copy_shown minor is (plain_inst c.args.inst.now) c.mask_place.result (c.is_copy.ensures.0 c.if-is_copy.true) h
    c.mask_place.ensures G

pub returns-then-inst-eq-SELECT : goal.returns-then-inst-eq-SELECT
returns-then-inst-eq-SELECT c = λ G minor is h.
    select_shown minor is (plain_inst c.args.inst.now) c.if-inst-eq-SELECT.true h G

pub returns-else-inst-eq-SELECT : goal.returns-else-inst-eq-SELECT
returns-else-inst-eq-SELECT c = λ G minor is h.
    import_shown minor is (plain_inst c.args.inst.now)
    (λ e. iff_false c.is_copy.ensures c.if-is_copy.false (inl e))
    (λ e. iff_false c.is_copy.ensures c.if-is_copy.false (inr e)) c.if-inst-eq-SELECT.false h G
