use Rattle.std.proofs.lemmas.Bool.{iff_false}
use Rattle.spv_module.specs.Module.{plain_inst}
use Rattle.spv_standard_evidence.proofs.Versioned.{odd_form, odd_shown}
use Rattle.spv_standard_evidence.proofs.versions.odd_evidence.Goals as goal

pub returns-then-is_gone : goal.returns-then-is_gone
returns-then-is_gone c = λ G minor is h.
    odd_shown minor is (plain_inst c.args.inst.now) (c.is_gone.ensures.0 c.if-is_gone.true) h G

pub form_place-requires : goal.form_place-requires
form_place-requires c =
    let r = c.requires in
    (r.0, r.1, odd_form r.0 r.1 (plain_inst c.args.inst.now) (iff_false c.is_gone.ensures c.if-is_gone.false) r.2)

pub returns : goal.returns
returns c = λ G minor is h.
    c.form_place.ensures G minor is
    (odd_form minor is (plain_inst c.args.inst.now) (iff_false c.is_gone.ensures c.if-is_gone.false) h)
