use Rattle.std.proofs.Common.{length, ap, arith}
use Rattle.std.proofs.lemmas.List.{length-map}
use Rattle.spv_module.specs.Module.{plain_inst, plain_insts}
use Rattle.spv_layout.proofs.Misfits.{short_list}
use Rattle.spv_form_evidence.proofs.ids.id_evidence.Goals as goal

pub undefined-requires-clause-few : goal.undefined-requires-clause-few
undefined-requires-clause-few c =
    let v = ap length c.as_slice-insts.ensures.value in
    let s = short_list (plain_insts c.args.module.now) in
    let l = length-map c.args.module.now.insts.items plain_inst in
    let q = c.requires.words in
    omega arith

pub not_in_order-requires-clause-few : goal.not_in_order-requires-clause-few
not_in_order-requires-clause-few c =
    let v = ap length c.as_slice-insts.ensures.value in
    let s = short_list (plain_insts c.args.module.now) in
    let l = length-map c.args.module.now.insts.items plain_inst in
    let q = c.requires.words in
    omega arith

pub not_in_scope-requires-clause-few : goal.not_in_scope-requires-clause-few
not_in_scope-requires-clause-few c =
    let v = ap length c.as_slice-insts.ensures.value in
    let s = short_list (plain_insts c.args.module.now) in
    let l = length-map c.args.module.now.insts.items plain_inst in
    let q = c.requires.words in
    omega arith
