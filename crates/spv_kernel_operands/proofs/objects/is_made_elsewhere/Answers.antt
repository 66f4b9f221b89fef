use Rattle.std.proofs.Common.{◌∙◌, ap, sym}
use Rattle.spv_module.specs.Module.{plain_inst, plain_operands}
use Rattle.spv_kernel_operands.proofs.Images.{elsewhere_from, elsewhere_within, not_within}
use Rattle.spv_kernel_operands.proofs.objects.is_made_elsewhere.Goals as goal

pub returns-in-Some : goal.returns-in-Some
returns-in-Some c =
    let is = c.args.definitions.now in
    let i = plain_inst c.args.inst.now in
    let os = plain_operands c.as_slice.result.now in
    let same = ap plain_operands c.as_slice.ensures.value in
    let used = sym c.id_at.ensures ∙ c.in-Some.is in
    not_within c.is_made_beside.result c.is_made_beside.ensures
    (elsewhere_from is c.args.number i os c.in-Some.id c.requires
    (c.takes_image.ensures.0 c.if-not-takes_image.false) same used)
    (elsewhere_within is c.args.number i os c.in-Some.id c.requires same used)
