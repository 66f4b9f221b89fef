use Rattle.std.proofs.Common.{◌≡◌, ◌∙◌, ◌↔◌, true, false, refl, sym, ap, subst, List, None, Some}
use Rattle.std.specs.Prelude.{IsTrue}
use Rattle.spv_module.specs.Module.{plain_inst, plain_operands}
use Rattle.spv_module.specs.Operand.{Plain}
use Rattle.spv_type_kinds.specs.Operands.{after_head, result_type_in}
use Rattle.spv_ops.specs.Table.{asks_of, places_of}
use Rattle.spv_ops.specs.inner.Wide.{IsWide}
use Rattle.spv_ops.proofs.Parts.{iff_to, typed_by, wide_told, wide_result}
use Rattle.spv_ops.proofs.typed.wide_row_holds.Goals as goal

pub returns-in-Some : goal.returns-in-Some
returns-in-Some c =
    let is = c.args.definitions.now in
    let i = plain_inst c.args.inst.now in
    let n = c.args.number in
    let first = c.args.first in
    let r = c.in-Some.r in
    let p = places_of i.opcode in
    let operands = ap plain_operands c.as_slice-operands.ensures.value in
    let rest : plain_operands c.after_head.result.now ≡ after_head i.operands = c.after_head.ensures
    ∙ ap after_head operands in
    let result : result_type_in i.operands ≡ Some r = sym (ap result_type_in operands)
    ∙ sym c.result_type.ensures ∙ c.in-Some.is in
    let held = subst (λ (os : List Plain). IsTrue c.wide_holds.result ↔ IsWide first is n r os) rest
    c.wide_holds.ensures in
    iff_to held (iff_to (wide_told is n i first r p c.requires.first refl c.requires.wide)
    (typed_by is n i p (asks_of i.opcode) (Some r) (after_head i.operands) refl refl result refl))

pub returns-in-None : goal.returns-in-None
returns-in-None c =
    let is = c.args.definitions.now in
    let i = plain_inst c.args.inst.now in
    let n = c.args.number in
    let p = places_of i.opcode in
    let operands = ap plain_operands c.as_slice-operands.ensures.value in
    let result : result_type_in i.operands ≡ None = sym (ap result_type_in operands) ∙ sym c.result_type.ensures
    ∙ c.in-None.is in (
      λ h. absurd (let no : false ≡ true = h in cc),
      λ h. absurd (wide_result is n i p refl c.requires.wide
          ((typed_by is n i p (asks_of i.opcode) None (after_head i.operands) refl refl result refl).1 h)),
    )
