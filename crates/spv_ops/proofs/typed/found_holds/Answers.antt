use Rattle.std.proofs.Common.{◌≡◌, ◌∙◌, true, false, refl, sym, ap, subst}
use Rattle.spv_module.specs.Module.{plain_inst, plain_operands}
use Rattle.spv_type_kinds.specs.Operands.{after_head, result_type_in}
use Rattle.spv_ops.specs.declared.table.Places.TheVariants as places
use Rattle.spv_ops.specs.Table.{asks_of, places_of}
use Rattle.spv_ops.specs.inner.Typed.{IsUncopied}
use Rattle.spv_ops.specs.inner.Wide.{IsWidePlace}
use Rattle.spv_ops.proofs.Judged.{free_holds}
use Rattle.spv_ops.proofs.Parts.{iff_to, typed_by, wide_place}
use Rattle.spv_ops.proofs.Rows.{around_counted, beside_counted, asks_first, places_first, counted, direct}
use Rattle.spv_ops.proofs.typed.found_holds.Goals as goal

pub gathered_holds-requires-clause-counted : goal.gathered_holds-requires-clause-counted
gathered_holds-requires-clause-counted c =
    let i = plain_inst c.args.inst.now in
    counted c.args.found.first (sym (places_first i.opcode c.args.found.first (sym c.requires.first))
    ∙ sym c.requires.places ∙ c.in-Ids.is)

pub around_holds-requires-clause-counted : goal.around_holds-requires-clause-counted
around_holds-requires-clause-counted c =
    let i = plain_inst c.args.inst.now in
    around_counted c.args.found.first (sym (places_first i.opcode c.args.found.first (sym c.requires.first))
    ∙ sym c.requires.places ∙ c.in-Around.is)

pub beside_holds-requires-clause-counted : goal.beside_holds-requires-clause-counted
beside_holds-requires-clause-counted c =
    let i = plain_inst c.args.inst.now in
    beside_counted c.args.found.first c.in-Beside.skip
    (sym (places_first i.opcode c.args.found.first (sym c.requires.first)) ∙ sym c.requires.places ∙ c.in-Beside.is)

pub line_holds-requires-clause-direct : goal.line_holds-requires-clause-direct
line_holds-requires-clause-direct c =
    let i = plain_inst c.args.inst.now in
    let e : places_of c.args.found.first ≡ places.Nothing =
    sym (places_first i.opcode c.args.found.first (sym c.requires.first))
    ∙ sym c.requires.places ∙ c.in-Nothing.is in
    direct c.args.found.first (subst IsUncopied (sym e) tt)

pub gathered_holds-requires-clause-direct : goal.gathered_holds-requires-clause-direct
gathered_holds-requires-clause-direct c =
    let i = plain_inst c.args.inst.now in
    let e : places_of c.args.found.first ≡ places.Ids =
    sym (places_first i.opcode c.args.found.first (sym c.requires.first))
    ∙ sym c.requires.places ∙ c.in-Ids.is in
    direct c.args.found.first (subst IsUncopied (sym e) tt)

pub around_holds-requires-clause-direct : goal.around_holds-requires-clause-direct
around_holds-requires-clause-direct c =
    let i = plain_inst c.args.inst.now in
    let e : places_of c.args.found.first ≡ places.Around =
    sym (places_first i.opcode c.args.found.first (sym c.requires.first))
    ∙ sym c.requires.places ∙ c.in-Around.is in
    direct c.args.found.first (subst IsUncopied (sym e) tt)

pub beside_holds-requires-clause-direct : goal.beside_holds-requires-clause-direct
beside_holds-requires-clause-direct c =
    let i = plain_inst c.args.inst.now in
    let e : places_of c.args.found.first ≡ (places.Beside c.in-Beside.skip) =
    sym (places_first i.opcode c.args.found.first (sym c.requires.first))
    ∙ sym c.requires.places ∙ c.in-Beside.is in
    direct c.args.found.first (subst IsUncopied (sym e) tt)

pub one_holds-requires-clause-direct : goal.one_holds-requires-clause-direct
one_holds-requires-clause-direct c =
    let i = plain_inst c.args.inst.now in
    let e : places_of c.args.found.first ≡ places.One =
    sym (places_first i.opcode c.args.found.first (sym c.requires.first))
    ∙ sym c.requires.places ∙ c.in-One.is in
    direct c.args.found.first (subst IsUncopied (sym e) tt)

pub returns-in-Free : goal.returns-in-Free
returns-in-Free c = record {
  sound = λ _. free_holds c.args.definitions.now c.args.number (plain_inst c.args.inst.now)
      (sym c.requires.places ∙ c.in-Free.is);
  complete = λ u h. refl;
}

pub returns-in-Copied : goal.returns-in-Copied
returns-in-Copied c = record {
  sound = λ y. absurd (let no : false ≡ true = y in cc);
  complete = λ u h. absurd (subst IsUncopied (sym c.requires.places ∙ c.in-Copied.is) u);
}

pub returns-in-Nothing : goal.returns-in-Nothing
returns-in-Nothing c =
    let is = c.args.definitions.now in
    let i = plain_inst c.args.inst.now in
    let n = c.args.number in
    let operands = ap plain_operands c.as_slice-operands.ensures.value in
    let os = plain_operands c.after_head-rest.result.now in
    let r = c.result_type-r.result in
    let result : result_type_in i.operands ≡ r = sym (c.result_type-r.ensures ∙ ap result_type_in operands) in
    let rest : after_head i.operands ≡ os = sym (c.after_head-rest.ensures ∙ ap after_head operands) in
    let asks = asks_first i.opcode c.args.found.first (sym c.requires.first) in
    let e = iff_to c.line_holds.ensures (typed_by is n i places.Nothing (asks_of c.args.found.first) r os
    (sym c.requires.places ∙ c.in-Nothing.is) asks result rest) in
    record { sound = e.0; complete = λ u. e.1 }

pub returns-in-Ids : goal.returns-in-Ids
returns-in-Ids c =
    let is = c.args.definitions.now in
    let i = plain_inst c.args.inst.now in
    let n = c.args.number in
    let operands = ap plain_operands c.as_slice-operands.ensures.value in
    let os = plain_operands c.after_head-rest.result.now in
    let r = c.result_type-r.result in
    let result : result_type_in i.operands ≡ r = sym (c.result_type-r.ensures ∙ ap result_type_in operands) in
    let rest : after_head i.operands ≡ os = sym (c.after_head-rest.ensures ∙ ap after_head operands) in
    let asks = asks_first i.opcode c.args.found.first (sym c.requires.first) in
    let e = iff_to c.gathered_holds.ensures (typed_by is n i places.Ids (asks_of c.args.found.first) r os
    (sym c.requires.places ∙ c.in-Ids.is) asks result rest) in
    record { sound = e.0; complete = λ u. e.1 }

pub returns-in-Around : goal.returns-in-Around
returns-in-Around c =
    let is = c.args.definitions.now in
    let i = plain_inst c.args.inst.now in
    let n = c.args.number in
    let operands = ap plain_operands c.as_slice-operands.ensures.value in
    let os = plain_operands c.after_head-rest.result.now in
    let r = c.result_type-r.result in
    let result : result_type_in i.operands ≡ r = sym (c.result_type-r.ensures ∙ ap result_type_in operands) in
    let rest : after_head i.operands ≡ os = sym (c.after_head-rest.ensures ∙ ap after_head operands) in
    let asks = asks_first i.opcode c.args.found.first (sym c.requires.first) in
    let e = iff_to c.around_holds.ensures (typed_by is n i places.Around (asks_of c.args.found.first) r os
    (sym c.requires.places ∙ c.in-Around.is) asks result rest) in
    record { sound = e.0; complete = λ u. e.1 }

pub returns-in-Beside : goal.returns-in-Beside
returns-in-Beside c =
    let is = c.args.definitions.now in
    let i = plain_inst c.args.inst.now in
    let n = c.args.number in
    let operands = ap plain_operands c.as_slice-operands.ensures.value in
    let os = plain_operands c.after_head-rest.result.now in
    let r = c.result_type-r.result in
    let result : result_type_in i.operands ≡ r = sym (c.result_type-r.ensures ∙ ap result_type_in operands) in
    let rest : after_head i.operands ≡ os = sym (c.after_head-rest.ensures ∙ ap after_head operands) in
    let asks = asks_first i.opcode c.args.found.first (sym c.requires.first) in
    let e =
    iff_to c.beside_holds.ensures (typed_by is n i (places.Beside c.in-Beside.skip) (asks_of c.args.found.first) r os
    (sym c.requires.places ∙ c.in-Beside.is) asks result rest) in
    record { sound = e.0; complete = λ u. e.1 }

pub returns-in-One : goal.returns-in-One
returns-in-One c =
    let is = c.args.definitions.now in
    let i = plain_inst c.args.inst.now in
    let n = c.args.number in
    let operands = ap plain_operands c.as_slice-operands.ensures.value in
    let os = plain_operands c.after_head-rest.result.now in
    let r = c.result_type-r.result in
    let result : result_type_in i.operands ≡ r = sym (c.result_type-r.ensures ∙ ap result_type_in operands) in
    let rest : after_head i.operands ≡ os = sym (c.after_head-rest.ensures ∙ ap after_head operands) in
    let asks = asks_first i.opcode c.args.found.first (sym c.requires.first) in
    let e = iff_to c.one_holds.ensures (typed_by is n i places.One (asks_of c.args.found.first) r os
    (sym c.requires.places ∙ c.in-One.is) asks result rest) in
    record { sound = e.0; complete = λ u. e.1 }

pub wide_row_holds-requires-clause-wide : goal.wide_row_holds-requires-clause-wide
wide_row_holds-requires-clause-wide c =
    let p = c.args.found.places in
    subst IsWidePlace c.requires.places (wide_place p c.in-Many.is)
