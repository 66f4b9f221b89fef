use Rattle.std.proofs.Common.{◌≡◌, ◌∙◌, sym, ap, refl, length, map, Some, None, arith}
use Rattle.std.specs.Prelude.{slice_get}
use Rattle.std.proofs.lemmas.List.{length-map}
use Rattle.std.proofs.lemmas.Option.{slice_get_within}
use Rattle.spv_module.specs.Module.{plain_inst}
use Rattle.spv_layout.specs.Layout.{classes}
use Rattle.spv_layout.specs.Place.{section_of}
use Rattle.spv_layout.specs.Rows.{class_in, class_of, row_of}
use Rattle.spv_layout.proofs.Keeping.{class_there}
use Rattle.spv_layout.proofs.Rooms.{none_sectioned, one_sectioned, some_section, none_section, section_by}
use Rattle.spv_layout.proofs.plan.count_early.Goals as goal

pub loop-i-init : goal.loop-i-init
loop-i-init c = none_sectioned (map plain_inst c.args.insts.now)

pub loop-i-preserved : goal.loop-i-preserved
loop-i-preserved c =
    let is = map plain_inst c.args.insts.now in
    let t = class_there c.args.insts.now c.loop-i.i c.index-insts-i.result c.loop-i-test.true c.index-insts-i.is in
    let same : c.in-Some.row.now.class ≡ class_of c.index-insts-i.result.opcode = ap class_in c.in-Some.ensures.row in
    let k : slice_get (classes is) c.loop-i.i ≡ Some c.in-Some.row.now.class = rw same t in
    let s = some_section c.in-Some.row.now.section c.is_none.result c.is_none.ensures c.if-is_none.false in
    one_sectioned is c.loop-i.i c.in-Some.row.now.class s.0 k (sym c.in-Some.ensures.section ∙ s.1) c.loop-i.invariant

pub returns-clause-early : goal.returns-clause-early
returns-clause-early c =
    let e : c.loop-i.i ≡ length c.args.insts.now = omega arith in
    rw e at c.loop-i.invariant

pub returns-in_default-clause-late : goal.returns-in_default-clause-late
returns-in_default-clause-late c = λ d h.
    let is = map plain_inst c.args.insts.now in
    let o = c.index-insts-i.result.opcode in
    let t = class_there c.args.insts.now c.loop-i.i c.index-insts-i.result c.loop-i-test.true c.index-insts-i.is in
    let r : row_of o ≡ None = sym c.in_default.ensures.row in
    let z : section_of (class_of o) ≡ None = rw r refl in
    section_by is c.loop-i.i (class_of o) d t z h

pub returns-then-is_none-clause-late : goal.returns-then-is_none-clause-late
returns-then-is_none-clause-late c = λ d h.
    let is = map plain_inst c.args.insts.now in
    let t = class_there c.args.insts.now c.loop-i.i c.index-insts-i.result c.loop-i-test.true c.index-insts-i.is in
    let same : c.in-Some.row.now.class ≡ class_of c.index-insts-i.result.opcode = ap class_in c.in-Some.ensures.row in
    let k : slice_get (classes is) c.loop-i.i ≡ Some c.in-Some.row.now.class = rw same t in
    section_by is c.loop-i.i c.in-Some.row.now.class d k
    (sym c.in-Some.ensures.section ∙ none_section c.in-Some.row.now.section c.if-is_none.ensures) h

pub returns-clause-late : goal.returns-clause-late
returns-clause-late c = λ d h.
    let is = map plain_inst c.args.insts.now in
    let w = slice_get_within (classes is) (length c.args.insts.now) d h in
    let l = length-map is (λ i. class_of i.opcode) in
    let m = length-map c.args.insts.now plain_inst in
    absurd (omega arith)
