use Rattle.std.proofs.Common.{◌≡◌, ◌∙◌, sym, inr, map, length, arith}
use Rattle.spv_module.specs.Module.{plain_inst}
use Rattle.spv_ids.specs.inner.Notes.{kept}
use Rattle.spv_ids.proofs.Bools.{false_true, some_tells, none_tells}
use Rattle.spv_layout.proofs.Misfits.{inst_there}
use Rattle.spv_ids.proofs.Steps.{first_none, first_no_result, first_result, first_moved, bad_range, bad_again}
use Rattle.spv_ids.proofs.definitions.first_definitions.Goals.{then-is_out_of_range-via-then-is_out_of_range}
use Rattle.spv_ids.proofs.definitions.first_definitions.Goals.{then-is_out_of_range-via-else-is_out_of_range+then-is_some}
use Rattle.spv_ids.proofs.definitions.first_definitions.Goals.{in-Some+else-is_out_of_range+else-is_some+in_ok-put}
use Rattle.spv_ids.proofs.definitions.first_definitions.Goals.{in_default}
use Rattle.spv_ids.proofs.definitions.first_definitions.Goals as goal

pub loop-i-init : goal.loop-i-init
loop-i-init c = record {
  first = first_none c.args.bound (map plain_inst c.args.insts.now) c.args.room c.requires.empty;
  few = omega arith;
}

pub returns-then-is_out_of_range-clause-end : goal.returns-then-is_out_of_range-clause-end
returns-then-is_out_of_range-clause-end c =
    let is = map plain_inst c.args.insts.now in
    let i = plain_inst c.index-insts-i.result in
    let t = inst_there c.args.insts.now c.loop-i.i c.index-insts-i.result c.loop-i-test.true c.index-insts-i.is in
    let r = sym c.in-Some.is ∙ c.result_of.ensures ∙ sym (c.requires.results.result c.loop-i.i i t) in
    inr (elim c.then-is_out_of_range.branch [
      | then-is_out_of_range-via-then-is_out_of_range w ↦
          bad_range c.args.bound is c.loop-i.i c.in-Some.id i t r
          (c.is_out_of_range.ensures.0 w.if-is_out_of_range.true)
      | then-is_out_of_range-via-else-is_out_of_range+then-is_some w ↦
          let e = sym w.is_some.ensures ∙ w.if-is_some.true in
          let e' = rw w.get.ensures at e in
          bad_again c.args.bound is c.loop-i.i c.in-Some.id i c.loop-i.definitions t r c.loop-i.invariant.first
          (some_tells (kept c.loop-i.definitions c.in-Some.id) e')
    ])

pub loop-i-preserved : goal.loop-i-preserved
loop-i-preserved c =
    let is = map plain_inst c.args.insts.now in
    let i = plain_inst c.index-insts-i.result in
    let t = inst_there c.args.insts.now c.loop-i.i c.index-insts-i.result c.loop-i-test.true c.index-insts-i.is in
    elim c.match-result_of.branch [
      | in-Some+else-is_out_of_range+else-is_some+in_ok-put w ↦
          let r = sym w.in-Some.is ∙ c.result_of.ensures ∙ sym (c.requires.results.result c.loop-i.i i t) in
          let e = sym w.is_some.ensures ∙ w.if-is_some.false in
          let e' = rw w.get.ensures at e in
          record {
            first = rw w.definitions-is
                (first_result c.args.bound is c.loop-i.i w.in-Some.id i c.loop-i.definitions w.put.new.self t r
                (λ o. false_true (sym w.if-is_out_of_range.false ∙ w.is_out_of_range.ensures.1 o))
                (none_tells (kept c.loop-i.definitions w.in-Some.id) e') w.in_ok-put.ensures c.loop-i.invariant.first);
            few = let f = w.count-is in let k = c.loop-i.invariant.few in omega arith;
          }
      | in_default w ↦ record {
        first = rw w.definitions-is (first_no_result c.args.bound is c.loop-i.i i c.loop-i.definitions t
            (sym w.in_default.is ∙ c.result_of.ensures ∙ sym (c.requires.results.result c.loop-i.i i t))
            c.loop-i.invariant.first);
        few = let f = w.count-is in let k = c.loop-i.invariant.few in omega arith;
      }
    ]

pub returns-clause-firsts : goal.returns-clause-firsts
returns-clause-firsts c =
    let e : c.loop-i.i ≡ length c.args.insts.now = omega arith in
    first_moved c.args.bound (map plain_inst c.args.insts.now) c.loop-i.i
    (length c.args.insts.now) c.loop-i.definitions e c.loop-i.invariant.first
