use Rattle.std.proofs.Common.{◌≡◌, ◌∙◌, sym, map, length, arith}
use Rattle.std.proofs.lemmas.List.{length-map}
use Rattle.std.proofs.lemmas.Option.{slice_get_within}
use Rattle.spv_module.specs.Module.{plain_inst}
use Rattle.spv_layout.proofs.Misfits.{inst_there}
use Rattle.spv_ids.proofs.Defining.{defined_here}
use Rattle.spv_ids.proofs.Steps.{later_no_result, later_moved}
use Rattle.spv_ids.proofs.definitions.later_definitions.Goals.{in-Some-result_of+in_ok-keep_later, in_default-result_of}
use Rattle.spv_ids.proofs.definitions.later_definitions.Goals as goal

pub loop-i-preserved : goal.loop-i-preserved
loop-i-preserved c =
    let is = map plain_inst c.args.insts.now in
    let i = plain_inst c.index-insts-i.result in
    let t = inst_there c.args.insts.now c.loop-i.i c.index-insts-i.result c.loop-i-test.true c.index-insts-i.is in
    let p = c.requires.places.place c.args.from c.in-Some.place (sym c.at.ensures ∙ c.in-Some.is) in
    elim c.match-result_of.branch [
      | in-Some-result_of+in_ok-keep_later w ↦
          let r = sym w.in-Some-result_of.is ∙ c.result_of.ensures
          ∙ sym (c.requires.places.early.result c.loop-i.i i t) in
          rw w.later-is (w.in_ok-keep_later.ensures is c.args.from c.requires.places p.function c.loop-i.auto.i
          (defined_here is c.loop-i.i w.in-Some-result_of.id i t r) c.loop-i.invariant)
      | in_default-result_of w ↦ rw w.later-is
          (later_no_result is c.args.from c.loop-i.i i c.loop-i.later t
          (sym w.in_default-result_of.is ∙ c.result_of.ensures ∙ sym (c.requires.places.early.result c.loop-i.i i t))
          c.loop-i.invariant)
    ]

pub returns : goal.returns
returns c =
    let w = slice_get_within c.args.plan.now c.args.from c.in-Some.place (sym c.at.ensures ∙ c.in-Some.is) in
    let n = c.requires.places.count in
    let m = length-map c.args.insts.now plain_inst in
    let e : c.loop-i.i ≡ length (map plain_inst c.args.insts.now) = omega arith in
    later_moved (map plain_inst c.args.insts.now) c.args.from c.loop-i.i
    (length (map plain_inst c.args.insts.now)) c.loop-i.later e c.loop-i.invariant
