use Rattle.std.proofs.Common.{◌≡◌, ◌<◌, ℕ, Some, length, subst, arith}
use Rattle.std.specs.Prelude.{slice_get}
use Rattle.std.proofs.lemmas.List.{length-map}
use Rattle.spv_module.specs.Module.{plain_inst, plain_insts}
use Rattle.spv_flow.proofs.lemmas.branches.Labelled.{inst_at}
use Rattle.spv_check.specs.flow.Definitions.{IsCount}
use Rattle.spv_check.proofs.Flowing.Functions.{no_definition}
use Rattle.spv_check.proofs.Flowing.Counts.{count_most, none_before, none_more, one_more}
use Rattle.spv_check.proofs.flow.counting.count_definitions.Goals.{then-index-eq-FUNCTION+then-is_definition}
use Rattle.spv_check.proofs.flow.counting.count_definitions.Goals.{then-index-eq-FUNCTION+else-is_definition}
use Rattle.spv_check.proofs.flow.counting.count_definitions.Goals.{else-index-eq-FUNCTION}
use Rattle.spv_check.proofs.flow.counting.count_definitions.Goals as goal

pub before_functions-inst-requires : goal.before_functions-inst-requires
before_functions-inst-requires c =
    let few = c.requires.few in
    let count = c.requires.places.count in
    omega (arith, few, count)

pub loop-inst-init : goal.loop-inst-init
loop-inst-init c =
    none_before (plain_insts c.args.module.now) c.before_functions-inst.result
    (λ k lt. c.before_functions-inst.ensures.before (plain_insts c.args.module.now) k c.requires.places.place lt)

pub returns : goal.returns
returns c =
    let last = c.loop-inst-test.false in
    let within = c.before_functions-inst.ensures.within in
    let count = c.requires.places.count in
    let l = length-map c.args.module.now.insts.items plain_inst in
    let e = c.len-inst-end.ensures in
    let to = c.loop-inst.auto.inst-end (omega (arith, within, count, l, e)) in
    let n : c.loop-inst.inst ≡ length (plain_insts c.args.module.now) = omega (arith, last, to, l, e) in
    subst (λ (n : ℕ). IsCount (plain_insts c.args.module.now) n c.loop-inst.count) n c.loop-inst.invariant

pub overflow_add-count : goal.overflow_add-count
overflow_add-count c =
    let m = count_most (plain_insts c.args.module.now) c.loop-inst.inst c.loop-inst.count c.loop-inst.invariant in
    let t = c.loop-inst-test.true in
    let f = c.requires.few in
    let l = length-map c.args.module.now.insts.items plain_inst in
    let e = c.len-inst-end.ensures in
    omega (arith, m, t, f, l, e)

pub loop-inst-preserved : goal.loop-inst-preserved
loop-inst-preserved c =
    let is = plain_insts c.args.module.now in
    let insts = c.args.module.now.insts.items in
    let at = c.loop-inst.inst in
    let t = c.loop-inst-test.true in
    let e = c.len-inst-end.ensures in
    let within : at < length insts = omega (arith, t, e) in
    let there : slice_get is at ≡ Some (plain_inst c.index.result.now) = inst_at insts at c.index.result.now within
    c.index.ensures in
    elim c.if-index-eq-FUNCTION.branch [
      | then-index-eq-FUNCTION+then-is_definition w ↦
          (let h = w.is_definition.ensures is c.requires.places in
          rw w.count-is (one_more is at c.loop-inst.count (h.0 w.if-is_definition.true) c.loop-inst.invariant))
      | then-index-eq-FUNCTION+else-is_definition w ↦ (
          let h = w.is_definition.ensures is c.requires.places in
          rw w.count-is (none_more is at c.loop-inst.count
          (λ d. let q = h.1 d in let n = w.if-is_definition.false in cc) c.loop-inst.invariant))
      | else-index-eq-FUNCTION w ↦ rw w.count-is
          (none_more is at c.loop-inst.count
          (no_definition is at (plain_inst c.index.result.now) there w.if-index-eq-FUNCTION.false)
          c.loop-inst.invariant)
    ]
