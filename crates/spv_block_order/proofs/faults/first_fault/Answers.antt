use Rattle.std.proofs.Common.{◌≡◌, ◌≤◌, ℕ, List, Bool, true, false, not, get_or, eq-eqb, refl, sym, subst, arith}
use Rattle.std.specs.Prelude.{slice_index}
use Rattle.std.proofs.lemmas.List.{length-map}
use Rattle.spv_module.specs.declared.opcode.TheConstants as opcode
use Rattle.spv_module.specs.Module.{plain_inst}
use Rattle.spv_flow.specs.branches.inner.Target.{is_function}
use Rattle.spv_flow.proofs.lemmas.branches.Labelled.{inst_get, op_holds}
use Rattle.spv_flow.specs.walks.inner.Code.{insts_of}
use Rattle.spv_block_order.proofs.Telling.{unbroken_start, unbroken_other, unbroken_more, unbroken_all, none_late}
use Rattle.spv_block_order.proofs.Telling.{found_first}
use Rattle.spv_block_order.proofs.faults.first_fault.Goals as goal

is_whole : (b : Bool) → not b ≡ false → b ≡ true
is_whole true e = refl
is_whole false e = cc

pub loop-at-init : goal.loop-at-init
loop-at-init c = record {
  marks = λ m. (
      let e = sym c.new-marks.ensures.items in
      subst (λ (xs : List ℕ). slice_index xs m ≤ c.args.code.now.globals) e (omega arith));
  none = unbroken_start c.args.code.now;
}

pub rise_of-requires-clause-function : goal.rise_of-requires-clause-function
rise_of-requires-clause-function c =
    let code = c.args.code.now in
    let at = c.loop-at.at in
    let i = plain_inst (get_or code.insts.now at c.index-code-at.result) in
    op_holds (insts_of code) at i is_function (inst_get code.insts.now at c.index-code-at.result c.loop-at-test.true)
    (eq-eqb i.opcode opcode.FUNCTION c.if-code-at-eq-FUNCTION.true)

pub returns-in-Some : goal.returns-in-Some
returns-in-Some c =
    let found = rw c.in-Some.is at c.in_ok-found.ensures in
    found_first c.args.code.now c.loop-at.at c.in-Some.found c.loop-at.invariant.none (λ G s. found G s.code)

pub loop-at-preserved-in_default : goal.loop-at-preserved-in_default
loop-at-preserved-in_default c =
    let none = rw c.in_default.is at c.in_ok-found.ensures in
    record {
      marks = c.in_ok-rise.ensures.marks;
      none = unbroken_more c.args.code.now c.loop-at.at c.in_ok-rise.rise.end c.in_ok-rise.ensures.extent
          (λ G s. none G s.code) c.loop-at.invariant.none;
    }

pub loop-at-preserved-else-not-rise : goal.loop-at-preserved-else-not-rise
loop-at-preserved-else-not-rise c =
    let code = c.args.code.now in
    record {
      marks = c.in_ok-rise.ensures.marks;
      none = unbroken_more code c.loop-at.at c.in_ok-rise.rise.end c.in_ok-rise.ensures.extent
          (λ G s. none_late G code c.loop-at.at c.in_ok-rise.rise.end c.in_ok-rise.ensures.extent
          (c.in_ok-rise.ensures.late (is_whole c.in_ok-rise.rise.whole c.if-not-rise.false) G s))
          c.loop-at.invariant.none;
    }

pub loop-at-preserved : goal.loop-at-preserved
loop-at-preserved c =
    let code = c.args.code.now in
    let at = c.loop-at.at in
    let i = plain_inst (get_or code.insts.now at c.index-code-at.result) in
    let there = inst_get code.insts.now at c.index-code-at.result c.loop-at-test.true in
    record {
      marks = λ m. (let h = c.loop-at.invariant.marks m in omega (arith, h));
      none = unbroken_other code at i there c.if-code-at-eq-FUNCTION.false c.loop-at.invariant.none;
    }

pub returns : goal.returns
returns c =
    let code = c.args.code.now in
    let l = length-map code.insts.now plain_inst in
    let end = c.loop-at-test.false in
    unbroken_all code c.loop-at.at (omega (arith, l, end)) c.loop-at.invariant.none
