use Rattle.std.proofs.Common.{arith}
use Rattle.spv_ids.specs.inner.Survey.{insts_of}
use Rattle.std.specs.Prelude.{Some, None}
use Rattle.spv_ids.specs.inner.Faulty.{IsFaulty}
use Rattle.spv_ids.proofs.Behind.{least_is}
use Rattle.spv_ids.proofs.Broke.{clean_more, fault_here}
use Rattle.spv_ids.proofs.Passing.{inst_of}
use Rattle.std.proofs.lemmas.Grind.{common_steps}
use Rattle.spv_ids.proofs.survey.Survey.fault_from_start.Goals as goal

pub inst_fault-requires-clause-there : goal.inst_fault-requires-clause-there
inst_fault-requires-clause-there c =
    inst_of c.args.self.now c.loop-passed.passed.to c.index-self-n.result c.requires.survey c.loop-passed-test.true

pub returns-in-Some : goal.returns-in-Some
returns-in-Some c =
    let s = c.args.self.now in
    let n = c.loop-passed.passed.to in
    let h = least_is (IsFaulty s.bound (insts_of s) n) c.inst_fault.result
    (Some c.in-Some.rule) c.in-Some.is c.inst_fault.ensures in
    fault_here s.bound (insts_of s) n c.in-Some.rule c.loop-passed.invariant.clean h

pub pass-passed-requires-in-loop-passed-clause-clean :
    goal.pass-passed-requires-in-loop-passed-clause-clean
pass-passed-requires-in-loop-passed-clause-clean c =
    let s = c.args.self.now in
    let n = c.loop-passed.passed.to in
    let h = least_is (IsFaulty s.bound (insts_of s) n) c.inst_fault.result None c.in_default.is c.inst_fault.ensures in
    clean_more s.bound (insts_of s) n h c.loop-passed.invariant.clean

pub pass-passed-requires-in-loop-passed-clause-open :
    goal.pass-passed-requires-in-loop-passed-clause-open
pass-passed-requires-in-loop-passed-clause-open c =
    let s = c.args.self.now in
    let is = insts_of s in
    let n = c.loop-passed.passed.to in
    let t = inst_of s n c.index-self-n.result c.requires.survey c.loop-passed-test.true in
    c.left.ensures is n t (c.entered-here.ensures is t c.loop-passed.invariant.is_open)

pub loop-passed-preserved : goal.loop-passed-preserved
loop-passed-preserved c =
    let s = c.args.self.now in
    let n = c.loop-passed.passed.to in
    let t = inst_of s n c.index-self-n.result c.requires.survey c.loop-passed-test.true in
    let p = c.pass-passed-in-loop-passed.ensures in
    record {
      within = p.within;
      clean = p.clean;
      announced = p.announced c.announce.new.announced
          (c.in_ok-announce.ensures (insts_of s) t c.loop-passed.invariant.announced);
      is_open = p.open;
    }

pub pass-passed-requires-clause-survey : goal.pass-passed-requires-clause-survey
pass-passed-requires-clause-survey c = grind (arith, common_steps)

pub pass-passed-requires-clause-within : goal.pass-passed-requires-clause-within
pass-passed-requires-clause-within c = grind (arith, common_steps)

pub pass-passed-requires-clause-clean : goal.pass-passed-requires-clause-clean
pass-passed-requires-clause-clean c = grind (arith, common_steps)

pub pass-passed-requires-clause-open : goal.pass-passed-requires-clause-open
pass-passed-requires-clause-open c = grind (arith, common_steps)

pub loop-passed-init : goal.loop-passed-init
loop-passed-init c = grind (arith, common_steps)

pub overflow_cast-inst : goal.overflow_cast-inst
overflow_cast-inst c = grind (arith, common_steps)

pub offset_bounds-self-n : goal.offset_bounds-self-n
offset_bounds-self-n c = grind (arith, common_steps)

pub bounds-self-n : goal.bounds-self-n
bounds-self-n c = grind (arith, common_steps)

pub inst_fault-requires-clause-survey : goal.inst_fault-requires-clause-survey
inst_fault-requires-clause-survey c = grind (arith, common_steps)

pub inst_fault-requires-clause-below : goal.inst_fault-requires-clause-below
inst_fault-requires-clause-below c = grind (arith, common_steps)

pub inst_fault-requires-clause-announced : goal.inst_fault-requires-clause-announced
inst_fault-requires-clause-announced c = grind (arith, common_steps)

pub announce-requires : goal.announce-requires
announce-requires c = grind (arith, common_steps)

pub returns-in_err-announce : goal.returns-in_err-announce
returns-in_err-announce c = grind (arith, common_steps)

pub entered-here-requires : goal.entered-here-requires
entered-here-requires c = grind (arith, common_steps)

pub overflow_add-n : goal.overflow_add-n
overflow_add-n c = grind (arith, common_steps)

pub left-requires : goal.left-requires
left-requires c = grind (arith, common_steps)

pub pass-passed-requires-in-loop-passed-clause-survey : goal.pass-passed-requires-in-loop-passed-clause-survey
pass-passed-requires-in-loop-passed-clause-survey c = grind (arith, common_steps)

pub pass-passed-requires-in-loop-passed-clause-within : goal.pass-passed-requires-in-loop-passed-clause-within
pass-passed-requires-in-loop-passed-clause-within c = grind (arith, common_steps)

pub loop-passed-smaller : goal.loop-passed-smaller
loop-passed-smaller c = grind (arith, common_steps)

pub returns-then-self : goal.returns-then-self
returns-then-self c = grind (arith, common_steps)

pub end_fault-rule-requires-clause-survey : goal.end_fault-rule-requires-clause-survey
end_fault-rule-requires-clause-survey c = grind (arith, common_steps)

pub end_fault-rule-requires-clause-bad : goal.end_fault-rule-requires-clause-bad
end_fault-rule-requires-clause-bad c = grind (arith, common_steps)

pub returns : goal.returns
returns c = grind (arith, common_steps)
