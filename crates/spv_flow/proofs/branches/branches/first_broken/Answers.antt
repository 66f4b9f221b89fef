use Rattle.std.proofs.Common.{◌+◌, ◌∙◌, arith}
use Rattle.std.proofs.lemmas.List.{length-map}
use Rattle.spv_module.specs.Module.{plain_inst}
use Rattle.spv_flow.specs.branches.inner.Code.{insts_of}
use Rattle.spv_flow.proofs.lemmas.branches.Firsts.{broken_within, first_found, unbroken_more, unbroken_passed}
use Rattle.spv_flow.proofs.branches.branches.first_broken.Goals as goal

pub broken_at-requires-clause-gathered : goal.broken_at-requires-clause-gathered
broken_at-requires-clause-gathered c =
    λ G is phi. c.requires.gathered (c.requires.phis c.loop-at.at (omega arith) phi) G is

pub broken_at-requires-clause-count : goal.broken_at-requires-clause-count
broken_at-requires-clause-count c = λ phi. c.requires.count (c.requires.phis c.loop-at.at (omega arith) phi)

pub broken_at-requires-clause-marks : goal.broken_at-requires-clause-marks
broken_at-requires-clause-marks c =
    λ phi. c.loop-at.auto.marks ∙ c.requires.marks (c.requires.phis c.loop-at.at (omega arith) phi)

pub returns-in-Some : goal.returns-in-Some
returns-in-Some c = λ G is.
    let h = c.in-Some.ensures.rule G is in
    first_found c.args.fork G (insts_of c.args.code.now) c.in-Some.rule c.loop-at.at (c.loop-at.invariant.unbroken G is)
    h.0 h.1 h.2

pub loop-at-init : goal.loop-at-init
loop-at-init c = record {
  within = c.next_asked-at.ensures.within;
  clean = c.requires.clean;
  unbroken = λ G is. unbroken_passed c.args.fork G (insts_of c.args.code.now) 0 c.next_asked-at.result
      (λ q m lt s b. absurd (omega (arith, lt))) c.next_asked-at.ensures.passed;
}

pub loop-at-preserved : goal.loop-at-preserved
loop-at-preserved c = record {
  within = c.next_asked-at-in-loop-at.ensures.within;
  clean = c.in_default.ensures.clean;
  unbroken = λ G is. unbroken_passed c.args.fork G (insts_of c.args.code.now) (c.loop-at.at + 1)
      c.next_asked-at-in-loop-at.result
      (unbroken_more c.args.fork G (insts_of c.args.code.now) c.loop-at.at (c.loop-at.invariant.unbroken G is)
      (c.in_default.ensures.rule G is))
      c.next_asked-at-in-loop-at.ensures.passed;
}

pub returns : goal.returns
returns c = λ G is q n s b.
    let within = broken_within c.args.fork G (insts_of c.args.code.now) q n s b in
    c.loop-at.invariant.unbroken G is q n (omega (arith, within, length-map c.args.code.now.insts.now plain_inst)) s b
