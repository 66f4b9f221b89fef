use Rattle.std.proofs.Common.{arith}
use Rattle.spv_declarations.specs.Entry.{IsRepeated}
use Rattle.spv_declarations.proofs.Passes.{found_by, more_by, none}
use Rattle.spv_declarations.proofs.Without.{no_repeated}
use Rattle.spv_declarations.proofs.entry.first_repeated.Goals as goal

pub returns-then-branch : goal.returns-then-branch
returns-then-branch c =
    let is = c.args.definitions.now in
    let t = c.in_ok-repeats.ensures is c.loop-number.number c.inst.ensures c.loop-number.invariant.seen in
    found_by (IsRepeated is) c.args.count c.loop-number.number _ c.loop-number-test.true t.0 c.if-branch.true
    c.loop-number.invariant.before

pub loop-number-preserved : goal.loop-number-preserved
loop-number-preserved c =
    let is = c.args.definitions.now in
    let t = c.in_ok-repeats.ensures is c.loop-number.number c.inst.ensures c.loop-number.invariant.seen in
    record {
      seen = t.1 c.if-branch.false;
      before = more_by (IsRepeated is) c.loop-number.number _ t.0 c.if-branch.false c.loop-number.invariant.before;
    }

pub returns-then-not-kinds : goal.returns-then-not-kinds
returns-then-not-kinds c =
    no_repeated c.args.definitions.now c.args.count c.args.kinds.now c.requires.kinds c.if-not-kinds.true

pub returns : goal.returns
returns c = none c.args.count c.loop-number.number (IsRepeated c.args.definitions.now) (omega arith)
    c.loop-number.invariant.before
