use Rattle.std.proofs.Common.{arith}
use Rattle.spv_declarations.specs.Declarations.{NeedsAnother, IsIncapable}
use Rattle.spv_declarations.proofs.Passes.{found_at, more_at, none}
use Rattle.spv_declarations.proofs.Without.{no_incapable}
use Rattle.spv_declarations.proofs.capable.first_incapable.Goals as goal

pub returns-then-is_incapable : goal.returns-then-is_incapable
returns-then-is_incapable c = found_at c.args.capabilities.now.insts
    (NeedsAnother c.args.capabilities.now.table c.args.capabilities.now.insts) c.args.count c.loop-number.number _
    c.is_incapable.result c.loop-number-test.true c.inst.ensures c.is_incapable.ensures c.if-is_incapable.true
    c.loop-number.invariant

pub loop-number-preserved : goal.loop-number-preserved
loop-number-preserved c = more_at c.args.capabilities.now.insts
    (NeedsAnother c.args.capabilities.now.table c.args.capabilities.now.insts) c.loop-number.number _
    c.is_incapable.result
    c.inst.ensures c.is_incapable.ensures c.if-is_incapable.false c.loop-number.invariant

pub returns : goal.returns
returns c = none c.args.count c.loop-number.number
    (IsIncapable c.args.capabilities.now.table c.args.capabilities.now.insts) (omega arith) c.loop-number.invariant

pub returns-then-is_capable : goal.returns-then-is_capable
returns-then-is_capable c = no_incapable c.args.capabilities.now.table c.args.capabilities.now.insts c.args.count
    c.args.kinds.now
    c.requires.kinds (c.is_capable.ensures c.if-is_capable.true)
