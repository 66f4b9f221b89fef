use Rattle.std.proofs.Common.{arith}
use Rattle.spv_declarations.specs.Decorated.{IsHalfBuiltIn}
use Rattle.spv_declarations.proofs.Passes.{found_by, more_by, none}
use Rattle.spv_declarations.proofs.Without.{not_built_in}
use Rattle.spv_declarations.proofs.built_in.first_half_built_in.Goals as goal

pub returns-then-is_half : goal.returns-then-is_half
returns-then-is_half c = found_by (IsHalfBuiltIn c.args.definitions.now) c.args.count c.loop-number.number
    c.is_half.result c.loop-number-test.true (c.is_half.ensures c.loop-number.number c.inst.ensures)
    c.if-is_half.true c.loop-number.invariant

pub loop-number-preserved : goal.loop-number-preserved
loop-number-preserved c = more_by (IsHalfBuiltIn c.args.definitions.now) c.loop-number.number c.is_half.result
    (c.is_half.ensures c.loop-number.number c.inst.ensures) c.if-is_half.false c.loop-number.invariant

pub returns : goal.returns
returns c = none c.args.count c.loop-number.number (IsHalfBuiltIn c.args.definitions.now) (omega arith)
    c.loop-number.invariant

pub returns-then-not-kinds : goal.returns-then-not-kinds
returns-then-not-kinds c = not_built_in c.args.definitions.now c.args.count c.args.kinds.now c.requires.early
    c.requires.kinds c.if-not-kinds.true
