use Rattle.std.proofs.Common.{arith}
use Rattle.spv_declarations.specs.Decorated.{IsMisplaced}
use Rattle.spv_declarations.proofs.Passes.{found_by, more_by}
use Rattle.spv_declarations.proofs.Spanned.{misplaced_at, none_before, none_behind}
use Rattle.spv_declarations.proofs.misplaced.first_misplaced.Goals as goal

pub loop-number-init : goal.loop-number-init
loop-number-init c =
    let is = c.args.definitions.now in
    none_before is c.args.count c.args.spans.now (IsMisplaced is) c.requires.spans (λ n h. misplaced_at is n h)

pub inst-requires : goal.inst-requires
inst-requires c = let w = c.requires.spans.within.1 in omega (arith, w)

pub returns-then-branch : goal.returns-then-branch
returns-then-branch c =
    let w = c.requires.spans.within.1 in
    found_by (IsMisplaced c.args.definitions.now) c.args.count c.loop-number.number _ (omega (arith, w))
    (c.in_ok-misplaces.ensures c.loop-number.number c.inst.ensures) c.if-branch.true c.loop-number.invariant

pub loop-number-preserved : goal.loop-number-preserved
loop-number-preserved c = more_by (IsMisplaced c.args.definitions.now) c.loop-number.number _
    (c.in_ok-misplaces.ensures c.loop-number.number c.inst.ensures) c.if-branch.false c.loop-number.invariant

pub returns : goal.returns
returns c =
    let is = c.args.definitions.now in
    none_behind is c.args.count c.loop-number.number c.args.spans.now (IsMisplaced is) c.requires.spans
    (λ n h. misplaced_at is n h) (omega arith) c.loop-number.invariant
