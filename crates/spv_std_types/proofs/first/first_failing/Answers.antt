use Rattle.std.proofs.lemmas.Option.{slice_get-get_or}
use Rattle.spv_module.specs.Module.{plain_operands}
use Rattle.spv_std_types.specs.Condition.{Holds}
use Rattle.spv_std_types.proofs.Listing.{all_held, fails_at, held_more}
use Rattle.spv_std_types.proofs.first.first_failing.Goals as goal

pub returns-then-not-holds : goal.returns-then-not-holds
returns-then-not-holds c =
    let P = Holds c.args.definitions.now c.args.r (plain_operands c.args.operands.now) in
    let xs = c.args.conditions.now in
    fails_at P xs c.loop-k.k _ (slice_get-get_or xs c.loop-k.k _ c.loop-k-test.true) c.loop-k.invariant
    (λ h. let on = c.holds.ensures.1 h in let off = c.if-not-holds.true in cc)

pub loop-k-preserved : goal.loop-k-preserved
loop-k-preserved c =
    let P = Holds c.args.definitions.now c.args.r (plain_operands c.args.operands.now) in
    let xs = c.args.conditions.now in
    held_more P xs c.loop-k.k _ (slice_get-get_or xs c.loop-k.k _ c.loop-k-test.true) c.loop-k.invariant
    (c.holds.ensures.0 c.if-not-holds.false)

pub returns : goal.returns
returns c = all_held (Holds c.args.definitions.now c.args.r (plain_operands c.args.operands.now)) c.args.conditions.now
    c.loop-k.k c.loop-k-test.false c.loop-k.invariant
