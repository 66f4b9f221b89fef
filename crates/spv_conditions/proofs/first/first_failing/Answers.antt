use Rattle.std.proofs.Common.{◌+◌, length, drop}
use Rattle.std.proofs.lemmas.Option.{slice_get-get_or}
use Rattle.spv_module.specs.Module.{plain_inst}
use Rattle.spv_conditions.specs.Asks.{conditions_in}
use Rattle.spv_conditions.specs.inner.Direct.{HoldsDirectly}
use Rattle.spv_conditions.proofs.lemmas.Listing.{line_front, line_end, some_more, some_fail}
use Rattle.spv_conditions.proofs.first.first_failing.Goals as goal

pub returns-in-Some : goal.returns-in-Some
returns-in-Some c =
    let P = HoldsDirectly c.args.definitions.now c.args.number (plain_inst c.args.inst.now) c.args.r c.args.types.now in
    let line = c.args.line.now in
    let k = c.loop-k.k in
    let n = length c.args.types.now in
    let front = line_front P line k n _ (conditions_in line n)
    (slice_get-get_or line k _ c.loop-k-test.true) c.loop-k.invariant in
    some_fail P _ (conditions_in (drop (k + 1) line) n) (conditions_in line n) c.in-Some.asked front c.in-Some.ensures

pub loop-k-preserved : goal.loop-k-preserved
loop-k-preserved c =
    let P = HoldsDirectly c.args.definitions.now c.args.number (plain_inst c.args.inst.now) c.args.r c.args.types.now in
    let line = c.args.line.now in
    let k = c.loop-k.k in
    let n = length c.args.types.now in
    let front = line_front P line k n _ (conditions_in line n)
    (slice_get-get_or line k _ c.loop-k-test.true) c.loop-k.invariant in
    some_more P _ (conditions_in (drop (k + 1) line) n) (conditions_in line n) front c.in_default.ensures

pub returns : goal.returns
returns c = line_end (HoldsDirectly c.args.definitions.now c.args.number
    (plain_inst c.args.inst.now) c.args.r c.args.types.now) c.args.line.now c.loop-k.k (length c.args.types.now)
    (conditions_in c.args.line.now (length c.args.types.now)) c.loop-k-test.false c.loop-k.invariant
