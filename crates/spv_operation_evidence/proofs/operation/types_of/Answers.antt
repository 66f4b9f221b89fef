use Rattle.std.proofs.Common.{◌∙◌}
use Rattle.std.proofs.lemmas.Option.{slice_get-get_or}
use Rattle.spv_operation_evidence.proofs.lemmas.Listing.{types_next, types_all}
use Rattle.spv_operation_evidence.proofs.operation.types_of.Goals as goal

pub loop-value-preserved : goal.loop-value-preserved
loop-value-preserved c =
    let vs = c.args.values.now in
    let k = c.loop-value.value-index in
    c.in_ok-push.ensures.items ∙ types_next vs k _ c.loop-value.types.items
    (slice_get-get_or vs k _ c.loop-value-test.true) c.loop-value.invariant

pub returns : goal.returns
returns c = types_all c.args.values.now c.loop-value.value-index c.loop-value.types.items c.loop-value-test.false
    c.loop-value.invariant
