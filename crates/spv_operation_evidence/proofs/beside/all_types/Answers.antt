use Rattle.std.proofs.Common.{◌≡◌, ◌∙◌, ◌++◌, sym, ap}
use Rattle.std.specs.Prelude.{option_to_list}
use Rattle.std.proofs.lemmas.List.{append-nil}
use Rattle.std.proofs.lemmas.Option.{slice_get-get_or}
use Rattle.spv_operation_evidence.proofs.lemmas.Listing.{item_next, items_all}
use Rattle.spv_operation_evidence.proofs.beside.all_types.Goals as goal

pub loop-t-init : goal.loop-t-init
loop-t-init c =
    let r = option_to_list c.args.r in
    let e : c.in_ok-read.read.items ≡ r = c.in_ok-read.ensures ∙ ap (λ us. us ++ r) c.new.ensures.items in
    e ∙ sym (append-nil r)

pub loop-t-preserved : goal.loop-t-preserved
loop-t-preserved c =
    let ts = c.args.types.now in
    let k = c.loop-t.t-index in
    c.in_ok-push.ensures.items ∙ item_next ts k _ (option_to_list c.args.r) c.loop-t.read.items
    (slice_get-get_or ts k _ c.loop-t-test.true) c.loop-t.invariant

pub returns : goal.returns
returns c = items_all c.args.types.now c.loop-t.t-index
    (option_to_list c.args.r) c.loop-t.read.items c.loop-t-test.false c.loop-t.invariant
