use Rattle.std.proofs.Common.{◌∙◌, length, sym}
use Rattle.spv_flow.proofs.lemmas.calls.Bridge.{calls_within}
use Rattle.spv_flow.proofs.lemmas.calls.Marking.{within_moved}
use Rattle.spv_interfaces.proofs.Turning.{live_by}
use Rattle.spv_interfaces.proofs.turned.live_functions.Goals as goal

pub begin_all_live-requires-clause-count : goal.begin_all_live-requires-clause-count
begin_all_live-requires-clause-count c = c.in_ok-live.ensures.count ∙ c.requires.total

pub spread-requires : goal.spread-requires
spread-requires c =
    let is = c.args.definitions.now in
    let calls = c.args.tree.now.calls.now in
    within_moved (length is) (length c.begin_all_live.new.live.items) calls (sym c.begin_all_live.ensures.count)
    (calls_within is (length is) calls c.requires.calls)

pub returns : goal.returns
returns c = live_by c.args.definitions.now c.args.entries.now c.args.tree.now.calls.now
    c.begin_all_live.new.live.items c.spread.new.words.items c.begin_all_live.ensures.begun c.spread.ensures.grows
    c.spread.ensures.closed
