use Rattle.std.proofs.Common.{◌∙◌, length, sym, arith}
use Rattle.spv_flow.proofs.lemmas.calls.Marking.{within_moved}
use Rattle.spv_interfaces.proofs.Missing.{marks_by}
use Rattle.spv_interfaces.proofs.lacking.marks_of.Goals as goal

pub spread-requires : goal.spread-requires
spread-requires c =
    within_moved c.args.total (length c.note_users.new.reached.items) c.args.tree.now.calls.now
    (sym (c.note_users.ensures.count ∙ c.in_ok-reached.ensures.count)) c.requires.within

pub returns : goal.returns
returns c =
    let n = c.in_ok-named.ensures.count in
    let r = c.in_ok-reached.ensures.count in
    marks_by c.args.total c.args.tree.now.calls.now c.args.tree.now.uses.now c.args.few.now
    c.note_variables.new.named.items c.as_slice.result.now c.note_users.new.reached.items c.spread.new.words.items
    c.as_slice.ensures.value c.note_variables.ensures.sound
    (λ v k l at. c.note_variables.ensures.complete v k (omega (arith, l, n)) at) c.note_users.ensures.sound
    (λ f v k l h m. c.note_users.ensures.complete f v k (omega (arith, l, r)) h m) c.spread.ensures.grows
    c.spread.ensures.closed
