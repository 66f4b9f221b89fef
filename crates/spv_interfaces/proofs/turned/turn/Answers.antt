use Rattle.std.proofs.Common.{◌∙◌, sym}
use Rattle.spv_interfaces.proofs.Turning.{turns_not, turns_on}
use Rattle.spv_interfaces.proofs.turned.turn.Goals as goal

pub returns-then-word_at-eq0 : goal.returns-then-word_at-eq0
returns-then-word_at-eq0 c = turns_not c.args.live.now c.args.call c.args.turned.now.items
    (sym c.word_at.ensures ∙ c.if-word_at-eq0.true)

pub returns : goal.returns
returns c = rw c.in_ok-push.ensures.items (turns_on c.args.live.now c.args.call c.args.turned.now.items)
