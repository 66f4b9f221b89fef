use Rattle.std.proofs.Common.{ℕ, List, length, subst}
use Rattle.spv_interfaces.specs.inner.Turned.{AreTurnedOf}
use Rattle.spv_interfaces.proofs.Turning.{turned_by}
use Rattle.spv_interfaces.proofs.turned.turned_calls.Goals as goal

pub returns : goal.returns
returns c =
    let calls = c.args.tree.now.calls.now in
    let turned = c.in_ok-turned.turned.items in
    turned_by c.args.definitions.now c.args.entries.now calls turned c.in_ok-live.live.items c.requires.calls
    c.in_ok-live.ensures (subst (λ (ws : List ℕ). AreTurnedOf calls ws (length calls) turned)
    c.as_slice.ensures.value c.in_ok-turned.ensures)
