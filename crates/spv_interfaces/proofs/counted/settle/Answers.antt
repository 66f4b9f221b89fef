use Rattle.std.proofs.Common.{◌≡◌, ℕ, List, Some, subst}
use Rattle.std.specs.Prelude.{slice_get}
use Rattle.spv_interfaces.proofs.Counting.{settles_not, settles_on}
use Rattle.spv_interfaces.proofs.counted.settle.Goals as goal

pub returns-then-is_full : goal.returns-then-is_full
returns-then-is_full c =
    settles_not c.args.number c.args.all c.args.counts.now.items c.args.rest.now.items
    (subst (λ (xs : List ℕ). slice_get xs c.args.number ≡ Some c.args.all) c.as_slice.ensures.value
    (c.is_full.ensures c.if-is_full.true))

pub returns : goal.returns
returns c =
    rw c.in_ok-push.ensures.items (settles_on c.args.number c.args.all c.args.counts.now.items
    c.put_count.new.counts.items c.args.rest.now.items c.put_count.ensures)
