use Rattle.std.proofs.Common.{get_or}
use Rattle.std.proofs.lemmas.Option.{slice_get-get_or}
use Rattle.spv_interfaces.proofs.Counting.{counted_more, counted_none}
use Rattle.spv_interfaces.proofs.counted.counts_of.Goals as goal

pub loop-k-init : goal.loop-k-init
loop-k-init c = counted_none c.args.definitions.now c.args.entries.now c.in_ok-counts.counts.items c.args.end
    (c.in_ok-counts.ensures.items_if_clones_equal (λ y h. h))

pub count_entry-requires-clause-number : goal.count_entry-requires-clause-number
count_entry-requires-clause-number c =
    let few = c.args.entries.now in
    let k = c.loop-k.k in
    c.requires k (get_or few k 0) (slice_get-get_or few k 0 c.loop-k-test.true)

pub loop-k-preserved : goal.loop-k-preserved
loop-k-preserved c =
    let few = c.args.entries.now in
    let k = c.loop-k.k in
    counted_more c.args.definitions.now few c.loop-k.counts.items c.count_entry.new.counts.items k (get_or few k 0)
    (slice_get-get_or few k 0 c.loop-k-test.true) c.loop-k.invariant c.count_entry.ensures
