use Rattle.spv_ids.proofs.Noting.{nothing_kept}
use Rattle.spv_ids.proofs.notes.Notes.of.Goals as goal

pub returns : goal.returns
returns c = λ x.
    nothing_kept c.in_ok-near.near.items c.in_ok-ranked.ranked.items _ c.args.places _ x _
    (c.in_ok-near.ensures.items_if_clones_equal (λ y e. e))
    (c.in_ok-ranked.ensures.items_if_clones_equal (λ y e. e)) (c.empty_map-far.ensures x)
