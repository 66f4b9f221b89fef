use Rattle.std.proofs.Common.{◌∙◌, sym}
use Rattle.spv_views.proofs.Viewings.{begun_viewed, unlisted_line}
use Rattle.spv_views.proofs.viewing.viewed_unlisted.Goals as goal

pub returns-then-not-shows_beginning-clause-viewed : goal.returns-then-not-shows_beginning-clause-viewed
returns-then-not-shows_beginning-clause-viewed c = λ bytes order h x.
    unlisted_line c.one_word_list.ensures.order c.args.how c.args.table.now c.args.reach c.args.function bytes c.args.image.now order
    c.args.told.now.explanation h c.requires
    (sym c.shows_beginning.ensures ∙ c.if-not-shows_beginning.true) x.explains

pub returns-clause-viewed : goal.returns-clause-viewed
returns-clause-viewed c = λ bytes order h x.
    let b = c.in_ok-text.ensures.begun in
    begun_viewed c.args.how c.args.table.now c.args.reach c.args.function bytes c.args.image.now order
    c.args.told.now.explanation c.args.told.now.walk.items b.0 _ h b.1
    (sym c.shows_beginning.ensures ∙ c.if-not-shows_beginning.false) x.explains x.walks b.2
