use Rattle.spv_views.proofs.Viewings.{told}
use Rattle.spv_views.proofs.viewing.view_image.Goals as goal

pub returns-then-is_of_calls-clause-viewed : goal.returns-then-is_of_calls-clause-viewed
returns-then-is_of_calls-clause-viewed c = λ bytes order h.
    let of = c.is_of_calls.ensures c.if-is_of_calls.true in
    rw (of.0, of.1) (c.calls_viewed.ensures.viewed bytes order h)

pub viewed_told-requires : goal.viewed_told-requires
viewed_told-requires c =
    record { small = c.len-words.ensures.fit; size = c.len-words.ensures.most; read = c.in-Ok.ensures.decoded }

pub returns-in-Ok-clause-viewed : goal.returns-in-Ok-clause-viewed
returns-in-Ok-clause-viewed c =
    λ bytes order h. c.viewed_told.ensures.viewed bytes order h (told c.args.table.now c.args.reach bytes c.in-Ok.told
    (c.in-Ok.ensures.explanation bytes order h) (c.in-Ok.ensures.walk bytes order h))

pub returns-in-Ok-clause-several : goal.returns-in-Ok-clause-several
returns-in-Ok-clause-several c =
    λ bytes order h. c.viewed_told.ensures.several bytes order h (told c.args.table.now c.args.reach bytes c.in-Ok.told
    (c.in-Ok.ensures.explanation bytes order h) (c.in-Ok.ensures.walk bytes order h))

pub returns-in-Ok-clause-stranger : goal.returns-in-Ok-clause-stranger
returns-in-Ok-clause-stranger c =
    λ bytes order h. c.viewed_told.ensures.stranger bytes order h (told c.args.table.now c.args.reach bytes c.in-Ok.told
    (c.in-Ok.ensures.explanation bytes order h) (c.in-Ok.ensures.walk bytes order h))
