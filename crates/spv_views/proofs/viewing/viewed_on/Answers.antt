use Rattle.std.proofs.Common.{refl}
use Rattle.spv_views.proofs.Viewings.{known_reason, known_viewing, refused_bytes, refused_count, refused_several}
use Rattle.spv_views.proofs.Viewings.{refused_stranger}
use Rattle.spv_views.specs.View.{LacksFunction, NamesSeveral}
use Rattle.spv_views.proofs.viewing.viewed_on.Goals as goal

pub returns-in-Err-clause-known : goal.returns-in-Err-clause-known
returns-in-Err-clause-known g c =
    rw c.refused.ensures (refused_bytes c.one_refusal.ensures.never c.args.how c.args.table.now c.args.reach c.args.function _
    c.in-Err.code c.in-Err.ensures.refuses)

pub returns-in-Err-clause-stranger : goal.returns-in-Err-clause-stranger
returns-in-Err-clause-stranger g c = rw c.refused.ensures (refused_stranger _ c.in-Err.code)

pub returns-in-Err-clause-several : goal.returns-in-Err-clause-several
returns-in-Err-clause-several g c = rw c.refused.ensures (refused_several _ c.in-Err.code)

pub returns-in-Err-clause-count : goal.returns-in-Err-clause-count
returns-in-Err-clause-count g c = rw c.refused.ensures (refused_count _ c.in-Err.code _ refl c.in-Err.ensures.count)

pub returns-clause-known : goal.returns-clause-known
returns-clause-known g c =
    known_viewing c.args.how c.args.table.now c.args.reach c.args.function _ _ c.in-Ok.field-0-1 _ c.in-Ok.ensures.gives
    c.view_image.ensures.viewed

pub returns-clause-stranger : goal.returns-clause-stranger
returns-clause-stranger g c =
    known_reason (λ bytes. LacksFunction c.args.table.now c.args.reach bytes c.args.function) _ _ c.in-Ok.field-0-1 _
    c.in-Ok.ensures.gives c.view_image.ensures.stranger

pub returns-clause-several : goal.returns-clause-several
returns-clause-several g c =
    known_reason (λ bytes. NamesSeveral c.args.table.now c.args.reach bytes c.args.function) _ _ c.in-Ok.field-0-1 _
    c.in-Ok.ensures.gives c.view_image.ensures.several
