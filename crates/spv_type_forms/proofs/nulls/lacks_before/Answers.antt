use Rattle.std.proofs.Common.{◌≡◌, true, false, get_or, arith}
use Rattle.std.proofs.lemmas.Option.{slice_get-get_or}
use Rattle.spv_type_forms.proofs.Lacking.{known_before, never_before, undefined_before}
use Rattle.spv_type_forms.proofs.nulls.lacks_before.Goals as goal
use Rattle.std.proofs.Common.{length}

pub returns-then-at-lacks : goal.returns-then-at-lacks
returns-then-at-lacks c =
    let ls = c.args.lacks.now in
    let m = c.in-Some.number in
    let l = c.if-at-lacks.true in
    known_before c.args.definitions.now ls c.args.u m (get_or ls m false) c.requires c.in-Some.ensures
    (slice_get-get_or ls m false l) l

pub returns-else-at-lacks : goal.returns-else-at-lacks
returns-else-at-lacks c = (
  λ y. absurd (let no : false ≡ true = y in cc),
  λ r. absurd (never_before c.args.definitions.now (length c.args.lacks.now) c.args.u c.in-Some.number
      c.in-Some.ensures (λ h. absurd (omega arith)) r),
)

pub returns-in-None : goal.returns-in-None
returns-in-None c = (
  λ y. absurd (let no : false ≡ true = y in cc),
  λ r. absurd (undefined_before c.args.definitions.now (length c.args.lacks.now) c.args.u c.in-None.ensures r),
)
