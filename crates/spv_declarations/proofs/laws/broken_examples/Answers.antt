use Rattle.std.proofs.Common.{◌<◌, arith, inl, inr, refl}
use Rattle.spv_declarations.specs.Decorated.{Has, HasOnMember, IsMisplaced}
use Rattle.spv_declarations.specs.Table.{lines, never_on_members}
use Rattle.spv_declarations.proofs.Worked.{second, void_not, well_placed}
use Rattle.spv_declarations.proofs.laws.broken_examples.Goals as goal

pub returns-clause-second : goal.returns-clause-second
returns-clause-second c = second

pub returns-clause-misplaced : goal.returns-clause-misplaced
unfolding lines
returns-clause-misplaced c = IsMisplaced.on_id 1 20
    (Has.by_group _ _ 2 1 refl (refl, inr (inl refl)) refl refl) (void_not 20 refl refl)

pub returns-clause-on_member : goal.returns-clause-on_member
unfolding never_on_members
returns-clause-on_member c = IsMisplaced.on_member 4 2 20 (HasOnMember.own _ refl refl) refl

pub returns-clause-well_placed : goal.returns-clause-well_placed
returns-clause-well_placed c = well_placed

pub returns-clause-no_member : goal.returns-clause-no_member
returns-clause-no_member c = (_, refl, (4, 2, refl, λ m. let l : 2 < 2 = m.1 in omega (arith, l)))

pub returns-clause-elsewhere : goal.returns-clause-elsewhere
returns-clause-elsewhere c = (_, refl, (4, 1, refl, refl, λ e. cc))
