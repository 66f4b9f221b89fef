use Rattle.std.proofs.Common.{[], ◌∷◌, refl, arith}
use Rattle.spv_type_forms.specs.Reach.{ReachesType, AreWithin, ChoosesParts}
use Rattle.spv_type_forms.proofs.laws.reach_examples.Goals as goal

pub returns-clause-member : goal.returns-clause-member
returns-clause-member c = ReachesType.by_part 6 1 2 2 [] refl (ReachesType.itself 2)

pub returns-clause-within : goal.returns-clause-within
returns-clause-within c = AreWithin.more 3 3 1 4 [] refl (omega arith) refl (AreWithin.none 1)

pub returns-clause-leads : goal.returns-clause-leads
returns-clause-leads c = (
  1 ∷ [],
  ChoosesParts.member 6 5 1 2 [] [] refl refl refl (ChoosesParts.none 2),
  ReachesType.by_part 6 1 2 2 [] refl (ReachesType.itself 2),
)

pub returns-clause-array : goal.returns-clause-array
returns-clause-array c = AreWithin.more 19 2 2 3 [] refl (omega arith) refl (AreWithin.none 2)

pub returns-clause-any_element : goal.returns-clause-any_element
returns-clause-any_element c = (
  0 ∷ [],
  ChoosesParts.element 19 18 0 2 [] [] (λ e. cc) refl (ChoosesParts.none 2),
  ReachesType.by_part 19 0 2 2 [] refl (ReachesType.itself 2),
)

pub returns-clause-none : goal.returns-clause-none
returns-clause-none c = ([], ChoosesParts.none 6, ReachesType.itself 6)
