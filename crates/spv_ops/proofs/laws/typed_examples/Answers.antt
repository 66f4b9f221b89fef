use Rattle.std.proofs.Common.{[], ◌∷◌, refl, inl, inr}
use Rattle.spv_ops.proofs.Worked.{add_forms}
use Rattle.spv_ops.specs.Table.{lines}
use Rattle.spv_ops.proofs.laws.typed_examples.Goals as goal

pub returns-clause-add : goal.returns-clause-add
unfolding lines
returns-clause-add c =
    inr (
      5 ∷ 5 ∷ [],
      1 ∷ 1 ∷ [],
      record { forms = _; has = add_forms; values = refl },
      refl,
      ((tt, refl), (refl, (refl, (refl, tt)))),
    )

pub returns-clause-at : goal.returns-clause-at
unfolding lines
returns-clause-at c = record { inst = _; there = refl; typed = inl refl }
