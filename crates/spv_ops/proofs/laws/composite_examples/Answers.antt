use Rattle.std.proofs.Common.{[], refl, inl, inr, arith}
use Rattle.spv_type_forms.specs.Reach.{AreWithin}
use Rattle.spv_ops.specs.Table.{lines}
use Rattle.spv_ops.proofs.laws.composite_examples.Goals as goal

pub returns-clause-extract_dynamic : goal.returns-clause-extract_dynamic
unfolding lines
returns-clause-extract_dynamic c = ((tt, refl), ((4, refl), ((64, refl), tt)))

pub returns-clause-insert_dynamic : goal.returns-clause-insert_dynamic
unfolding lines
returns-clause-insert_dynamic c = ((tt, refl), (refl, ((4, refl), ((64, refl), tt))))

pub returns-clause-shuffle : goal.returns-clause-shuffle
unfolding lines
returns-clause-shuffle c = (
  (tt, refl),
  (
    (1, 4, refl),
    (
      (1, 2, 4, refl, refl),
      ((1, 2, 4, refl, refl), ((1, refl), ((inl (omega arith), (inr refl, tt)), tt))),
    ),
  ),
)

pub returns-clause-extract : goal.returns-clause-extract
unfolding lines
returns-clause-extract c =
    ((tt, refl), (λ e. cc, (AreWithin.more 6 1 2 2 [] refl (omega arith) refl (AreWithin.none 2), (refl, tt))))

pub returns-clause-insert : goal.returns-clause-insert
unfolding lines
returns-clause-insert c =
    ((tt, refl), (refl, (λ e. cc, (AreWithin.more 6 1 2 2 [] refl (omega arith) refl (AreWithin.none 2), (refl, tt)))))
