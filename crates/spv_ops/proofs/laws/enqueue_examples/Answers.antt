use Rattle.std.proofs.Common.{refl, inl}
use Rattle.spv_ops.specs.Table.{lines}
use Rattle.spv_ops.proofs.laws.enqueue_examples.Goals as goal

pub returns-clause-enqueue : goal.returns-clause-enqueue
unfolding lines
returns-clause-enqueue c = (
  refl,
  (
    refl,
    (
      inl (refl, (refl, (refl, refl), (refl, refl), (refl, refl))),
      (
        refl,
        (
          refl,
          (
            refl,
            (
              refl,
              (
                refl,
                (
                  refl,
                  ((refl, refl), ((inl (64, refl), tt), ((refl, ((41, refl), tt)), (refl, tt)))),
                ),
              ),
            ),
          ),
        ),
      ),
    ),
  ),
)

pub returns-clause-groups : goal.returns-clause-groups
unfolding lines
returns-clause-groups c = (
  (tt, refl),
  (
    inl (refl, (refl, (refl, refl), (refl, refl), (refl, refl))),
    (
      refl,
      (
        refl,
        (
          refl,
          ((refl, refl), (refl, tt)),
        ),
      ),
    ),
  ),
)
