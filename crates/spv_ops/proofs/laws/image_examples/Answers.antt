use Rattle.std.proofs.Common.{refl, inr, arith}
use Rattle.spv_ops.specs.Table.{lines}
use Rattle.spv_ops.proofs.laws.image_examples.Goals as goal

pub returns-clause-sampled : goal.returns-clause-sampled
unfolding lines
returns-clause-sampled c = ((tt, refl), (refl, (refl, (refl, tt))))

pub returns-clause-sample : goal.returns-clause-sample
unfolding lines
returns-clause-sample c = (
  (refl, refl),
  (
    ((4, refl), refl),
    ((inr refl, omega arith), ((3, refl), ((inr refl, inr refl), (tt, (((32, refl), tt, tt, tt), tt))))),
  ),
)

pub returns-clause-read : goal.returns-clause-read
unfolding lines
returns-clause-read c =
    ((refl, refl), (refl, ((refl, omega arith), ((inr refl, inr refl), (refl, (tt, ((tt, tt, tt, tt), tt)))))))

pub returns-clause-fetch : goal.returns-clause-fetch
unfolding lines
returns-clause-fetch c = (
  (refl, refl),
  (refl, ((refl, omega arith), ((3, refl), ((inr refl, inr refl), (refl, (tt, ((tt, tt, tt, (32, refl)), tt))))))),
)

pub returns-clause-write : goal.returns-clause-write
unfolding lines
returns-clause-write c =
    ((refl, refl), (refl, ((refl, omega arith), ((inr refl, inr refl), (refl, (tt, ((tt, tt, tt, tt), tt)))))))

pub returns-clause-format : goal.returns-clause-format
unfolding lines
returns-clause-format c = ((tt, refl), (refl, ((32, refl), tt)))

pub returns-clause-level_size : goal.returns-clause-level_size
unfolding lines
returns-clause-level_size c = ((tt, refl), (refl, ((32, refl), ((refl, refl), tt))))

pub returns-clause-size : goal.returns-clause-size
unfolding lines
returns-clause-size c = ((tt, refl), (refl, ((refl, refl), tt)))

pub returns-clause-levels : goal.returns-clause-levels
unfolding lines
returns-clause-levels c = ((tt, refl), (refl, ((32, refl), tt)))

pub returns-clause-samples : goal.returns-clause-samples
unfolding lines
returns-clause-samples c = ((tt, refl), (refl, ((32, refl), tt)))

pub returns-clause-texel : goal.returns-clause-texel
unfolding lines
returns-clause-texel c = ((tt, refl), (refl, (refl, ((refl, refl), ((32, refl), tt)))))
