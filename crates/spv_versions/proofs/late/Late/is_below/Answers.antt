use Rattle.std.proofs.Common.{◌<◌, length, arith}
use Rattle.std.proofs.lemmas.Bool.{ltb-true}
use Rattle.spv_versions.proofs.late.Late.is_below.Goals as goal

pub returns-then-place-lt-FLOORED : goal.returns-then-place-lt-FLOORED
returns-then-place-lt-FLOORED c = λ floors t is_mask h.
    let within : c.args.kind < length c.args.self.now.floors = omega arith in
    let below = ltb-true c.args.value _ t in
    let above = floors c.args.kind c.args.value is_mask within h in absurd (omega (arith, below, above))
