use Rattle.std.proofs.Common.{◌≡◌, ◌+◌, ◌-◌, ◌++◌, ◌∙◌, suc, [], ◌∷◌, ap, arith}
use Rattle.spv_pictures.proofs.Shown.{range_more}
use Rattle.spv_pictures.proofs.blocks.numbers_from.Goals as goal

pub loop-number-preserved : goal.loop-number-preserved
loop-number-preserved c =
    let n = c.loop-number.number in
    let e : n + 1 - c.args.first ≡ suc (n - c.args.first) = omega arith in
    rw e (c.in_ok-push.ensures.items ∙ (ap (λ z. z ++ (n ∷ [])) c.loop-number.invariant
    ∙ range_more c.args.first (n - c.args.first) n (omega arith)))
