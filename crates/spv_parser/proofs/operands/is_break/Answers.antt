use Rattle.std.proofs.Common.{arith}
use Rattle.spv_parser.proofs.Taken.{break_empty, break_first, no_break}
use Rattle.spv_parser.proofs.operands.is_break.Goals as goal

pub returns-in-empty : goal.returns-in-empty
returns-in-empty c = (
  (λ e. break_empty c.args.rest.now (rw c.as_bytes.ensures.value at c.in-empty.len_below)),
  (λ e b. cc),
)

pub returns-in-len1-up : goal.returns-in-len1-up
returns-in-len1-up c =
    let v = c.as_bytes.ensures.value in
    let l = rw v at c.in-len1-up.len_at_least in (
      (λ e. break_first c.args.rest.now (omega (arith, l)) (rw v at e)),
      (λ e b. no_break c.args.rest.now (omega (arith, l)) (rw v at e) b),
    )
