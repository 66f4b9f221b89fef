use Rattle.std.proofs.Common.{arith}
use Rattle.spv_rules.proofs.ErrorRows.{held_at}
use Rattle.spv_rules.proofs.errors.error_row_at.Goals as goal

pub returns : goal.returns
returns c = held_at c.error_rows.result.now c.args.place _ c.error_rows.ensures.same (omega (arith, c.requires, c.error_rows.ensures.long))
