use Rattle.spv_versions.proofs.late.Late.is_surely_there.Goals as goal

pub returns-then-is_below : goal.returns-then-is_below
returns-then-is_below c = λ by _ h. c.is_below.ensures by.0 c.if-is_below.true c.args.is_mask h
