use Rattle.std.proofs.Common.{arith}
use Rattle.std.proofs.lemmas.Grind.{common_steps}
use Rattle.spv_views.proofs.viewing.Viewed.write.Goals as goal

pub line_for-line-requires : goal.line_for-line-requires
line_for-line-requires g c = grind (arith, common_steps)

pub write_all-requires : goal.write_all-requires
write_all-requires g c = grind (arith, common_steps)

pub write_all-requires-in-Text : goal.write_all-requires-in-Text
write_all-requires-in-Text g c = grind (arith, common_steps)

pub returns-in-Line-clause-all : goal.returns-in-Line-clause-all
returns-in-Line-clause-all g c = grind (arith, common_steps)

pub returns-in-Line-clause-begun : goal.returns-in-Line-clause-begun
returns-in-Line-clause-begun g c = grind (arith, common_steps)

pub returns-in-Line-clause-only : goal.returns-in-Line-clause-only
returns-in-Line-clause-only g c = grind (arith, common_steps)

pub returns-in-Line-clause-count : goal.returns-in-Line-clause-count
returns-in-Line-clause-count g c = grind (arith, common_steps)

pub returns-in-Line-clause-steady : goal.returns-in-Line-clause-steady
returns-in-Line-clause-steady g c = grind (arith, common_steps)

pub returns-in-Text-clause-all : goal.returns-in-Text-clause-all
returns-in-Text-clause-all g c = grind (arith, common_steps)

pub returns-in-Text-clause-begun : goal.returns-in-Text-clause-begun
returns-in-Text-clause-begun g c = grind (arith, common_steps)

pub returns-in-Text-clause-only : goal.returns-in-Text-clause-only
returns-in-Text-clause-only g c = grind (arith, common_steps)

pub returns-in-Text-clause-count : goal.returns-in-Text-clause-count
returns-in-Text-clause-count g c = grind (arith, common_steps)

pub returns-in-Text-clause-steady : goal.returns-in-Text-clause-steady
returns-in-Text-clause-steady g c = grind (arith, common_steps)
