use Rattle.spv_explain.proofs.Worked.{early_told, inside_told, no_block_told, not_early_told, open_told, unended_told}
use Rattle.spv_explain.proofs.laws.place_examples.Goals as goal

pub returns-clause-open : goal.returns-clause-open
returns-clause-open c = open_told

pub returns-clause-inside : goal.returns-clause-inside
returns-clause-inside c = inside_told

pub returns-clause-early : goal.returns-clause-early
returns-clause-early c = early_told

pub returns-clause-not_early : goal.returns-clause-not_early
returns-clause-not_early c = not_early_told

pub returns-clause-unended : goal.returns-clause-unended
returns-clause-unended c = unended_told

pub returns-clause-no_block : goal.returns-clause-no_block
returns-clause-no_block c = no_block_told
