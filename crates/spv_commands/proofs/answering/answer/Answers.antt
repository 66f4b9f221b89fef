use Rattle.std.proofs.Common.{option_map}
use Rattle.spv_commands.proofs.Answerings.{answers_rules}
use Rattle.spv_commands.proofs.answering.answer.Goals as goal

pub returns-in-Rules : goal.returns-in-Rules
returns-in-Rules c = answers_rules c.args.command.now _ _ _ _ c.ruled.result c.in-Rules.is c.ruled.ensures.gives
    c.ruled.ensures.only

pub returns : goal.returns
returns c = c.answer_by-answer.ensures (option_map (λ g. g.now) c.args.grammar) c.in_ok-table.ensures.table
