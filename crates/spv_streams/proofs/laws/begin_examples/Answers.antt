use Rattle.spv_table.specs.Example.{empty_table}
use Rattle.spv_commands.proofs.Worked.{empty_given, nothing_given}
use Rattle.spv_streams.proofs.Tasks.{begins_short, grammar_begun}
use Rattle.spv_streams.proofs.laws.begin_examples.Goals as goal

pub returns-clause-begins : goal.returns-clause-begins
returns-clause-begins c = λ command r n.
    begins_short command _ r n (empty_given c.table_examples.ensures.gives)
    (c.stream_examples.ensures.begins empty_table) (c.explain_examples.ensures.begins empty_table)
    (c.show_examples.ensures.begins empty_table) (c.trace_examples.ensures.begins empty_table)
    (c.view_examples.ensures.begins empty_table)

pub returns-clause-begins_nothing : goal.returns-clause-begins_nothing
returns-clause-begins_nothing c = λ command bytes old new held kept t. nothing_given t.table t.given

pub returns-clause-begins_grammar : goal.returns-clause-begins_grammar
returns-clause-begins_grammar c = grammar_begun
