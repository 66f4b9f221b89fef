use Rattle.std.proofs.Common.{refl, lit≤, arith}
use Rattle.spv_table.specs.Example.{empty_table}
use Rattle.spv_commands.proofs.Tasks.{does_short}
use Rattle.spv_commands.proofs.Worked.{empty_given, nothing_given}
use Rattle.spv_commands.proofs.laws.run_examples.Goals as goal

pub returns-clause-begins_with : goal.returns-clause-begins_with
returns-clause-begins_with c = record { count = 5; fits = lit≤ tt; written = refl }

pub returns-clause-writes_beginning : goal.returns-clause-writes_beginning
returns-clause-writes_beginning c =
    record { whole = λ e. absurd (omega arith); begun = record { count = 5; fits = lit≤ tt; written = refl } }

pub returns-clause-does : goal.returns-clause-does
returns-clause-does c = λ command r n.
    does_short command _ r n (empty_given c.table_examples.ensures.gives) (c.stream_examples.ensures.tells empty_table)
    (c.explain_examples.ensures.explains empty_table)
    (c.show_examples.ensures.shows empty_table) (c.trace_examples.ensures.traces empty_table)
    (c.view_examples.ensures.views empty_table)

pub returns-clause-does_nothing : goal.returns-clause-does_nothing
returns-clause-does_nothing c = λ command bytes old new held kept answer t. nothing_given t.table t.given
