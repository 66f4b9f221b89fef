use Rattle.std.proofs.Common.{refl, option_map}
use Rattle.spv_streams.proofs.Troubles.{by_text, grammar_ends}
use Rattle.spv_streams.proofs.runs.done_by_text.Goals as goal

pub returns-in-Ok-clause-ends : goal.returns-in-Ok-clause-ends
returns-in-Ok-clause-ends g c =
    by_text c.args.command.now (option_map (λ t. t.now) c.args.grammar) c.in-Ok.table _ _ _ _ c.in-Ok.ensures.table
    c.done_by-answer.ensures.ends

pub returns-in-Err-clause-ends : goal.returns-in-Err-clause-ends
returns-in-Err-clause-ends g c =
    grammar_ends c.args.command.now (option_map (λ t. t.now) c.args.grammar) _ _ _ c.in-Err.error
    c.in-Err.ensures.refused (λ f. f refl) (λ f. f refl) (λ f. f refl) (λ q. refl) (λ q. refl)

pub returns-in-Ok-clause-refused : goal.returns-in-Ok-clause-refused
returns-in-Ok-clause-refused g c = λ e h.
    absurd (c.one_table.ensures.never (option_map (λ t. t.now) c.args.grammar) c.in-Ok.table e c.in-Ok.ensures.table h)
