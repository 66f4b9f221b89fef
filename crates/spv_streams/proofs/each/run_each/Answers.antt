use Rattle.std.proofs.Common.{refl, option_map}
use Rattle.spv_commands.proofs.Parts.{got_nothing}
use Rattle.spv_streams.proofs.Parts.{refused_on}
use Rattle.spv_streams.proofs.each.run_each.Goals as goal

pub returns-in-Ok-clause-ends : goal.returns-in-Ok-clause-ends
returns-in-Ok-clause-ends g c =
    c.each_by-status.ensures.ends (option_map (λ t. t.now) c.args.grammar) c.in-Ok.ensures.table

pub returns-in-Err-clause-ends : goal.returns-in-Err-clause-ends
returns-in-Err-clause-ends g c =
    refused_on (option_map (λ t. t.now) c.args.grammar) c.args.how _ _ _ _ _ c.in-Err.error c.in-Err.ensures.refused
    (got_nothing _ _).writes refl c.report.ensures

pub returns-in-Ok-clause-refused : goal.returns-in-Ok-clause-refused
returns-in-Ok-clause-refused g c = λ e h.
    absurd (c.one_table.ensures.never (option_map (λ t. t.now) c.args.grammar) c.in-Ok.table e c.in-Ok.ensures.table h)
