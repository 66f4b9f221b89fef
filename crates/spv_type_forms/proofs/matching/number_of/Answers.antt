use Rattle.std.proofs.Common.{◌∙◌, sym, ap, length}
use Rattle.spv_type_forms.specs.Matches.{is_aggregate}
use Rattle.spv_type_forms.proofs.Matched.{of_aggregate}
use Rattle.spv_type_forms.proofs.matching.number_of.Goals as goal

pub returns-then-is_aggregate : goal.returns-then-is_aggregate
returns-then-is_aggregate c =
    of_aggregate c.args.definitions.now c.args.numbers.now (length c.args.numbers.now) c.args.u c.number_before.result
    (ap is_aggregate (sym c.form.ensures) ∙ (sym c.is_aggregate.ensures ∙ c.if-is_aggregate.true))
    c.number_before.ensures
