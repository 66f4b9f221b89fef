use Rattle.std.proofs.Common.{◌∙◌, sym}
use Rattle.spv_module.specs.Module.{plain_operand}
use Rattle.spv_layout.proofs.Tested.{sort_tells}
use Rattle.spv_layout.proofs.fitting.has_form.Goals as goal

pub returns-then-sort-sort_asked : goal.returns-then-sort-sort_asked
returns-then-sort-sort_asked c = sort_tells c.args.kinds.now c.args.form (plain_operand c.args.operand) (sym c.sort.ensures.sort ∙ c.if-sort-sort_asked.true ∙ c.sort_asked.ensures)
