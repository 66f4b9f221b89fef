use Rattle.std.proofs.Common.{◌∙◌, inl, inr, sym}
use Rattle.std.proofs.lemmas.Bool.{cases_lt}
use Rattle.spv_std_types.specs.Table.{lines}
use Rattle.spv_std_types.proofs.Numbers.{listed, unlisted}
use Rattle.spv_std_types.proofs.table.conditions_of.Goals as goal

pub returns : goal.returns
unfolding lines
returns c = elim (cases_lt c.args.number 205) [
  | inl l ↦ c.conditions_by.ensures.near l ∙ listed c.args.number l
  | inr g ↦ c.conditions_by.ensures.far g ∙ sym (unlisted c.args.number g)
]
