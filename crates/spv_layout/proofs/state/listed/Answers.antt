use Rattle.std.proofs.Common.{◌∙◌}
use Rattle.spv_layout.proofs.Tables.{table, table_tells}
use Rattle.spv_layout.proofs.state.listed.Goals as goal

pub returns : goal.returns
unfolding table
returns c = c.state_at.ensures ∙ (rw (c.state_place.ensures.place, c.class_place.ensures.place) (table_tells c.args.state c.args.class))
