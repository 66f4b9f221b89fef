use Rattle.std.proofs.Common.{ap, get_or, ◌∙◌}
use Rattle.spv_table.specs.Table.{Table}
use Rattle.spv_table.specs.inner.Front.{no_front, front_at}
use Rattle.spv_table.proofs.table.Table.front.Goals as goal

pub returns : goal.returns
returns c =
    c.front_in.ensures ∙ (ap (λ fs. get_or fs c.args.opcode no_front) c.as_slice.ensures
    ∙ (c.self.invariant.4.at c.args.opcode ∙ ap (λ (t : Table). front_at t c.args.opcode) c.self.view_is))
