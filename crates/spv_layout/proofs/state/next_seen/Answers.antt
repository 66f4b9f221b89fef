use Rattle.std.proofs.Common.{sym, ap, ◌∙◌}
use Rattle.spv_layout.specs.inner.State.{next_of}
use Rattle.spv_layout.proofs.Seen.{seen_other}
use Rattle.spv_layout.proofs.state.next_seen.Goals as goal

pub returns-in_default : goal.returns-in_default
returns-in_default c =
    c.listed-in_default.ensures ∙ ap (next_of c.args.state)
    (sym (seen_other c.args.profile c.args.class c.in_default.not-Extended))
