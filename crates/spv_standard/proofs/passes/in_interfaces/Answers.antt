use Rattle.spv_standard.proofs.Joined.{interfaces_first}
use Rattle.spv_standard.proofs.passes.in_interfaces.Goals as goal

pub returns : goal.returns
returns c = λ G plan. rw c.found_by.ensures
    (interfaces_first G c.args.minor c.args.definitions.now c.in_ok-first_misfaced.field-0
    (c.in_ok-first_misfaced.ensures G plan))
