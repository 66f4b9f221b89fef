use Rattle.std.proofs.Common.{◌≡◌, refl, if◌then◌else◌}
use Rattle.spv_commands.specs.Part.{IsPart}
use Rattle.spv_commands.proofs.Parts.{fault_status, valid_status}
use Rattle.spv_commands.proofs.judging.judged_part.Goals as goal
use Rattle.spv_commands.proofs.judging.judged_part.Goals.{then-valid, else-valid}

pub returns-clause-judged : goal.returns-clause-judged
returns-clause-judged c =
    let done = rw (c.take_as.ensures, c.reach-reach.ensures, c.deref.ensures.value) at c.in_ok-text.ensures.done in
    let status : c.if-valid.result ≡ (if c.in_ok-text.valid then 0 else 1) = elim c.if-valid.branch [
      | then-valid w ↦ valid_status _ _ w.result-is w.if-valid.true
      | else-valid w ↦ fault_status _ _ w.result-is w.if-valid.false
    ] in
    (refl, IsPart.judged c.args.bytes.items c.in_ok-text.valid refl done refl status)
