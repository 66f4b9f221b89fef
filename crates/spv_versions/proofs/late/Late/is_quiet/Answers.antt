use Rattle.std.proofs.lemmas.Bool.{both_ways, iff_false, not-true}
use Rattle.spv_versions.proofs.Asking.{quiet}
use Rattle.spv_versions.proofs.late.Late.is_quiet.Goals as goal

pub returns-then-not-has_opcode : goal.returns-then-not-has_opcode
returns-then-not-has_opcode c = λ t G minor is by n i at same alone.
    quiet G minor is c.args.self.now c.args.number n i by
    (λ h. iff_false (c.has_opcode.ensures by.least) c.if-not-has_opcode.true h)
    (λ js j e h. both_ways c.may_have_late_form.result (not-true c.may_have_late_form.result t)
    (c.may_have_late_form.ensures js j e h)) at same alone
