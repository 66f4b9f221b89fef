use Rattle.std.proofs.Common.{sym, ◌∙◌}
use Rattle.spv_module.specs.Module.{plain_inst}
use Rattle.spv_type_rules.proofs.Repeating.{not_once}
use Rattle.spv_type_rules.proofs.repeat.Seen.repeats.Goals as goal

pub returns-then-not-is_declared_once-clause-seen : goal.returns-then-not-is_declared_once-clause-seen
returns-then-not-is_declared_once-clause-seen c = λ is n at s.
    not_once is n (plain_inst c.args.inst.now) c.args.self.now.slots.items c.args.self.now.others.keys at
    (sym c.is_declared_once.ensures ∙ c.if-not-is_declared_once.true) s

pub is_declared_again-requires : goal.is_declared_again-requires
is_declared_again-requires c = sym c.is_declared_once.ensures ∙ c.if-not-is_declared_once.false
