use Rattle.spv_module.specs.Module.{plain_operands}
use Rattle.spv_interfaces.proofs.Interfaces.{by_inner, by_twice}
use Rattle.spv_interfaces.proofs.entries.is_unsound.Goals as goal

pub returns-in_ok-has_twice : goal.returns-in_ok-has_twice
returns-in_ok-has_twice c =
    by_twice c.args.minor c.args.definitions.now (plain_operands c.args.interface.now) c.in_ok-has_twice.field-0
    c.if-minor-ge-OF_ALL.true c.in_ok-has_twice.ensures

pub returns-else-minor-ge-OF_ALL : goal.returns-else-minor-ge-OF_ALL
returns-else-minor-ge-OF_ALL c =
    by_inner c.args.minor c.args.definitions.now (plain_operands c.args.interface.now) c.has_inner.result
    c.if-minor-ge-OF_ALL.false c.has_inner.ensures
