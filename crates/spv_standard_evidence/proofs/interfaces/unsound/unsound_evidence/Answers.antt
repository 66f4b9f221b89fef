use Rattle.spv_module.specs.Module.{plain_operands}
use Rattle.spv_standard_evidence.proofs.Faced.{inner_told, twice_told}
use Rattle.spv_standard_evidence.proofs.interfaces.unsound.unsound_evidence.Goals as goal

pub returns-in_ok-equal_operands : goal.returns-in_ok-equal_operands
returns-in_ok-equal_operands c =
    twice_told c.args.minor c.args.definitions.now (plain_operands c.args.interface.now) c.args.first
    c.in_ok-equal_operands.field-0 c.requires.first c.if-minor-ge-OF_ALL.true c.in_ok-equal_operands.ensures

pub returns-else-minor-ge-OF_ALL : goal.returns-else-minor-ge-OF_ALL
returns-else-minor-ge-OF_ALL c =
    inner_told c.args.minor c.args.definitions.now (plain_operands c.args.interface.now) c.args.first
    c.inner_operand.result c.requires.first c.if-minor-ge-OF_ALL.false c.inner_operand.ensures
