use Rattle.std.proofs.Common.{sym}
use Rattle.spv_module.specs.Module.{plain_inst, plain_operands}
use Rattle.spv_interfaces.proofs.Naming.{begins_by, begins_not}
use Rattle.spv_interfaces.proofs.turned.begin_live.Goals as goal

pub returns-in-Some : goal.returns-in-Some
returns-in-Some c =
    begins_by 1 c.args.definitions.now c.args.number c.in-Some.f (plain_operands c.in-Some.field-0-1.now)
    (plain_inst c.inst.result.now) c.args.live.now.items c.enter.new.words.items c.inst.ensures c.in-Some.ensures
    c.enter.ensures

pub returns-in_default : goal.returns-in_default
returns-in_default c = begins_not 1 c.args.definitions.now c.args.number (plain_inst c.inst.result.now)
    c.args.live.now.items c.inst.ensures (sym c.in_default.ensures)
