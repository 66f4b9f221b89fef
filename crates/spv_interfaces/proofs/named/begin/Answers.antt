use Rattle.std.proofs.Common.{sym}
use Rattle.spv_module.specs.Module.{plain_inst, plain_operands}
use Rattle.spv_interfaces.proofs.Naming.{begins_by, begins_not, names_by, names_not}
use Rattle.spv_interfaces.proofs.named.begin.Goals as goal

pub returns-in_default-clause-reached : goal.returns-in_default-clause-reached
returns-in_default-clause-reached c = begins_not c.args.bits c.args.definitions.now c.args.number
    (plain_inst c.inst.result.now) c.args.marks.now.reached.items c.inst.ensures (sym c.in_default.ensures)

pub returns-in_default-clause-named : goal.returns-in_default-clause-named
returns-in_default-clause-named c = names_not c.args.bits c.args.definitions.now c.args.number
    (plain_inst c.inst.result.now) c.args.marks.now.named.items c.inst.ensures (sym c.in_default.ensures)

pub returns-clause-reached : goal.returns-clause-reached
returns-clause-reached c =
    begins_by c.args.bits c.args.definitions.now c.args.number c.in-Some.f (plain_operands c.in-Some.interface.now)
    (plain_inst c.inst.result.now) c.args.marks.now.reached.items c.enter.new.words.items c.inst.ensures
    c.in-Some.ensures c.enter.ensures

pub returns-clause-named : goal.returns-clause-named
returns-clause-named c =
    names_by c.args.bits c.args.definitions.now c.args.number c.in-Some.f (plain_operands c.in-Some.interface.now)
    (plain_inst c.inst.result.now) c.args.marks.now.named.items c.name_all.new.named.items c.inst.ensures
    c.in-Some.ensures c.name_all.ensures
