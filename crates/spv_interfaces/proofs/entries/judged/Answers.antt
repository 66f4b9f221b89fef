use Rattle.std.proofs.Common.{sym}
use Rattle.spv_module.specs.Module.{plain_inst, plain_operands}
use Rattle.spv_interfaces.proofs.Entering.{entry_here, no_entry, unsound_by}
use Rattle.spv_interfaces.proofs.entries.judged.Goals as goal

pub returns-in_default : goal.returns-in_default
returns-in_default c = no_entry c.args.definitions.now c.args.number (plain_inst c.inst.result.now) c.inst.ensures
    (sym c.in_default.ensures)

pub returns : goal.returns
returns c =
    let is = c.args.definitions.now in
    let os = plain_operands c.in-Some.interface.now in
    unsound_by c.args.minor is c.args.number c.in-Some.field-0-0 os c.in_ok-unsound.unsound
    (entry_here is c.args.number c.in-Some.field-0-0 os (plain_inst c.inst.result.now) c.inst.ensures c.in-Some.ensures)
    c.in_ok-unsound.ensures
