use Rattle.std.proofs.Common.{false, refl}
use Rattle.spv_check.specs.Stream.{TellsVerdict}
use Rattle.spv_check.specs.Verdict.{fault_line, refused_line}
use Rattle.spv_check.proofs.Checks.{fault_judged, valid_judged}
use Rattle.spv_commands.proofs.Answerings.{gives, tells_fault, tells_refused, tells_valid}
use Rattle.spv_commands.proofs.replying.checked.Goals as goal

pub returns-in-Err-clause-gives : goal.returns-in-Err-clause-gives
returns-in-Err-clause-gives c =
    gives (TellsVerdict c.args.table.now c.args.reach) c.args.bytes.items
    (refused_line c.in-Err.code) false c.fault.result c.fault.ensures.out c.fault.ensures.done c.fault.ensures.made
    (tells_refused c.args.table.now c.args.reach c.args.bytes.items c.in-Err.code c.in-Err.ensures.refused)

pub returns-in-Ok-Valid-clause-gives : goal.returns-in-Ok-Valid-clause-gives
returns-in-Ok-Valid-clause-gives c =
    let valid = valid_judged c.args.table.now c.args.reach c.args.bytes.items _ c.in-Ok.field-0-1 c.in-Ok-Valid.field-0
    c.in-Ok-Valid.field-0-0 c.in-Ok-Valid.field-0-is c.in-Ok.ensures.gives c.in-Ok-Valid.ensures.verdict in
    (rw c.line_for.ensures (tells_valid c.args.table.now c.args.reach c.args.bytes.items valid), refl)

pub returns-in-Ok-Fault-clause-gives : goal.returns-in-Ok-Fault-clause-gives
returns-in-Ok-Fault-clause-gives c =
    let found = c.in-Ok-Fault.found in
    let broken = fault_judged c.args.table.now c.args.reach c.args.bytes.items _ c.in-Ok.field-0-1 c.in-Ok-Fault.field-0
    found c.in-Ok-Fault.field-0-is c.in-Ok.ensures.gives c.in-Ok-Fault.ensures.verdict in
    gives (TellsVerdict c.args.table.now c.args.reach) c.args.bytes.items
    (fault_line found.rule found.inst found.word) false _
    c.fault-in-Ok-Fault.ensures.out c.fault-in-Ok-Fault.ensures.done c.fault-in-Ok-Fault.ensures.made
    (tells_fault c.args.table.now c.args.reach c.args.bytes.items found.rule found.inst found.word broken)
