use Rattle.spv_module.specs.Module.{plain_inst}
use Rattle.spv_ops.specs.Table.{lines}
use Rattle.spv_ops.proofs.Held.{held}
use Rattle.spv_ops.proofs.table.line_holds.Goals as goal

pub returns-in-61 : goal.returns-in-61
unfolding lines
returns-in-61 c =
    let a = c.args in
    held a.definitions.now a.number (plain_inst a.inst.now) a.r a.types.now c.three_hold.result a.opcode 61
    c.in-61.is c.three_hold.ensures

pub returns-in-62 : goal.returns-in-62
unfolding lines
returns-in-62 c =
    let a = c.args in
    held a.definitions.now a.number (plain_inst a.inst.now) a.r a.types.now c.two_hold.result a.opcode 62
    c.in-62.is c.two_hold.ensures

pub returns-in-63 : goal.returns-in-63
unfolding lines
returns-in-63 c =
    let a = c.args in
    held a.definitions.now a.number (plain_inst a.inst.now) a.r a.types.now c.two_hold-in-63.result a.opcode 63
    c.in-63.is c.two_hold-in-63.ensures

pub returns-in-64 : goal.returns-in-64
unfolding lines
returns-in-64 c =
    let a = c.args in
    held a.definitions.now a.number (plain_inst a.inst.now) a.r a.types.now c.four_hold.result a.opcode 64
    c.in-64.is c.four_hold.ensures

pub returns-in-77 : goal.returns-in-77
unfolding lines
returns-in-77 c =
    let a = c.args in
    held a.definitions.now a.number (plain_inst a.inst.now) a.r a.types.now c.three_hold-in-77.result a.opcode 77
    c.in-77.is c.three_hold-in-77.ensures

pub returns-in-78 : goal.returns-in-78
unfolding lines
returns-in-78 c =
    let a = c.args in
    held a.definitions.now a.number (plain_inst a.inst.now) a.r a.types.now c.four_hold-in-78.result a.opcode 78
    c.in-78.is c.four_hold-in-78.ensures

pub returns-in-79 : goal.returns-in-79
unfolding lines
returns-in-79 c =
    let a = c.args in
    held a.definitions.now a.number (plain_inst a.inst.now) a.r a.types.now c.six_hold.result a.opcode 79
    c.in-79.is c.six_hold.ensures

pub returns-in-81 : goal.returns-in-81
unfolding lines
returns-in-81 c =
    let a = c.args in
    held a.definitions.now a.number (plain_inst a.inst.now) a.r a.types.now c.four_hold-in-81.result a.opcode 81
    c.in-81.is c.four_hold-in-81.ensures

pub returns-in-82 : goal.returns-in-82
unfolding lines
returns-in-82 c =
    let a = c.args in
    held a.definitions.now a.number (plain_inst a.inst.now) a.r a.types.now c.five_hold.result a.opcode 82
    c.in-82.is c.five_hold.ensures

pub returns-in-83 : goal.returns-in-83
unfolding lines
returns-in-83 c =
    let a = c.args in
    held a.definitions.now a.number (plain_inst a.inst.now) a.r a.types.now c.three_hold-in-83.result a.opcode 83
    c.in-83.is c.three_hold-in-83.ensures
