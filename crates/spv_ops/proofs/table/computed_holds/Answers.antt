use Rattle.spv_module.specs.Module.{plain_inst}
use Rattle.spv_ops.specs.Table.{lines}
use Rattle.spv_ops.proofs.Held.{held}
use Rattle.spv_ops.proofs.table.computed_holds.Goals as goal

pub returns-in-126 : goal.returns-in-126
unfolding lines
returns-in-126 c =
    let a = c.args in
    held a.definitions.now a.number (plain_inst a.inst.now) a.r a.types.now c.three_hold.result a.opcode 126
    c.in-126.is c.three_hold.ensures

pub returns-in-127 : goal.returns-in-127
unfolding lines
returns-in-127 c =
    let a = c.args in
    held a.definitions.now a.number (plain_inst a.inst.now) a.r a.types.now c.three_hold-in-127.result a.opcode 127
    c.in-127.is c.three_hold-in-127.ensures

pub returns-in-168 : goal.returns-in-168
unfolding lines
returns-in-168 c =
    let a = c.args in
    held a.definitions.now a.number (plain_inst a.inst.now) a.r a.types.now c.three_hold-in-168.result a.opcode 168
    c.in-168.is c.three_hold-in-168.ensures

pub returns-in-128 : goal.returns-in-128
unfolding lines
returns-in-128 c =
    let a = c.args in
    held a.definitions.now a.number (plain_inst a.inst.now) a.r a.types.now c.four_hold.result a.opcode 128
    c.in-128.is c.four_hold.ensures

pub returns-in-129 : goal.returns-in-129
unfolding lines
returns-in-129 c =
    let a = c.args in
    held a.definitions.now a.number (plain_inst a.inst.now) a.r a.types.now c.four_hold-in-129.result a.opcode 129
    c.in-129.is c.four_hold-in-129.ensures

pub returns-in-164 : goal.returns-in-164
unfolding lines
returns-in-164 c =
    let a = c.args in
    held a.definitions.now a.number (plain_inst a.inst.now) a.r a.types.now c.four_hold-in-164.result a.opcode 164
    c.in-164.is c.four_hold-in-164.ensures

pub returns-in-169 : goal.returns-in-169
unfolding lines
returns-in-169 c =
    let a = c.args in
    held a.definitions.now a.number (plain_inst a.inst.now) a.r a.types.now c.six_hold.result a.opcode 169
    c.in-169.is c.six_hold.ensures

pub returns-in-170 : goal.returns-in-170
unfolding lines
returns-in-170 c =
    let a = c.args in
    held a.definitions.now a.number (plain_inst a.inst.now) a.r a.types.now c.five_hold.result a.opcode 170
    c.in-170.is c.five_hold.ensures

pub returns-in-180 : goal.returns-in-180
unfolding lines
returns-in-180 c =
    let a = c.args in
    held a.definitions.now a.number (plain_inst a.inst.now) a.r a.types.now c.five_hold-in-180.result a.opcode 180
    c.in-180.is c.five_hold-in-180.ensures

pub returns-in-194 : goal.returns-in-194
unfolding lines
returns-in-194 c =
    let a = c.args in
    held a.definitions.now a.number (plain_inst a.inst.now) a.r a.types.now c.five_hold-in-194.result a.opcode 194
    c.in-194.is c.five_hold-in-194.ensures
