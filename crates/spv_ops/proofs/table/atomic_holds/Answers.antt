use Rattle.spv_module.specs.Module.{plain_inst}
use Rattle.spv_ops.specs.Table.{lines}
use Rattle.spv_ops.proofs.Held.{held}
use Rattle.spv_ops.proofs.table.atomic_holds.Goals as goal

pub returns-in-224 : goal.returns-in-224
unfolding lines
returns-in-224 c =
    let a = c.args in
    held a.definitions.now a.number (plain_inst a.inst.now) a.r a.types.now c.four_hold.result a.opcode 224
    c.in-224.is c.four_hold.ensures

pub returns-in-225 : goal.returns-in-225
unfolding lines
returns-in-225 c =
    let a = c.args in
    held a.definitions.now a.number (plain_inst a.inst.now) a.r a.types.now c.three_hold.result a.opcode 225
    c.in-225.is c.three_hold.ensures

pub returns-in-227 : goal.returns-in-227
unfolding lines
returns-in-227 c =
    let a = c.args in
    held a.definitions.now a.number (plain_inst a.inst.now) a.r a.types.now c.five_hold.result a.opcode 227
    c.in-227.is c.five_hold.ensures

pub returns-in-228 : goal.returns-in-228
unfolding lines
returns-in-228 c =
    let a = c.args in
    held a.definitions.now a.number (plain_inst a.inst.now) a.r a.types.now c.five_hold-in-228.result a.opcode 228
    c.in-228.is c.five_hold-in-228.ensures

pub returns-in-229 : goal.returns-in-229
unfolding lines
returns-in-229 c =
    let a = c.args in
    held a.definitions.now a.number (plain_inst a.inst.now) a.r a.types.now c.six_hold.result a.opcode 229
    c.in-229.is c.six_hold.ensures

pub returns-in-232 : goal.returns-in-232
unfolding lines
returns-in-232 c =
    let a = c.args in
    held a.definitions.now a.number (plain_inst a.inst.now) a.r a.types.now c.five_hold-in-232.result a.opcode 232
    c.in-232.is c.five_hold-in-232.ensures

pub returns-in-234 : goal.returns-in-234
unfolding lines
returns-in-234 c =
    let a = c.args in
    held a.definitions.now a.number (plain_inst a.inst.now) a.r a.types.now c.six_hold-in-234.result a.opcode 234
    c.in-234.is c.six_hold-in-234.ensures

pub returns-in-250 : goal.returns-in-250
unfolding lines
returns-in-250 c =
    let a = c.args in
    held a.definitions.now a.number (plain_inst a.inst.now) a.r a.types.now c.three_hold-in-250.result a.opcode 250
    c.in-250.is c.three_hold-in-250.ensures

pub returns-in-251 : goal.returns-in-251
unfolding lines
returns-in-251 c =
    let a = c.args in
    held a.definitions.now a.number (plain_inst a.inst.now) a.r a.types.now c.two_hold-in-251.result a.opcode 251
    c.in-251.is c.two_hold-in-251.ensures

pub returns-in-256 : goal.returns-in-256
unfolding lines
returns-in-256 c =
    let a = c.args in
    held a.definitions.now a.number (plain_inst a.inst.now) a.r a.types.now c.two_hold-in-256.result a.opcode 256
    c.in-256.is c.two_hold-in-256.ensures
