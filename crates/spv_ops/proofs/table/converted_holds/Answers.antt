use Rattle.spv_module.specs.Module.{plain_inst}
use Rattle.spv_ops.specs.Table.{lines}
use Rattle.spv_ops.proofs.Held.{held}
use Rattle.spv_ops.proofs.table.converted_holds.Goals as goal

pub returns-in-109 : goal.returns-in-109
unfolding lines
returns-in-109 c =
    let a = c.args in
    held a.definitions.now a.number (plain_inst a.inst.now) a.r a.types.now c.four_hold.result a.opcode 109
    c.in-109.is c.four_hold.ensures

pub returns-in-111 : goal.returns-in-111
unfolding lines
returns-in-111 c =
    let a = c.args in
    held a.definitions.now a.number (plain_inst a.inst.now) a.r a.types.now c.four_hold-in-111.result a.opcode 111
    c.in-111.is c.four_hold-in-111.ensures

pub returns-in-113 : goal.returns-in-113
unfolding lines
returns-in-113 c =
    let a = c.args in
    held a.definitions.now a.number (plain_inst a.inst.now) a.r a.types.now c.five_hold.result a.opcode 113
    c.in-113.is c.five_hold.ensures

pub returns-in-115 : goal.returns-in-115
unfolding lines
returns-in-115 c =
    let a = c.args in
    held a.definitions.now a.number (plain_inst a.inst.now) a.r a.types.now c.five_hold-in-115.result a.opcode 115
    c.in-115.is c.five_hold-in-115.ensures

pub returns-in-117 : goal.returns-in-117
unfolding lines
returns-in-117 c =
    let a = c.args in
    held a.definitions.now a.number (plain_inst a.inst.now) a.r a.types.now c.three_hold.result a.opcode 117
    c.in-117.is c.three_hold.ensures

pub returns-in-120 : goal.returns-in-120
unfolding lines
returns-in-120 c =
    let a = c.args in
    held a.definitions.now a.number (plain_inst a.inst.now) a.r a.types.now c.three_hold-in-120.result a.opcode 120
    c.in-120.is c.three_hold-in-120.ensures

pub returns-in-121 : goal.returns-in-121
unfolding lines
returns-in-121 c =
    let a = c.args in
    held a.definitions.now a.number (plain_inst a.inst.now) a.r a.types.now c.four_hold-in-121.result a.opcode 121
    c.in-121.is c.four_hold-in-121.ensures

pub returns-in-122 : goal.returns-in-122
unfolding lines
returns-in-122 c =
    let a = c.args in
    held a.definitions.now a.number (plain_inst a.inst.now) a.r a.types.now c.four_hold-in-122.result a.opcode 122
    c.in-122.is c.four_hold-in-122.ensures

pub returns-in-124 : goal.returns-in-124
unfolding lines
returns-in-124 c =
    let a = c.args in
    held a.definitions.now a.number (plain_inst a.inst.now) a.r a.types.now c.two_hold.result a.opcode 124
    c.in-124.is c.two_hold.ensures
