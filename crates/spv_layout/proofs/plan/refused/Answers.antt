use Rattle.std.proofs.Common.{arith, map, inr}
use Rattle.std.proofs.lemmas.List.{length-map}
use Rattle.spv_module.specs.Module.{plain_inst}
use Rattle.spv_layout.proofs.Misfits.{fit_unbroken, short_list}
use Rattle.spv_layout.proofs.Brokens.{dead_first}
use Rattle.spv_layout.proofs.plan.refused.Goals as goal

pub fault-requires : goal.fault-requires
fault-requires c =
    let s = short_list (map plain_inst c.args.insts.now) in
    let l = length-map c.args.insts.now plain_inst in
    let q = c.requires.words in
    let n = c.in-Some.ensures.within in
    omega arith

pub fault-requires-in-None : goal.fault-requires-in-None
fault-requires-in-None c =
    let s = short_list (map plain_inst c.args.insts.now) in
    let l = length-map c.args.insts.now plain_inst in
    let q = c.requires.words in
    let n = c.requires.within in
    omega arith

pub returns-in-None : goal.returns-in-None
returns-in-None c =
    let u = fit_unbroken c.args.profile c.args.kinds.now (map plain_inst c.args.insts.now) c.in-None.ensures.none in
    let f = dead_first c.args.profile c.args.kinds.now (map plain_inst c.args.insts.now) c.args.rule c.args.inst c.requires.dead in
    rw c.fault-in-None.ensures (inr (u, f), c.requires.word)
