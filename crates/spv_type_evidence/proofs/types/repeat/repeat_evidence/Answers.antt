use Rattle.std.proofs.Common.{◌<◌, length, map, arith}
use Rattle.std.proofs.lemmas.List.{length-map}
use Rattle.std.proofs.lemmas.Option.{slice_get_within}
use Rattle.spv_module.specs.Module.{plain_inst}
use Rattle.spv_type_evidence.proofs.lemmas.types.Repeating.{alike_shows, not_before}
use Rattle.spv_type_evidence.proofs.types.repeat.repeat_evidence.Goals as goal

pub returns-then-are_alike : goal.returns-then-are_alike
returns-then-are_alike c = λ G.
    let xs = c.args.insts.now in
    let i = plain_inst c.args.inst.now in
    let w = slice_get_within (map plain_inst xs) c.args.number i c.requires.there in
    let l = length-map xs plain_inst in
    let within : c.loop-m.m < length xs = let t = c.loop-m-test.true in omega arith in
    alike_shows G xs c.args.number c.loop-m.m i c.index-insts-m.result c.are_alike.result c.loop-m-test.true within
    c.index-insts-m.is c.if-are_alike.true c.are_alike.ensures c.requires.broken

pub loop-m-preserved : goal.loop-m-preserved
loop-m-preserved c =
    let xs = c.args.insts.now in
    let i = plain_inst c.args.inst.now in
    let w = slice_get_within (map plain_inst xs) c.args.number i c.requires.there in
    let l = length-map xs plain_inst in
    let within : c.loop-m.m < length xs = let t = c.loop-m-test.true in omega arith in
    not_before xs c.loop-m.m i c.index-insts-m.result c.are_alike.result within c.index-insts-m.is c.if-are_alike.false
    c.are_alike.ensures c.loop-m.invariant
