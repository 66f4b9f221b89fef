use Rattle.std.proofs.Common.{◌<◌, length, get_or, arith}
use Rattle.std.proofs.lemmas.List.{length-map}
use Rattle.spv_module.specs.Module.{plain_inst}
use Rattle.spv_ids.specs.inner.Survey.{insts_of}
use Rattle.spv_ids.proofs.Bools.{lt_tells}
use Rattle.spv_ids.proofs.Defining.{inst_at}
use Rattle.spv_ids.proofs.Opens.{unordered}
use Rattle.spv_ids.proofs.survey.Survey.is_inside.Goals as goal

pub returns : goal.returns
returns c = λ t.
    let s = c.args.self.now in
    let v = c.requires.survey in
    let w = v.within in
    let m = length-map s.insts.now plain_inst in
    let n = c.args.inst in
    let b = c.requires.below in
    let l : n < length s.insts.now = omega arith in
    let z = c.if-floor-eq-NONE.false in
    let o = c.requires.floor (omega arith) in
    unordered (insts_of s) n c.args.floor (plain_inst (get_or s.insts.now n c.index-self-inst.result))
    (inst_at s.insts.now n c.index-self-inst.result l) (lt_tells 7 _ t) o
