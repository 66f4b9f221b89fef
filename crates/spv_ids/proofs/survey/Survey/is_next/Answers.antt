use Rattle.std.proofs.Common.{◌<◌, get_or, arith}
use Rattle.std.proofs.lemmas.List.{length-map}
use Rattle.spv_module.specs.Module.{plain_inst}
use Rattle.spv_module.specs.declared.opcode.TheConstants as opcode
use Rattle.spv_ids.proofs.Bools.{lt_tells}
use Rattle.spv_ids.proofs.Passing.{inst_of, sound_next}
use Rattle.spv_ids.proofs.survey.Survey.is_next.Goals as goal

pub returns : goal.returns
returns c = λ x e t q b.
    let s = c.args.self.now in
    let v = c.requires.survey in
    let w = v.within in
    let m = v.most in
    let k = length-map s.insts.now plain_inst in
    let n = c.args.inst in
    let d = c.args.definition in
    let z = c.if-definition-self.false in
    let y : d < s.end = omega arith in
    let l : d < 4294967295 = omega arith in
    let f = c.if-floor-eq-NONE.false in
    let o = c.requires.floor (omega arith) in
    let i = plain_inst (get_or s.insts.now n c.index-self-inst.result) in
    let j = plain_inst (get_or s.insts.now d c.index-self-definition.result) in
    let t1 = inst_of s n c.index-self-inst.result v c.requires.below in
    let t2 = inst_of s d c.index-self-definition.result v y in
    sound_next s n x d c.args.floor i j v c.if-definition-inst.false t1 t2 c.if-there-le-FUNCTION_END.false
    (lt_tells opcode.FUNCTION_END j.opcode t) o (e l) q b
