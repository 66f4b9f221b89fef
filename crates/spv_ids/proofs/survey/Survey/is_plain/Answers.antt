use Rattle.std.proofs.Common.{◌<◌, arith}
use Rattle.std.proofs.lemmas.List.{length-map}
use Rattle.spv_module.specs.Module.{plain_inst}
use Rattle.spv_ids.proofs.Bools.{lt_tells}
use Rattle.spv_ids.proofs.Scopes.{plain_global, plain_function}
use Rattle.spv_ids.proofs.survey.Survey.is_plain.Goals as goal

pub returns-then-definition-self : goal.returns-then-definition-self
returns-then-definition-self c = λ x e t q b.
    let v = c.requires.survey in
    let w = v.within in
    let m = v.most in
    let n = c.requires.below in
    let k = length-map c.args.self.now.insts.now plain_inst in
    let h = c.if-definition-inst.false in
    let l : c.args.definition < 4294967295 = omega arith in
    plain_global c.args.self.now c.args.inst x c.args.definition v (e l) h c.if-definition-self.true q b

pub returns : goal.returns
returns c = λ x e t q b.
    let v = c.requires.survey in
    let w = v.within in
    let m = v.most in
    let n = c.requires.below in
    let k = length-map c.args.self.now.insts.now plain_inst in
    let h = c.if-definition-inst.false in
    let f = lt_tells c.args.floor c.args.definition t in
    let l : c.args.definition < 4294967295 = omega arith in
    let g : c.args.floor < 4294967295 = omega arith in
    plain_function c.args.self.now c.args.inst x c.args.definition c.args.floor v (e l) h f (c.requires.floor g) q b
