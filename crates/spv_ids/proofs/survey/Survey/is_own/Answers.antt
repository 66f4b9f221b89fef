use Rattle.std.proofs.Common.{◌<◌, ◌≤◌, length, arith}
use Rattle.std.proofs.lemmas.List.{length-map}
use Rattle.spv_module.specs.Module.{plain_inst}
use Rattle.spv_ids.specs.inner.Survey.{insts_of}
use Rattle.spv_ids.proofs.Bools.{eq_tells}
use Rattle.spv_ids.proofs.Scopes.{sound_nowhere, sound_here}
use Rattle.spv_ids.proofs.survey.Survey.is_own.Goals as goal

pub returns-then-own-definition : goal.returns-then-own-definition
returns-then-own-definition c = λ x e t y.
    let s = c.args.self.now in
    let v = c.requires.survey in
    let k = length-map s.insts.now plain_inst in
    let g = c.requires.whole in
    let a : length (insts_of s) ≤ s.end = omega arith in
    absurd (sound_nowhere s x c.args.definition v e a
    (λ f. c.floor_of-own.ensures.home (insts_of s) f v.places c.if-own-definition.true) y)

pub returns : goal.returns
returns c = λ x e t y.
    let s = c.args.self.now in
    let v = c.requires.survey in
    let w = v.within in
    let m = v.most in
    let k = length-map s.insts.now plain_inst in
    let h = c.requires.below in
    let own = c.floor_of-own.result in
    let z = c.if-own-definition.false in
    let j : own < c.args.definition = omega arith in
    let r = eq_tells own c.args.floor t in
    let o = c.floor_of-own.ensures.function (insts_of s) v.places (omega arith) in
    let p = c.requires.floor (omega arith) in
    sound_here s c.args.inst x c.args.definition own v e j o (rw r p)
