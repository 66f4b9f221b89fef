use Rattle.std.proofs.Common.{◌∙◌, ◌<◌, sym, arith}
use Rattle.std.proofs.lemmas.List.{length-map}
use Rattle.spv_module.specs.Module.{plain_inst}
use Rattle.spv_ids.specs.inner.Survey.{insts_of}
use Rattle.spv_ids.proofs.Bools.{false_true}
use Rattle.spv_ids.proofs.Scopes.{sound_use}
use Rattle.spv_ids.proofs.survey.Survey.is_sound.Goals as goal

pub section_of-section-requires : goal.section_of-section-requires
section_of-section-requires c =
    let v = c.requires.survey in
    let w = v.within in
    let b = c.requires.below in
    let k = v.places.count in
    omega arith

pub returns-then-not-is_scoped : goal.returns-then-not-is_scoped
returns-then-not-is_scoped c = λ x e t q b.
    let s = c.args.self.now in
    let v = c.requires.survey in
    let w = v.within in
    let m = v.most in
    let k = length-map s.insts.now plain_inst in
    let h = c.if-definition-self.false in
    let l : c.args.definition < 4294967295 = omega arith in
    let n = c.args.inst in
    let i = c.section_of-section.ensures (insts_of s) v.places in
    sound_use s n x c.args.definition v (e l)
    (λ o. false_true (sym c.if-is_ordered.false ∙ (c.is_ordered.ensures (insts_of s) n i).1 o))
    (λ o. absurd (false_true (sym c.if-not-is_scoped.true ∙ (c.is_scoped.ensures (insts_of s) n i).1 o)))
    q b

pub returns : goal.returns
returns c = λ x e t q b.
    let s = c.args.self.now in
    let v = c.requires.survey in
    let w = v.within in
    let m = v.most in
    let k = length-map s.insts.now plain_inst in
    let h = c.if-definition-self.false in
    let l : c.args.definition < 4294967295 = omega arith in
    let n = c.args.inst in
    let i = c.section_of-section.ensures (insts_of s) v.places in
    sound_use s n x c.args.definition v (e l)
    (λ u. false_true (sym c.if-is_ordered.false ∙ (c.is_ordered.ensures (insts_of s) n i).1 u))
    (λ u y. c.is_own-2.ensures x (e l) t y)
    q b

pub returns-then-is_inside : goal.returns-then-is_inside
returns-then-is_inside c = λ x e t q b.
    let s = c.args.self.now in
    let v = c.requires.survey in
    let w = v.within in
    let m = v.most in
    let k = length-map s.insts.now plain_inst in
    let h = c.if-definition-self.false in
    let l : c.args.definition < 4294967295 = omega arith in
    sound_use s c.args.inst x c.args.definition v (e l)
    (λ o. c.is_inside.ensures c.if-is_inside.true o)
    (λ u y. c.is_own.ensures x (e l) t y)
    q b
