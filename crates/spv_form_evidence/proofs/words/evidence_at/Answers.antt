use Rattle.std.proofs.Common.{◌<◌, ◌/◌, ◌%◌, arith}
use Rattle.spv_inst.proofs.Instructions.{front_of}
use Rattle.spv_form_evidence.proofs.lemmas.words.Dying.{shown_uncounted, shown_past, shown_unknown, shown_failed}
use Rattle.spv_form_evidence.proofs.lemmas.words.Dying.{not_matched}
use Rattle.spv_form_evidence.proofs.words.evidence_at.Goals as goal

pub returns-then-count-eq0 : goal.returns-then-count-eq0
returns-then-count-eq0 c = λ b r n know dead.
    shown_uncounted c.args.scene.now.table.now b c.args.scene.now.image.now c.args.at c.word-head.result r n
    c.requires.fits c.word-head.ensures c.if-count-eq0.true dead

pub returns-then-count-len : goal.returns-then-count-len
returns-then-count-len c = λ b r n know dead.
    shown_past c.args.scene.now.table.now b c.args.scene.now.image.now c.args.at c.word-head.result c.len.result r n
    c.requires.fits c.word-head.ensures c.len.ensures.words c.if-count-len.true dead

pub returns-in_default : goal.returns-in_default
returns-in_default c = λ b r n know dead.
    let f = front_of c.args.scene.now.image.now c.args.at c.word-head.result c.len.result c.requires.fits
    c.word-head.ensures c.len.ensures.words c.if-count-eq0.false c.if-count-len.false in
    let h : c.word-head.result % 65536 < 65536 = omega arith in
    shown_unknown c.args.scene.now.table.now b c.args.scene.now.image.now c.args.at _ _ r n f h c.in_default.ensures
    dead

pub unreachable-requires : goal.unreachable-requires
unreachable-requires c =
    let d = c.requires.dead in
    let f = front_of c.args.scene.now.image.now c.args.at c.word-head.result c.len.result c.requires.fits
    c.word-head.ensures c.len.ensures.words c.if-count-eq0.false c.if-count-len.false in
    let h : c.word-head.result % 65536 < 65536 = omega arith in
    let w = c.word-head.type_inv in
    let l : c.word-head.result / 65536 < 65536 = omega arith in
    let m = rw c.in_default-2.is at (c.in_ok-operand.ensures d.0 d.3) in
    not_matched c.args.scene.now.table.now d.0 c.args.scene.now.image.now c.args.at _ _ c.in-Some.entry m.0 d.1
    d.2 f h l c.in-Some.ensures m.1 d.4

pub returns : goal.returns
returns c = λ b r n know dead.
    let f = front_of c.args.scene.now.image.now c.args.at c.word-head.result c.len.result c.requires.fits
    c.word-head.ensures c.len.ensures.words c.if-count-eq0.false c.if-count-len.false in
    let h : c.word-head.result % 65536 < 65536 = omega arith in
    let m = rw c.in-Some-2.is at (c.in_ok-operand.ensures b know) in
    shown_failed c.args.scene.now.table.now b c.args.scene.now.image.now c.args.at _ _ c.in-Some.entry r n
    c.in-Some-2.field-0 f h c.in-Some.ensures m dead
