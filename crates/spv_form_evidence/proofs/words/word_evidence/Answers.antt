use Rattle.spv_form_evidence.proofs.lemmas.words.Preceding.{before_within, before_dead, before_shows}
use Rattle.spv_form_evidence.proofs.words.word_evidence.Goals as goal

pub evidence_at-requires-clause-fits : goal.evidence_at-requires-clause-fits
evidence_at-requires-clause-fits c =
    before_within c.args.table.now c.args.image.now c.args.fault.inst c.in_ok-before.before.at
    c.in_ok-before.before.definitions c.args.fault.rule c.args.fault.inst _ c.in_ok-before.ensures c.requires.dead

pub evidence_at-requires-clause-dead : goal.evidence_at-requires-clause-dead
evidence_at-requires-clause-dead c =
    let b = c.in_ok-before.ensures in
    let t = before_dead c.args.table.now c.args.image.now c.args.fault.inst c.in_ok-before.before.at
    c.in_ok-before.before.definitions c.args.fault.rule _ b c.requires.dead in
    (b.insts, c.args.fault.rule, t.place, b.knows, t.dead)

pub returns : goal.returns
returns c =
    let b = c.in_ok-before.ensures in
    let t = before_dead c.args.table.now c.args.image.now c.args.fault.inst c.in_ok-before.before.at
    c.in_ok-before.before.definitions c.args.fault.rule _ b c.requires.dead in
    before_shows c.args.table.now c.args.image.now c.args.fault.inst c.in_ok-before.before.at
    c.in_ok-before.before.definitions c.args.fault.rule _ _ b t
    (c.in_ok-evidence.ensures b.insts c.args.fault.rule t.place b.knows t.dead)
