use Rattle.spv_inst.proofs.Numbers.{narrow_taken, wide_taken, half_refused, unknown_refused}
use Rattle.spv_inst.proofs.number.take_number.Goals as goal

pub returns-then-bits-le32-clause-taken : goal.returns-then-bits-le32-clause-taken
returns-then-bits-le32-clause-taken c = λ k.
    narrow_taken k c.args.width c.in-Some.bits c.args.image.now c.args.at c.args.end c.word-low.result c.in-Some.is
    c.if-bits-le32.true c.requires.order c.requires.fits c.word-low.ensures

pub returns-then-end-at-lt2-clause-refused : goal.returns-then-end-at-lt2-clause-refused
returns-then-end-at-lt2-clause-refused c =
    rw (c.new-then-end-at-lt2.ensures.rule, c.new-then-end-at-lt2.ensures.word)
    (half_refused c.args.width c.in-Some.bits c.args.image.now c.args.at c.args.end c.in-Some.is c.if-bits-le32.false
    c.requires.order c.if-end-at-lt2.true c.requires.fits)

pub returns-in-None-clause-refused : goal.returns-in-None-clause-refused
returns-in-None-clause-refused c =
    rw (c.new.ensures.rule, c.new.ensures.word)
    (unknown_refused c.args.width c.args.image.now c.args.at c.args.end c.in-None.is c.requires.order c.requires.fits)

pub returns-else-end-at-lt2-clause-taken : goal.returns-else-end-at-lt2-clause-taken
returns-else-end-at-lt2-clause-taken c = λ k.
    wide_taken k c.args.width c.in-Some.bits c.args.image.now c.args.at c.args.end c.word-low.result c.word.result
    c.in-Some.is c.if-bits-le32.false c.if-end-at-lt2.false c.requires.fits c.word-low.ensures c.word.ensures
