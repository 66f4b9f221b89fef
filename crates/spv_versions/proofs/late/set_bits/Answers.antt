use Rattle.std.proofs.Common.{◌<◌, length}
use Rattle.spv_versions.proofs.Low.{set_other, set_own}
use Rattle.spv_versions.proofs.late.set_bits.Goals as goal

pub returns-then-place-words-clause-others : goal.returns-then-place-words-clause-others
returns-then-place-words-clause-others c = λ j v h.
    let within : c.args.place < length c.args.words.now = c.if-place-words.true in
    set_other c.args.words.now c.args.place c.args.bits j v within h

pub returns-then-place-words-clause-own : goal.returns-then-place-words-clause-own
returns-then-place-words-clause-own c = λ v within h. set_own c.args.words.now c.args.place c.args.bits v within h
