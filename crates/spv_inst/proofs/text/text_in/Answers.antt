use Rattle.std.proofs.Common.{◌<◌, refl, rules}
use Rattle.spv_inst.proofs.TextOctets.{each_all}
use Rattle.spv_inst.proofs.TextPlaces.{found, nowhere, takes, no_words, no_zero, padded, no_text}
use Rattle.spv_inst.proofs.text.text_in.Goals as goal

pub returns-then-is_empty-clause-refused : goal.returns-then-is_empty-clause-refused
returns-then-is_empty-clause-refused c =
    rw (c.new.ensures.rule, c.new.ensures.word) (no_words c.args.octets.now (search rules))

pub returns-in_default-clause-refused : goal.returns-in_default-clause-refused
returns-in_default-clause-refused c =
    let below = each_all (λ b. b < 256) c.args.octets.now (λ i _. (c.type_inv.octets i).fits) in
    rw (c.new-in_default.ensures.rule, c.new-in_default.ensures.word)
    (no_zero c.args.octets.now c.requires.whole below (search rules) (nowhere c.args.octets.now c.in_default.ensures))

pub returns-then-not-are_zeros-clause-refused : goal.returns-then-not-are_zeros-clause-refused
returns-then-not-are_zeros-clause-refused c =
    let below = each_all (λ b. b < 256) c.args.octets.now (λ i _. (c.type_inv.octets i).fits) in
    let zero = found c.args.octets.now c.in-Some.zero c.in-Some.ensures in
    rw (c.new-then-not-are_zeros.ensures.rule, c.new-then-not-are_zeros.ensures.word)
    (padded c.args.octets.now c.in-Some.zero c.requires.whole below zero
    (λ zeros. let t = c.are_zeros.ensures.1 zeros in cc))

pub returns-in-Ok-clause-taken : goal.returns-in-Ok-clause-taken
returns-in-Ok-clause-taken c k =
    let below = each_all (λ b. b < 256) c.args.octets.now (λ i _. (c.type_inv.octets i).fits) in
    let zero = found c.args.octets.now c.in-Some.zero c.in-Some.ensures in
    rw c.in-Ok.ensures.0 (takes k c.args.octets.now c.in-Some.zero c.requires.whole below zero
    (c.if-not-are_zeros.ensures.0 refl) c.in-Ok.ensures.1)

pub returns-in-Err-clause-refused : goal.returns-in-Err-clause-refused
returns-in-Err-clause-refused c =
    let below = each_all (λ b. b < 256) c.args.octets.now (λ i _. (c.type_inv.octets i).fits) in
    let zero = found c.args.octets.now c.in-Some.zero c.in-Some.ensures in
    rw (c.new-in-Err.ensures.rule, c.new-in-Err.ensures.word)
    (no_text c.args.octets.now c.in-Some.zero c.requires.whole below zero
    (c.if-not-are_zeros.ensures.0 refl) c.in-Err.ensures)
