use Rattle.std.proofs.Common.{arith, refl}
use Rattle.spv_words.proofs.Standing.{octets-fit}
use Rattle.spv_words.proofs.Refusal.{Found, broken_header, fitting_header}
use Rattle.spv_words.proofs.reading.order_of_module.Goals as goal

pub returns-in-Some-broken_by-clause-refused : goal.returns-in-Some-broken_by-clause-refused
returns-in-Some-broken_by-clause-refused c =
    let f : Found c.in-Some.order c.args.bytes.now = record { size = c.requires; least = c.if-bytes-lt20.false; groups = c.if-bytes-ne0.false; octets = octets-fit c.args.bytes.now (λ i. let f = c.type_inv.bytes i in omega arith); magic = c.in-Some.ensures.found } in
    broken_header c.in-Some.order c.args.bytes.now _ _ _ _ f c.word_in-version.ensures c.word_in-schema.ensures c.word_in-bound.ensures c.in-Some-broken_by.ensures.some

pub returns-in-None-clause-ok : goal.returns-in-None-clause-ok
returns-in-None-clause-ok c =
    let f : Found c.in-Some.order c.args.bytes.now = record { size = c.requires; least = c.if-bytes-lt20.false; groups = c.if-bytes-ne0.false; octets = octets-fit c.args.bytes.now (λ i. let f = c.type_inv.bytes i in omega arith); magic = c.in-Some.ensures.found } in
    fitting_header c.in-Some.order c.args.bytes.now _ _ _ f c.word_in-version.ensures c.word_in-schema.ensures c.word_in-bound.ensures (c.in-None.ensures.none refl)
