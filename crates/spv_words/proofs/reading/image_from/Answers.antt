use Rattle.std.proofs.Common.{◌≡◌, arith, take, drop, length, ◌++◌}
use Rattle.std.proofs.lemmas.Grind.{common_steps}
use Rattle.spv_words.proofs.reading.image_from.Goals as goal

pub returns-clause-gives : goal.returns-clause-gives
returns-clause-gives c =
    let written : take c.args.bytes.len (c.put_in_little.new.bytes ++ drop (length c.put_in_little.new.bytes) c.args.bytes.items) ≡ c.put_in_little.new.bytes = grind (arith, common_steps) in
    let whole = c.in_ok-order.ensures.ok in
    rw (c.from_octets.ensures, written, c.put_in_little.ensures.words, c.deref_mut.ensures.value) (rw c.deref.ensures.value at whole)
