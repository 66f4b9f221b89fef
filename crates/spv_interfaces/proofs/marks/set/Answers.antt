use Rattle.std.proofs.Common.{◌<◌, length, arith}
use Rattle.std.proofs.lemmas.List.{get_or_read}
use Rattle.spv_interfaces.proofs.Marking.{set_adds, set_rises}
use Rattle.spv_interfaces.proofs.marks.set.Goals as goal

pub returns-then-at-len-clause-adds : goal.returns-then-at-len-clause-adds
returns-then-at-len-clause-adds c =
    let words = c.args.words.now.items in
    let lt : c.args.number < length words = let b = c.args.words.now.ok.0 in omega arith in
    set_adds words c.args.number c.index_mut.result.now c.args.bits lt
    (get_or_read words c.args.number c.index_mut.result.now lt c.index_mut.ensures.value 0)

pub returns-then-at-len-clause-rises : goal.returns-then-at-len-clause-rises
returns-then-at-len-clause-rises c =
    let words = c.args.words.now.items in
    let lt : c.args.number < length words = let b = c.args.words.now.ok.0 in omega arith in
    set_rises words c.args.number c.index_mut.result.now c.args.bits lt
    (get_or_read words c.args.number c.index_mut.result.now lt c.index_mut.ensures.value 0)
