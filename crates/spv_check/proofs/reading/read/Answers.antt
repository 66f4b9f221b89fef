use Rattle.std.proofs.Common.{drop, refl, arith}
use Rattle.std.proofs.lemmas.List.{length-drop}
use Rattle.spv_module.specs.Module.{plain_insts}
use Rattle.spv_layout.specs.Place.{IsShort}
use Rattle.spv_check.proofs.Readings.{KeepsWords, opened_short}
use Rattle.spv_check.proofs.reading.read.Goals as goal
use Rattle.spv_check.proofs.reading.read.Goals.{then-opens+in_ok-open, else-opens}

pub returns-clause-short : goal.returns-clause-short
returns-clause-short c =
    let is = plain_insts c.in_ok-module.module in
    let words = c.args.image.now in
    let counted = c.word_counts.ensures c.args.table.now is (drop 5 words) c.in_ok-module.ensures.found in
    let rest = length-drop 5 words in
    let most = c.len-words.ensures.most in
    let least = c.len-words.ensures.least in
    let short : IsShort is = omega (arith, counted, rest, most, least) in
    let law : KeepsWords = record {
      count = c.opening_keeps.ensures.count;
      words = c.opening_keeps.ensures.sums _ (λ x. refl) (λ x. refl);
    } in
    elim c.if-opens.branch [
      | then-opens+in_ok-open w ↦ rw (w.module-is, w.in_ok-open.ensures.opened) (opened_short law is short)
      | else-opens w ↦ rw w.module-is short
    ]
