use Rattle.std.proofs.Common.{◌≡◌, ℕ, List, sym, ap, map, drop, arith}
use Rattle.std.specs.Prelude.{sum_by}
use Rattle.std.proofs.lemmas.List.{drop-map}
use Rattle.spv_module.specs.declared.operand.Operand.{Operand}
use Rattle.spv_module.specs.declared.operand.Operand.TheVariants as code
use Rattle.spv_module.specs.Module.{plain_operand}
use Rattle.spv_layout.specs.Place.{operand_words}
use Rattle.spv_layout.proofs.Sums.{sum_more, sum_bound}
use Rattle.spv_layout.proofs.place.words_past.Goals as goal

rest_words : (os ss rest : List Operand) (k n : ℕ) → ss ≡ os → k ≡ n → rest ≡ drop k ss → sum_by operand_words (map plain_operand rest) ≡ sum_by operand_words (drop n (map plain_operand os))
rest_words os ss rest k n e f g = rw (g, f, e) (ap (sum_by operand_words) (sym (drop-map plain_operand n os)))

pub overflow_add-count-in-loop-operand : goal.overflow_add-count-in-loop-operand
overflow_add-count-in-loop-operand c =
    let r = rest_words c.args.inst.now.operands c.as_slice.result.now c.split_at.result.1.now c.from-known.result c.args.front c.as_slice.ensures.value c.from-known.ensures c.split_at.ensures.back in
    let b = sum_bound operand_words plain_operand c.split_at.result.1.now c.loop-operand.operand-index (code.OfType 0) c.loop-operand-test.true in
    let w = c.requires.words in
    let f = c.requires.front.words in
    let v = c.loop-operand.invariant in
    let k = c.from-known.ensures in
    let o = c.operand_words-count.ensures in
    omega arith

pub loop-operand-preserved : goal.loop-operand-preserved
loop-operand-preserved c =
    let m = sum_more operand_words plain_operand c.split_at.result.1.now c.loop-operand.operand-index (code.OfType 0) c.loop-operand-test.true in
    let v = c.loop-operand.invariant in
    let o = c.operand_words-count.ensures in
    omega arith
