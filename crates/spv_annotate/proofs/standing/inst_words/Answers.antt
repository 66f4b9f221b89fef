use Rattle.std.proofs.Common.{◌+◌, ◌<◌, ◌≤◌, arith, length, map}
use Rattle.std.specs.Prelude.{sum_by}
use Rattle.spv_words.specs.Header.{greatest_length}
use Rattle.spv_module.specs.declared.operand.Operand.TheVariants as code
use Rattle.spv_module.specs.Module.{plain_operand}
use Rattle.spv_layout.specs.Place.{operand_words}
use Rattle.spv_layout.proofs.Sums.{sum_more, sum_bound}
use Rattle.spv_annotate.proofs.standing.inst_words.Goals as goal

pub corrected-count-requires-clause-few : goal.corrected-count-requires-clause-few
corrected-count-requires-clause-few c =
    let b = sum_bound operand_words plain_operand c.as_slice-operands.result.now c.loop-operand.operand-index
    (code.OfType 0) c.loop-operand-test.true in
    let v = c.as_slice-operands.ensures.value in
    let f = c.as_slice-operands.ensures.few in
    let l : length c.as_slice-operands.result.now < 4294967296 = rw v f in
    let q : 1 + sum_by operand_words (map plain_operand c.as_slice-operands.result.now) ≤ greatest_length = rw v
    c.requires in
    let i = c.loop-operand.invariant in
    omega (arith, b, l, q, i)

pub loop-operand-preserved : goal.loop-operand-preserved
loop-operand-preserved c =
    let b = sum_more operand_words plain_operand c.as_slice-operands.result.now c.loop-operand.operand-index
    (code.OfType 0) c.loop-operand-test.true in
    let i = c.loop-operand.invariant in
    omega (arith, b, i)
