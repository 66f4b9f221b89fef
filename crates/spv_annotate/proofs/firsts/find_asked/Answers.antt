use Rattle.std.proofs.Common.{◌≡◌, ◌∙◌, ap, arith, get_or, map}
use Rattle.spv_module.specs.Module.{plain_inst}
use Rattle.spv_annotate.proofs.Asked.{all_below}
use Rattle.spv_annotate.proofs.Outlines.{plain_at}
use Rattle.spv_annotate.proofs.Small.{plain_length}
use Rattle.spv_annotate.proofs.firsts.find_asked.Goals as goal

pub keep_asked-requires-clause-function : goal.keep_asked-requires-clause-function
keep_asked-requires-clause-function c =
    let n = c.loop-at.at in
    let o = ap (λ i. i.opcode) (plain_at c.args.insts.now n c.index-insts-at.result c.loop-at-test.true) in
    c.function_at-function.ensures (map plain_inst c.args.insts.now) o c.loop-at.invariant.function

pub loop-at-preserved : goal.loop-at-preserved
loop-at-preserved c =
    let n = c.loop-at.at in
    let is = map plain_inst c.args.insts.now in
    let o = ap (λ i. i.opcode) (plain_at c.args.insts.now n c.index-insts-at.result c.loop-at-test.true) in
    record {
      first = c.in_ok-keep_asked.ensures;
      function = c.function_behind-before.ensures is n o
          (c.function_at-function.ensures is o c.loop-at.invariant.function);
    }

pub returns : goal.returns
returns c = λ x.
    let is = map plain_inst c.args.insts.now in
    let p = plain_length c.args.insts.now in
    let t = c.loop-at-test.false in
    c.loop-at.invariant.first x ∙ all_below is c.args.asked c.loop-at.at x (omega (arith, p, t))
