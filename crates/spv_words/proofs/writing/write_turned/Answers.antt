use Rattle.std.proofs.Common.{arith, ◌≡◌, ◌+◌, ◌-◌, length}
use Rattle.spv_words.specs.Words.{turned}
use Rattle.spv_words.proofs.Written.{turned_step, turned_begun, written_all}
use Rattle.spv_words.proofs.Standing.{length-turned}
use Rattle.spv_words.proofs.writing.write_turned.Goals as goal

pub loop-at-preserved : goal.loop-at-preserved
loop-at-preserved g c =
    turned_step _ _ _ _ _ _ c.args.bytes.now c.turn_into.new.into c.loop-at.at c.min-size.result (c.loop-at.at + c.min-size.result - c.loop-at.at)
    c.loop-at.invariant c.requires c.min-size.ensures (omega arith) c.turn_into.ensures c.in_ok-write_all.ensures.all c.in_ok-write_all.ensures.steady

pub returns-in_err-write_all-clause-begun : goal.returns-in_err-write_all-clause-begun
returns-in_err-write_all-clause-begun g c =
    turned_begun _ _ _ _ _ c.args.bytes.now c.turn_into.new.into c.loop-at.at c.min-size.result (c.loop-at.at + c.min-size.result - c.loop-at.at)
    c.loop-at.invariant c.requires c.min-size.ensures (omega arith) c.turn_into.ensures c.in_err-write_all.ensures.begun

pub returns-clause-all : goal.returns-clause-all
returns-clause-all g c =
    let long : length (turned c.args.bytes.now) ≡ length c.args.bytes.now = length-turned c.args.bytes.now c.requires in
    let past = c.loop-at-test.false in
    written_all _ _ _ c.loop-at.at c.loop-at.invariant.written (omega arith)
