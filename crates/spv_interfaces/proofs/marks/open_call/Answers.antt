use Rattle.std.proofs.Common.{ℕ}
use Rattle.std.proofs.lemmas.Option.{slice_get-get_or}
use Rattle.spv_flow.proofs.lemmas.calls.Lists.{each_more, each_all}
use Rattle.spv_interfaces.specs.inner.Marks.{IsMarked}
use Rattle.spv_interfaces.proofs.Marking.{closed_by}
use Rattle.spv_interfaces.proofs.marks.open_call.Goals as goal

pub returns-then-is_open : goal.returns-then-is_open
returns-then-is_open c =
    let t = c.is_open.ensures.0 c.if-is_open.true in
    record {
      place = c.loop-call.call-index;
      there = slice_get-get_or c.args.calls.now c.loop-call.call-index _ c.loop-call-test.true;
      bit = t.0;
      from = t.1;
      to = t.2;
      fits = (c.type_inv.words _).fits;
    }

pub loop-call-preserved : goal.loop-call-preserved
loop-call-preserved c =
    let words = c.args.words.now in
    each_more (λ k d. (b : ℕ) → IsMarked words d.caller b → IsMarked words d.callee b) c.args.calls.now
    c.loop-call.call-index _ c.loop-call-test.true c.loop-call.invariant
    (closed_by _ _ (λ t. let h = c.is_open.ensures.1 t in let g = c.if-is_open.false in cc))

pub returns : goal.returns
returns c =
    let words = c.args.words.now in
    record {
      each = each_all (λ k d. (b : ℕ) → IsMarked words d.caller b → IsMarked words d.callee b) c.args.calls.now
          c.loop-call.call-index c.loop-call-test.false c.loop-call.invariant;
    }
