use Rattle.std.proofs.Common.{◌≡◌, ◌∙◌, arith, max, refl, rules}
use Rattle.spv_streams.proofs.Parts.{begins, cut_on, ends_on, part_on}
use Rattle.spv_streams.proofs.each.each_by.Goals as goal

pub loop-number-init : goal.loop-number-init
loop-number-init g c = (begins c.args.table.now c.args.how (g.F.Files.known c.args.files.now) _ _ _ _, λ n. refl)

pub returns-then-not-write_on-clause-ends : goal.returns-then-not-write_on-clause-ends
returns-then-not-write_on-clause-ends g c = λ text given.
    let at = c.loop-number.number in
    let part = rw (c.loop-number.invariant.1 at, ← c.as_slice.ensures.value) at c.part_of-part.ensures.part in
    cut_on text _ _ _ c.args.names.now at _ _ _ _ _ _ _ _ _ _ _ _ _ _ _ _ _ _ _ _ _ _ _ given c.loop-number-test.true
    refl
    c.loop-number.invariant.0 part c.tell-told.ensures c.if-not-write_on.ensures c.write_on-then-not-write_on.ensures

pub loop-number-preserved : goal.loop-number-preserved
loop-number-preserved g c =
    let at = c.loop-number.number in
    let part = rw (c.loop-number.invariant.1 at, ← c.as_slice.ensures.value) at c.part_of-part.ensures.part in
    let status : c.max-status.result ≡ max c.loop-number.status c.part_of-part.result.status = search rules in (
      part_on _ _ _ c.args.names.now at _ _ _ _ _ _ _ _ _ _ _ _ _ _ _ _ _ _ _ _ _
          c.loop-number-test.true refl c.loop-number.invariant.0 part c.part_of-part.ensures.small status
          c.tell-told.ensures c.if-not-write_on.ensures,
      λ n. c.part_of-part.ensures.kept n ∙ c.loop-number.invariant.1 n,
    )

pub returns-clause-ends : goal.returns-clause-ends
returns-clause-ends g c = λ text given.
    ends_on text _ _ _ c.args.names.now c.loop-number.number _ _ _ _ _ _ _ _ _ _ given
    (omega (arith, c.loop-number-test.false)) c.loop-number.invariant.0
