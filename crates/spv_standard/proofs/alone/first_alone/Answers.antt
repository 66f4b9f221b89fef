use Rattle.std.proofs.Common.{◌≤◌, None, length, arith, refl}
use Rattle.spv_standard.proofs.Singles.{first_here, none_alone, none_further, nothing_at}
use Rattle.spv_standard.proofs.alone.first_alone.Goals as goal

pub loop-number-init : goal.loop-number-init
loop-number-init c = (
  λ minor late. (
    λ r m s l b. absurd (omega (arith, l)),
    c.new-notes.ensures c.args.capabilities.now.table minor c.args.definitions.now c.args.late.now,
  ),
  c.new-counts.ensures c.args.definitions.now,
)

pub found_by_all-requires-clause-counted : goal.found_by_all-requires-clause-counted
found_by_all-requires-clause-counted c = c.loop-number.invariant.1

pub returns-in-Some : goal.returns-in-Some
returns-in-Some c = λ minor late.
    let G = c.args.capabilities.now.table in
    let is = c.args.definitions.now in
    let n = c.loop-number.number in
    let inv = c.loop-number.invariant.0 minor late in
    let asked = c.asked_at-asked.ensures.asked G minor is n late c.requires.fit inv.1 c.inst.ensures in
    let found = c.in_ok-found.ensures minor late asked in
    first_here G minor is n c.in_ok-found.field-0 c.in-Some.found c.in-Some.is found.0 inv.0

pub loop-number-preserved : goal.loop-number-preserved
loop-number-preserved c =
    let G = c.args.capabilities.now.table in
    let is = c.args.definitions.now in
    let n = c.loop-number.number in (
      λ minor late.
          let inv = c.loop-number.invariant.0 minor late in
          let asked = c.asked_at-asked.ensures.asked G minor is n late c.requires.fit inv.1 c.inst.ensures in
          let found = c.in_ok-found.ensures minor late asked in (
            none_further G minor is n c.in_ok-found.field-0 c.in_default.is found.0 inv.0,
            c.asked_at-asked.ensures.noted G minor is late c.requires.fit inv.1,
          ),
      let minor = c.requires.late.0 in
          let late = c.requires.late.1 in
          let inv = c.loop-number.invariant.0 minor late in
          let asked = c.asked_at-asked.ensures.asked G minor is n late c.requires.fit inv.1 c.inst.ensures in
          (c.in_ok-found.ensures minor late asked).1 c.in_default.is,
    )

pub loop-number-preserved-then-is_nothing : goal.loop-number-preserved-then-is_nothing
loop-number-preserved-then-is_nothing c =
    let G = c.args.capabilities.now.table in
    let is = c.args.definitions.now in
    let n = c.loop-number.number in
    let q = c.is_nothing.ensures c.if-is_nothing.true in (
      λ minor late.
          let inv = c.loop-number.invariant.0 minor late in
          let asked = c.asked_at-asked.ensures.asked G minor is n late c.requires.fit inv.1 c.inst.ensures in
          let h = nothing_at G minor is n c.asked_at-asked.result c.loop-number.counts asked q.0 q.1 q.2
          c.loop-number.invariant.1 in (
            none_further G minor is n None refl h.0 inv.0,
            c.asked_at-asked.ensures.noted G minor is late c.requires.fit inv.1,
          ),
      let minor = c.requires.late.0 in
          let late = c.requires.late.1 in
          let inv = c.loop-number.invariant.0 minor late in
          let asked = c.asked_at-asked.ensures.asked G minor is n late c.requires.fit inv.1 c.inst.ensures in
          (nothing_at G minor is n c.asked_at-asked.result c.loop-number.counts asked q.0 q.1 q.2
          c.loop-number.invariant.1).1,
    )

pub returns : goal.returns
returns c = λ minor late.
    let is = c.args.definitions.now in
    let t = c.loop-number-test.false in
    let e = c.requires.count in
    let past : length is ≤ c.loop-number.number = omega (arith, t, e) in
    none_alone c.args.capabilities.now.table minor is c.loop-number.number past
    (c.loop-number.invariant.0 minor late).0
