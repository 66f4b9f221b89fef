use Rattle.std.proofs.Common.{◌≤◌, ◌+◌, ◌-◌, take, drop, length, arith}
use Rattle.std.proofs.lemmas.Option.{slice_get_within}
use Rattle.spv_interfaces.specs.inner.Entries.{IsUnnamed}
use Rattle.spv_interfaces.proofs.Naming.{first_in_part, none_in_part, part_back, part_length, part_to}
use Rattle.spv_interfaces.proofs.named.first_missing.Goals as goal

pub loop-at-init : goal.loop-at-init
loop-at-init c = record { fresh = c.requires.fresh; before = λ G minor used k m l. absurd (omega (arith, l)) }

pub first_of_few-requires-clause-within : goal.first_of_few-requires-clause-within
first_of_few-requires-clause-within c = λ k n h.
    let at = c.loop-at.at in
    c.requires.within (at + k) n (part_to c.args.entries.now at (c.min-to.result - at) k n h)

pub returns-in-Some : goal.returns-in-Some
returns-in-Some c = λ G minor used.
    let entries = c.args.entries.now in
    let at = c.loop-at.at in
    let n = c.min-to.result - at in
    let h = rw c.in-Some.is at (c.first_of_few.ensures.first G minor used) in
    first_in_part (IsUnnamed G minor c.args.definitions.now) entries (take n (drop at entries)) at c.in-Some.number
    (part_to entries at n) (part_back entries at n) (c.loop-at.invariant.before G minor used) h

pub loop-at-preserved : goal.loop-at-preserved
loop-at-preserved c =
    let entries = c.args.entries.now in
    let at = c.loop-at.at in
    let to = c.min-to.result in
    let n = to - at in
    let m = c.min-to.ensures in
    let t = c.loop-at-test.true in
    let a : at ≤ to = omega (arith, m, t) in
    let b : to ≤ length entries = omega (arith, m) in
    record {
      fresh = c.first_of_few.ensures.fresh;
      before = λ G minor used.
          let h = rw c.in_default.is at (c.first_of_few.ensures.first G minor used) in
          none_in_part (IsUnnamed G minor c.args.definitions.now) entries (take n (drop at entries)) at to
          (part_back entries at n) (part_length entries at to a b) (c.loop-at.invariant.before G minor used) h;
    }

pub returns : goal.returns
returns c = λ G minor used k n h.
    let w = slice_get_within c.args.entries.now k n h in
    let t = c.loop-at-test.false in
    c.loop-at.invariant.before G minor used k n (omega (arith, w, t)) h
