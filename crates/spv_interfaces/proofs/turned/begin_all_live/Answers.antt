use Rattle.std.proofs.Common.{◌≡◌, ◌∙◌, ℕ, get_or, length, subst, arith}
use Rattle.std.proofs.lemmas.Option.{slice_get-get_or}
use Rattle.spv_interfaces.specs.inner.Turned.{AreBegun}
use Rattle.spv_interfaces.proofs.Turning.{begun_more, begun_none}
use Rattle.spv_interfaces.proofs.turned.begin_all_live.Goals as goal

pub loop-number-init : goal.loop-number-init
loop-number-init c = record {
  count = c.requires.count;
  begun = begun_none c.args.definitions.now c.args.entries.now c.args.live.now.items;
}

pub begin_live-requires : goal.begin_live-requires
begin_live-requires c =
    let entries = c.args.entries.now in
    let k = c.loop-number.number-index in
    c.requires.within k (get_or entries k 0) (slice_get-get_or entries k 0 c.loop-number-test.true)

pub loop-number-preserved : goal.loop-number-preserved
loop-number-preserved c =
    let entries = c.args.entries.now in
    let k = c.loop-number.number-index in
    record {
      count = c.begin_live.ensures.count ∙ c.loop-number.invariant.count;
      begun = begun_more c.args.definitions.now entries k (get_or entries k 0) c.loop-number.live.items
          c.begin_live.new.live.items (slice_get-get_or entries k 0 c.loop-number-test.true)
          c.loop-number.invariant.count c.begin_live.ensures c.loop-number.invariant.begun;
    }

pub returns-clause-begun : goal.returns-clause-begun
returns-clause-begun c =
    let t = c.loop-number-test.false in
    let u = c.loop-number.auto.number-index-end in
    let e : c.loop-number.number-index ≡ length c.args.entries.now = omega (arith, t, u) in
    subst (λ (n : ℕ). AreBegun c.args.definitions.now c.args.entries.now n c.loop-number.live.items) e
    c.loop-number.invariant.begun
