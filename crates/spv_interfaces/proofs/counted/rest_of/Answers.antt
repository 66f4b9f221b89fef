use Rattle.std.proofs.Common.{◌≡◌, ℕ, inl, get_or, length, subst, arith}
use Rattle.std.proofs.lemmas.Option.{slice_get-get_or}
use Rattle.spv_interfaces.specs.declared.used.Use.{Use}
use Rattle.spv_interfaces.specs.inner.Counted.{AreRest}
use Rattle.spv_interfaces.proofs.Counting.{known_more, rest_more, rest_none}
use Rattle.spv_interfaces.proofs.counted.rest_of.Goals as goal

pub loop-found-init : goal.loop-found-init
loop-found-init c = record {
  known = λ v h. inl h;
  rest = rest_none c.args.uses.now c.args.counts.now.items _ c.args.all;
}

pub loop-found-preserved : goal.loop-found-preserved
loop-found-preserved c =
    let uses = c.args.uses.now in
    let i = c.loop-found.found-index in
    let d : Use = record { function = 0; variable = 0 } in
    let u = get_or uses i d in
    let first = c.args.counts.now.items in
    let old = c.loop-found.counts.items in
    let new = c.settle.new.counts.items in
    let less = c.loop-found.rest.items in
    let more = c.settle.new.rest.items in
    let s = c.in_ok-settle.ensures in
    let k = c.loop-found.invariant.known in
    record {
      known = known_more uses first old new less more c.args.all i u s k;
      rest = rest_more uses first old new less more c.args.all i u s k
          (slice_get-get_or uses i d c.loop-found-test.true) c.loop-found.invariant.rest;
    }

pub returns : goal.returns
returns c =
    let uses = c.args.uses.now in
    let t = c.loop-found-test.false in
    let u = c.loop-found.auto.found-index-end in
    let e : c.loop-found.found-index ≡ length uses = omega (arith, t, u) in
    subst (λ (n : ℕ). AreRest uses c.args.counts.now.items c.args.all n c.loop-found.rest.items) e
    c.loop-found.invariant.rest
