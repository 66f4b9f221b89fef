use Rattle.std.proofs.Common.{◌≡◌, ◌++◌, ◌∙◌, ◌-◌, ap, arith, take, drop, flat_map, string_bytes}
use Rattle.spv_lines.specs.Plain.{escaped, plain_of}
use Rattle.spv_lines.specs.inner.Control.{control_size}
use Rattle.spv_lines.proofs.Escapes.{begins_char, ends_char, plain_end, plain_more, tail}
use Rattle.spv_lines.proofs.plain.push_plain.Goals as goal

pub range-requires-clause-end_boundary : goal.range-requires-clause-end_boundary
range-requires-clause-end_boundary c =
    let m = rw c.as_bytes.ensures.value at c.in-Some.ensures in
    begins_char c.loop-at.rest.now c.in-Some.at m.within m.there

pub range_from-rest-requires : goal.range_from-rest-requires
range_from-rest-requires c = λ _.
    let v = c.as_bytes.ensures.value in
    let u = rw v at c.as_bytes.ensures.utf8 in
    let m = rw v at c.in-Some.ensures in
    let s = (rw c.as_bytes-in-Some.ensures.value at c.in_ok-size.ensures.size)
    ∙ ap control_size (tail c.loop-at.rest.now c.in-Some.at) in
    ends_char c.loop-at.rest.now c.in-Some.at c.in_ok-size.size u m.within m.there s

pub loop-at-preserved : goal.loop-at-preserved
loop-at-preserved c =
    let v = c.as_bytes.ensures.value in
    let m = rw v at c.in-Some.ensures in
    let place = c.in-Some.at in
    let xs = c.loop-at.rest.now in
    let s = (rw c.as_bytes-in-Some.ensures.value at c.in_ok-size.ensures.size)
    ∙ ap control_size (tail c.loop-at.rest.now c.in-Some.at) in
    let e = (rw c.as_bytes-in-Some.ensures.value at c.in_ok-size.ensures.added)
    ∙ ap (λ z. string_bytes c.push_str.new.self ++ flat_map escaped (take c.in_ok-size.size z)) (tail xs place) in
    let z : place - 0 ≡ place = omega arith in
    let r : c.range.result.now ≡ take place xs = c.range.ensures.value ∙ ap (λ n. take n xs) z in (
      c.range_from-rest.utf8,
      rw c.range_from-rest.ensures.value
          (plain_more xs place c.in_ok-size.size (string_bytes c.args.out.now ++ plain_of c.args.text.now)
          (string_bytes c.loop-at.out) (string_bytes c.push_control.new.out) m s
          c.loop-at.invariant.1 (e ∙ ap (λ z. z ++ flat_map escaped (take c.in_ok-size.size (drop place xs)))
          (c.in_ok-push_str.ensures.bytes ∙ ap (λ z. string_bytes c.loop-at.out ++ z) r))),
    )

pub returns : goal.returns
returns c =
    let m = rw c.as_bytes.ensures.value at c.in_default.ensures in
    plain_end c.loop-at.rest.now (string_bytes c.args.out.now ++ plain_of c.args.text.now) (string_bytes c.loop-at.out)
    (string_bytes c.push_str-2.new.self) m c.loop-at.invariant.1 c.in_ok-push_str-2.ensures.bytes
