use Rattle.std.proofs.Common.{◌≡◌, ◌++◌, ◌∙◌, ◌<◌, ◌-◌, ap, arith, length, take, get_or, string_bytes}
use Rattle.std.proofs.lemmas.Str.{IsCharBoundary-after_ascii}
use Rattle.spv_printer.proofs.Texts.{on_pushed}
use Rattle.spv_annotate.specs.Html.{escaped}
use Rattle.spv_annotate.proofs.Escapes.{escaped_more, escaped_end, marked_ascii}
use Rattle.spv_annotate.proofs.html.push_escaped.Goals as goal

pub range_from-rest-requires : goal.range_from-rest-requires
range_from-rest-requires c = λ _.
    let v = c.as_bytes.ensures.value in
    let u = rw v at c.as_bytes.ensures.utf8 in
    let m = rw v at c.in-Some.ensures in
    let l : c.in-Some.at < length c.loop-at.rest.now = m.0.high in
    IsCharBoundary-after_ascii c.loop-at.rest.now c.in-Some.at u l
    (marked_ascii (get_or c.loop-at.rest.now c.in-Some.at 0) m.1)

pub loop-at-preserved : goal.loop-at-preserved
loop-at-preserved c =
    let v = c.as_bytes.ensures.value in
    let m = rw v at c.in-Some.ensures in
    let place = c.in-Some.at in
    let xs = c.loop-at.rest.now in
    let e = rw c.as_bytes-in-Some.ensures.value at c.reference.ensures in
    let z : place - 0 ≡ place = omega arith in
    let r : c.range.result.now ≡ take place xs = c.range.ensures.value ∙ ap (λ n. take n xs) z in (
      c.range_from-rest.utf8,
      rw c.range_from-rest.ensures.value
          (escaped_more xs place (string_bytes c.args.out.now ++ escaped c.args.text.now) (string_bytes c.loop-at.out)
          (string_bytes c.push_str-in-Some.new.self) c.reference.result.now m.0.high
          (λ k l. m.0.before k (omega arith) l) (e m.1) c.loop-at.invariant.1
          (c.in_ok-push_str-2.ensures.bytes
          ∙ ap (λ z. z ++ c.reference.result.now)
          (c.in_ok-push_str.ensures.bytes ∙ ap (λ z. string_bytes c.loop-at.out ++ z) r))),
    )

pub returns : goal.returns
returns c =
    let m = rw c.as_bytes.ensures.value at c.in_default.ensures in
    on_pushed c.push_str-2.result _ (string_bytes c.push_str-2.new.self)
    (string_bytes c.loop-at.out) c.loop-at.rest.now c.push_str-2.ensures.bytes
    (escaped_end c.loop-at.rest.now (string_bytes c.args.out.now ++ escaped c.args.text.now)
    (string_bytes c.loop-at.out) (string_bytes c.push_str-2.new.self)
    (λ k l. m k (omega arith) l) c.loop-at.invariant.1)
