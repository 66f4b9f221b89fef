use Rattle.std.proofs.Common.{◌≡◌, ◌++◌, ◌∙◌, ◌<◌, ◌-◌, ap, arith, length, take, get_or, string_bytes}
use Rattle.std.proofs.lemmas.Str.{IsCharBoundary-after_ascii}
use Rattle.spv_lines.specs.Operand.{quoted}
use Rattle.spv_printer.proofs.Escapes.{quoted_more, quoted_end, marked_ascii}
use Rattle.spv_printer.proofs.quoted.push_quoted.Goals as goal

pub range_from-rest-requires : goal.range_from-rest-requires
range_from-rest-requires c = λ _.
    let v = c.as_bytes.ensures.value in
    let u = rw v at c.as_bytes.ensures.utf8 in
    let m = rw v at c.in-Some.ensures in
    let l : c.in-Some.at < length c.loop-at.rest.now = m.0.high in
    IsCharBoundary-after_ascii c.loop-at.rest.now c.in-Some.at u l
    (marked_ascii (get_or c.loop-at.rest.now c.in-Some.at 0) m.1)

pub loop-at-preserved : goal.loop-at-preserved
loop-at-preserved c =
    let v = c.as_bytes.ensures.value in
    let m = rw v at c.in-Some.ensures in
    let place = c.in-Some.at in
    let xs = c.loop-at.rest.now in
    let e = rw c.as_bytes-in-Some.ensures.value at c.escape_of.ensures in
    let z : place - 0 ≡ place = omega arith in
    let r : c.range.result.now ≡ take place xs = c.range.ensures.value ∙ ap (λ n. take n xs) z in (
      c.range_from-rest.utf8,
      rw c.range_from-rest.ensures.value
          (quoted_more xs place (string_bytes c.args.out.now ++ quoted c.args.text.now) (string_bytes c.loop-at.out)
          (string_bytes c.push_str-in-Some.new.self) c.escape_of.result.now m.0.high
          (λ k l. m.0.before k (omega arith) l) (e m.1) c.loop-at.invariant.1
          (c.in_ok-push_str-2.ensures.bytes
          ∙ ap (λ z. z ++ c.escape_of.result.now)
          (c.in_ok-push_str.ensures.bytes ∙ ap (λ z. string_bytes c.loop-at.out ++ z) r))),
    )

pub returns : goal.returns
returns c =
    let m = rw c.as_bytes.ensures.value at c.in_default.ensures in
    quoted_end c.loop-at.rest.now (string_bytes c.args.out.now ++ quoted c.args.text.now) (string_bytes c.loop-at.out)
    (string_bytes c.push_str-2.new.self) (string_bytes c.push-2.new.self) (λ k l. m k (omega arith) l)
    c.loop-at.invariant.1 c.in_ok-push_str-3.ensures.bytes
    (c.in_ok-push-2.ensures.bytes ∙ ap (λ z. string_bytes c.push_str-2.new.self ++ z)
    (c.in_ok-push-2.ensures.ascii (omega arith)))
