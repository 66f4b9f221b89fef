use Rattle.std.proofs.Common.{◌≡◌, ◌++◌, ◌-◌, ◌∙◌, ap, arith, take, string_bytes}
use Rattle.spv_annotate.specs.Page.{linked, part_html}
use Rattle.spv_annotate.specs.inner.Numbers.{kept}
use Rattle.spv_annotate.proofs.Parts.{part_ends, linked_more, some_left}
use Rattle.spv_annotate.proofs.linked.push_linked.Goals as goal

pub range-requires-clause-end_boundary : goal.range-requires-clause-end_boundary
range-requires-clause-end_boundary c =
    let v = c.as_bytes.ensures.value in
    part_ends c.args.quoting c.loop-rest.rest.now c.part_size-size.result (rw v at c.part_size-size.ensures.size)
    (rw v at c.part_size-size.ensures.within)

pub range_from-rest-requires : goal.range_from-rest-requires
range_from-rest-requires c = λ _.
    let v = c.as_bytes.ensures.value in
    part_ends c.args.quoting c.loop-rest.rest.now c.part_size-size.result (rw v at c.part_size-size.ensures.size)
    (rw v at c.part_size-size.ensures.within)

pub loop-rest-preserved : goal.loop-rest-preserved
loop-rest-preserved c =
    let v = c.as_bytes.ensures.value in
    let xs = c.loop-rest.rest.now in
    let n = c.part_size-size.result in
    let d = kept c.args.definitions.now in
    let z : n - 0 ≡ n = omega arith in
    let r : c.range.result.now ≡ take n xs = c.range.ensures.value ∙ ap (λ k. take k xs) z in (
      c.range_from-rest.utf8,
      rw c.range_from-rest.ensures.value
          (linked_more d c.args.quoting xs (string_bytes c.args.out.now ++ linked d c.args.quoting c.args.line.now)
          (string_bytes c.loop-rest.out) (string_bytes c.push_part.new.out) n
          c.requires (some_left xs c.loop-rest-test.ensures)
          (rw v at c.part_size-size.ensures.size) c.loop-rest.invariant.1
          (c.in_ok-push_part.ensures ∙ ap (λ k. string_bytes c.loop-rest.out ++ part_html d k) r)),
    )
