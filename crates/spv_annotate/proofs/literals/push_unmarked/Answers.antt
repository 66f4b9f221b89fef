use Rattle.std.proofs.Common.{◌≡◌, ◌<◌, ◌+◌, ◌-◌, ◌∙◌, ◌++◌, ap, arith, drop, length, string_bytes, sym, take}
use Rattle.std.proofs.lemmas.Grind.{common_steps}
use Rattle.spv_annotate.proofs.Told.{behind_boundary, mark_boundary, unmarked_end, unmarked_more}
use Rattle.spv_annotate.proofs.literals.push_unmarked.Goals as goal

pub range-requires-clause-end_boundary : goal.range-requires-clause-end_boundary
range-requires-clause-end_boundary c =
    let v = c.as_bytes.ensures.value in
    mark_boundary c.loop-rest.rest.now c.size_until_id-size.result (rw v at c.size_until_id-size.ensures.size)
    (rw v at c.size_until_id-size.ensures.within)

pub returns-then-size-rest : goal.returns-then-size-rest
returns-then-size-rest c =
    let v = c.as_bytes.ensures.value in
    let xs = c.loop-rest.rest.now in
    let k = c.size_until_id-size.result in
    let z : k - 0 ≡ k = omega arith in
    let r : c.range.result.now ≡ take k xs = c.range.ensures.value ∙ ap (λ n. take n xs) z in
    let out = string_bytes c.loop-rest.out in
    unmarked_end c.args.signature c.loop-rest.count k xs _ out (string_bytes c.push_str.new.self)
    (rw v at c.size_until_id-size.ensures.size) c.if-size-rest.true
    c.loop-rest.invariant.all (c.in_ok-push_str.ensures.bytes ∙ ap (λ t. out ++ t) r)

pub range_from-behind-requires : goal.range_from-behind-requires
range_from-behind-requires c = λ _.
    let v = c.as_bytes.ensures.value in
    let w = rw v at c.size_until_id-size.ensures.within in
    let n = c.if-size-rest.false in
    behind_boundary c.loop-rest.rest.now c.size_until_id-size.result (rw v at c.as_bytes.ensures.utf8)
    (rw v at c.size_until_id-size.ensures.size) (omega (arith, w, n))

pub loop-rest-preserved : goal.loop-rest-preserved
loop-rest-preserved c =
    let v = c.as_bytes.ensures.value in
    let xs = c.loop-rest.rest.now in
    let k = c.size_until_id-size.result in
    let z : k - 0 ≡ k = omega arith in
    let r : c.range.result.now ≡ take k xs = c.range.ensures.value ∙ ap (λ n. take n xs) z in
    let out = string_bytes c.loop-rest.out in
    let w = rw v at c.size_until_id-size.ensures.within in
    let n = c.if-size-rest.false in
    let b = c.range_from-behind.ensures.value in
    let l = ap length b in
    let few = c.loop-rest.invariant.few in
    record {
      text = c.range_from-behind.utf8;
      few = grind (arith, common_steps);
      all = rw b (unmarked_more c.args.signature c.loop-rest.count k xs _ out (string_bytes c.push_str.new.self)
          (string_bytes c.push_mark.new.out)
          (rw v at c.size_until_id-size.ensures.size) (omega (arith, w, n)) c.loop-rest.invariant.all
          (c.in_ok-push_str.ensures.bytes ∙ ap (λ t. out ++ t) r)
          (rw (b, c.is_literal_at.ensures) at c.in_ok-push_mark.ensures));
    }
