use Rattle.std.proofs.Common.{◌≡◌, ◌++◌, ◌+◌, ◌-◌, ◌∙◌, ℕ, List, OnOk, ap, arith, drop, length, subst, take}
use Rattle.std.proofs.Common.{string_bytes}
use Rattle.std.specs.List.{prefix_len}
use Rattle.spv_lines.specs.Digits.{is_digit}
use Rattle.spv_annotate.specs.Page.{digits_in}
use Rattle.spv_annotate.specs.inner.Numbers.{kept}
use Rattle.spv_annotate.proofs.Parts.{all_behind, id_ends, part_whole, word_front}
use Rattle.spv_annotate.proofs.linked.push_part.Goals as goal

pub range-requires-clause-end_boundary : goal.range-requires-clause-end_boundary
range-requires-clause-end_boundary c =
    let v = c.as_bytes.ensures.value in
    id_ends c.args.part.now c.digit_count-size.result (rw v at c.as_bytes.ensures.utf8)
    (rw v at c.in-len1-up.len_at_least) (rw v at c.if-first-ne37.false)
    (let k = rw v at c.digit_count-size.ensures.count in k ∙ ap (prefix_len is_digit) (all_behind c.args.part.now))
    (let k = rw v at c.digit_count-size.ensures.within in let e = ap length (all_behind c.args.part.now) in
    omega (arith, k, e))

pub range_from-requires : goal.range_from-requires
range_from-requires c = λ _.
    let v = c.as_bytes.ensures.value in
    id_ends c.args.part.now c.digit_count-size.result (rw v at c.as_bytes.ensures.utf8)
    (rw v at c.in-len1-up.len_at_least) (rw v at c.if-first-ne37.false)
    (let k = rw v at c.digit_count-size.ensures.count in k ∙ ap (prefix_len is_digit) (all_behind c.args.part.now))
    (let k = rw v at c.digit_count-size.ensures.within in let e = ap length (all_behind c.args.part.now) in
    omega (arith, k, e))

pub returns : goal.returns
returns c =
    let v = c.as_bytes.ensures.value in
    let d = kept c.args.definitions.now in
    let xs = c.args.part.now in
    let n = c.digit_count-size.result in
    let z : (1 + n) - 0 ≡ 1 + n = omega arith in
    let l = rw v at c.in-len1-up.len_at_least in
    let f = rw v at c.if-first-ne37.false in
    let e = (let k = rw v at c.digit_count-size.ensures.count in k ∙ ap (prefix_len is_digit) (all_behind xs)) in
    let w = c.range.ensures.value ∙ ap (λ k. take k xs) z in
    let h = c.push_id.ensures (digits_in (drop 1 xs)) (word_front xs n c.range.result.now l f e w) in
    subst (λ (t : List ℕ). OnOk c.push_id.result (string_bytes c.push_id.new.out ≡ string_bytes c.args.out.now ++ t))
    (part_whole d xs n c.range.result.now c.range_from.result.now l f e w c.range_from.ensures.value) h
