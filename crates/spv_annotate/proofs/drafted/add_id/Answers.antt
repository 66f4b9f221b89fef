use Rattle.std.proofs.Common.{◌≡◌, ◌+◌, ◌∙◌, ap, length, subst, sym, take}
use Rattle.std.specs.Prelude.{IsUtf8}
use Rattle.std.specs.List.{prefix_len}
use Rattle.std.proofs.lemmas.List.{take-take}
use Rattle.spv_lines.specs.Digits.{is_digit}
use Rattle.spv_printer.proofs.Shorts.{ascii_utf8}
use Rattle.spv_annotate.specs.Page.{id_of}
use Rattle.spv_annotate.specs.inner.Numbers.{kept}
use Rattle.spv_annotate.proofs.Fronts.{front_id, word_ascii, word_within}
use Rattle.spv_annotate.proofs.Parts.{all_behind}
use Rattle.spv_annotate.proofs.drafted.add_id.Goals as goal

pub add_link-end-requires-clause-utf8 : goal.add_link-end-requires-clause-utf8
add_link-end-requires-clause-utf8 c =
    let xs = c.args.line.now in
    let k = c.in_ok-lean.lean.count in
    let e = c.in_ok-lean.ensures.count ∙ ap (prefix_len is_digit) (all_behind xs) in
    let l = word_within xs k c.in-len1-up.len_at_least e in
    let w : take (1 + k) c.args.padded.now ≡ take (1 + k) xs = sym (take-take (1 + k) (length xs) c.args.padded.now l)
    ∙ ap (take (1 + k)) c.requires.line in
    subst IsUtf8 (sym w) (ascii_utf8 (take (1 + k) xs)
    (word_ascii xs k c.in-len1-up.len_at_least c.if-first-ne37.false e))

pub returns-clause-front : goal.returns-clause-front
returns-clause-front c =
    let xs = c.args.line.now in
    let k = c.in_ok-lean.lean.count in
    let e = c.in_ok-lean.ensures.count ∙ ap (prefix_len is_digit) (all_behind xs) in
    let l = word_within xs k c.in-len1-up.len_at_least e in
    let w : take (1 + k) c.args.padded.now ≡ take (1 + k) xs = sym (take-take (1 + k) (length xs) c.args.padded.now l)
    ∙ ap (take (1 + k)) c.requires.line in
    let i = c.in_ok-lean.ensures.id ∙ ap (λ y. id_of (take k y)) (all_behind xs) in
    front_id (kept c.args.definitions.now) xs
    (take (1 + k) c.args.padded.now) k c.in_ok-lean.lean.id c.in_ok-inst.inst c.args.at c.add_link-end.result
    c.args.buffer.now c.add_link-end.new.buffer
    c.in-len1-up.len_at_least c.if-first-ne37.false e i c.in_ok-inst.ensures w c.add_link-end.ensures.added
