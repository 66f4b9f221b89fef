use Rattle.std.proofs.Common.{◌∙◌, ◌++◌, ap, arith, length-take-le, take}
use Rattle.std.proofs.lemmas.List.{take-take}
use Rattle.spv_printer.proofs.Drafts.{front_copied}
use Rattle.spv_annotate.proofs.Drafts.{added_by}
use Rattle.spv_annotate.proofs.drafted.add_word.Goals as goal

pub returns-clause-added : goal.returns-clause-added
returns-clause-added c =
    let text = c.args.text.now in
    let n = c.args.count in
    let l = length-take-le 16 text c.requires.padded in
    let low = c.requires.count in
    let old = take c.args.at c.args.buffer.now in
    added_by (take n text) _ _ c.args.buffer.now _ (rw c.copy_from_slice.ensures.after
    (front_copied c.args.buffer.now (take 16 text) _ c.args.at n (omega (arith, c.requires)) (omega (arith, l, low))
    ∙ ap (λ z. old ++ z) (take-take n 16 text low)))
    c.requires.utf8
