use Rattle.std.proofs.Common.{◌≡◌, ◌∙◌, ◌++◌, ◌+◌, ◌-◌, refl, ap, arith, drop, length, take, length-drop}
use Rattle.std.proofs.Common.{length-take-le}
use Rattle.std.proofs.lemmas.List.{take-take}
use Rattle.spv_printer.proofs.Drafts.{front_copied, piece_taken}
use Rattle.spv_annotate.proofs.Buffers.{number_utf8}
use Rattle.spv_annotate.proofs.Drafts.{added_by}
use Rattle.spv_annotate.proofs.draft.add_number.Goals as goal

pub returns-clause-added : goal.returns-clause-added
returns-clause-added c =
    let start = c.put_number-start.result in
    let token = c.put_number-start.new.buffer in
    let low = c.put_number-start.ensures.low in
    let size = c.put_number-start.ensures.size in
    let k : length token ≡ 32 = omega (arith, c.put_number-start.auto.buffer) in
    let l = length-take-le 16 (drop start token) (let d = length-drop start token in omega (arith, d, size, k)) in
    let old = take c.args.at c.args.buffer.now in
    let e : start + 16 - start ≡ 16 = omega arith in
    added_by _ _ _ c.args.buffer.now _ (rw (c.copy_from_slice.ensures.after, e)
    (front_copied c.args.buffer.now (take 16 (drop start token)) _ c.args.at (16 - start) (omega (arith, c.requires))
    (omega (arith, l))
    ∙ (ap (λ z. old ++ z) (take-take (16 - start) 16 (drop start token) (omega arith))
    ∙ ap (λ z. old ++ z) (piece_taken token _ _ start 16 16 c.put_number-start.ensures.text k refl
    (omega (arith, size))))))
    (number_utf8 c.args.number (omega arith))
