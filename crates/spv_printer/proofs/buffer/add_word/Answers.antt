use Rattle.std.proofs.Common.{◌≡◌, ◌∙◌, ◌++◌, ◌+◌, ◌-◌, refl, ap, arith, drop, length, take, length-drop}
use Rattle.std.proofs.Common.{length-take-le}
use Rattle.std.proofs.lemmas.List.{take-take}
use Rattle.spv_printer.proofs.Digits.{word_utf8}
use Rattle.spv_printer.proofs.Drafts.{front_copied, piece_taken}
use Rattle.spv_printer.proofs.buffer.add_word.Goals as goal

pub returns : goal.returns
returns c =
    let start = c.put_word-start.result in
    let token = c.put_word-start.new.buffer in
    let low = c.put_word-start.ensures.low in
    let k : length token ≡ 32 = omega (arith, c.put_word-start.auto.buffer) in
    let d = length-drop start token in
    let l = length-take-le 16 (drop start token) (omega arith) in
    let old = take c.args.at c.args.buffer.now in
    let e : start + 16 - start ≡ 16 = omega arith in
    record {
      low = omega arith;
      high = omega arith;
      text = rw (c.copy_from_slice.ensures.after, e)
          (front_copied c.args.buffer.now (take 16 (drop start token)) _ c.args.at (16 - start)
          (omega (arith, c.requires)) (omega arith)
          ∙ (ap (λ z. old ++ z) (take-take (16 - start) 16 (drop start token) (omega arith))
          ∙ ap (λ z. old ++ z) (piece_taken token _ _ start 16 16 c.put_word-start.ensures.text k refl low)));
      utf8 = word_utf8 c.args.word (omega arith);
    }
