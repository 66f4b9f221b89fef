use Rattle.std.proofs.Common.{◌++◌, ◌∙◌, ap}
use Rattle.std.specs.Prelude.{codes, decimal}
use Rattle.spv_annotate.specs.Notes.{column}
use Rattle.spv_annotate.proofs.Buffers.{at_end, before_end, four_behind}
use Rattle.spv_annotate.proofs.comment.put_place.Goals as goal

pub returns-clause-text : goal.returns-clause-text
returns-clause-text c =
    let at = c.args.at in
    let word = c.args.word in
    let b1 = c.put_number-last.new.buffer in
    let b2 = c.put_octets-between.new.buffer in
    let b3 = c.put_number-first.new.buffer in
    let b4 = c.put_octets-begin.new.buffer in
    let l1 = c.put_number-last.auto.buffer ∙ c.requires in
    let t1 = at_end b1 (decimal word) _ c.put_number-last.result 96 c.put_number-last.ensures.text
    c.put_number-last.ensures.size l1 in
    let w2 = codes " word " ++ decimal word in
    let t2 = before_end b1 b2 (codes " word ")
    (decimal word) c.put_octets-between.result c.put_number-last.result c.put_octets-between.ensures.text t1 in
    let w3 = decimal at ++ w2 in
    let t3 = before_end b2 b3 (decimal at) w2 c.put_number-first.result c.put_octets-between.result
    c.put_number-first.ensures.text t2 in
    let w4 = codes "; inst " ++ w3 in
    let t4 = before_end b3 b4 (codes "; inst ") w3 c.put_octets-begin.result c.put_number-first.result
    c.put_octets-begin.ensures.text t3 in
    before_end b4 c.put_octets.new.buffer column w4 c.put_octets.result c.put_octets-begin.result
    (rw c.as_bytes.ensures.value at c.put_octets.ensures.text) t4
    ∙ ap (λ z. column ++ z) (four_behind (codes "; inst ") (decimal at) (codes " word ") (decimal word))
