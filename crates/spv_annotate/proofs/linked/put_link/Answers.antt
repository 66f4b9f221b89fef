use Rattle.std.proofs.Common.{◌≡◌, ◌++◌, ◌∙◌, drop, sym}
use Rattle.std.specs.Prelude.{codes, decimal}
use Rattle.spv_annotate.proofs.Links.{link_behind}
use Rattle.spv_annotate.proofs.Buffers.{at_end, before_end}
use Rattle.spv_annotate.proofs.linked.put_link.Goals as goal

pub returns-clause-text : goal.returns-clause-text
returns-clause-text c =
    let inst = c.args.inst in
    let word = c.args.word.now in
    let tail = c.args.tail.now in
    let b0 = c.put_octets-last.new.buffer in
    let b1 = c.put_octets-behind.new.buffer in
    let b2 = c.put_octets-begin.new.buffer in
    let b3 = c.put_octets-tag.new.buffer in
    let b4 = c.put_number-digits.new.buffer in
    let l0 = c.put_octets-last.auto.buffer ∙ c.requires.size in
    let t0 : drop c.put_octets-last.result b0 ≡ tail = rw c.as_bytes.ensures.value at
    (at_end b0 c.as_bytes.result.now _ c.put_octets-last.result 96 c.put_octets-last.ensures.text
    c.put_octets-last.ensures.low l0) in
    let w1 = codes "</a>" ++ tail in
    let t1 = before_end b0 b1 (codes "</a>") tail c.put_octets-behind.result c.put_octets-last.result
    c.put_octets-behind.ensures.text t0 in
    let w2 = word ++ w1 in
    let t2 = before_end b1 b2 word w1 c.put_octets-begin.result c.put_octets-behind.result
    (rw c.as_bytes-2.ensures.value at c.put_octets-begin.ensures.text) t1 in
    let w3 = codes ">" ++ w2 in
    let t3 = before_end b2 b3 (codes ">") w2 c.put_octets-tag.result c.put_octets-begin.result
    c.put_octets-tag.ensures.text t2 in
    let w4 = decimal inst ++ w3 in
    let t4 = before_end b3 b4 (decimal inst) w3 c.put_number-digits.result c.put_octets-tag.result
    c.put_number-digits.ensures.text t3 in
    before_end b4 c.put_octets.new.buffer (codes "<a href=#") w4 c.put_octets.result c.put_number-digits.result
    c.put_octets.ensures.text t4 ∙ sym (link_behind inst word tail)
