use Rattle.std.proofs.Common.{◌≡◌, ◌++◌, ◌∙◌, length, drop, subst, sym, arith}
use Rattle.std.specs.Prelude.{decimal}
use Rattle.std.specs.Str.{IsUtf8}
use Rattle.std.proofs.lemmas.Str.{IsUtf8-append}
use Rattle.spv_printer.proofs.Pieces.{rest_of}
use Rattle.spv_annotate.proofs.Buffers.{at_end, before_end, number_utf8}
use Rattle.spv_annotate.proofs.buffer.push_between.Goals as goal

pub from_utf8_unchecked-requires : goal.from_utf8_unchecked-requires
from_utf8_unchecked-requires c =
    let n = c.args.number in
    let begin = c.args.begin.now in
    let end = c.args.end.now in
    let one = c.put_octets-behind.new.buffer in
    let two = c.put_number-digits.new.buffer in
    let three = c.put_octets-start.new.buffer in
    let start = c.put_octets-start.result in
    let digits = c.put_number-digits.result in
    let behind = c.put_octets-behind.result in
    let l1 : length one ≡ 64 = omega (arith, c.put_octets-behind.auto.buffer) in
    let l3 : length three ≡ 64 = omega (arith, l1, c.put_number-digits.auto.buffer, c.put_octets-start.auto.buffer) in
    let low = c.put_octets-start.ensures.low in
    let size = c.put_number-digits.ensures.size in
    let s = rw c.as_bytes.ensures.value at c.put_octets-behind.ensures.low in
    let last : drop behind one ≡ end = at_end one end _ behind 64
    (rw c.as_bytes.ensures.value at c.put_octets-behind.ensures.text) s l1 in
    let middle : drop digits two ≡ decimal n
    ++ end = before_end one two (decimal n) end digits behind c.put_number-digits.ensures.text last in
    let first : drop start three ≡ begin ++ (decimal n ++ end) = before_end two three begin
    (decimal n ++ end) start digits (rw c.as_bytes-2.ensures.value at c.put_octets-start.ensures.text) middle in
    let r = rest_of three start 64 l3 (omega (arith, low, size, s)) in
    subst IsUtf8 (sym (r ∙ first)) (IsUtf8-append begin (decimal n ++ end) c.utf8.begin
    (IsUtf8-append (decimal n) end (number_utf8 n (omega arith)) c.utf8.end))
