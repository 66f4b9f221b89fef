use Rattle.std.proofs.Common.{◌≡◌, ◌++◌, ◌∙◌, ap, drop, string_bytes}
use Rattle.spv_lines.specs.Digits.{hex_digits}
use Rattle.spv_printer.proofs.Texts.{on_pushed}
use Rattle.spv_annotate.proofs.Floats.{half_begins, half_digits}
use Rattle.spv_annotate.proofs.values.push_short_hex.Goals as goal

pub range_from-requires : goal.range_from-requires
range_from-requires c =
    half_begins c.args.bits c.as_str.result.now
    (c.as_str.ensures.value ∙ (c.in_ok-push_hex.ensures
    ∙ ap (λ z. z ++ hex_digits 8 c.args.bits) c.new-digits.ensures.bytes))

pub returns : goal.returns
returns c =
    let n = c.args.bits in
    let e : c.as_str.result.now ≡ hex_digits 8 n =
    c.as_str.ensures.value ∙ (c.in_ok-push_hex.ensures ∙ ap (λ z. z ++ hex_digits 8 n) c.new-digits.ensures.bytes) in
    on_pushed c.push_str.result _ (string_bytes c.push_str.new.self)
    (string_bytes c.args.out.now) c.range_from.result.now c.push_str.ensures.bytes (λ f.
    f ∙ ap (λ z. string_bytes c.args.out.now ++ z) (c.range_from.ensures.value ∙ (ap (drop 4) e ∙ half_digits n)))
