use Rattle.std.proofs.Common.{◌++◌, ◌∙◌, ap, sym, string_bytes}
use Rattle.std.specs.List.{list_all}
use Rattle.spv_pictures.specs.inner.Free.{is_plain}
use Rattle.spv_pictures.proofs.Added.{on_pushed}
use Rattle.spv_pictures.proofs.Labels.{plain_label}
use Rattle.spv_pictures.proofs.label.push_label.Goals as goal

pub returns-then-is_plain_text : goal.returns-then-is_plain_text
returns-then-is_plain_text c =
    let h = ap (list_all is_plain) (sym c.as_bytes.ensures.value)
    ∙ (sym c.is_plain_text.ensures ∙ c.if-is_plain_text.true) in
    on_pushed c.push_str.result _ (string_bytes c.push_str.new.self)
    (string_bytes c.args.out.now) c.args.text.now c.push_str.ensures.bytes (λ p.
    p ∙ ap (λ z. string_bytes c.args.out.now ++ z) (sym (plain_label c.args.text.now h)))
