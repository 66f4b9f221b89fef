use Rattle.std.proofs.Common.{◌≡◌, ◌++◌, ◌∙◌, ap, append_assoc, append-nil, string_bytes, sym, take}
use Rattle.std.specs.List.{list_all}
use Rattle.spv_annotate.specs.inner.Linked.{is_bare_byte}
use Rattle.spv_annotate.specs.inner.Numbers.{kept}
use Rattle.spv_annotate.proofs.Steadies.{bare_linked}
use Rattle.spv_annotate.proofs.drafted.push_remark.Goals as goal

pub returns-clause-text : goal.returns-clause-text
returns-clause-text c =
    let text = c.args.text.now in
    let h = ap (list_all is_bare_byte) (sym c.as_bytes.ensures.value)
    ∙ (sym c.is_bare.ensures ∙ c.if-not-is_bare.false) in
    ap (λ z. string_bytes c.args.out.now ++ z)
    (c.add_text-end.ensures.added.all ∙ ap (λ z. take c.args.at c.args.buffer.now ++ z)
    (sym (bare_linked (kept c.args.definitions.now) text h)))

pub returns-then-text-gt-LONGEST-clause-text : goal.returns-then-text-gt-LONGEST-clause-text
returns-then-text-gt-LONGEST-clause-text c =
    let text = c.args.text.now in
    let out = string_bytes c.args.out.now in
    let old = take c.args.at c.args.buffer.now in
    let last = string_bytes c.push_str.new.self in
    let h = ap (list_all is_bare_byte) (sym c.as_bytes.ensures.value)
    ∙ (sym c.is_bare.ensures ∙ c.if-not-is_bare.false) in
    let e : last ≡ (out ++ old) ++ text = c.in_ok-push_str.ensures.bytes
    ∙ ap (λ z. z ++ text) c.in_ok-push_draft.ensures in
    append-nil last ∙ (e ∙ (append_assoc out old text
    ∙ ap (λ z. out ++ (old ++ z)) (sym (bare_linked (kept c.args.definitions.now) text h))))
