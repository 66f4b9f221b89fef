use Rattle.std.proofs.Common.{◌≡◌, ◌++◌, ◌∙◌, List, ℕ, OnOk, ap, rules, string_bytes, subst, sym}
use Rattle.std.specs.List.{list_all}
use Rattle.spv_annotate.specs.inner.Tame.{is_tame_octet}
use Rattle.spv_annotate.proofs.Plains.{plain_same}
use Rattle.spv_annotate.proofs.tame.push_tame.Goals as goal

pub returns-then-are_tame : goal.returns-then-are_tame
returns-then-are_tame c =
    let h = ap (list_all is_tame_octet) (sym c.as_bytes.ensures.value)
    ∙ (sym c.are_tame.ensures ∙ c.if-are_tame.true) in
    let plain : OnOk c.push_str.result (string_bytes c.push_str.new.self ≡ string_bytes c.args.out.now
    ++ c.args.text.now) = search rules in
    subst (λ (z : List ℕ). OnOk c.push_str.result (string_bytes c.push_str.new.self ≡ string_bytes c.args.out.now ++ z))
    (sym (plain_same c.args.text.now h)) plain
