use Rattle.std.proofs.Common.{◌≡◌, ◌++◌, List, ℕ, OnOk, rules, string_bytes, subst, sym}
use Rattle.spv_annotate.proofs.short.push_short.Goals as goal

pub returns-then-is_told_whole : goal.returns-then-is_told_whole
returns-then-is_told_whole c =
    let plain : OnOk c.push_str.result (string_bytes c.push_str.new.self ≡ string_bytes c.args.out.now
    ++ c.args.name.now) = search rules in
    subst (λ (z : List ℕ). OnOk c.push_str.result (string_bytes c.push_str.new.self ≡ string_bytes c.args.out.now ++ z))
    (sym (c.is_told_whole.ensures c.if-is_told_whole.true)) plain
