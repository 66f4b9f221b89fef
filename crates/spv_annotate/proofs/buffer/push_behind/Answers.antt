use Rattle.std.proofs.Common.{◌≡◌, ◌++◌, List, ℕ, OnOk, append-nil, string_bytes, subst}
use Rattle.std.specs.Prelude.{decimal}
use Rattle.spv_annotate.proofs.buffer.push_behind.Goals as goal

pub returns : goal.returns
returns c =
    subst (λ (z : List ℕ). OnOk c.push_between.result
    (string_bytes c.push_between.new.out ≡ string_bytes c.args.out.now ++ (c.args.begin.now ++ z)))
    (append-nil (decimal c.args.number)) c.push_between.ensures
