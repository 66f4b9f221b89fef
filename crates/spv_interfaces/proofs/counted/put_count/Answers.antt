use Rattle.std.proofs.Common.{◌≤◌, sym, length, arith}
use Rattle.std.proofs.lemmas.List.{set_past}
use Rattle.spv_interfaces.proofs.counted.put_count.Goals as goal

pub returns-else-at-len : goal.returns-else-at-len
returns-else-at-len c =
    let counts = c.args.counts.now.items in
    let le : length counts ≤ c.args.number = let b = c.args.counts.now.ok.0 in omega arith in
    sym (set_past counts c.args.number c.args.all le)
