use Rattle.std.proofs.Common.{◌≤◌, Some, sym, length, arith}
use Rattle.std.proofs.lemmas.List.{set_past}
use Rattle.spv_interfaces.proofs.used.put_last.Goals as goal

pub returns-else-at-len : goal.returns-else-at-len
returns-else-at-len c =
    let last = c.args.last.now.items in
    let le : length last ≤ c.args.variable = let b = c.args.last.now.ok.0 in omega arith in
    sym (set_past last c.args.variable (Some c.args.function) le)
