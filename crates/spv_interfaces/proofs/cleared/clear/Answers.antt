use Rattle.std.proofs.Common.{◌<◌, ◌≤◌, length, arith}
use Rattle.spv_interfaces.proofs.Clearing.{clears_past, clears_set}
use Rattle.spv_interfaces.proofs.cleared.clear.Goals as goal

pub returns-then-at-len : goal.returns-then-at-len
returns-then-at-len c =
    let words = c.args.words.now.items in
    let lt : c.args.number < length words = let b = c.args.words.now.ok.0 in omega arith in
    clears_set words c.args.number lt

pub returns-else-at-len : goal.returns-else-at-len
returns-else-at-len c =
    let words = c.args.words.now.items in
    let le : length words ≤ c.args.number = let b = c.args.words.now.ok.0 in omega arith in
    clears_past words c.args.number le
