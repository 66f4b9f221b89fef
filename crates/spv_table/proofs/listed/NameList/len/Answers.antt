use Rattle.std.proofs.Common.{length, ap, arith}
use Rattle.std.proofs.lemmas.Grind.{common_steps}
use Rattle.spv_table.proofs.Joined.{names_count}
use Rattle.spv_table.proofs.listed.NameList.len.Goals as goal

pub returns : goal.returns
returns c =
    let joined = c.self.inside.joined.value in
    let count = names_count 0 joined.text.bytes.items joined.ends.items in
    let view = ap length c.self.view_is in
    grind (arith, common_steps, count, view, c.as_ref.ensures)
