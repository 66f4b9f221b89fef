use Rattle.std.proofs.Common.{arith}
use Rattle.std.proofs.lemmas.Grind.{common_steps}
use Rattle.spv_fault_json.proofs.Texts.{names_told}
use Rattle.spv_fault_json.proofs.arrays.push_extensions.Goals as goal

pub returns : goal.returns
returns c =
    let e = names_told c.extensions.result.now _ c.extensions.ensures in
    rw (← e) (grind (arith, common_steps))
