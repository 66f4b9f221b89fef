use Rattle.std.proofs.Common.{arith}
use Rattle.std.proofs.lemmas.Grind.{common_steps}
use Rattle.spv_fault_json.proofs.arrays.push_opcodes.Goals as goal

pub loop-opcode-preserved : goal.loop-opcode-preserved
loop-opcode-preserved c = grind (arith, common_steps)

pub returns : goal.returns
returns c = grind (arith, common_steps)
