use Rattle.std.proofs.Common.{refl}
use Rattle.spv_commands.proofs.Assemblings.{nothing_begun, short_assembled, short_begun, short_unmade}
use Rattle.spv_commands.proofs.laws.assemble_examples.Goals as goal

pub returns : goal.returns
returns c = record {
  assembles = short_assembled;
  assembles_none = λ G o explain opencl old new held kept. short_unmade G o explain opencl old new held kept _ refl;
  begins = short_begun;
  begins_none = nothing_begun;
}
