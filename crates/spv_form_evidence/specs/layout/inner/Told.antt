-- What evidence tells of an opcode, or of a place. (For the code alone.)
use Rattle.std.specs.Prelude.{◌≡◌, ◌↔◌, ℕ, List, IsTrue}
use Rattle.spv_module.specs.Operand.{PlainInst}
use Rattle.spv_module.specs.declared.profile.Profile.{Profile}
use Rattle.spv_evidence.specs.declared.evidence.Evidence.{Evidence}
use Rattle.spv_evidence.specs.declared.evidence.Evidence.TheVariants.{Shape, MayCome}
use Rattle.spv_form_evidence.specs.layout.Evidence.{AreToCome, HasRow}

-- It tells the opcode, and whether the profile has a row for that.
abbrev pub IsShapeOf : Profile → ℕ → Evidence → Type 0
IsShapeOf p opcode (Shape o known) = (o ≡ opcode) × (IsTrue known ↔ HasRow p opcode)
IsShapeOf p opcode e = ⊥

-- It tells what may come after these instructions.
abbrev pub IsMayCome : Profile → List PlainInst → Evidence → Type 0
IsMayCome p before (MayCome opcodes end) = AreToCome p before opcodes end
IsMayCome p before e = ⊥
