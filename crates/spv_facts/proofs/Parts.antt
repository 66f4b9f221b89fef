-- The parts of what evidence tells.
use Rattle.std.proofs.Common.{◌≡◌, ℕ, List, refl}
use Rattle.spv_module.specs.Operand.{PlainInst}
use Rattle.spv_evidence.specs.declared.evidence.Evidence.{Evidence}
use Rattle.spv_evidence.specs.declared.evidence.Evidence.TheVariants as evidence
use Rattle.spv_facts.specs.Facts.{evidence_facts}
use Rattle.spv_facts.specs.inner.Parts.{list_facts}

pub parts : (is : List PlainInst) (n : ℕ) (e : Evidence) → list_facts is n e ≡ evidence_facts is n e
parts is n (evidence.Opcode opcode) = refl
parts is n (evidence.Due opcode k kind) = refl
parts is n (evidence.Shape opcode known) = refl
parts is n (evidence.MayCome opcodes end) = refl
parts is n (evidence.Operand k) = refl
parts is n (evidence.Earlier m) = refl
parts is n (evidence.Defined k m) = refl
parts is n (evidence.Local k m f) = refl
parts is n (evidence.Miscast k role m) = refl
parts is n (evidence.Capability c implied) = refl
parts is n (evidence.Needs l) = refl
parts is n evidence.NoEntry = refl
parts is n (evidence.NotInInterface v calls m) = refl
parts is n (evidence.Entry part) = refl
parts is n (evidence.Condition c k m wanted found types) = refl
parts is n (evidence.Mismatch s wanted found of) = refl
parts is n (evidence.MissingParent b ps) = refl
parts is n (evidence.NoPredecessor k ps) = refl
parts is n (evidence.Twice k l ps) = refl
parts is n (evidence.Walk k m blocks) = refl
parts is n (evidence.Cycle calls cycle) = refl
parts is n (evidence.Miscalled number operands least most) = refl
parts is n (evidence.OnTheWay b) = refl
parts is n (evidence.Pair j k) = refl
parts is n (evidence.ByGroup k m) = refl
parts is n (evidence.Late l line) = refl
parts is n (evidence.Past most) = refl
