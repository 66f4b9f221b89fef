-- Evidence for Y9: what shows that an instruction calls what OpenCL.std does not have. [3.49.4; own]
use Rattle.std.specs.Prelude.{◌≡◌, ◌<◌, ◌+◌, ℕ, List, Option, Some, None}
use Rattle.spv_module.specs.Operand.{PlainInst}
use Rattle.spv_module.specs.declared.fault.Rule.{Rule}
use Rattle.spv_module.specs.declared.fault.Rule.TheVariants.{Y9}
use Rattle.spv_extended.specs.declared.set.Set.TheVariants.{OpenClStd}
use Rattle.spv_extended.specs.declared.signature.More.{More}
use Rattle.spv_extended.specs.declared.signature.More.TheVariants.{Nothing, One, Unknown}
use Rattle.spv_extended.specs.Call.{call_at}
use Rattle.spv_extended.specs.Facts.{signature_of}
use Rattle.spv_evidence.specs.declared.evidence.Evidence.{Evidence}
use Rattle.spv_evidence.specs.declared.evidence.Evidence.TheVariants.{Miscalled}

-- how many operands an instruction takes at least, if there is such an instruction, and at most, if it does not take
-- any number of them; by how many it must have, and how many it may have beyond these [own]
abbrev pub least_with : More → ℕ → Option ℕ
least_with Unknown must = None
least_with more must = Some must

abbrev pub most_with : More → ℕ → Option ℕ
most_with Nothing must = Some must
most_with One must = Some (must + 1)
most_with more must = None

-- the same of the instruction of a number in OpenCL.std [OpenCL Extended Instruction Set Specification]
abbrev pub least_of : ℕ → Option ℕ
least_of number = least_with (signature_of OpenClStd number).more (signature_of OpenClStd number).least

abbrev pub most_of : ℕ → Option ℕ
most_of number = most_with (signature_of OpenClStd number).more (signature_of OpenClStd number).least

-- So many operands are not what an instruction takes that takes so many at least and at most: there is no such
-- instruction, or they are fewer, or more. [own]
pub data IsOutside (count : ℕ) : Option ℕ → Option ℕ → Type 0 where
  no_inst : IsOutside count None None
  fewer : (least : ℕ) (most : Option ℕ) → count < least → IsOutside count (Some least) most
  more : (least most : ℕ) → most < count → IsOutside count (Some least) (Some most)

-- The evidence shows that the rule is broken at the instruction of that number: this calls one of OpenCL.std, and the
-- evidence is the number of that, how many operands stand behind it, and how many the set's instruction takes. [own]
pub data IsEvidence (is : List PlainInst) : Rule → ℕ → Evidence → Type 0 where
  miscalled : (n number count : ℕ)
      → call_at is n ≡ Some (record { set = OpenClStd; number = number; operands = count })
      → IsOutside count (least_of number) (most_of number)
      → IsEvidence is Y9 n (Miscalled number count (least_of number) (most_of number))
