-- What extended instructions take behind their number. [Khronos' grammar files of the sets]
use Rattle.std.specs.Prelude.{ℕ, ◌/◌, ◌%◌, ◌^◌, ◌-◌, ◌&&◌, List, [], Bool, true, false, unwrap_or}
use Rattle.std.specs.Prelude.{nat_eq, nat_le, nat_lt, slice_get, if◌then◌else◌}
use Rattle.spv_extended.specs.declared.facts.TheConstants.{OPENCL_STD, OPENCL_DEBUG_INFO, DEBUG_INFO}
use Rattle.spv_extended.specs.declared.set.Set.{Set}
use Rattle.spv_extended.specs.declared.set.Set.TheVariants.{OpenClStd, OpenClDebugInfo, DebugInfo, Other}
use Rattle.spv_extended.specs.declared.signature.More.{More}
use Rattle.spv_extended.specs.declared.signature.More.TheVariants.{Nothing, One, Any, Unknown}
use Rattle.spv_extended.specs.declared.signature.Signature.{Signature}

-- the lists of src/facts.rt: of a set, at the number of each instruction, a fact, which is one number [Khronos' grammar
-- files of the sets]
unfoldable pub facts_of : Set → List ℕ
facts_of OpenClStd = OPENCL_STD
facts_of OpenClDebugInfo = OPENCL_DEBUG_INFO
facts_of DebugInfo = DEBUG_INFO
facts_of Other = []

-- how many operands an instruction may have beyond those that it must have, by two bits; 3 where there is no such
-- instruction [own]
abbrev pub more_of : ℕ → More
more_of bits = if nat_eq bits 0 then Nothing else (if nat_eq bits 1 then One
    else (if nat_eq bits 2 then Any else Unknown))

-- How a fact is read, bit by bit: four for how many operands the instruction must have, two for how many more it may
-- have, and one for each place from 0 on, set where a literal stands there. [own]
abbrev pub read_fact : ℕ → Signature
read_fact fact = record { least = fact % 16; more = more_of (fact / 16 % 4); literals = fact / 64 }

-- what a list of facts tells of a number; past its end there is no instruction (48 tells so) [own]
abbrev pub signature_in : List ℕ → ℕ → Signature
signature_in facts number = read_fact (unwrap_or (slice_get facts number) 48)

abbrev pub signature_of : Set → ℕ → Signature
signature_of set number = signature_in (facts_of set) number

-- does a literal stand at a place behind the number, from 0? The bit of place 25 holds for all places from there on.
-- [own]
abbrev pub told_place : ℕ → ℕ
told_place place = if nat_lt place 25 then place else 25

abbrev pub is_literal : Signature → ℕ → Bool
is_literal s place = nat_eq (s.literals / 2 ^ told_place place % 2) 1

-- may so many operands stand behind the number? [own]
abbrev pub takes_more : More → ℕ → Bool
takes_more Nothing count = nat_eq count 0
takes_more One count = nat_le count 1
takes_more Any count = true
takes_more Unknown count = false

abbrev pub takes : Signature → ℕ → Bool
takes s count = nat_le s.least count && takes_more s.more (count - s.least)
