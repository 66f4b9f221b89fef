-- Where an instruction stands, by those before it. (For the code alone.)
use Rattle.std.specs.Prelude.{◌≡◌, ℕ, List, Option, None, Some}
use Rattle.spv_module.specs.Operand.{PlainInst}
use Rattle.spv_layout.specs.Place.{first_word_of}
use Rattle.spv_annotate.specs.declared.standing.Standing.{Standing}
use Rattle.spv_annotate.specs.Module.{open_function, section_before, section_of}

-- the section of an instruction before, by its opcode; 0 where there is none
abbrev pub section_behind : Option ℕ → ℕ
section_behind None = 0
section_behind (Some code) = section_of code

-- What stands before instruction n.
pub record IsStanding (is : List PlainInst) (n : ℕ) (s : Standing) : Type 0 where
  pub word : s.word ≡ first_word_of is n
  pub section : section_behind s.before ≡ section_before is n
  pub function : s.function ≡ open_function is n
