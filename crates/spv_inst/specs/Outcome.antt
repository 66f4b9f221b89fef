-- What `decode` answers.
use Rattle.std.specs.Prelude.{◌≡◌, ◌≤◌, ◌-◌, ℕ, List, drop, slice_index}
use Rattle.spv_words.specs.declared.words.Header.{Header}
use Rattle.spv_table.specs.Table.{Table}
use Rattle.spv_module.specs.declared.fault.Stop.{Stop}
use Rattle.spv_module.specs.declared.fault.Stop.TheVariants.{Fault, Memory}
use Rattle.spv_module.specs.Operand.{PlainInst}
use Rattle.spv_module.specs.Instruction.{IsListing}
use Rattle.spv_module.specs.Malformed.{IsMalformedAt}

-- words 1 to 4 of a module [own]
pub record IsHeaderOf (words : List ℕ) (header : Header) : Type 0 where
  pub version : header.version ≡ slice_index words 1
  pub generator : header.generator ≡ slice_index words 2
  pub bound : header.bound ≡ slice_index words 3
  pub schema : header.schema ≡ slice_index words 4

-- That memory ran out, or the dead instruction's code, number and word, the word counted from the module's first. [own]
abbrev pub IsDecodeFault : Table → List ℕ → Stop → Type 0
IsDecodeFault G words Memory = Unit {0}
IsDecodeFault G words (Fault f) = (5 ≤ f.word) × IsMalformedAt G (drop 5 words) f.rule f.inst (f.word - 5)

-- That memory ran out, or no list of instructions at all. [own]
abbrev pub HasNoList : Table → List ℕ → Stop → Type 0
HasNoList G words Memory = Unit {0}
HasNoList G words (Fault f) = (is : List PlainInst) → ¬ (IsListing G is (drop 5 words))
