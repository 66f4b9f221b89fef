-- Which headers a module may have, and how many words an instruction.
use Rattle.std.specs.Prelude.{◌≡◌, ◌≤◌, ℕ}
use Rattle.spv_words.specs.declared.words.Header.{Header}
use Rattle.spv_words.specs.Header.{version_number, greatest_bound}

-- The greatest number of words of an instruction. [2.3]
abbrev pub greatest_count : ℕ
greatest_count = 65535

-- A header of version 1.6, with a bound that fits, and schema 0. [2.3; the greatest bound own]
pub record HeaderFits (header : Header) : Type 0 where
  pub version : header.version ≡ version_number
  pub bound_least : 1 ≤ header.bound
  pub bound_most : header.bound ≤ greatest_bound
  pub schema : header.schema ≡ 0
