-- What a check of a stream leaves in the writer. (Own.)
use Rattle.std.specs.Prelude.{◌≡◌, ◌↔◌, ◌≤◌, ◌++◌, ℕ, List, Option, Some, IsTrue, Bool, length}
use Rattle.std.specs.Prelude.{take}
use Rattle.spv_table.specs.Table.{Table}
use Rattle.spv_extended.specs.declared.reach.Reach.{Reach}
use Rattle.spv_check.specs.Verdict.{IsVerdict, valid_line}

-- A writer that held the bytes `old` now also holds the verdict line of the bytes, and nothing else; the answer tells
-- whether the line is `valid`. [own]
pub record TellsVerdict (G : Table) (reach : Reach) (bytes : List ℕ) (old : List ℕ) (new : Option (List ℕ))
    (answer : Bool) : Type 0 where
  pub line : List ℕ
  pub verdict : IsVerdict G reach bytes line
  pub written : new ≡ Some (old ++ line)
  pub answered : IsTrue answer ↔ (line ≡ valid_line)

-- A writer that held the bytes `old` now holds also a beginning of their verdict line, and nothing else. [own]
pub record Begins (G : Table) (reach : Reach) (bytes : List ℕ) (old : List ℕ) (new : Option (List ℕ)) : Type 0 where
  pub line : List ℕ
  pub verdict : IsVerdict G reach bytes line
  pub count : ℕ
  pub fits : count ≤ length line
  pub written : new ≡ Some (old ++ take count line)
