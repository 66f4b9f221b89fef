-- What `number` answers of a module whose places are known.
use Rattle.std.specs.Prelude.{◌≡◌, ℕ, List, Option, MatchOption}
use Rattle.spv_table.specs.Table.{Table}
use Rattle.spv_module.specs.Operand.{PlainInst}
use Rattle.spv_module.specs.declared.fault.Stop.{Stop}
use Rattle.spv_module.specs.declared.fault.Stop.TheVariants.{Fault, Memory}
use Rattle.spv_layout.specs.First.{IsFirst, IsUnbroken}
use Rattle.spv_layout.specs.Place.{first_word_of}
use Rattle.spv_layout.specs.Stage.{of_ids}
use Rattle.spv_ids.specs.declared.ids.Ids.{Ids}
use Rattle.spv_ids.specs.Definition.{IsDefinedAt}
use Rattle.spv_ids.specs.Broken.{Broken}
use Rattle.spv_ids.specs.inner.Notes.{kept}

-- the instruction that is kept as the definition of an id
abbrev pub definition_in : Ids → ℕ → Option ℕ
definition_in ids x = kept ids.definitions x

-- Instruction m defines the id, and no other does.
pub record IsOnly (is : List PlainInst) (x m : ℕ) : Type 0 where
  pub there : IsDefinedAt is x m
  pub only : (k : ℕ) → IsDefinedAt is x k → k ≡ m

-- The one definition of the id, or none where it has none. [2.16]
abbrev pub IsDefinitionOf : List PlainInst → ℕ → Option ℕ → Type 0
IsDefinitionOf is x o = MatchOption o ((k : ℕ) → ¬ (IsDefinedAt is x k)) (λ m. IsOnly is x m)

-- Each id that has a definition has one, which is kept.
pub record AreNumbered (is : List PlainInst) (ids : Ids) : Type 0 where
  pub each : (x : ℕ) → IsDefinitionOf is x (definition_in ids x)

-- No rule on ids is broken, and of each id the one definition is kept, if it has one.
pub record AreIds (G : Table) (bound : ℕ) (is : List PlainInst) (ids : Ids) : Type 0 where
  pub unbroken : IsUnbroken (Broken G bound is) of_ids
  pub each : (x : ℕ) → IsDefinitionOf is x (definition_in ids x)

-- What a refusal says: out of memory, or the first broken rule on ids and the first word of its instruction.
abbrev pub IsRefusal : Table → ℕ → List PlainInst → Stop → Type 0
IsRefusal G bound is Memory = Unit {0}
IsRefusal G bound is (Fault f) = IsFirst (Broken G bound is) of_ids f.rule f.inst × (f.word ≡ first_word_of is f.inst)
