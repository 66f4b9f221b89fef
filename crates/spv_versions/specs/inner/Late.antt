-- What is told of a module to find what it has that its version does not. (For the code alone.)
use Rattle.std.specs.Prelude.{◌≡◌, ◌<◌, ◌≤◌, ℕ, List, Option, Bool, false, length, slice_index}
use Rattle.std.specs.Int.{bit_at}
use Rattle.spv_table.specs.Table.{Table}
use Rattle.spv_module.specs.Operand.{Plain, PlainInst}
use Rattle.spv_versions.specs.declared.late.Late.{Late}
use Rattle.spv_versions.specs.inner.Told.{AreHit, AreKnown, AreLeast, AreTold, IsAnyHit, IsOperandHit}

-- no value that is missing, of the kind of a number, and no mask with a bit that is, is below that at the place of that
-- number
abbrev pub AreFloors : List Bool → List (Option ℕ) → List ℕ → Type 0
AreFloors flags ns floors =
    (j v : ℕ) (is_mask : Bool) → j < length floors → IsAnyHit flags ns j is_mask v → slice_index floors j ≤ v

-- a value below 64 that is missing, of the kind of a number, has its bit in the word at the place of that number
abbrev pub AreListed : List Bool → List (Option ℕ) → List ℕ → Type 0
AreListed flags ns words = (j v : ℕ) → j < length words → v < 64 → IsAnyHit flags ns j false v
    → bit_at (slice_index words j) v ≡ 1

-- its floors and its words are so; an operand is a value, or has a set bit, that is missing; one of some is
abbrev pub AreFloored : Late → Type 0
AreFloored l = AreFloors l.missing.lines l.kinds.numbers l.floors
    × AreListed l.missing.lines l.kinds.numbers l.listed

abbrev pub IsHitIn : Late → Plain → Type 0
IsHitIn l o = IsOperandHit l.missing.lines l.kinds.numbers o

abbrev pub AreHitIn : Late → List Plain → Type 0
AreHitIn l os = AreHit l.missing.lines l.kinds.numbers os

-- It is told of the module of version 1.minor, by a grammar.
pub record IsLateBy (G : Table) (minor : ℕ) (is : List PlainInst) (l : Late) : Type 0 where
  pub version : l.minor ≡ minor
  pub told : AreTold minor is l.missing.lines l.missing.is_without_meaning
  pub least : AreLeast l.missing.lines l.missing.least
  pub numbers : AreKnown G l.missing.lines l.kinds.numbers
  pub floors : AreFloored l
