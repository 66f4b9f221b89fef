-- What is told of a module before its instructions are looked at. (For the code alone.)
use Rattle.std.specs.Prelude.{◌≡◌, ◌<◌, ◌≤◌, ◌/◌, ◌%◌, ◌^◌, ℕ, List, [], ◌∷◌, Option, Some, None, Bool, true, false, ◌↔◌, ◌⊎◌}
use Rattle.std.specs.Prelude.{IsTrue}
use Rattle.std.specs.Prelude.{slice_get, slice_index, slice_index_or, Contains, nat_eq, if◌then◌else◌, option_and_then, codes}
use denote.Enum.Declared.{tag_of}
use Rattle.spv_table.specs.Table.{Table}
use Rattle.spv_table.specs.Lookups.{number_named}
use Rattle.spv_module.specs.declared.opcode.TheConstants as opcode
use Rattle.spv_module.specs.Operand.{Plain, Text, Value, Mask, PlainInst}
use Rattle.spv_versions.specs.declared.table.Kind.{Kind}
use Rattle.spv_versions.specs.declared.table.Kind.TheVariants as kind
use Rattle.spv_versions.specs.declared.table.TheConstants.{KINDS, LOW, UNDATED}
use Rattle.spv_versions.specs.contracts.table.Kind.{the_type}
use Rattle.spv_versions.specs.Named.{IsDeclared, IsSetBit}
use Rattle.spv_versions.specs.Table.{IsBefore, Line, Text as Name, lines, name_of}
use Rattle.spv_versions.specs.inner.Lines.{IsListed}

-- the name that an OpExtension has
abbrev pub name_in : List Plain → Option (List ℕ)
name_in (Text name ∷ os) = Some name
name_in os = None

abbrev pub extension_in : PlainInst → Option (List ℕ)
extension_in i = if nat_eq i.opcode opcode.EXTENSION then name_in i.operands else None

-- what a line speaks of is missing in a module of version 1.minor
abbrev pub IsMissingLine : ℕ → List PlainInst → Line → Type 0
IsMissingLine minor is l =
    IsBefore minor l.3 × ((name : Name) → Contains l.4.now name → ¬ (IsDeclared is name.now))

-- sets of no meaning are missing in it
abbrev pub IsNoMeaning : ℕ → List PlainInst → Type 0
IsNoMeaning minor is = (minor < 6) × ¬ (IsDeclared is (codes "SPV_KHR_non_semantic_info"))

-- Of each line it is told whether what it speaks of is missing, and of sets of no meaning.
pub record AreTold (minor : ℕ) (is : List PlainInst) (flags : List Bool) (is_without_meaning : Bool) : Type 0 where
  pub each : (k : ℕ) (l : Line) → slice_get lines k ≡ Some l
      → IsTrue (slice_index_or flags k false) ↔ IsMissingLine minor is l
  pub meaning : IsTrue is_without_meaning ↔ IsNoMeaning minor is

-- the number of a kind in a grammar
abbrev pub number_of : Table → Kind → Option ℕ
number_of G k = option_and_then (number_named G) (name_of k)

-- the kinds of operands of which the table speaks
unfoldable pub kinds : List Kind
kinds = KINDS

-- These are the numbers of the kinds.
abbrev pub AreNumbers : Table → List (Option ℕ) → Type 0
AreNumbers G ns = (p : ℕ) (k : Kind) → slice_get kinds p ≡ Some k → slice_index_or ns p None ≡ number_of G k

-- These are the numbers of the kinds of which something is missing.
abbrev pub AreKnown : Table → List Bool → List (Option ℕ) → Type 0
AreKnown G flags ns = (p : ℕ) (k : Kind) → slice_get kinds p ≡ Some k
    → (slice_index_or ns p None ≡ number_of G k)
    ⊎ ((slice_index_or ns p None ≡ None) × ((n : ℕ) → ¬ (IsListed lines flags k n)))

-- the bit at a position is set in a mask, and missing; a value of a kind is missing, or a set bit of a mask
abbrev pub IsBitHit : List Bool → Kind → ℕ → ℕ → Type 0
IsBitHit flags k m position = (m / 2 ^ position % 2 ≡ 1) × IsListed lines flags k (2 ^ position)

abbrev pub IsHit : List Bool → Kind → Bool → ℕ → Type 0
IsHit flags k false v = IsListed lines flags k v
IsHit flags k true m = (v : ℕ) × IsSetBit m v × IsListed lines flags k v

-- it is of the kind at place p; of one of the kinds
abbrev pub IsHitAt : List Bool → List (Option ℕ) → ℕ → Bool → ℕ → ℕ → Type 0
IsHitAt flags ns j is_mask v p =
    (k : Kind) × (slice_get kinds p ≡ Some k) × (slice_index_or ns p None ≡ Some j) × IsHit flags k is_mask v

abbrev pub IsAnyHit : List Bool → List (Option ℕ) → ℕ → Bool → ℕ → Type 0
IsAnyHit flags ns j is_mask v = (p : ℕ) × IsHitAt flags ns j is_mask v p

-- an operand is a value, or has a set bit, that is missing
abbrev pub IsOperandHit : List Bool → List (Option ℕ) → Plain → Type 0
IsOperandHit flags ns (Value j v) = IsAnyHit flags ns j false v
IsOperandHit flags ns (Mask j m) = IsAnyHit flags ns j true m
IsOperandHit flags ns o = ⊥

-- so is one of some operands
abbrev pub AreHit : List Bool → List (Option ℕ) → List Plain → Type 0
AreHit flags ns [] = ⊥
AreHit flags ns (o ∷ os) = IsOperandHit flags ns o ⊎ AreHit flags ns os

-- the opcode of an instruction is missing, or a value or a set bit among its operands
abbrev pub IsInstHit : List Bool → List (Option ℕ) → PlainInst → Type 0
IsInstHit flags ns i = IsListed lines flags kind.Opcode i.opcode ⊎ AreHit flags ns i.operands

-- the place of a kind among all kinds
abbrev pub place_of : Kind → ℕ
place_of k = tag_of the_type k

-- by the place of a kind a number that none of the kind in table X is below
unfoldable pub undated : List ℕ
undated = UNDATED

-- by the place of a kind the bits of the numbers below 64 that a line is of
unfoldable pub low : List ℕ
low = LOW

-- no number of a kind that is missing is below that at the place of the kind
abbrev pub AreLeast : List Bool → List ℕ → Type 0
AreLeast flags least = (k : Kind) (n : ℕ) → IsListed lines flags k n → slice_index least (place_of k) ≤ n
