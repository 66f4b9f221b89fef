-- Ids that instructions decorate, and entry points of some. (For the code alone.)
use Rattle.std.specs.Prelude.{◌≡◌, ◌⊎◌, ℕ, List, Some, Bool, Contains, IsTrue, slice_get}
use Rattle.std.specs.BTreeSet.{BTreeSet}
use Rattle.spv_module.specs.Operand.{Plain, Id, PlainInst}
use Rattle.spv_capabilities.specs.Entry.{entered_by}
use Rattle.spv_declarations.specs.Decorated.{IsSecond}
use Rattle.spv_declarations.specs.Given.{Gives, NamesTarget}
use Rattle.spv_declarations.specs.Table.{StandsOn}
use Rattle.spv_declarations.specs.declared.built_in.BuiltIns.{BuiltIns}
use Rattle.spv_declarations.specs.declared.shown.other.Both.{Both}
use Rattle.spv_declarations.specs.inner.Second.{AreLeast}
use Rattle.spv_declarations.specs.inner.Sets.{IsIn}

-- the instruction decorates the id: by itself, or as a target of a group
abbrev pub IsDecorated : PlainInst → ℕ → Type 0
IsDecorated i x = ((d : ℕ) × Gives d i x) ⊎ ((g : ℕ) × NamesTarget i g x)

-- the instruction is an OpEntryPoint of one of these functions
abbrev pub Enters : BTreeSet ℕ → PlainInst → Type 0
Enters functions i = (x : ℕ) × IsIn functions x × (entered_by i ≡ Some x)

-- the ids that have Restrict (19) and those that have Aliased (20) by an instruction before n
pub record AreBothBefore (is : List PlainInst) (n : ℕ) (b : Both) : Type 0 where
  pub restricted : AreLeast is 19 n b.restricted
  pub aliased : AreLeast is 20 n b.aliased

-- an id is not in both, and it is if it gets the one and the other as told
abbrev pub IsNewIn : Both → Bool → Bool → ℕ → Type 0
IsNewIn b by_restricted by_aliased x = (IsIn b.restricted x → IsIn b.aliased x → ⊥)
    × (IsIn b.restricted x ⊎ IsTrue by_restricted) × (IsIn b.aliased x ⊎ IsTrue by_aliased)

-- instruction n breaks O8 by the id
abbrev pub IsSecondOf : List PlainInst → ℕ → ℕ → Type 0
IsSecondOf is n x = (s : IsSecond is n) × (s.id ≡ x)

-- the operand of that number is an id on which one of these decorations may not stand; a struct with a member that has
-- BuiltIn
abbrev pub IsBadAt : List PlainInst → List Plain → List ℕ → ℕ → ℕ → Type 0
IsBadAt is os ds d k = Contains ds d × ((x : ℕ) × (slice_get os k ≡ Some (Id x)) × (¬ (StandsOn is d x)))

abbrev pub NamesStruct : BuiltIns → List Plain → ℕ → Type 0
NamesStruct b os k = (u : ℕ) × (slice_get os k ≡ Some (Id u)) × IsIn b.structs u
