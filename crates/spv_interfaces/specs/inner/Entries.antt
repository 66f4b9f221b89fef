-- Entry points, and what is wrong with them. (For the code alone.)
use Rattle.std.specs.Prelude.{◌≡◌, ◌≢◌, ◌≤◌, ◌<◌, ℕ, List, Option, Some, None, MatchOption, length, slice_get}
use Rattle.spv_table.specs.Table.{Table}
use Rattle.spv_module.specs.Operand.{Id, Plain, PlainInst}
use Rattle.spv_ids.specs.Definition.{IsDefinedAt}
use Rattle.spv_interfaces.specs.Interface.{IsInTree, IsNamedIn, IsOfClass, IsTwiceIn, faced_by}
use Rattle.spv_interfaces.specs.inner.Wanted.{IsWanted}

-- the id that an operand of an interface is
abbrev pub face_id : Plain → Option ℕ
face_id (Id x) = Some x
face_id o = None

-- Instruction n is an OpEntryPoint of this function and interface.
pub record IsEntry (is : List PlainInst) (n f : ℕ) (interface : List Plain) : Type 0 where
  pub inst : PlainInst
  pub there : slice_get is n ≡ Some inst
  pub faced : faced_by inst ≡ Some (f, interface)

-- Instruction n is an OpEntryPoint whose function the instruction f defines; in whose interface is what v defines.
pub record Begins (is : List PlainInst) (n f : ℕ) : Type 0 where
  pub function : ℕ
  pub interface : List Plain
  pub entry : IsEntry is n function interface
  pub defined : IsDefinedAt is function f

pub record NamesIn (is : List PlainInst) (interface : List Plain) (v : ℕ) : Type 0 where
  pub id : ℕ
  pub named : IsNamedIn interface id
  pub defined : IsDefinedAt is id v

-- The same of its first operands.
pub record NamesBefore (is : List PlainInst) (interface : List Plain) (to v : ℕ) : Type 0 where
  pub place : ℕ
  pub below : place < to
  pub id : ℕ
  pub there : slice_get interface place ≡ Some (Id id)
  pub defined : IsDefinedAt is id v

pub record Names (is : List PlainInst) (n v : ℕ) : Type 0 where
  pub function : ℕ
  pub interface : List Plain
  pub entry : IsEntry is n function interface
  pub names : NamesIn is interface v

-- A variable of a class other than Input and Output is in the interface.
pub record HasInner (is : List PlainInst) (interface : List Plain) : Type 0 where
  pub id : ℕ
  pub class : ℕ
  pub named : IsNamedIn interface id
  pub of : IsOfClass is id class
  pub not_input : class ≢ 1
  pub not_output : class ≢ 3

-- The interface is wrong by what is in it.
pub data IsUnsound (minor : ℕ) (is : List PlainInst) (interface : List Plain) : Type 0 where
  twice : 4 ≤ minor → (x : ℕ) × IsTwiceIn interface x → IsUnsound minor is interface
  inner : minor < 4 → HasInner is interface → IsUnsound minor is interface

pub record IsUnsoundAt (minor : ℕ) (is : List PlainInst) (n : ℕ) : Type 0 where
  pub function : ℕ
  pub interface : List Plain
  pub entry : IsEntry is n function interface
  pub unsound : IsUnsound minor is interface

-- The call tree uses a variable that is not in the interface and has to be there.
pub record IsUnnamed (G : Table) (minor : ℕ) (is : List PlainInst) (n : ℕ) : Type 0 where
  pub function : ℕ
  pub interface : List Plain
  pub entry : IsEntry is n function interface
  pub id : ℕ
  pub wanted : IsWanted minor is id
  pub used : IsInTree G is function id
  pub unnamed : ¬ (IsNamedIn interface id)

-- These are the entry points before `to`, none of which is wrong by what is in its interface.
pub record AreSound (minor : ℕ) (is : List PlainInst) (to : ℕ) (entries : List ℕ) : Type 0 where
  pub sound : (k n : ℕ) → slice_get entries k ≡ Some n → (n < to) × ¬ (IsUnsoundAt minor is n)
  pub within : (k n : ℕ) → slice_get entries k ≡ Some n → n < length is
  pub complete : (n f : ℕ) (interface : List Plain) → n < to → IsEntry is n f interface
      → (k : ℕ) × (slice_get entries k ≡ Some n)
  pub rising : (j k m n : ℕ) → j < k → slice_get entries j ≡ Some m → slice_get entries k ≡ Some n → m < n

-- These are the entry points before the first that is wrong by what is in its interface; or all, where none is.
pub record AreUpTo (minor : ℕ) (is : List PlainInst) (entries : List ℕ) (unsound : Option ℕ) : Type 0 where
  pub to : ℕ
  pub sound : AreSound minor is to entries
  pub end : MatchOption unsound (length is ≤ to) (λ n. (n ≡ to) × IsUnsoundAt minor is n)

-- The list has a number at place k, one of the first, of which something is so.
pub record IsEntered (R : ℕ → ℕ → Type 0) (few : List ℕ) (to f k : ℕ) : Type 0 where
  pub entry : ℕ
  pub below : k < to
  pub there : slice_get few k ≡ Some entry
  pub so : R entry f

-- The number is that of the list's place k, and something is so of it and of none before; it is so of none.
pub record IsFirstAt (P : ℕ → Type 0) (list : List ℕ) (n : ℕ) : Type 0 where
  pub place : ℕ
  pub there : slice_get list place ≡ Some n
  pub so : P n
  pub before : (j m : ℕ) → j < place → slice_get list j ≡ Some m → ¬ (P m)

abbrev pub IsFirstAmong : (ℕ → Type 0) → List ℕ → Option ℕ → Type 0
IsFirstAmong P list o = MatchOption o ((k n : ℕ) → slice_get list k ≡ Some n → ¬ (P n)) (IsFirstAt P list)
