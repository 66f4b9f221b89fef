-- The interfaces of entry points: O4. [3.49.5; 2.16.1, static call tree]
use Rattle.std.specs.Prelude.{if◌then◌else◌, ◌≡◌, ◌≢◌, ◌≤◌, ◌<◌, ◌⊎◌, ℕ, List, ◌∷◌, Option, Some, None, nat_eq}
use Rattle.std.specs.Prelude.{slice_get}
use Rattle.spv_table.specs.Table.{Table}
use Rattle.spv_module.specs.declared.opcode.TheConstants as opcode
use Rattle.spv_module.specs.Operand.{Plain, Id, Text, Value, PlainInst}
use Rattle.spv_module.specs.Width.{type_of}
use Rattle.spv_layout.specs.declared.form.Role.{Role}
use Rattle.spv_layout.specs.Place.{IsDefinition, IsOfFunction}
use Rattle.spv_ids.specs.Definition.{IsDefinedAt, IsUsedAt}
use Rattle.spv_type_forms.specs.Definitions.{IsGlobal}
use Rattle.spv_type_forms.specs.Types.{IsPointer}
use Rattle.spv_flow.specs.calls.Calls.{Calls}
use Rattle.spv_flow.specs.calls.Chain.{Chain}

-- OpEntryPoint model %f "name" ..: the function, and what stands behind the name, the interface [3.49.5]
abbrev pub face_in : List Plain → Option (ℕ × List Plain)
face_in (Value k model ∷ Id f ∷ Text name ∷ os) = Some (f, os)
face_in _ = None

abbrev pub faced_by : PlainInst → Option (ℕ × List Plain)
faced_by i = if nat_eq i.opcode opcode.ENTRY_POINT then face_in i.operands else None

-- The id x stands in an interface; at two places of it. [3.49.5]
abbrev pub IsNamedIn : List Plain → ℕ → Type 0
IsNamedIn interface x = (k : ℕ) × (slice_get interface k ≡ Some (Id x))

pub record IsTwiceIn (interface : List Plain) (x : ℕ) : Type 0 where
  pub first : ℕ
  pub second : ℕ
  pub order : first < second
  pub one : slice_get interface first ≡ Some (Id x)
  pub other : slice_get interface second ≡ Some (Id x)

-- A variable of section 9 is of the storage class; it is one of Input (1) or Output (3). [3.7]
pub record IsOfClass (is : List PlainInst) (x class : ℕ) : Type 0 where
  pub global : IsGlobal is x
  pub type : ℕ
  pub typed : type_of is x ≡ Some type
  pub pointee : ℕ
  pub pointer : IsPointer is type class pointee

abbrev pub IsOutside : List PlainInst → ℕ → Type 0
IsOutside is x = IsOfClass is x 1 ⊎ IsOfClass is x 3

-- The call tree of the function of the id f uses the variable x: some instruction of a definition uses it to which a
-- chain of calls leads from that function. [2.16.1]
pub record IsInTree (G : Table) (is : List PlainInst) (f x : ℕ) : Type 0 where
  pub root : ℕ
  pub defined : IsDefinedAt is f root
  pub function : ℕ
  pub chain : Chain (Calls is) root function
  pub definition : IsDefinition is function
  pub inst : ℕ
  pub of : IsOfFunction is inst function
  pub operand : ℕ
  pub role : Role
  pub used : IsUsedAt G is inst operand x role
  pub variable : IsGlobal is x

-- In a module of version 1.minor an interface of the function f is wrong: from 1.4 on, where an id is twice in it, or a
-- variable is not there that the call tree uses; before, where a variable in it is neither of Input nor of Output, or
-- one of these is not there that the call tree uses. [3.49.5]
pub data IsWrong (G : Table) (minor : ℕ) (is : List PlainInst) (f : ℕ) (interface : List Plain) : Type 0 where
  twice : (x : ℕ) → 4 ≤ minor → IsTwiceIn interface x → IsWrong G minor is f interface
  unnamed : (x : ℕ) → 4 ≤ minor → IsInTree G is f x → ¬ (IsNamedIn interface x) → IsWrong G minor is f interface
  inner : (x class : ℕ) → minor < 4 → IsNamedIn interface x → IsOfClass is x class → class ≢ 1 → class ≢ 3
      → IsWrong G minor is f interface
  unnamed_outside : (x : ℕ) → minor < 4 → IsInTree G is f x → IsOutside is x → ¬ (IsNamedIn interface x)
      → IsWrong G minor is f interface

-- O4: instruction n is an OpEntryPoint whose interface is wrong. [3.49.5]
pub record IsMisfaced (G : Table) (minor : ℕ) (is : List PlainInst) (n : ℕ) : Type 0 where
  pub inst : PlainInst
  pub there : slice_get is n ≡ Some inst
  pub function : ℕ
  pub interface : List Plain
  pub faced : faced_by inst ≡ Some (function, interface)
  pub wrong : IsWrong G minor is function interface
