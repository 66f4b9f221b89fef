-- What is kept of types without a null value. (For the code alone.)
use Rattle.std.specs.Prelude.{◌≡◌, ◌<◌, ◌↔◌, ℕ, List, Bool, Some, IsTrue, slice_get, option_and_then}
use Rattle.spv_module.specs.Operand.{Plain, PlainInst}
use Rattle.spv_ids.specs.Outcome.{IsOnly}
use Rattle.spv_type_forms.specs.declared.nulls.Nulls.{Nulls}
use Rattle.spv_type_forms.specs.Parts.{id_in}
use Rattle.spv_type_forms.specs.Null.{LacksNull}

-- Of the first instructions, whether each declares a type that has no null value.
pub record AreLacking (is : List PlainInst) (ls : List Bool) : Type 0 where
  pub each : (t m : ℕ) (b : Bool) → IsOnly is t m → slice_get ls m ≡ Some b → IsTrue b ↔ LacksNull is t

-- The type has no null value, and is declared before instruction n.
pub record LacksBefore (is : List PlainInst) (n u : ℕ) : Type 0 where
  pub place : ℕ
  pub before : place < n
  pub one : IsOnly is u place
  pub lacks : LacksNull is u

-- The member k, or one of the members, is the id of such a type.
pub record MemberLacks (is : List PlainInst) (n : ℕ) (ms : List Plain) (k : ℕ) : Type 0 where
  pub id : ℕ
  pub named : option_and_then id_in (slice_get ms k) ≡ Some id
  pub lacks : LacksBefore is n id

abbrev pub OneLacks : List PlainInst → ℕ → List Plain → Type 0
OneLacks is n ms = (k : ℕ) × MemberLacks is n ms k

-- What is kept is so.
abbrev pub AreNulls : List PlainInst → Nulls → Type 0
AreNulls is nulls = AreLacking is nulls.lacks.items
