-- Types with a null value. [3.49.7 OpConstantNull]
use Rattle.std.specs.Prelude.{◌≡◌, ◌<◌, ℕ, List, Bool, true, false, Some, IsTrue}
use Rattle.spv_module.specs.Operand.{PlainInst}
use Rattle.spv_ids.specs.Outcome.{IsOnly}
use Rattle.spv_type_kinds.specs.declared.kinds.Object.{Object}
use Rattle.spv_type_kinds.specs.declared.kinds.Object.TheVariants as object
use Rattle.spv_type_forms.specs.declared.form.Form.TheVariants as form
use Rattle.spv_type_forms.specs.Form.{form_of}
use Rattle.spv_type_forms.specs.Types.{IsData}
use Rattle.spv_type_forms.specs.Parts.{part_of}

-- the objects that have no null value: images, samplers, pipes, pipe storage and named barriers [3.49.7]
abbrev pub lacks_null : Object → Bool
lacks_null object.Image = true
lacks_null object.Sampler = true
lacks_null object.Pipe = true
lacks_null object.PipeStorage = true
lacks_null object.NamedBarrier = true
lacks_null _ = false

-- The one definition of the id u stands before that of t. [2.4]
pub record IsEarlier (is : List PlainInst) (u t : ℕ) : Type 0 where
  pub place : ℕ
  pub later : ℕ
  pub before : place < later
  pub one : IsOnly is u place
  pub next : IsOnly is t later

-- A type has no null value: it is one of such objects, an array of elements that have none, or a struct with a member
-- that has none. A member that is declared later is a pointer, which has one. [3.49.7]
pub data LacksNull (is : List PlainInst) : ℕ → Type 0 where
  itself : (t : ℕ) (o : Object) → form_of is t ≡ Some (form.Object o) → IsTrue (lacks_null o) → LacksNull is t
  element : (t e l : ℕ) → form_of is t ≡ Some (form.Array e l) → IsEarlier is e t → LacksNull is e → LacksNull is t
  member : (t k u : ℕ) → form_of is t ≡ Some form.Struct → part_of is t k ≡ Some u → IsEarlier is u t
      → LacksNull is u → LacksNull is t

-- a data type that has a null value [3.49.7]
abbrev pub IsNullable : List PlainInst → ℕ → Type 0
IsNullable is t = IsData is t × (¬ (LacksNull is t))
