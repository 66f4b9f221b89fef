-- The types that may be declared once only, before an instruction. (For the code alone.)
use Rattle.std.specs.Prelude.{◌≡◌, ◌<◌, ◌≤◌, ◌⊎◌, ℕ, List, [], ◌∷◌, Some, IsTrue, slice_get}
use Rattle.std.specs.Prelude.{Vec}
use Rattle.std.specs.Global.{Global}
use Rattle.spv_module.specs.Operand.{PlainInst}
use Rattle.spv_type_rules.specs.declared.repeat.Slot.{Slot}
use Rattle.spv_type_rules.specs.declared.repeat.Seen.{Seen}
use Rattle.spv_type_rules.specs.inner.Repeat.{AreAlike, is_declared_once}
use Rattle.spv_type_rules.specs.inner.Key.{key_of}
use Rattle.spv_type_rules.specs.inner.Slots.{first_of, end_of, IsFreeAt, IsAlikeAt}

-- instruction m declares a type that may be declared once only, and this is its key
pub record IsKeyAt (is : List PlainInst) (m : ℕ) (k : List ℕ) : Type 0 where
  pub inst : PlainInst
  pub there : slice_get is m ≡ Some inst
  pub once : IsTrue (is_declared_once inst.opcode)
  pub key : key_of inst ≡ k

-- the key is among these
abbrev pub HasKey : List ℕ → List (Vec ℕ Global) → Type 0
HasKey k [] = ⊥
HasKey k (v ∷ vs) = (v.items ≡ k) ⊎ HasKey k vs

-- an instruction before n is alike
pub record IsAlikeBefore (is : List PlainInst) (n : ℕ) (i : PlainInst) : Type 0 where
  pub place : ℕ
  pub earlier : place < n
  pub other : PlainInst
  pub there : slice_get is place ≡ Some other
  pub alike : AreAlike i other

-- a slot holds a declaration that is alike, and no free one is before it; no slot is free, and the key is kept
pub record IsNearIn (slots : List Slot) (first end : ℕ) (i : PlainInst) : Type 0 where
  pub place : ℕ
  pub from : first ≤ place
  pub below : place < end
  pub full : (q : ℕ) → first ≤ q → q < place → ¬ (IsFreeAt slots q)
  pub alike : IsAlikeAt slots i place

pub record IsFarFrom (slots : List Slot) (first end : ℕ) (others : List (Vec ℕ Global)) (i : PlainInst) : Type 0 where
  pub full : (q : ℕ) → first ≤ q → q < end → ¬ (IsFreeAt slots q)
  pub kept : HasKey (key_of i) others

abbrev pub IsNear : List Slot → PlainInst → Type 0
IsNear slots i = IsNearIn slots (first_of slots i) (end_of slots i) i

abbrev pub IsFar : List Slot → List (Vec ℕ Global) → PlainInst → Type 0
IsFar slots others i = IsFarFrom slots (first_of slots i) (end_of slots i) others i

-- The declarations are those of the instructions before n.
pub record AreKept (is : List PlainInst) (n : ℕ) (slots : List Slot) (others : List (Vec ℕ Global)) : Type 0 where
  pub near : (p : ℕ) (i : PlainInst) → IsAlikeAt slots i p → IsAlikeBefore is n i
  pub far : (k : List ℕ) → HasKey k others → (m : ℕ) × (m < n) × IsKeyAt is m k
  pub each : (m : ℕ) (i : PlainInst) → m < n → slice_get is m ≡ Some i → IsTrue (is_declared_once i.opcode)
      → IsNear slots i ⊎ IsFar slots others i

abbrev pub AreSeen : List PlainInst → ℕ → Seen → Type 0
AreSeen is n seen = AreKept is n seen.slots.items seen.others.keys
