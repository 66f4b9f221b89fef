-- Where declarations lie among the slots. (For the code alone.)
use Rattle.std.specs.Prelude.{◌≡◌, ◌<◌, ◌≤◌, ◌+◌, ◌-◌, ◌%◌, ℕ, List, IsSomeAnd, MatchOption, nat_eq, nat_lt}
use Rattle.std.specs.Prelude.{if◌then◌else◌, length, slice_get}
use Rattle.spv_module.specs.Operand.{PlainInst}
use Rattle.spv_module.specs.Module.{plain_inst}
use Rattle.spv_type_rules.specs.declared.repeat.Slot.{Slot}
use Rattle.spv_type_rules.specs.declared.repeat.Held.{Held}
use Rattle.spv_type_rules.specs.declared.repeat.Held.TheVariants.{Nothing, Alike, Other}
use Rattle.spv_type_rules.specs.declared.repeat.Place.{Place}
use Rattle.spv_type_rules.specs.declared.repeat.Place.TheVariants.{Taken, Free, Nowhere}
use Rattle.spv_type_rules.specs.inner.Print.{fingerprint_of}
use Rattle.spv_type_rules.specs.inner.Repeat.{AreAlike}

-- the slots in which a declaration may lie, of n slots: the first, by its fingerprint, and the end
abbrev pub first_in : ℕ → ℕ → ℕ
first_in n print = if nat_eq n 0 then 0 else print % n

abbrev pub end_after : ℕ → ℕ → ℕ
end_after n first = if nat_lt (n - first) 4 then n else first + 4

abbrev pub first_of : List Slot → PlainInst → ℕ
first_of slots i = first_in (length slots) (fingerprint_of i)

abbrev pub end_of : List Slot → PlainInst → ℕ
end_of slots i = end_after (length slots) (first_of slots i)

-- a slot is free, or holds a declaration that is alike
abbrev pub IsFree : Slot → Type 0
IsFree s = MatchOption s.inst (Unit {0}) (λ _. ⊥)

abbrev pub HoldsAlike : PlainInst → Slot → Type 0
HoldsAlike i s = IsSomeAnd s.inst (λ j. (s.fingerprint ≡ fingerprint_of i) × AreAlike i (plain_inst j.now))

-- what the code tells of a slot
abbrev pub IsHeld : PlainInst → Slot → Held → Type 0
IsHeld i s Nothing = IsFree s
IsHeld i s Alike = HoldsAlike i s
IsHeld i s Other = (¬ (IsFree s)) × (¬ (HoldsAlike i s))

-- the same of the slot of a number
abbrev pub IsFreeAt : List Slot → ℕ → Type 0
IsFreeAt slots p = IsSomeAnd (slice_get slots p) IsFree

abbrev pub IsAlikeAt : List Slot → PlainInst → ℕ → Type 0
IsAlikeAt slots i p = IsSomeAnd (slice_get slots p) (HoldsAlike i)

abbrev pub IsOtherAt : List Slot → PlainInst → ℕ → Type 0
IsOtherAt slots i p = (¬ (IsFreeAt slots p)) × (¬ (IsAlikeAt slots i p))

-- a slot is reached, past those of other declarations
pub record IsReachedIn (slots : List Slot) (first end : ℕ) (i : PlainInst) (p : ℕ) : Type 0 where
  pub from : first ≤ p
  pub below : p < end
  pub others : (q : ℕ) → first ≤ q → q < p → IsOtherAt slots i q

abbrev pub IsReached : List Slot → PlainInst → ℕ → Type 0
IsReached slots i p = IsReachedIn slots (first_of slots i) (end_of slots i) i p

-- what the code tells of where a declaration lies
abbrev pub IsPlace : List Slot → PlainInst → Place → Type 0
IsPlace slots i (Taken p) = IsReached slots i p × IsAlikeAt slots i p
IsPlace slots i (Free p) = IsReached slots i p × IsFreeAt slots p
IsPlace slots i Nowhere = (q : ℕ) → first_of slots i ≤ q → q < end_of slots i → IsOtherAt slots i q
