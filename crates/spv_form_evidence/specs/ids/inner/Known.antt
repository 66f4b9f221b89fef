-- What is kept of ids while evidence is looked for. (For the code alone.)
use Rattle.std.specs.Prelude.{◌≡◌, ◌<◌, ℕ, List, Option, Some, None, MatchOption, nat_lt}
use Rattle.std.specs.Prelude.{if◌then◌else◌, slice_get, unwrap_or}
use Rattle.std.specs.Ordering.{nat_cmp}
use Rattle.std.specs.BTreeMap.{get}
use Rattle.spv_module.specs.Operand.{PlainInst}
use Rattle.spv_ids.specs.Definition.{IsDefinedAt}
use Rattle.spv_form_evidence.specs.declared.ids.kept.Kept.{Kept}

-- the instruction that is kept of an id, if one is: of an id below the bound what the list has at its place, or past it
-- the map
abbrev pub kept : Kept → ℕ → Option ℕ
kept k x = if nat_lt x k.bound then unwrap_or (slice_get k.near.items x) (get nat_cmp k.far x) else None

-- The instruction is kept of the id, if that is below the bound, and all else is as before.
pub record Puts (old new : Kept) (id inst : ℕ) : Type 0 where
  pub same : new.bound ≡ old.bound
  pub here : id < old.bound → kept new id ≡ Some inst
  pub others : (x : ℕ) → (x ≡ id → ⊥) → kept new x ≡ kept old x

-- Of each id below the bound, what is kept is as it says.
pub record AreKept (bound : ℕ) (P : ℕ → Option ℕ → Type 0) (k : Kept) : Type 0 where
  pub same : k.bound ≡ bound
  pub each : (x : ℕ) → x < bound → P x (kept k x)

-- the first instruction that defines the id, before instruction n
pub record IsFirstOne (is : List PlainInst) (n x m : ℕ) : Type 0 where
  pub below : m < n
  pub there : IsDefinedAt is x m
  pub first : (k : ℕ) → k < m → ¬ (IsDefinedAt is x k)

abbrev pub IsFirstBefore : List PlainInst → ℕ → ℕ → Option ℕ → Type 0
IsFirstBefore is n x o = MatchOption o ((k : ℕ) → k < n → ¬ (IsDefinedAt is x k)) (λ m. IsFirstOne is n x m)

abbrev pub AreFirst : ℕ → List PlainInst → ℕ → Kept → Type 0
AreFirst bound is n k = AreKept bound (IsFirstBefore is n) k
