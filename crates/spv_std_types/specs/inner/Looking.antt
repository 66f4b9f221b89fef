-- What one pass over the calls finds. (For the code alone.)
use Rattle.std.specs.Prelude.{◌≡◌, ◌<◌, ℕ, List, Option, Some, None, Bool, true, false, MatchOption}
use Rattle.spv_module.specs.Operand.{PlainInst}
use Rattle.spv_extended.specs.declared.set.Set.TheVariants.{OpenClStd}
use Rattle.spv_extended.specs.Miscalled.{IsMiscalled}
use Rattle.spv_extended.specs.Sets.{set_in}
use Rattle.spv_std_types.specs.declared.calls.Look.{Look}
use Rattle.spv_std_types.specs.declared.calls.Look.TheVariants.{Other, Missing, Std}
use Rattle.spv_std_types.specs.declared.calls.Pass.{Pass}
use Rattle.spv_std_types.specs.declared.condition.Condition.{Condition}
use Rattle.spv_std_types.specs.Mistyped.{IsFirstMistyped, IsMistyped}
use Rattle.spv_std_types.specs.inner.Failing.{IsFound}

-- the id, if there is one, stands for OpenCL.std
abbrev pub FindsStd : List PlainInst → Option ℕ → Type 0
FindsStd is known = MatchOption known (Unit {0}) (λ x. set_in is x ≡ OpenClStd)

-- what is told of a call, where it is known whether it misses, and which conditions it breaks
abbrev pub Tells : List PlainInst → Bool → (Condition → Type 0) → Look → Type 0
Tells is missed P Other = (missed ≡ false) × IsFound P None
Tells is missed P Missing = missed ≡ true
Tells is missed P (Std x o) = (missed ≡ false) × (set_in is x ≡ OpenClStd) × IsFound P o

-- the first instruction that breaks Y10, if one of those before n does
abbrev pub IsFirstUpTo : List PlainInst → ℕ → Option ℕ → Type 0
IsFirstUpTo is n None = (k : ℕ) → k < n → ¬ (IsMistyped is k)
IsFirstUpTo is n (Some m) = IsFirstMistyped is (Some m)

-- what was found in the instructions before n, of which none breaks Y9
pub record IsPassed (is : List PlainInst) (n : ℕ) (pass : Pass) : Type 0 where
  pub known : FindsStd is pass.known
  pub called : (k : ℕ) → k < n → ¬ (IsMiscalled is k)
  pub mistyped : IsFirstUpTo is n pass.mistyped
