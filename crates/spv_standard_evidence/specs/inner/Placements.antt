-- Groups of members with a decoration that no member may have. (For the code alone.)
use Rattle.std.specs.Prelude.{◌≡◌, ℕ, List, Some, slice_get}
use Rattle.spv_module.specs.Operand.{PlainInst}
use Rattle.spv_declarations.specs.Given.{Gives}
use Rattle.spv_declarations.specs.Table.{IsNeverOnMembers}

-- some instruction gives the group a decoration that is never one of members
pub record IsGivenNever (is : List PlainInst) (g : ℕ) : Type 0 where
  pub place : ℕ
  pub inst : PlainInst
  pub there : slice_get is place ≡ Some inst
  pub decoration : ℕ
  pub gives : Gives decoration inst g
  pub never : IsNeverOnMembers decoration

-- that instruction does
abbrev pub IsGivenNeverAt : List PlainInst → ℕ → ℕ → Type 0
IsGivenNeverAt is g n = (e : IsGivenNever is g) × (e.place ≡ n)
