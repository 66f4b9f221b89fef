-- Uses that are not in scope. (For the code alone.)
use Rattle.std.specs.Prelude.{◌≡◌, ◌<◌, ℕ, List, Option, Some, MatchOption}
use Rattle.spv_module.specs.Operand.{PlainInst}
use Rattle.spv_layout.specs.declared.form.Role.{Role}
use Rattle.spv_ids.specs.Definition.{IsDefinedAt}
use Rattle.spv_ids.specs.Order.{IsInScope}
use Rattle.spv_ids.specs.inner.Known.{IsHome}
use Rattle.spv_form_evidence.specs.declared.ids.kept.Kept.{Kept}
use Rattle.spv_form_evidence.specs.ids.Evidence.{IsLocalBy}
use Rattle.spv_form_evidence.specs.ids.inner.Known.{AreKept}

-- a definition of the id before instruction n that is local to a function, and to the function `here` if one is
pub record IsLocalOne (is : List PlainInst) (here : Option ℕ) (n x m : ℕ) : Type 0 where
  pub there : IsDefinedAt is x m
  pub function : ℕ
  pub home : IsHome is m function
  pub same : (k f : ℕ) → k < n → IsDefinedAt is x k → IsHome is k f → here ≡ Some f → function ≡ f

abbrev pub IsLocalBefore : List PlainInst → Option ℕ → ℕ → ℕ → Option ℕ → Type 0
IsLocalBefore is here n x o =
    MatchOption o ((k f : ℕ) → k < n → IsDefinedAt is x k → ¬ (IsHome is k f)) (λ m. IsLocalOne is here n x m)

-- Of each id below the bound, such a definition is kept.
abbrev pub AreLocal : ℕ → List PlainInst → Option ℕ → ℕ → Kept → Type 0
AreLocal bound is here n k = AreKept bound (IsLocalBefore is here n) k

-- The id is below the bound and local to the function f by its definition m, and a use of it by instruction n is not in
-- scope, in whatever role.
pub record IsUnscoped (bound : ℕ) (is : List PlainInst) (n m f x : ℕ) (r : Role) : Type 0 where
  pub below : x < bound
  pub local : IsLocalBy is x m f
  pub not : ¬ (IsInScope is n x)
