-- Uses that are not in order. (For the code alone.)
use Rattle.std.specs.Prelude.{◌≡◌, ◌<◌, ℕ, List, Option, MatchOption}
use Rattle.spv_module.specs.Operand.{PlainInst}
use Rattle.spv_layout.specs.declared.form.Role.{Role}
use Rattle.spv_layout.specs.Place.{IsOfSection}
use Rattle.spv_ids.specs.Definition.{IsDefinedAt}
use Rattle.spv_ids.specs.Order.{HasOpcode, Announces, IsInOrder}
use Rattle.spv_form_evidence.specs.declared.ids.kept.Kept.{Kept}
use Rattle.spv_form_evidence.specs.declared.ids.order.Site.{Site}
use Rattle.spv_form_evidence.specs.ids.inner.Known.{AreKept}

-- whether an OpTypeForwardPointer before instruction n names the id
pub record IsAnnounced (is : List PlainInst) (n x m : ℕ) : Type 0 where
  pub below : m < n
  pub there : Announces is m x

abbrev pub IsAnnouncedBefore : List PlainInst → ℕ → ℕ → Option ℕ → Type 0
IsAnnouncedBefore is n x o = MatchOption o ((k : ℕ) → k < n → ¬ (Announces is k x)) (λ m. IsAnnounced is n x m)

-- Of each id below the bound, an OpTypeForwardPointer before instruction n that names it is kept.
abbrev pub AreAnnounced : ℕ → List PlainInst → ℕ → Kept → Type 0
AreAnnounced bound is n k = AreKept bound (IsAnnouncedBefore is n) k

-- The site is that of instruction n.
pub record IsSite (is : List PlainInst) (n : ℕ) (site : Site) : Type 0 where
  pub inst : site.inst ≡ n
  pub opcode : HasOpcode is n site.opcode
  pub section : IsOfSection is n site.section

-- The id is below the bound and has definition m, and a use of it by instruction n is not in order, in whatever role.
pub record IsDisordered (bound : ℕ) (is : List PlainInst) (n m x : ℕ) (r : Role) : Type 0 where
  pub below : x < bound
  pub defined : IsDefinedAt is x m
  pub not : ¬ (IsInOrder is n x)
