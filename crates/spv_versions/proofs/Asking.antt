-- What is asked of an instruction, by what is told of its module.
use Rattle.std.proofs.Common.{◌≡◌, ◌⊎◌, ℕ, List, Some, sym, subst, inl, inr}
use Rattle.std.specs.Prelude.{slice_get}
use Rattle.spv_table.specs.Table.{Table}
use Rattle.spv_module.specs.Operand.{PlainInst}
use Rattle.spv_versions.specs.declared.late.Late.{Late}
use Rattle.spv_versions.specs.declared.table.Kind.TheVariants as kind
use Rattle.spv_versions.specs.Missing.{IsLateAt}
use Rattle.spv_versions.specs.Table.{lines}
use Rattle.spv_versions.specs.inner.Late.{AreHitIn, IsLateBy}
use Rattle.spv_versions.specs.inner.Lines.{IsListed}
use Rattle.spv_versions.specs.inner.Shapes.{HasLateForm}
use Rattle.spv_versions.specs.inner.Told.{IsInstHit}
use Rattle.spv_versions.proofs.Lateness.{hit_late, late_at, late_hit, late_inst}

-- the instruction has what is missing, or a form that the version does not have
abbrev pub IsTold : List PlainInst → Late → PlainInst → Type 0
IsTold is l i = IsInstHit l.missing.lines l.kinds.numbers i ⊎ HasLateForm is l.minor l.missing.is_without_meaning i

pub late_told : (G : Table) (minor : ℕ) (is : List PlainInst) (l : Late) (n : ℕ) (i : PlainInst)
    → IsLateBy G minor is l → slice_get is n ≡ Some i → IsTold is l i → IsLateAt G minor is n
late_told G minor is l n i by e h =
    let f = λ (m : ℕ).
    IsInstHit l.missing.lines l.kinds.numbers i ⊎ HasLateForm is m l.missing.is_without_meaning i in
    late_at G minor is n i e
    (hit_late G minor is l.missing.lines l.missing.is_without_meaning l.kinds.numbers i by.told by.numbers
    (subst f by.version h))

pub told_late : (G : Table) (minor : ℕ) (is : List PlainInst) (l : Late) (n : ℕ) (i : PlainInst)
    → IsLateBy G minor is l → slice_get is n ≡ Some i → IsLateAt G minor is n → IsTold is l i
told_late G minor is l n i by e h =
    let f = λ (m : ℕ).
    IsInstHit l.missing.lines l.kinds.numbers i ⊎ HasLateForm is m l.missing.is_without_meaning i in
    subst f (sym by.version)
    (late_hit G minor is l.missing.lines l.missing.is_without_meaning l.kinds.numbers i by.told by.numbers
    (late_inst G minor is n i e h))

pub quiet : (G : Table) (minor : ℕ) (is : List PlainInst) (l : Late) (number n : ℕ) (i : PlainInst)
    → IsLateBy G minor is l → ¬ (IsListed lines l.missing.lines kind.Opcode number)
    → ((js : List PlainInst) (j : PlainInst) → j.opcode ≡ number
    → ¬ (HasLateForm js l.minor l.missing.is_without_meaning j)) → slice_get is n ≡ Some i → i.opcode ≡ number
    → ¬ (AreHitIn l i.operands) → ¬ (IsLateAt G minor is n)
quiet G minor is l number n i by listed form e same none = λ late. elim (told_late G minor is l n i by e late) [
  | inl a ↦ elim a [
    | inl o ↦ listed (subst (λ (m : ℕ). IsListed lines l.missing.lines kind.Opcode m) same o)
    | inr os ↦ none os
  ]
  | inr f ↦ form is i same f
]
