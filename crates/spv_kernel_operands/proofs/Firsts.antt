-- The first of the rules on operands that is broken.
use Rattle.std.proofs.Common.{◌≡◌, ◌<◌, ◌≤◌, ◌⊎◌, ◌∙◌, ℕ, List, Some, None, refl, sym, subst, inl, inr, arith}
use Rattle.std.proofs.Common.{length}
use Rattle.std.specs.Prelude.{slice_get}
use Rattle.std.proofs.lemmas.Bool.{cases_order}
use Rattle.std.proofs.lemmas.Option.{same_Some, slice_get_within}
use Rattle.spv_table.specs.Table.{Table}
use Rattle.spv_module.specs.Operand.{PlainInst}
use Rattle.spv_module.specs.declared.fault.Rule.{Rule}
use Rattle.spv_module.specs.declared.fault.Rule.TheVariants.{O14, O15, O16, O17, O18, O19, O20, O23}
use Rattle.spv_layout.specs.Stage.{of_standard}
use Rattle.spv_layout.specs.First.{rank_of, stage_of, IsFirst}
use Rattle.spv_kernel_operands.specs.Scopes.{IsMisscoped}
use Rattle.spv_kernel_operands.specs.Pointers.{IsMisatomic, IsMiswritten, IsEmptyCopy}
use Rattle.spv_kernel_operands.specs.Control.{IsMiscontrolled}
use Rattle.spv_kernel_operands.specs.Switch.{IsMisswitched}
use Rattle.spv_kernel_operands.specs.Objects.{IsVoidReturn, IsMadeElsewhere}
use Rattle.spv_kernel_operands.specs.Broken.{Broken, IsBrokenBy}
use Rattle.spv_kernel_operands.specs.inner.First.{IsFirstAt, IsFirstOf}

-- what holds of each rule that an instruction breaks
pub by_rule : (G : Table) (is : List PlainInst) (i : PlainInst) (P : Rule → Type 0) → (IsMisscoped is i → P O14)
    → (IsMisatomic G is i → P O15) → (IsMiswritten is i → P O16) → (IsEmptyCopy is i → P O17)
    → (IsMiscontrolled i → P O18) → (IsMisswitched is i → P O19) → (IsVoidReturn is i → P O20) → (q : Rule)
    → IsBrokenBy G is i q → P q
by_rule G is i P a b c d e f g _ (IsBrokenBy.scopes h) = a h
by_rule G is i P a b c d e f g _ (IsBrokenBy.atomic h) = b h
by_rule G is i P a b c d e f g _ (IsBrokenBy.written h) = c h
by_rule G is i P a b c d e f g _ (IsBrokenBy.empty h) = d h
by_rule G is i P a b c d e f g _ (IsBrokenBy.control h) = e h
by_rule G is i P a b c d e f g _ (IsBrokenBy.switch h) = f h
by_rule G is i P a b c d e f g _ (IsBrokenBy.void h) = g h

pub first_scopes : (G : Table) (is : List PlainInst) (i : PlainInst) → IsMisscoped is i
    → IsFirstOf (IsBrokenBy G is i) (Some O14)
first_scopes G is i h = (
  IsBrokenBy.scopes h,
  by_rule G is i (λ q. rank_of O14 ≤ rank_of q) (λ _. omega arith) (λ _. omega arith) (λ _. omega arith)
      (λ _. omega arith) (λ _. omega arith) (λ _. omega arith) (λ _. omega arith),
)

pub first_atomic : (G : Table) (is : List PlainInst) (i : PlainInst) → ¬ (IsMisscoped is i) → IsMisatomic G is i
    → IsFirstOf (IsBrokenBy G is i) (Some O15)
first_atomic G is i a h = (
  IsBrokenBy.atomic h,
  by_rule G is i (λ q. rank_of O15 ≤ rank_of q) (λ x. absurd (a x)) (λ _. omega arith) (λ _. omega arith)
      (λ _. omega arith) (λ _. omega arith) (λ _. omega arith) (λ _. omega arith),
)

pub first_written : (G : Table) (is : List PlainInst) (i : PlainInst) → ¬ (IsMisscoped is i) → ¬ (IsMisatomic G is i)
    → IsMiswritten is i → IsFirstOf (IsBrokenBy G is i) (Some O16)
first_written G is i a b h = (
  IsBrokenBy.written h,
  by_rule G is i (λ q. rank_of O16 ≤ rank_of q) (λ x. absurd (a x)) (λ x. absurd (b x)) (λ _. omega arith)
      (λ _. omega arith) (λ _. omega arith) (λ _. omega arith) (λ _. omega arith),
)

pub first_empty : (G : Table) (is : List PlainInst) (i : PlainInst) → ¬ (IsMisscoped is i) → ¬ (IsMisatomic G is i)
    → ¬ (IsMiswritten is i) → IsEmptyCopy is i → IsFirstOf (IsBrokenBy G is i) (Some O17)
first_empty G is i a b c h = (
  IsBrokenBy.empty h,
  by_rule G is i (λ q. rank_of O17 ≤ rank_of q) (λ x. absurd (a x)) (λ x. absurd (b x)) (λ x. absurd (c x))
      (λ _. omega arith) (λ _. omega arith) (λ _. omega arith) (λ _. omega arith),
)

pub first_control : (G : Table) (is : List PlainInst) (i : PlainInst) → ¬ (IsMisscoped is i) → ¬ (IsMisatomic G is i)
    → ¬ (IsMiswritten is i) → ¬ (IsEmptyCopy is i) → IsMiscontrolled i → IsFirstOf (IsBrokenBy G is i) (Some O18)
first_control G is i a b c d h = (
  IsBrokenBy.control h,
  by_rule G is i (λ q. rank_of O18 ≤ rank_of q) (λ x. absurd (a x)) (λ x. absurd (b x)) (λ x. absurd (c x))
      (λ x. absurd (d x)) (λ _. omega arith) (λ _. omega arith) (λ _. omega arith),
)

pub first_switch : (G : Table) (is : List PlainInst) (i : PlainInst) → ¬ (IsMisscoped is i) → ¬ (IsMisatomic G is i)
    → ¬ (IsMiswritten is i) → ¬ (IsEmptyCopy is i) → ¬ (IsMiscontrolled i) → IsMisswitched is i
    → IsFirstOf (IsBrokenBy G is i) (Some O19)
first_switch G is i a b c d e h = (
  IsBrokenBy.switch h,
  by_rule G is i (λ q. rank_of O19 ≤ rank_of q) (λ x. absurd (a x)) (λ x. absurd (b x)) (λ x. absurd (c x))
      (λ x. absurd (d x)) (λ x. absurd (e x)) (λ _. omega arith) (λ _. omega arith),
)

pub first_void : (G : Table) (is : List PlainInst) (i : PlainInst) → ¬ (IsMisscoped is i) → ¬ (IsMisatomic G is i)
    → ¬ (IsMiswritten is i) → ¬ (IsEmptyCopy is i) → ¬ (IsMiscontrolled i) → ¬ (IsMisswitched is i)
    → IsVoidReturn is i → IsFirstOf (IsBrokenBy G is i) (Some O20)
first_void G is i a b c d e f h = (
  IsBrokenBy.void h,
  by_rule G is i (λ q. rank_of O20 ≤ rank_of q) (λ x. absurd (a x)) (λ x. absurd (b x)) (λ x. absurd (c x))
      (λ x. absurd (d x)) (λ x. absurd (e x)) (λ x. absurd (f x)) (λ _. omega arith),
)

pub first_none : (G : Table) (is : List PlainInst) (i : PlainInst) → ¬ (IsMisscoped is i) → ¬ (IsMisatomic G is i)
    → ¬ (IsMiswritten is i) → ¬ (IsEmptyCopy is i) → ¬ (IsMiscontrolled i) → ¬ (IsMisswitched is i)
    → ¬ (IsVoidReturn is i) → IsFirstOf (IsBrokenBy G is i) None
first_none G is i a b c d e f g = λ q b'. by_rule G is i (λ _. ⊥) a b c d e f g q b'

-- the rules at the instruction of a number
before_elsewhere : (G : Table) (is : List PlainInst) (i : PlainInst) (r : Rule) → IsBrokenBy G is i r
    → rank_of r ≤ rank_of O23
before_elsewhere G is i r b = by_rule G is i (λ q. rank_of q ≤ rank_of O23) (λ _. omega arith) (λ _. omega arith)
    (λ _. omega arith) (λ _. omega arith) (λ _. omega arith) (λ _. omega arith) (λ _. omega arith) r b

pub same_inst : (G : Table) (is : List PlainInst) (n : ℕ) (i j : PlainInst) (q : Rule) → slice_get is n ≡ Some i
    → slice_get is n ≡ Some j → IsBrokenBy G is j q → IsBrokenBy G is i q
same_inst G is n i j q one other b =
    subst (λ (k : PlainInst). IsBrokenBy G is k q) (same_Some j i (sym other ∙ one)) b

least_of : (G : Table) (is : List PlainInst) (n : ℕ) (i : PlainInst) (r : Rule) → slice_get is n ≡ Some i
    → IsFirstOf (IsBrokenBy G is i) (Some r) → (q : Rule) → Broken G is q n → rank_of r ≤ rank_of q
least_of G is _ i r there h _ (Broken.operands q n j t b) = h.1 q (same_inst G is n i j q there t b)
least_of G is _ i r there h _ (Broken.elsewhere n e) = before_elsewhere G is i r h.0

pub first_of_inst : (G : Table) (is : List PlainInst) (n : ℕ) (i : PlainInst) (r : Rule) → slice_get is n ≡ Some i
    → IsFirstOf (IsBrokenBy G is i) (Some r) → IsFirstAt G is n (Some r)
first_of_inst G is n i r there h = (Broken.operands r n i there h.0, least_of G is n i r there h)

elsewhere_only : (G : Table) (is : List PlainInst) (n : ℕ) (i : PlainInst) → slice_get is n ≡ Some i
    → IsFirstOf (IsBrokenBy G is i) None → (q : Rule) → Broken G is q n → rank_of O23 ≤ rank_of q
elsewhere_only G is _ i there none _ (Broken.operands q n j t b) = absurd (none q (same_inst G is n i j q there t b))
elsewhere_only G is _ i there none _ (Broken.elsewhere n e) = omega arith

pub first_elsewhere : (G : Table) (is : List PlainInst) (n : ℕ) (i : PlainInst) → slice_get is n ≡ Some i
    → IsFirstOf (IsBrokenBy G is i) None → IsMadeElsewhere is n → IsFirstAt G is n (Some O23)
first_elsewhere G is n i there none e = (Broken.elsewhere n e, elsewhere_only G is n i there none)

-- of all instructions
none_at : (G : Table) (is : List PlainInst) (n : ℕ) (i : PlainInst) → slice_get is n ≡ Some i
    → IsFirstOf (IsBrokenBy G is i) None → ¬ (IsMadeElsewhere is n) → (q : Rule) → ¬ (Broken G is q n)
none_at G is _ i there none not _ (Broken.operands q n j t b) = none q (same_inst G is n i j q there t b)
none_at G is _ i there none not _ (Broken.elsewhere n e) = not e

pub first_nowhere : (G : Table) (is : List PlainInst) (n : ℕ) (i : PlainInst) → slice_get is n ≡ Some i
    → IsFirstOf (IsBrokenBy G is i) None → ¬ (IsMadeElsewhere is n) → IsFirstAt G is n None
first_nowhere G is n i there none not = none_at G is n i there none not

pub broken_there : (G : Table) (is : List PlainInst) (r : Rule) (n : ℕ) → Broken G is r n → n < length is
broken_there G is _ _ (Broken.operands r n i t b) = slice_get_within is n i t
broken_there G is _ _ (Broken.elsewhere n e) = slice_get_within is n e.inst e.there

pub stage_by : (G : Table) (is : List PlainInst) (r : Rule) (n : ℕ) → Broken G is r n → stage_of r ≡ of_standard
stage_by G is _ _ (Broken.operands r n i t b) = by_rule G is i (λ q. stage_of q ≡ of_standard) (λ _. refl) (λ _. refl)
    (λ _. refl) (λ _. refl) (λ _. refl) (λ _. refl) (λ _. refl) r b
stage_by G is _ _ (Broken.elsewhere n e) = refl

least_by : (G : Table) (is : List PlainInst) (r : Rule) (n : ℕ) → ((q : Rule) (m : ℕ) → m < n → ¬ (Broken G is q m))
    → ((q : Rule) → Broken G is q n → rank_of r ≤ rank_of q) → (q : Rule) (m : ℕ) → Broken G is q m
    → (n < m) ⊎ ((n ≡ m) × (rank_of r ≤ rank_of q))
least_by G is r n before here q m b = elim (cases_order n m) [
  | inl same ↦ inr (same, here q (subst (λ (k : ℕ). Broken G is q k) (sym same) b))
  | inr apart ↦ elim apart [
    | inl less ↦ inl less
    | inr more ↦ absurd (before q m more b)
  ]
]

pub first_found : (G : Table) (is : List PlainInst) (r : Rule) (n : ℕ) → IsFirstAt G is n (Some r)
    → ((q : Rule) (m : ℕ) → m < n → ¬ (Broken G is q m)) → IsFirst (Broken G is) of_standard r n
first_found G is r n h before = record {
  of_stage = stage_by G is r n h.0;
  broken = h.0;
  least = λ q m s b. least_by G is r n before h.1 q m b;
}
