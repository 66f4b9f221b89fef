-- The parts of O14 together.
use Rattle.std.proofs.Common.{◌≡◌, ◌∙◌, ℕ, List, Option, Some, inl, inr, IsTrue, Contains, get_or}
use Rattle.std.proofs.Common.{sym, subst, arith}
use Rattle.std.specs.Prelude.{slice_get}
use Rattle.std.proofs.lemmas.Option.{same_Some, slice_get-get_or, slice_get_within}
use Rattle.spv_module.specs.declared.opcode.TheConstants as opcode
use Rattle.spv_module.specs.Operand.{Plain, PlainInst}
use Rattle.spv_kernel_operands.specs.Value.{value_at, has_bit}
use Rattle.spv_kernel_operands.specs.Seats.{scopes_of, semantics_of}
use Rattle.spv_kernel_operands.specs.Scopes.{IsMisscoped, IsTooStrong, is_group}
use Rattle.spv_kernel_operands.specs.inner.Scopes.{HasHighScope, IsNoGroup, HasBadSemantics, HasOwnBadSemantics}
use Rattle.spv_kernel_operands.specs.inner.Scopes.{IsNewlySequential, IsNewlyAcquiring}

-- semantics that are stronger in one of the two ways, or release
pub strong_from_sequential : (o : Option ℕ) (m n : ℕ) → o ≡ Some m → IsNewlySequential m n → IsTooStrong o n
strong_from_sequential o m n e h = IsTooStrong.sequential m e h.0 h.1

pub strong_from_acquiring : (o : Option ℕ) (m n : ℕ) → o ≡ Some m → IsNewlyAcquiring m n → IsTooStrong o n
strong_from_acquiring o m n e h = IsTooStrong.acquires m e h.0 h.1

pub strong_within : (o : Option ℕ) (m n : ℕ) → o ≡ Some m → ¬ (IsTrue (has_bit n 12)) → ¬ (IsNewlySequential m n)
    → IsTooStrong o n → IsNewlyAcquiring m n
strong_within o m n e r s (IsTooStrong.releases t) = absurd (r t)
strong_within o m n e r s (IsTooStrong.sequential k f t u) =
    let same : k ≡ m = same_Some k m (sym f ∙ e) in
    absurd (s (subst (λ (x : ℕ). IsNewlySequential x n) same (t, u)))
strong_within o m n e r s (IsTooStrong.acquires k f t u) =
    let same : k ≡ m = same_Some k m (sym f ∙ e) in
    subst (λ (x : ℕ). IsNewlyAcquiring x n) same (t, u)

-- what is asked of OpAtomicCompareExchange
pub own_from : (is : List PlainInst) (i : PlainInst) (os : List Plain) (o : Option ℕ) (n : ℕ) → os ≡ i.operands
    → i.opcode ≡ opcode.ATOMIC_COMPARE_EXCHANGE → value_at is os 5 ≡ Some n → o ≡ value_at is os 4 → IsTooStrong o n
    → HasOwnBadSemantics is i
own_from is i os o n same called value equal h = inl (
  called,
  (
    n,
    subst (λ (xs : List Plain). value_at is xs 5 ≡ Some n) same value,
    subst (λ (xs : List Plain). IsTooStrong (value_at is xs 4) n) same
        (subst (λ (p : Option ℕ). IsTooStrong p n) equal h),
  ),
)

pub own_within : (is : List PlainInst) (i : PlainInst) (os : List Plain) (o : Option ℕ) (n : ℕ) → os ≡ i.operands
    → i.opcode ≡ opcode.ATOMIC_COMPARE_EXCHANGE → value_at is os 5 ≡ Some n → o ≡ value_at is os 4
    → HasOwnBadSemantics is i → IsTooStrong o n
own_within is i os o n same called value equal (inl h) =
    let one : value_at is i.operands 5 ≡ Some n =
    subst (λ (xs : List Plain). value_at is xs 5 ≡ Some n) same value in
    let number : h.1.0 ≡ n = same_Some h.1.0 n (sym h.1.1 ∙ one) in
    subst (λ (p : Option ℕ). IsTooStrong p n) (sym equal)
    (subst (λ (xs : List Plain). IsTooStrong (value_at is xs 4) n) (sym same)
    (subst (λ (m : ℕ). IsTooStrong (value_at is i.operands 4) m) number h.1.2))
own_within is i os o n same called value equal (inr h) =
    let no : opcode.ATOMIC_COMPARE_EXCHANGE ≡ opcode.ATOMIC_FLAG_CLEAR = sym called ∙ h.0 in
    absurd (omega (arith, no))

contains_first : (xs : List ℕ) (x : ℕ) → slice_get xs 0 ≡ Some x → Contains xs x
contains_first xs x e =
    let l = slice_get_within xs 0 x e in
    (0, l, same_Some (get_or xs 0 x) x (sym (slice_get-get_or xs 0 x l) ∙ e))

-- each part breaks the rule
pub misscoped_high : (is : List PlainInst) (i : PlainInst) (os : List Plain) (ss : List ℕ) → os ≡ i.operands
    → ss ≡ scopes_of i.opcode → HasHighScope is os ss → IsMisscoped is i
misscoped_high is i os ss eo es h = IsMisscoped.scope h.seat h.number record {
  seat = subst (λ (xs : List ℕ). Contains xs h.seat) es h.among;
  value = subst (λ (xs : List Plain). value_at is xs h.seat ≡ Some h.number) eo h.value;
} h.holds

pub misscoped_group : (is : List PlainInst) (i : PlainInst) (ss : List ℕ) → ss ≡ scopes_of i.opcode
    → IsTrue (is_group i.opcode) → IsNoGroup is i.operands ss → IsMisscoped is i
misscoped_group is i ss es g h =
    let first : slice_get (scopes_of i.opcode) 0 ≡ Some h.seat =
    subst (λ (xs : List ℕ). slice_get xs 0 ≡ Some h.seat) es h.first in
    IsMisscoped.group h.seat h.number g first record {
      seat = contains_first (scopes_of i.opcode) h.seat first;
      value = h.value;
    } h.workgroup h.subgroup

pub misscoped_semantics : (is : List PlainInst) (i : PlainInst) (os : List Plain) (ms : List ℕ) → os ≡ i.operands
    → ms ≡ semantics_of i.opcode → HasBadSemantics is os ms → IsMisscoped is i
misscoped_semantics is i os ms eo em h =
    let seat = subst (λ (xs : List ℕ). Contains xs h.seat) em h.among in
    let value = subst (λ (xs : List Plain). value_at is xs h.seat ≡ Some h.number) eo h.value in
    elim h.holds [
      | inl order ↦ IsMisscoped.order h.seat h.number record { seat = seat; value = value } order
      | inr bit ↦ IsMisscoped.capable h.seat h.number record { seat = seat; value = value } bit
    ]

pub misscoped_own : (is : List PlainInst) (i : PlainInst) → HasOwnBadSemantics is i → IsMisscoped is i
misscoped_own is i (inl h) = IsMisscoped.unequal h.1.0 h.0 h.1.1 h.1.2
misscoped_own is i (inr h) = IsMisscoped.clear h.1.0 h.0 h.1.1 h.1.2

-- and where the others do not, the last does
last_part : (is : List PlainInst) (i : PlainInst) → ¬ (HasHighScope is i.operands (scopes_of i.opcode))
    → ¬ (IsTrue (is_group i.opcode) × IsNoGroup is i.operands (scopes_of i.opcode))
    → ¬ (HasBadSemantics is i.operands (semantics_of i.opcode)) → IsMisscoped is i → HasOwnBadSemantics is i
last_part is i high group bad (IsMisscoped.scope k n s l) =
    absurd (high record { seat = k; among = s.seat; number = n; value = s.value; holds = l })
last_part is i high group bad (IsMisscoped.group k n g first s two three) =
    absurd (group (
      g,
      record { seat = k; first = first; number = n; value = s.value; workgroup = two; subgroup = three },
    ))
last_part is i high group bad (IsMisscoped.order k n s o) =
    absurd (bad record { seat = k; among = s.seat; number = n; value = s.value; holds = inl o })
last_part is i high group bad (IsMisscoped.capable k n s b) =
    absurd (bad record { seat = k; among = s.seat; number = n; value = s.value; holds = inr b })
last_part is i high group bad (IsMisscoped.unequal n c v s) = inl (c, (n, v, s))
last_part is i high group bad (IsMisscoped.clear n c v b) = inr (c, (n, v, b))

pub misscoped_within : (is : List PlainInst) (i : PlainInst) (os : List Plain) (ss ms : List ℕ) → os ≡ i.operands
    → ss ≡ scopes_of i.opcode → ms ≡ semantics_of i.opcode → ¬ (HasHighScope is os ss)
    → ¬ (IsTrue (is_group i.opcode) × IsNoGroup is i.operands ss) → ¬ (HasBadSemantics is os ms) → IsMisscoped is i
    → HasOwnBadSemantics is i
misscoped_within is i os ss ms eo es em high group bad h = last_part is i
    (subst (λ (xs : List ℕ). ¬ (HasHighScope is i.operands xs)) es
    (subst (λ (xs : List Plain). ¬ (HasHighScope is xs ss)) eo high))
    (subst (λ (xs : List ℕ). ¬ (IsTrue (is_group i.opcode) × IsNoGroup is i.operands xs)) es group)
    (subst (λ (xs : List ℕ). ¬ (HasBadSemantics is i.operands xs)) em
    (subst (λ (xs : List Plain). ¬ (HasBadSemantics is xs ms)) eo bad)) h
