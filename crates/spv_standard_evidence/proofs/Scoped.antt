-- Scopes and semantics that show that O14 is broken.
use Rattle.std.proofs.Common.{◌≡◌, ◌<◌, ◌∙◌, ℕ, List, Option, Some, None, IsSomeAnd, IsTrue, Contains, length, get_or}
use Rattle.std.proofs.Common.{inl, inr, refl, sym, subst, true, false}
use Rattle.std.specs.Prelude.{slice_get}
use Rattle.std.proofs.lemmas.List.Elements.{Contains-get_or}
use Rattle.std.proofs.lemmas.Option.{same_Some, slice_get-get_or, slice_get_within}
use Rattle.spv_table.specs.Table.{Table}
use Rattle.spv_module.specs.Operand.{Plain, PlainInst}
use Rattle.spv_module.specs.declared.fault.Rule.TheVariants.{O14}
use Rattle.spv_evidence.specs.declared.evidence.Evidence.TheVariants.{Operand}
use Rattle.spv_kernel_operands.specs.Value.{value_at}
use Rattle.spv_kernel_operands.specs.Seats.{scopes_of, semantics_of}
use Rattle.spv_kernel_operands.specs.Scopes.{IsMisscoped, IsScope, AreSemantics, is_group}
use Rattle.spv_kernel_operands.specs.inner.Scopes.{HasValue, IsNoGroup}
use Rattle.spv_standard_evidence.specs.Operands.{Shows}
use Rattle.spv_standard_evidence.specs.inner.Operands.{IsBad, IsValuedAt, own_seat}

-- an operand that has such a value
pub valued_found : (P : ℕ → Type 0) (is : List PlainInst) (os : List Plain) (seats : List ℕ) (k : ℕ) (o : Option ℕ)
    → k < length seats → o ≡ value_at is os (get_or seats k 0) → IsSomeAnd o P
    → IsValuedAt P is os seats (get_or seats k 0)
valued_found P is os seats k None l e h = absurd h
valued_found P is os seats k (Some n) l e h = record {
  among = Contains-get_or seats k 0 l;
  number = n;
  value = sym e;
  holds = h;
}

scope_at : (is : List PlainInst) (i : PlainInst) (os : List Plain) (ss : List ℕ) (k n : ℕ) → os ≡ i.operands
    → ss ≡ scopes_of i.opcode → Contains ss k → value_at is os k ≡ Some n → IsScope is i k n
scope_at is i os ss k n eo es among value = record {
  seat = subst (λ (xs : List ℕ). Contains xs k) es among;
  value = subst (λ (xs : List Plain). value_at is xs k ≡ Some n) eo value;
}

semantics_at : (is : List PlainInst) (i : PlainInst) (os : List Plain) (ms : List ℕ) (k n : ℕ) → os ≡ i.operands
    → ms ≡ semantics_of i.opcode → Contains ms k → value_at is os k ≡ Some n → AreSemantics is i k n
semantics_at is i os ms k n eo em among value = record {
  seat = subst (λ (xs : List ℕ). Contains xs k) em among;
  value = subst (λ (xs : List Plain). value_at is xs k ≡ Some n) eo value;
}

-- the first of a list is in it
contains_first : (xs : List ℕ) (x : ℕ) → slice_get xs 0 ≡ Some x → Contains xs x
contains_first xs x e =
    let l = slice_get_within xs 0 x e in
    (0, l, same_Some (get_or xs 0 x) x (sym (slice_get-get_or xs 0 x l) ∙ e))

-- what each part shows
pub shown_scope : (is : List PlainInst) (i : PlainInst) (os : List Plain) (ss : List ℕ) (k : ℕ) → os ≡ i.operands
    → ss ≡ scopes_of i.opcode → IsValuedAt (IsBad true) is os ss k → (G : Table) → Shows G is i O14 (Operand k)
shown_scope is i os ss k eo es v G =
    Shows.scopes (IsMisscoped.scope k v.number (scope_at is i os ss k v.number eo es v.among v.value) v.holds)

pub shown_semantics : (is : List PlainInst) (i : PlainInst) (os : List Plain) (ms : List ℕ) (k : ℕ)
    → os ≡ i.operands → ms ≡ semantics_of i.opcode → IsValuedAt (IsBad false) is os ms k → (G : Table)
    → Shows G is i O14 (Operand k)
shown_semantics is i os ms k eo em v G =
    let at = semantics_at is i os ms k v.number eo em v.among v.value in
    elim v.holds [
      | inl order ↦ Shows.scopes (IsMisscoped.order k v.number at order)
      | inr bit ↦ Shows.scopes (IsMisscoped.capable k v.number at bit)
    ]

pub shown_group : (is : List PlainInst) (i : PlainInst) (ss : List ℕ) (k : ℕ) → ss ≡ scopes_of i.opcode
    → IsTrue (is_group i.opcode) → IsNoGroup is i.operands ss
    → ((m : ℕ) → slice_get ss 0 ≡ Some m → k ≡ m) → (G : Table) → Shows G is i O14 (Operand k)
shown_group is i ss k es g h same G =
    let first : slice_get (scopes_of i.opcode) 0 ≡ Some h.seat =
    subst (λ (xs : List ℕ). slice_get xs 0 ≡ Some h.seat) es h.first in
    let at : IsScope is i h.seat h.number = record {
      seat = contains_first (scopes_of i.opcode) h.seat first;
      value = h.value;
    } in
    subst (λ (m : ℕ). Shows G is i O14 (Operand m)) (sym (same h.seat h.first))
    (Shows.scopes (IsMisscoped.group h.seat h.number g first at h.workgroup h.subgroup))

-- where no other part is broken, the last is
by_own : (is : List PlainInst) (i : PlainInst) (k : ℕ) → k ≡ own_seat i.opcode
    → ¬ (HasValue (IsBad true) is i.operands (scopes_of i.opcode))
    → ¬ (HasValue (IsBad false) is i.operands (semantics_of i.opcode))
    → ¬ (IsTrue (is_group i.opcode) × IsNoGroup is i.operands (scopes_of i.opcode)) → IsMisscoped is i → (G : Table)
    → Shows G is i O14 (Operand k)
by_own is i k e high bad group (IsMisscoped.scope j n s l) G =
    absurd (high record { seat = j; among = s.seat; number = n; value = s.value; holds = l })
by_own is i k e high bad group (IsMisscoped.group j n g first s two three) G = absurd (group (
  g,
  record { seat = j; first = first; number = n; value = s.value; workgroup = two; subgroup = three },
))
by_own is i k e high bad group (IsMisscoped.order j n s o) G =
    absurd (bad record { seat = j; among = s.seat; number = n; value = s.value; holds = inl o })
by_own is i k e high bad group (IsMisscoped.capable j n s b) G =
    absurd (bad record { seat = j; among = s.seat; number = n; value = s.value; holds = inr b })
by_own is i k e high bad group (IsMisscoped.unequal n c v s) G =
    let own : own_seat i.opcode ≡ 5 = rw c refl in
    subst (λ (m : ℕ). Shows G is i O14 (Operand m)) (sym (e ∙ own)) (Shows.scopes (IsMisscoped.unequal n c v s))
by_own is i k e high bad group (IsMisscoped.clear n c v b) G =
    let own : own_seat i.opcode ≡ 2 = rw c refl in
    subst (λ (m : ℕ). Shows G is i O14 (Operand m)) (sym (e ∙ own)) (Shows.scopes (IsMisscoped.clear n c v b))

pub shown_own : (is : List PlainInst) (i : PlainInst) (os : List Plain) (ss ms : List ℕ) (k : ℕ) → os ≡ i.operands
    → ss ≡ scopes_of i.opcode → ms ≡ semantics_of i.opcode → k ≡ own_seat i.opcode
    → ¬ (HasValue (IsBad true) is os ss) → ¬ (HasValue (IsBad false) is os ms)
    → ¬ (IsTrue (is_group i.opcode) × IsNoGroup is i.operands ss) → IsMisscoped is i → (G : Table)
    → Shows G is i O14 (Operand k)
shown_own is i os ss ms k eo es em e high bad group h G = by_own is i k e
    (subst (λ (xs : List ℕ). ¬ (HasValue (IsBad true) is i.operands xs)) es
    (subst (λ (xs : List Plain). ¬ (HasValue (IsBad true) is xs ss)) eo high))
    (subst (λ (xs : List ℕ). ¬ (HasValue (IsBad false) is i.operands xs)) em
    (subst (λ (xs : List Plain). ¬ (HasValue (IsBad false) is xs ms)) eo bad))
    (subst (λ (xs : List ℕ). ¬ (IsTrue (is_group i.opcode) × IsNoGroup is i.operands xs)) es group) h G
