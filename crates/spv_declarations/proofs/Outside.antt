-- O10: a variable with an initializer, and what imports it.
use Rattle.std.proofs.Common.{◌≡◌, ◌∙◌, ◌⊎◌, ◌↔◌, ◌<◌, inl, inr, ℕ, Bool, true, false, refl, sym, ap, subst, List, ◌∷◌}
use Rattle.std.proofs.Common.{Option, Some, None, IsTrue, length, nat_eq, not}
use Rattle.std.specs.Prelude.{slice_get, codes}
use Rattle.std.proofs.lemmas.Bool.{eq-eqb, false≢true}
use Rattle.std.proofs.lemmas.Option.{none-some, same_Some, slice_get_within}
use Rattle.spv_table.specs.Table.{Table}
use Rattle.spv_table.specs.Lookups.{number_named}
use Rattle.spv_module.specs.declared.opcode.TheConstants as opcode
use Rattle.spv_module.specs.Operand.{Plain, OfType, Result, Id, Value, PlainInst}
use Rattle.spv_declarations.specs.Given.{At}
use Rattle.spv_declarations.specs.Decorated.{Has, HasImport, Imports, IsInitialized}
use Rattle.spv_declarations.specs.inner.Initialized.{initialized_by}
use Rattle.spv_declarations.specs.inner.Said.{HasAt, ImportsBy}
use Rattle.spv_declarations.specs.inner.Sets.{IsSaid}
use Rattle.spv_declarations.proofs.Gathered.{one_inst}
use Rattle.spv_declarations.proofs.Stated.{at_has, has_some}

-- a test turned round
pub not_tells : (b : Bool) (P : Type 0) → (IsTrue b ↔ P) → IsTrue (not b) ↔ (¬ P)
not_tells true P t = (λ h. absurd (false≢true h), λ n. absurd (n (t.0 refl)))
not_tells false P t = (λ h p. false≢true (t.1 p), λ n. refl)

pub initialized_within : (G : Table) (is : List PlainInst) (n : ℕ) → IsInitialized G is n → n < length is
initialized_within G is n e = slice_get_within is n e.inst e.there

-- the id and the class that are told of it
pub initialized_is : (G : Table) (is : List PlainInst) (n : ℕ) (i : PlainInst) → slice_get is n ≡ Some i
    → (e : IsInitialized G is n) → initialized_by i ≡ Some (e.id, e.class)
initialized_is G is n i at e =
    let q = one_inst is n e.inst i e.there at in
    let v : nat_eq i.opcode opcode.VARIABLE ≡ true =
    eq-eqb i.opcode opcode.VARIABLE (subst (λ (j : PlainInst). j.opcode ≡ opcode.VARIABLE) q e.opcode) in
    let o : i.operands ≡ OfType e.type ∷ Result e.id ∷ Value e.kind e.class ∷ Id e.initializer ∷ e.rest =
    subst (λ (j : PlainInst).
    j.operands ≡ OfType e.type ∷ Result e.id ∷ Value e.kind e.class ∷ Id e.initializer ∷ e.rest) q e.operands in
    rw (v, o) refl

pub not_initialized : (G : Table) (is : List PlainInst) (n : ℕ) (i : PlainInst) → slice_get is n ≡ Some i
    → IsInitialized G is n → initialized_by i ≡ None → ⊥
not_initialized G is n i at e h = none-some (e.id, e.class) (sym h ∙ initialized_is G is n i at e)

same_id : (p q : ℕ × ℕ) → Some p ≡ Some q → p.0 ≡ q.0
same_id p q e = ap (λ (z : ℕ × ℕ). z.0) (same_Some p q e)

same_class : (p q : ℕ × ℕ) → Some p ≡ Some q → p.1 ≡ q.1
same_class p q e = ap (λ (z : ℕ × ℕ). z.1) (same_Some p q e)

-- its class is Input
pub by_class : (G : Table) (is : List PlainInst) (n x c : ℕ) (i : PlainInst) → slice_get is n ≡ Some i
    → IsInitialized G is n → initialized_by i ≡ Some (x, c) → c ≡ 1 → (e : IsInitialized G is n) × (e.class ≡ 1)
by_class G is n x c i at e h one =
    (e, same_class (e.id, e.class) (x, c) (sym (initialized_is G is n i at e) ∙ h) ∙ one)

-- or it is imported
pub imported_some : (G : Table) (is : List PlainInst) (l : Option ℕ) (n x c : ℕ) (i : PlainInst)
    → l ≡ number_named G (codes "LinkageType") → slice_get is n ≡ Some i → IsInitialized G is n
    → initialized_by i ≡ Some (x, c) → (c ≡ 1 → ⊥) → IsSaid is (HasAt is (ImportsBy l) x)
imported_some G is l n x c i k at e h other =
    let q = sym (initialized_is G is n i at e) ∙ h in
    elim e.outside [
      | inl one ↦ absurd (other (sym (same_class (e.id, e.class) (x, c) q) ∙ one))
      | inr m ↦ has_some is (ImportsBy l) x m.0
          (subst (λ (y : ℕ). Has is (ImportsBy l) y m.0) (same_id (e.id, e.class) (x, c) q)
          (subst (λ (j : Option ℕ). Has is (ImportsBy j) e.id m.0) (sym k) m.1))
    ]

pub by_import : (G : Table) (is : List PlainInst) (l : Option ℕ) (n m x c : ℕ) (i : PlainInst)
    → l ≡ number_named G (codes "LinkageType") → slice_get is n ≡ Some i → IsInitialized G is n
    → initialized_by i ≡ Some (x, c) → At is (HasAt is (ImportsBy l) x) m
    → (e : IsInitialized G is n) × Has is (Imports G) e.id m
by_import G is l n m x c i k at e h a =
    let q = sym (initialized_is G is n i at e) ∙ h in
    let own : Has is (ImportsBy l) x m = at_has is (ImportsBy l) x m a.0 a.1 a.2 in (
      e,
      subst (λ (y : ℕ). Has is (Imports G) y m) (sym (same_id (e.id, e.class) (x, c) q))
          (subst (λ (j : Option ℕ). Has is (ImportsBy j) x m) k own),
    )
