-- O11, at single instructions.
use Rattle.std.proofs.Common.{◌≡◌, ◌∙◌, ◌⊎◌, ◌↔◌, ◌<◌, ◌||◌, inl, inr, ℕ, Bool, true, false, refl, sym, subst, List}
use Rattle.std.proofs.Common.{◌∷◌, Some, None, IsTrue, nat_eq, if◌then◌else◌}
use Rattle.std.proofs.lemmas.Bool.{eqb-true, eq-eqb}
use Rattle.std.specs.Prelude.{slice_get}
use Rattle.spv_module.specs.declared.opcode.TheConstants as opcode
use Rattle.spv_module.specs.Operand.{Plain, Result, PlainInst}
use Rattle.spv_conditions.specs.Further.{IsMember}
use Rattle.spv_declarations.specs.Given.{HasId, behind_first}
use Rattle.spv_declarations.specs.Decorated.{IsBuiltIn, HasBuiltIn, IsHalfBuiltIn}
use Rattle.spv_declarations.specs.declared.built_in.BuiltIns.{BuiltIns}
use Rattle.spv_declarations.specs.inner.BuiltIn.{AreBuiltIn, struct_in, struct_by}
use Rattle.spv_declarations.specs.inner.Sets.{AnyId, IsIn, HasBoth}
use Rattle.spv_declarations.proofs.Gathered.{one_inst}
use Rattle.spv_declarations.proofs.Saying.{gated, opened}
use Rattle.spv_declarations.proofs.Misplacing.{any_id, id_any}

-- what stands behind the result of a struct
pub half_struct : (is : List PlainInst) (n : ℕ) (i : PlainInst) → slice_get is n ≡ Some i → IsHalfBuiltIn is n
    → (t : ℕ) × (ms : List Plain) × (i.opcode ≡ opcode.TYPE_STRUCT) × (i.operands ≡ Result t ∷ ms)
    × (((k j : ℕ) × IsBuiltIn is t k × IsMember is t j × (¬ (IsBuiltIn is t j)))
    ⊎ ((u : ℕ) × HasId ms u × HasBuiltIn is u))
half_struct is n i at (IsHalfBuiltIn.in_part h t k j ms there o p b m c) =
    let e = one_inst is n h i there at in (
      t,
      ms,
      subst (λ (x : PlainInst). x.opcode ≡ opcode.TYPE_STRUCT) e o,
      subst (λ (x : PlainInst). x.operands ≡ Result t ∷ ms) e p,
      inl (k, j, b, m, c),
    )
half_struct is n i at (IsHalfBuiltIn.within h t u ms there o p q b) =
    let e = one_inst is n h i there at in (
      t,
      ms,
      subst (λ (x : PlainInst). x.opcode ≡ opcode.TYPE_STRUCT) e o,
      subst (λ (x : PlainInst). x.operands ≡ Result t ∷ ms) e p,
      inr (u, q, b),
    )

result_tells : (os : List Plain) (t : ℕ) → struct_in os ≡ Some t → os ≡ Result t ∷ behind_first os
result_tells (Result u ∷ os) t e = let p : u ≡ t = cc in rw p refl
result_tells _ t e = cc

pub struct_opcode : (i : PlainInst) (t : ℕ) → struct_by i ≡ Some t → i.opcode ≡ opcode.TYPE_STRUCT
struct_opcode i t e = eqb-true i.opcode opcode.TYPE_STRUCT
    (gated (nat_eq i.opcode opcode.TYPE_STRUCT) (struct_in i.operands) t e)

pub struct_operands : (i : PlainInst) (t : ℕ) → struct_by i ≡ Some t → i.operands ≡ Result t ∷ behind_first i.operands
struct_operands i t e = result_tells i.operands t
    (opened (nat_eq i.opcode opcode.TYPE_STRUCT) (struct_in i.operands) t e)

struct_is : (os ms : List Plain) (t : ℕ) (b : Bool) → b ≡ true → os ≡ Result t ∷ ms
    → (if b then struct_in os else None) ≡ Some t
struct_is os ms t true b e = rw e refl
struct_is os ms t false b e = cc

pub no_struct : (is : List PlainInst) (n : ℕ) (i : PlainInst) → slice_get is n ≡ Some i → struct_by i ≡ None
    → IsTrue false ↔ IsHalfBuiltIn is n
no_struct is n i at e = (
  λ y. let no : false ≡ true = y in absurd (cc),
  λ h.
      let s = half_struct is n i at h in
      let o : nat_eq i.opcode opcode.TYPE_STRUCT ≡ true = eq-eqb i.opcode opcode.TYPE_STRUCT s.2 in
      let p : struct_by i ≡ Some s.0 =
      struct_is i.operands s.1 s.0 (nat_eq i.opcode opcode.TYPE_STRUCT) o s.3 in
      let no : None ≡ Some s.0 = sym e ∙ p in
      absurd (cc),
)

either_true : (p q : Bool) (A B : Type 0) → (IsTrue p → A) → (IsTrue q → B) → IsTrue (p || q) → A ⊎ B
either_true true q A B f g h = inl (f refl)
either_true false q A B f g h = inr (g h)

true_left : (p q : Bool) → IsTrue p → IsTrue (p || q)
true_left true q h = refl
true_left false q h = let no : false ≡ true = h in absurd (cc)

true_right : (p q : Bool) → IsTrue q → IsTrue (p || q)
true_right true q h = refl
true_right false q h = h

-- A test of both ways to break the rule.
pub half_tells : (is : List PlainInst) (b : BuiltIns) (n : ℕ) (i : PlainInst) (t : ℕ) (ms : List Plain) (p q : Bool)
    → AreBuiltIn is b → slice_get is n ≡ Some i → i.opcode ≡ opcode.TYPE_STRUCT → i.operands ≡ Result t ∷ ms
    → (IsTrue p ↔ (IsIn b.structs t × ((k : ℕ) × IsMember is t k × (¬ (HasBoth b.members t k)))))
    → (IsTrue q ↔ AnyId (IsIn b.structs) ms) → IsTrue (p || q) ↔ IsHalfBuiltIn is n
half_tells is b n i t ms p q a at o r x y = (
  λ h. elim (either_true p q _ _ x.0 y.0 h) [
    | inl s ↦
        let c = (a.structs t).0 s.0 in
        IsHalfBuiltIn.in_part i t c.0 s.1.0 ms at o r c.1 s.1.1 (λ m. s.1.2 ((a.members t s.1.0).1 m))
    | inr s ↦
        let u = any_id (IsIn b.structs) ms s in
        IsHalfBuiltIn.within i t u.0 ms at o r u.1 ((a.structs u.0).0 u.2)
  ],
  λ h.
      let s = half_struct is n i at h in
      let e : Result s.0 ∷ s.1 ≡ Result t ∷ ms = sym s.3 ∙ r in
      let tt' : s.0 ≡ t = cc in
      let mm : s.1 ≡ ms = cc in
      elim s.4 [
        | inl k ↦ true_left p q (x.1 (
          (a.structs t).1 (subst (HasBuiltIn is) tt' (k.0, k.2)),
          (
            k.1,
            subst (λ (z : ℕ). IsMember is z k.1) tt' k.3,
            λ m. k.4 (subst (λ (z : ℕ). IsBuiltIn is z k.1) (sym tt') ((a.members t k.1).0 m)),
          ),
        ))
        | inr u ↦ true_right p q (y.1 (id_any (IsIn b.structs) ms u.0
            (subst (λ (l : List Plain). HasId l u.0) mm u.1) ((a.structs u.0).1 u.2)))
      ],
)

-- a struct with one member of which it is not so
pub in_part_tells : (is : List PlainInst) (b : BuiltIns) (t count : ℕ) (p : Bool)
    → ((k : ℕ) → (k < count) ↔ IsMember is t k)
    → (IsTrue p ↔ ((k : ℕ) × (k < count) × (¬ (HasBoth b.members t k))))
    → IsIn b.structs t → IsTrue p ↔ (IsIn b.structs t × ((k : ℕ) × IsMember is t k × (¬ (HasBoth b.members t k))))
in_part_tells is b t count p m h i = (
  λ y. let k = h.0 y in (i, (k.0, (m k.0).0 k.1, k.2)),
  λ q. h.1 (q.1.0, (m q.1.0).1 q.1.1, q.1.2),
)

-- By the first of both; by the second, where it is not so by the first.
pub half_in_part : (is : List PlainInst) (b : BuiltIns) (n : ℕ) (i : PlainInst) (t : ℕ) (ms : List Plain) (p : Bool)
    → AreBuiltIn is b → slice_get is n ≡ Some i → i.opcode ≡ opcode.TYPE_STRUCT → i.operands ≡ Result t ∷ ms
    → (IsTrue p ↔ (IsIn b.structs t × ((k : ℕ) × IsMember is t k × (¬ (HasBoth b.members t k))))) → p ≡ true
    → IsTrue p ↔ IsHalfBuiltIn is n
half_in_part is b n i t ms p a at o r x y = (
  λ u.
      let s = x.0 y in
      let c = (a.structs t).0 s.0 in
      IsHalfBuiltIn.in_part i t c.0 s.1.0 ms at o r c.1 s.1.1 (λ m. s.1.2 ((a.members t s.1.0).1 m)),
  λ h. y,
)

pub half_within : (is : List PlainInst) (b : BuiltIns) (n : ℕ) (i : PlainInst) (t : ℕ) (ms : List Plain) (p q : Bool)
    → AreBuiltIn is b → slice_get is n ≡ Some i → i.opcode ≡ opcode.TYPE_STRUCT → i.operands ≡ Result t ∷ ms
    → (IsTrue p ↔ (IsIn b.structs t × ((k : ℕ) × IsMember is t k × (¬ (HasBoth b.members t k)))))
    → (IsTrue q ↔ AnyId (IsIn b.structs) ms) → p ≡ false → IsTrue q ↔ IsHalfBuiltIn is n
half_within is b n i t ms p q a at o r x y f =
    subst (λ (z : Bool). IsTrue (z || q) ↔ IsHalfBuiltIn is n) f (half_tells is b n i t ms p q a at o r x y)
