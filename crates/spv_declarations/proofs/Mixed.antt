-- O11: the members of a struct by which it is broken.
use Rattle.std.proofs.Common.{◌≡◌, ◌∙◌, ◌⊎◌, ◌↔◌, ◌+◌, ◌<◌, inl, inr, ℕ, zero, suc, Bool, true, false, refl, sym, ap}
use Rattle.std.proofs.Common.{subst, List, [], ◌∷◌, Some, None, IsTrue, length}
use Rattle.std.specs.Prelude.{slice_get}
use Rattle.std.proofs.lemmas.Option.{same_Some, slice_get_within}
use Rattle.spv_module.specs.declared.opcode.TheConstants as opcode
use Rattle.spv_module.specs.Operand.{Plain, Result, Id, PlainInst}
use Rattle.spv_conditions.specs.Further.{IsMember}
use Rattle.spv_declarations.specs.Given.{HasId, behind_first}
use Rattle.spv_declarations.specs.Decorated.{HasBuiltIn, IsBuiltIn, IsHalfBuiltIn}
use Rattle.spv_declarations.specs.Shown.{Declares, IsHalfBy}
use Rattle.spv_declarations.specs.declared.built_in.BuiltIns.{BuiltIns}
use Rattle.spv_declarations.specs.declared.shown.members.Mixture.{Mixture}
use Rattle.spv_declarations.specs.declared.shown.members.Mixture.TheVariants.{Members, Within}
use Rattle.spv_declarations.specs.inner.BuiltIn.{AreBuiltIn, struct_by}
use Rattle.spv_declarations.specs.inner.Sets.{HasBoth, IsIn}
use Rattle.spv_declarations.specs.inner.Shown.{NamesStruct}
use Rattle.spv_declarations.proofs.Half.{half_struct, no_struct, struct_opcode, struct_operands}

pub half_within : (is : List PlainInst) (n : ℕ) → IsHalfBuiltIn is n → n < length is
half_within is n (IsHalfBuiltIn.in_part h t k j ms there o p b m c) = slice_get_within is n h there
half_within is n (IsHalfBuiltIn.within h t u ms there o p q b) = slice_get_within is n h there

pub half_is_struct : (is : List PlainInst) (n : ℕ) (i : PlainInst) → slice_get is n ≡ Some i → IsHalfBuiltIn is n
    → struct_by i ≡ None → ⊥
half_is_struct is n i at h e = let no : false ≡ true = (no_struct is n i at e).1 h in cc

-- an id among operands is at a place
pub place_of : (os : List Plain) (x : ℕ) → HasId os x → (k : ℕ) × (slice_get os k ≡ Some (Id x))
place_of [] x h = absurd h
place_of (Id y ∷ os) x h = elim h [
  | inl same ↦ (0, ap (λ (z : ℕ). Some (Id z)) same)
  | inr more ↦ (let r = place_of os x more in (suc r.0, r.1))
]
place_of (_ ∷ os) x h = let r = place_of os x h in (suc r.0, r.1)

-- what is known of a struct that is built in in part
abbrev pub IsInPart : List PlainInst → BuiltIns → ℕ → Type 0
IsInPart is b t = IsIn b.structs t × ((k : ℕ) × IsMember is t k × (¬ (HasBoth b.members t k)))

pub one_built_in : (is : List PlainInst) (b : BuiltIns) (t count : ℕ) → AreBuiltIn is b
    → ((k : ℕ) → (k < count) ↔ IsMember is t k) → IsInPart is b t → (k : ℕ) × (k < count) × HasBoth b.members t k
one_built_in is b t count a m p =
    let h = (a.structs t).0 p.0 in
    (h.0, (m h.0).1 h.1.0, (a.members t h.0).1 h.1)

pub one_other : (is : List PlainInst) (b : BuiltIns) (t count : ℕ) → ((k : ℕ) → (k < count) ↔ IsMember is t k)
    → IsInPart is b t → (k : ℕ) × (k < count) × (¬ (HasBoth b.members t k))
one_other is b t count m p = (p.1.0, (m p.1.0).1 p.1.1, p.1.2)

declared : (i : PlainInst) (t : ℕ) → struct_by i ≡ Some t → Declares i t (behind_first i.operands)
declared i t e = record { called = struct_opcode i t e; operands = struct_operands i t e }

pub part_shown : (is : List PlainInst) (b : BuiltIns) (n t count j k : ℕ) (i : PlainInst) → AreBuiltIn is b
    → slice_get is n ≡ Some i → struct_by i ≡ Some t → ((k : ℕ) → (k < count) ↔ IsMember is t k)
    → (j < count) × HasBoth b.members t j → (k < count) × (¬ (HasBoth b.members t k))
    → IsHalfBy is n (Members (j + 1) (k + 1))
part_shown is b n t count j k i a at e m p q =
    IsHalfBy.in_part i t j k (behind_first i.operands) at (declared i t e) ((a.members t j).0 p.1)
    ((m k).0 q.0) (λ h. q.1 ((a.members t k).1 h))

-- where it is not so in part
same_struct : (i : PlainInst) (t u : ℕ) (ms : List Plain) → struct_by i ≡ Some t → i.operands ≡ Result u ∷ ms → u ≡ t
same_struct i t u ms e r =
    let p : Result t ∷ behind_first i.operands ≡ Result u ∷ ms = sym (struct_operands i t e) ∙ r in
    cc

struct_at : (i : PlainInst) (t u : ℕ) (ms : List Plain) → i.operands ≡ Result t ∷ ms → HasId ms u
    → (k : ℕ) × (slice_get i.operands k ≡ Some (Id u))
struct_at i t u ms e h =
    let p = place_of ms u h in
    (suc p.0, subst (λ (os : List Plain). slice_get os (suc p.0) ≡ Some (Id u)) (sym e) p.1)

pub some_struct : (is : List PlainInst) (b : BuiltIns) (n t : ℕ) (i : PlainInst) → AreBuiltIn is b
    → slice_get is n ≡ Some i → struct_by i ≡ Some t → ¬ (IsInPart is b t) → IsHalfBuiltIn is n
    → (k : ℕ) × NamesStruct b i.operands k
some_struct is b n t i a at e none h =
    let s = half_struct is n i at h in
    elim s.4 [
      | inl k ↦
          let q = same_struct i t s.0 s.1 e s.3 in
          absurd (none (
            (a.structs t).1 (subst (λ (z : ℕ). HasBuiltIn is z) q (k.0, k.2)),
            (
              k.1,
              subst (λ (z : ℕ). IsMember is z k.1) q k.3,
              λ m. k.4 (subst (λ (z : ℕ). IsBuiltIn is z k.1) (sym q) ((a.members t k.1).0 m)),
            ),
          ))
      | inr u ↦ let p = struct_at i s.0 u.0 s.1 s.3 u.1 in (p.0, (u.0, p.1, (a.structs u.0).1 u.2))
    ]

pub within_shown : (is : List PlainInst) (b : BuiltIns) (n t k : ℕ) (i : PlainInst) → AreBuiltIn is b
    → slice_get is n ≡ Some i → struct_by i ≡ Some t → NamesStruct b i.operands k → IsHalfBy is n (Within k)
within_shown is b n t k i a at e h =
    IsHalfBy.within i t h.0 k (behind_first i.operands) at (declared i t e) h.1 ((a.structs h.0).0 h.2)

-- the test of one operand
pub at_tells : (b : BuiltIns) (os : List Plain) (k u : ℕ) (t : Bool) → slice_get os k ≡ Some (Id u)
    → (IsTrue t ↔ IsIn b.structs u) → IsTrue t ↔ NamesStruct b os k
at_tells b os k u t e h = (
  λ y. (u, e, h.0 y),
  λ n.
      let p : Id n.0 ≡ Id u = same_Some (Id n.0) (Id u) (sym n.1 ∙ e) in
      let q : n.0 ≡ u = cc in
      h.1 (subst (λ (z : ℕ). IsIn b.structs z) q n.2),
)
