-- What the tests of single instructions tell.
use Rattle.std.proofs.Common.{◌≡◌, ◌↔◌, ◌<◌, inl, inr, ℕ, zero, suc, length, Bool, true, refl, sym, ap, subst, arith}
use Rattle.std.proofs.Common.{List, [], ◌∷◌, Option, Some, nat_eq, IsTrue}
use Rattle.std.specs.Prelude.{slice_get, codes}
use Rattle.std.specs.BTreeSet.{BTreeSet}
use Rattle.std.proofs.lemmas.Bool.{eqb-true, eq-eqb}
use Rattle.spv_table.specs.Table.{Table}
use Rattle.spv_table.specs.Lookups.{number_named}
use Rattle.spv_module.specs.declared.opcode.TheConstants as opcode
use Rattle.spv_module.specs.Operand.{Plain, OfType, Result, Id, Value, PlainInst}
use Rattle.spv_layout.specs.Place.{IsOfSection}
use Rattle.spv_layout.proofs.Places.{section_same}
use Rattle.spv_capabilities.specs.Entry.{entered_by}
use Rattle.spv_declarations.specs.Given.{Gives}
use Rattle.spv_declarations.specs.Decorated.{Has, IsLinkedEntry, IsInitialized}
use Rattle.spv_declarations.specs.inner.Initialized.{initialized_in, IsOutside}
use Rattle.spv_declarations.specs.inner.Said.{HasAt, ImportsBy}
use Rattle.spv_declarations.specs.inner.Sets.{IsIn, HasAll}
use Rattle.spv_declarations.proofs.Saying.{gated, opened}
use Rattle.spv_declarations.proofs.Gathered.{one_inst}
use Rattle.spv_declarations.proofs.Stated.{at_has, has_at, has_some}

pub some_inst : (is : List PlainInst) (n : ℕ) → n < length is → (i : PlainInst) × (slice_get is n ≡ Some i)
some_inst [] n h = absurd (omega (arith, h))
some_inst (j ∷ is) zero h = (j, refl)
some_inst (j ∷ is) (suc n) h = some_inst is n (omega (arith, h))

-- O9
pub linked_tells : (is : List PlainInst) (entered : BTreeSet ℕ) (n : ℕ) (i : PlainInst) (b : Bool)
    → HasAll is (λ i x. entered_by i ≡ Some x) entered → slice_get is n ≡ Some i
    → (IsTrue b ↔ ((x : ℕ) × IsIn entered x × HasAt is (Gives 41) x i)) → IsTrue b ↔ IsLinkedEntry is n
linked_tells is entered n i b h at t = (
  λ y. let p = t.0 y in let s = (h p.0).0 p.1 in
      (p.0, record { place = s.0; inst = s.1; there = s.2; named = s.3 }, at_has is (Gives 41) p.0 n i at p.2),
  λ l. let e = l.1 in t.1 (l.0, (h l.0).1 (e.place, e.inst, e.there, e.named), has_at is (Gives 41) l.0 n i at l.2),
)

-- O10
parts_of : (os : List Plain) (x c : ℕ) → initialized_in os ≡ Some (x, c)
    → (t k j : ℕ) × (rest : List Plain) × (os ≡ OfType t ∷ Result x ∷ Value k c ∷ Id j ∷ rest)
parts_of (OfType t ∷ Result y ∷ Value k d ∷ Id j ∷ os) x c e =
    let r : (y, d) ≡ (x, c) = cc in
    let p : y ≡ x = ap (λ (z : ℕ × ℕ). z.0) r in
    let q : d ≡ c = ap (λ (z : ℕ × ℕ). z.1) r in
    (t, k, j, os, rw (p, q) refl)
parts_of _ x c e = cc

abbrev HasBy' : List PlainInst → Option ℕ → ℕ → ℕ → Type 0
HasBy' is l x n = Has is (ImportsBy l) x n

told : (G : Table) (is : List PlainInst) (l : Option ℕ) (imported : BTreeSet ℕ) (n : ℕ) (i : PlainInst)
    → HasAll is (λ i x. HasAt is (ImportsBy l) x i) imported → l ≡ number_named G (codes "LinkageType")
    → slice_get is n ≡ Some i → IsOutside imported i → IsOfSection is n 11 → IsInitialized G is n
told G is l imported n i h e at o s =
    let b = nat_eq i.opcode opcode.VARIABLE in
    let p = parts_of i.operands o.0 o.1 (opened b (initialized_in i.operands) (o.0, o.1) o.2) in
    record {
      inst = i;
      there = at;
      opcode = eqb-true i.opcode opcode.VARIABLE (gated b (initialized_in i.operands) (o.0, o.1) o.2);
      section = s;
      type = p.0;
      id = o.0;
      kind = p.1;
      class = o.1;
      initializer = p.2;
      rest = p.3;
      operands = p.4;
      outside = elim o.3 [
        | inl q ↦ inl q
        | inr t ↦
            let m = (h o.0).0 t in
            inr (m.0, subst (λ (k : Option ℕ). HasBy' is k o.0 m.0) e (at_has is (ImportsBy l) o.0 m.0 m.1 m.2 m.3))
      ];
    }

there_again : (G : Table) (is : List PlainInst) (l : Option ℕ) (imported : BTreeSet ℕ) (n : ℕ) (i : PlainInst)
    → HasAll is (λ i x. HasAt is (ImportsBy l) x i) imported → l ≡ number_named G (codes "LinkageType")
    → slice_get is n ≡ Some i → IsInitialized G is n → IsOutside imported i
there_again G is l imported n i h e at r =
    let q = one_inst is n r.inst i r.there at in
    let v : nat_eq i.opcode opcode.VARIABLE ≡ true =
    eq-eqb i.opcode opcode.VARIABLE (subst (λ (j : PlainInst). j.opcode ≡ opcode.VARIABLE) q r.opcode) in
    let o : i.operands ≡ OfType r.type ∷ Result r.id ∷ Value r.kind r.class ∷ Id r.initializer ∷ r.rest =
    subst (λ (j : PlainInst). j.operands
    ≡ OfType r.type ∷ Result r.id ∷ Value r.kind r.class ∷ Id r.initializer ∷ r.rest) q
    r.operands in (
      r.id,
      r.class,
      rw (v, o) refl,
      elim r.outside [
        | inl c ↦ inl c
        | inr m ↦ inr ((h r.id).1 (has_some is (ImportsBy l) r.id m.0
            (subst (λ (k : Option ℕ). HasBy' is k r.id m.0) (sym e) m.1)))
      ],
    )

pub initialized_tells : (G : Table) (is : List PlainInst) (l : Option ℕ) (imported : BTreeSet ℕ) (n : ℕ)
    (i : PlainInst) (b : Bool) → HasAll is (λ i x. HasAt is (ImportsBy l) x i) imported
    → l ≡ number_named G (codes "LinkageType") → slice_get is n ≡ Some i
    → (IsTrue b ↔ (IsOutside imported i × IsOfSection is n 11)) → IsTrue b ↔ IsInitialized G is n
initialized_tells G is l imported n i b h e at t = (
  λ y. let p = t.0 y in told G is l imported n i h e at p.0 p.1,
  λ r. t.1 (there_again G is l imported n i h e at r, r.section),
)

-- the section of an instruction, by its place
pub of_section : (is : List PlainInst) (n s : ℕ) (P : Type 0) (b : Bool) → IsOfSection is n s → IsTrue b ↔ P
    → (s ≡ 11 → IsTrue b ↔ (P × IsOfSection is n 11))
of_section is n s P b o t e = (
  λ y. (t.0 y, subst (λ (k : ℕ). IsOfSection is n k) e o),
  λ q. t.1 q.0,
)

pub not_of_section : (is : List PlainInst) (n s : ℕ) → IsOfSection is n s → (s ≡ 11 → ⊥) → IsOfSection is n 11 → ⊥
not_of_section is n s o d e = d (section_same is n s 11 o e)
