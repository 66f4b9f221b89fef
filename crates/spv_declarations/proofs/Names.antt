-- O3: the names of entry points.
use Rattle.std.proofs.Common.{◌≡◌, ◌∙◌, ◌↔◌, ◌+◌, inl, inr, ℕ, Bool, true, false, not, cond, refl, sym, ap, arith, List}
use Rattle.std.proofs.Common.{Some, None, IsTrue}
use Rattle.std.specs.Prelude.{slice_get}
use Rattle.std.specs.BTreeSet.{BTreeSet, contains}
use Rattle.std.specs.BTreeMap.{is_at}
use Rattle.std.specs.Cmp.Lexicographic.{slice_cmp}
use Rattle.std.specs.Ordering.{nat_cmp}
use Rattle.std.specs.Cmp.{nat_cmp_total, IsTotalOrder, tied_itself, then_total, on_total}
use Rattle.std.proofs.lemmas.Cmp.{nat_list_cmp_total}
use Rattle.std.proofs.lemmas.Map.Lookups.{exact_pairs, exact_unsigned, exact_bytes}
use Rattle.std.proofs.lemmas.Map.Views.{tells_apart}
use Rattle.spv_module.specs.Operand.{PlainInst}
use Rattle.spv_declarations.specs.Entry.{IsRepeated, named_by}
use Rattle.spv_declarations.specs.inner.Named.{named_cmp, Name, Names, AreSeen}
use Rattle.spv_declarations.proofs.Adding.{by_test}
use Rattle.spv_declarations.proofs.Gathered.{one_inst, said_later, said_here, said_cases}

named_total : IsTotalOrder named_cmp
named_total = then_total (on_total (λ (p : Name). p.0) nat_cmp_total)
    (on_total (λ (p : Name). p.1.now) nat_list_cmp_total)

same_named : (p q : Name) → q.0 ≡ p.0 → q.1.now ≡ p.1.now → is_at (named_cmp p) q ≡ true
same_named p q e f = rw (e, f, tied_itself named_total p) refl

named_same : (p q : Name) → is_at (named_cmp p) q ≡ true → (q.0 ≡ p.0) × (q.1.now ≡ p.1.now)
named_same p q a =
    let e = tells_apart (exact_pairs nat_cmp (slice_cmp nat_cmp) exact_unsigned exact_bytes) (p.0, p.1.now)
    (q.0, q.1.now) a in
    (sym (ap (λ (x : ℕ × List ℕ). x.0) e), sym (ap (λ (x : ℕ × List ℕ). x.1) e))

one_name : (p q : Name) (i : PlainInst) → Names p i → Names q i → (q.0 ≡ p.0) × (q.1.now ≡ p.1.now)
one_name p q i a b =
    let e : Some (p.0, p.1.now) ≡ Some (q.0, q.1.now) = sym a ∙ b in
    let r : (p.0, p.1.now) ≡ (q.0, q.1.now) = cc in
    (sym (ap (λ (x : ℕ × List ℕ). x.0) r), sym (ap (λ (x : ℕ × List ℕ). x.1) r))

pub seen_more : (is : List PlainInst) (n : ℕ) (i : PlainInst) (old new : BTreeSet Name) (p : Name)
    → slice_get is n ≡ Some i → Names p i
    → ((q : Name) → contains named_cmp new q ≡ cond (is_at (named_cmp p) q) true (contains named_cmp old q))
    → AreSeen n is old → AreSeen (n + 1) is new
seen_more is n i old new p at e u s q =
    let b = by_test (is_at (named_cmp p) q) (contains named_cmp old q) (contains named_cmp new q)
    ((q.0 ≡ p.0) × (q.1.now ≡ p.1.now)) (u q) (named_same p q) (λ z. same_named p q z.0 z.1) in (
      λ t. elim (b.0 t) [
        | inl o ↦ said_later is (Names q) n (n + 1) (omega arith) ((s q).0 o)
        | inr z ↦ said_here is (Names q) n i at (rw (z.0, z.1) e)
      ],
      λ h. b.1 (elim (said_cases is (Names q) n i at h) [
        | inl o ↦ inl ((s q).1 o)
        | inr z ↦ inr (one_name p q i e z)
      ]),
    )

pub seen_same : (is : List PlainInst) (n : ℕ) (i : PlainInst) (s : BTreeSet Name) → slice_get is n ≡ Some i
    → named_by i ≡ None → AreSeen n is s → AreSeen (n + 1) is s
seen_same is n i s at e h q = (
  λ t. said_later is (Names q) n (n + 1) (omega arith) ((h q).0 t),
  λ g. elim (said_cases is (Names q) n i at g) [
    | inl o ↦ (h q).1 o
    | inr z ↦ let no : None ≡ Some (q.0, q.1.now) = sym e ∙ z in absurd (cc)
  ],
)

pub repeated_here : (is : List PlainInst) (n : ℕ) (i : PlainInst) (s : BTreeSet Name) (p : Name)
    → slice_get is n ≡ Some i → Names p i → AreSeen n is s → contains named_cmp s p ≡ true → IsRepeated is n
repeated_here is n i s p at e h t =
    let b = (h p).0 t in
    record {
      inst = i;
      there = at;
      model = p.0;
      name = p.1.now;
      named = e;
      before = b.0;
      lower = b.2;
      other = b.1;
      other_there = b.3;
      same = b.4;
    }

pub not_repeated : (is : List PlainInst) (n : ℕ) (i : PlainInst) (s : BTreeSet Name) (p : Name)
    → slice_get is n ≡ Some i → Names p i → AreSeen n is s → contains named_cmp s p ≡ false → ¬ (IsRepeated is n)
not_repeated is n i s p at e h f r =
    let a = one_inst is n r.inst i r.there at in
    let b : Some (r.model, r.name) ≡ Some (p.0, p.1.now) =
    sym r.named ∙ (ap named_by a ∙ e) in
    let no : false ≡ true = sym f ∙ (h p).1 (r.before, r.other, r.lower, r.other_there, r.same ∙ b) in
    cc

pub not_named : (is : List PlainInst) (n : ℕ) (i : PlainInst) → slice_get is n ≡ Some i → named_by i ≡ None
    → ¬ (IsRepeated is n)
not_named is n i at e r =
    let a = one_inst is n r.inst i r.there at in
    let no : None ≡ Some (r.model, r.name) = sym e ∙ (sym (ap named_by a) ∙ r.named) in
    cc

-- what putting the name of an instruction in tells
abbrev pub Tells : ℕ → List PlainInst → BTreeSet Name → Bool → Type 0
Tells n is new b = (IsTrue b ↔ IsRepeated is n) × (b ≡ false → AreSeen (n + 1) is new)

of_not : (a b : Bool) → a ≡ not b → b ≡ not a
of_not a true e = sym (ap not e)
of_not a false e = sym (ap not e)

tells_by : (is : List PlainInst) (n : ℕ) (i : PlainInst) (old new : BTreeSet Name) (p : Name) (b : Bool)
    → slice_get is n ≡ Some i → Names p i
    → ((q : Name) → contains named_cmp new q ≡ cond (is_at (named_cmp p) q) true (contains named_cmp old q))
    → contains named_cmp old p ≡ b → AreSeen n is old → Tells n is new b
tells_by is n i old new p true at e u y s =
    ((λ t. repeated_here is n i old p at e s y, λ r. refl), λ f. seen_more is n i old new p at e u s)
tells_by is n i old new p false at e u y s = (
  (λ t. let no : false ≡ true = t in absurd (cc), λ r. absurd (not_repeated is n i old p at e s y r)),
  λ f. seen_more is n i old new p at e u s,
)

pub tells_named : (is : List PlainInst) (n : ℕ) (i : PlainInst) (old new : BTreeSet Name) (p : Name) (added : Bool)
    → slice_get is n ≡ Some i → Names p i
    → ((q : Name) → contains named_cmp new q ≡ cond (is_at (named_cmp p) q) true (contains named_cmp old q))
    → added ≡ not (contains named_cmp old p) → AreSeen n is old → Tells n is new (not added)
tells_named is n i old new p added at e u y s =
    tells_by is n i old new p (not added) at e u (of_not added (contains named_cmp old p) y) s

pub tells_unnamed : (is : List PlainInst) (n : ℕ) (i : PlainInst) (s : BTreeSet Name) → slice_get is n ≡ Some i
    → named_by i ≡ None → AreSeen n is s → Tells n is s false
tells_unnamed is n i s at e h = (
  (λ t. let no : false ≡ true = t in absurd (cc), λ r. absurd (not_named is n i at e r)),
  λ f. seen_same is n i s at e h,
)
