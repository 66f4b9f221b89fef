-- The members that are built in.
use Rattle.std.proofs.Common.{◌≡◌, ◌∙◌, ◌⊎◌, ◌↔◌, ◌<◌, ◌≤◌, inl, inr, ℕ, refl, sym, ap, subst, arith, length, drop}
use Rattle.std.proofs.Common.{List, [], ◌∷◌, Some, None, Result, Ok, Err, OnOk}
use Rattle.std.specs.BTreeSet.{BTreeSet}
use Rattle.spv_module.specs.Operand.{Plain, Id, Word, PlainInst}
use Rattle.spv_conditions.specs.Further.{IsMember}
use Rattle.spv_declarations.specs.Given.{HasPair, member_in}
use Rattle.spv_declarations.specs.Decorated.{IsBuiltIn}
use Rattle.spv_declarations.specs.declared.built_in.BuiltIns.{BuiltIns}
use Rattle.spv_declarations.specs.inner.BuiltIn.{AreBuiltIn, AreTheirs}
use Rattle.spv_declarations.specs.inner.Early.{AreEarly}
use Rattle.spv_declarations.specs.inner.Said.{BuildsIn}
use Rattle.spv_declarations.specs.inner.Sets.{HasBoth, Adds, AddsBoth, GathersBoth}
use Rattle.spv_declarations.proofs.Adding.{both_same, both_none}
use Rattle.spv_declarations.proofs.Gathered.{none_in, none_both, both_gather_all}
use Rattle.spv_declarations.proofs.Stated.{member_at_has, member_has_some, has_member_early}

pub theirs_none : (b : BuiltIns) → b.structs.keys ≡ [] → b.members.keys ≡ [] → AreTheirs b
theirs_none b e f t = (λ h. absurd (none_in b.structs t e h), λ m. absurd (none_both b.members t m.0 f m.1))

built_one : (is : List PlainInst) (count n : ℕ) (b : BuiltIns) → AreEarly is count → count ≤ n
    → GathersBoth n is (BuildsIn is) b.members → (t k : ℕ) → HasBoth b.members t k ↔ IsBuiltIn is t k
built_one is count n b early le g t k =
    let a = both_gather_all is (BuildsIn is) count n b.members early
    (λ i u j h. has_member_early is u j 11 i h.1) le g in (
      λ h. let s = (a t k).0 h in (s.3.0, (s.0, member_at_has is t k 11 s.0 s.1 s.2 s.3.1)),
      λ h. let s = member_has_some is t k 11 h.1.0 h.1.1 in (a t k).1 (s.0, s.1, s.2, (h.0, s.3)),
    )

pub all_built : (is : List PlainInst) (count n : ℕ) (b : BuiltIns) → AreEarly is count → count ≤ n
    → GathersBoth n is (BuildsIn is) b.members → AreTheirs b → AreBuiltIn is b
all_built is count n b early le g theirs = record {
  members = built_one is count n b early le g;
  structs = λ t. (
    λ h. let m = (theirs t).0 h in (m.0, (built_one is count n b early le g t m.0).0 m.1),
    λ h. (theirs t).1 (h.0, (built_one is count n b early le g t h.0).1 h.1),
  );
}

-- one member more, and its struct
pub theirs_more : (old new : BuiltIns) (t k : ℕ) → AddsBoth (λ v w. (v ≡ t) × (w ≡ k)) old.members new.members
    → Adds (λ y. y ≡ t) old.structs new.structs → AreTheirs old → AreTheirs new
theirs_more old new t k m s h u = (
  λ y. elim ((s u).0 y) [
    | inl o ↦ let g = (h u).0 o in (g.0, (m u g.0).1 (inl g.1))
    | inr e ↦ (k, (m u k).1 (inr (e, refl)))
  ],
  λ g. (s u).1 (elim ((m u g.0).0 g.1) [ inl o ↦ inl ((h u).1 (g.0, o)) | inr e ↦ inr e.0 ]),
)

-- one that is there, or is not
pub add_there : (is : List PlainInst) (t k count : ℕ) (old new : BTreeSet (ℕ × ℕ))
    → ((j : ℕ) → (j < count) ↔ IsMember is t j) → k < count
    → AddsBoth (λ v w. (v ≡ t) × (w ≡ k)) old new
    → AddsBoth (λ u j. IsMember is u j × (u ≡ t) × (j ≡ k)) old new
add_there is t k count old new m l a = both_same _ (λ u j. IsMember is u j × (u ≡ t) × (j ≡ k)) old new
    (λ u j e. (rw (e.0, e.1) ((m k).0 l), e.0, e.1)) (λ u j p. (p.1, p.2)) a

pub add_nothing : (is : List PlainInst) (t k count : ℕ) (s : BTreeSet (ℕ × ℕ))
    → ((j : ℕ) → (j < count) ↔ IsMember is t j) → count ≤ k
    → AddsBoth (λ u j. IsMember is u j × (u ≡ t) × (j ≡ k)) s s
add_nothing is t k count s m l = both_none (λ u j. IsMember is u j × (u ≡ t) × (j ≡ k)) s
    (λ u j p. let b = (m k).1 (subst (λ (z : ℕ). IsMember is z k) p.1 (subst (λ (z : ℕ). IsMember is u z) p.2 p.0)) in
    absurd (omega (arith, l, b)))

-- whatever a call gives
pub always : {A E : Type 0} (r : Result A E) (P : Type 0) → P → OnOk r P
always (Ok a) P p = p
always (Err e) P p = tt

-- the first pair of some operands, and those behind it
pair_first : (os : List Plain) (t m : ℕ) → member_in os ≡ Some (t, m) → HasPair os t m
pair_first (Id u ∷ Word k ∷ os) t m e =
    let r : (u, k) ≡ (t, m) = cc in inl (ap (λ (z : ℕ × ℕ). z.0) r, ap (λ (z : ℕ × ℕ). z.1) r)
pair_first _ t m e = cc

pair_later : (os : List Plain) (t m u k : ℕ) → member_in os ≡ Some (t, m) → HasPair (drop 2 os) u k → HasPair os u k
pair_later (Id v ∷ Word j ∷ os) t m u k e h = inr h
pair_later _ t m u k e h = absurd cc

pair_cases : (os : List Plain) (t m u k : ℕ) → member_in os ≡ Some (t, m) → HasPair os u k
    → ((u ≡ t) × (k ≡ m)) ⊎ HasPair (drop 2 os) u k
pair_cases (Id v ∷ Word j ∷ os) t m u k e (inl h) =
    let r : (v, j) ≡ (t, m) = cc in
    inl (sym h.0 ∙ ap (λ (z : ℕ × ℕ). z.0) r, sym h.1 ∙ ap (λ (z : ℕ × ℕ). z.1) r)
pair_cases (Id v ∷ Word j ∷ os) t m u k e (inr h) = inr h
pair_cases _ t m u k e h = absurd cc

pub no_pair_left : (os : List Plain) (u k : ℕ) → member_in os ≡ None → HasPair os u k → ⊥
no_pair_left (Id v ∷ Word j ∷ os) u k e h = cc
no_pair_left _ u k e h = absurd h

pub pair_shorter : (os rest : List Plain) (t m : ℕ) → member_in os ≡ Some (t, m) → rest ≡ drop 2 os
    → length rest < length os
pair_shorter (Id v ∷ Word j ∷ os) rest t m e r =
    let l : length rest ≡ length os = ap length r in omega (arith, l)
pair_shorter _ rest t m e r = absurd cc

-- what is in a set or among pairs, when the first pair is put in
pub pairs_step : (is : List PlainInst) (os rest : List Plain) (old new : BTreeSet (ℕ × ℕ)) (t m : ℕ)
    (P : ℕ → ℕ → Type 0) → member_in os ≡ Some (t, m) → rest ≡ drop 2 os
    → AddsBoth (λ u k. IsMember is u k × (u ≡ t) × (k ≡ m)) old new
    → ((u k : ℕ) → (HasBoth old u k ⊎ (IsMember is u k × HasPair os u k)) ↔ P u k) → (u k : ℕ)
    → (HasBoth new u k ⊎ (IsMember is u k × HasPair rest u k)) ↔ P u k
pairs_step is os rest old new t m P e r a v u k = (
  λ h. elim h [
    | inl n ↦ elim ((a u k).0 n) [
      | inl o ↦ (v u k).0 (inl o)
      | inr p ↦ (v u k).0 (inr (p.0, rw (p.1, p.2) (pair_first os t m e)))
    ]
    | inr q ↦ (v u k).0 (inr (q.0, pair_later os t m u k e (subst (λ (z : List Plain). HasPair z u k) r q.1)))
  ],
  λ p. elim ((v u k).1 p) [
    | inl o ↦ inl ((a u k).1 (inl o))
    | inr q ↦ elim (pair_cases os t m u k e q.1) [
      | inl z ↦ inl ((a u k).1 (inr (q.0, z.0, z.1)))
      | inr z ↦ inr (q.0, subst (λ (l : List Plain). HasPair l u k) (sym r) z)
    ]
  ],
)

pub pairs_done : (is : List PlainInst) (os : List Plain) (s : BTreeSet (ℕ × ℕ)) (P : ℕ → ℕ → Type 0)
    → member_in os ≡ None → ((u k : ℕ) → (HasBoth s u k ⊎ (IsMember is u k × HasPair os u k)) ↔ P u k) → (u k : ℕ)
    → HasBoth s u k ↔ P u k
pairs_done is os s P e v u k = (
  λ h. (v u k).0 (inl h),
  λ p. elim ((v u k).1 p) [ inl h ↦ h | inr q ↦ absurd (no_pair_left os u k e q.1) ],
)
