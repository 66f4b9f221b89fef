-- The ids that have a decoration, and since when.
use Rattle.std.proofs.Common.{◌≡◌, ◌∙◌, ◌⊎◌, ◌+◌, ◌<◌, inl, inr, ℕ, Bool, true, false, refl, sym, subst, arith, List}
use Rattle.std.proofs.Common.{[], Some, IsTrue}
use Rattle.std.specs.Prelude.{slice_get}
use Rattle.std.specs.BTreeSet.{BTreeSet, contains}
use Rattle.std.specs.Ordering.{nat_cmp}
use Rattle.std.proofs.lemmas.Bool.{cases_lt}
use Rattle.spv_module.specs.Operand.{PlainInst}
use Rattle.spv_declarations.specs.Given.{Gives}
use Rattle.spv_declarations.specs.Decorated.{HasBy, IsLeastBy, IsSecond}
use Rattle.spv_declarations.specs.inner.Said.{HasAt}
use Rattle.spv_declarations.specs.inner.Second.{AreLeast, AreApart}
use Rattle.spv_declarations.specs.inner.Sets.{IsIn, Adds}
use Rattle.spv_declarations.proofs.Gathered.{none_in}
use Rattle.spv_declarations.proofs.Stated.{at_has, has_at}

pub least_none : (is : List PlainInst) (d : ℕ) (s : BTreeSet ℕ) → s.keys ≡ [] → AreLeast is d 0 s
least_none is d s e = record {
  has = λ x m l h. absurd (omega (arith, l));
  least = λ x t. absurd (none_in s x e t);
}

pub tested : (b : Bool) → (IsTrue b) ⊎ (b ≡ false)
tested true = inl refl
tested false = inr refl

pub least_here : (is : List PlainInst) (d n x : ℕ) (i : PlainInst) (old : BTreeSet ℕ) → slice_get is n ≡ Some i
    → AreLeast is d n old → HasAt is (Gives d) x i → (IsIn old x) ⊎ (contains nat_cmp old x ≡ false)
    → (m : ℕ) × (m < n + 1) × IsLeastBy is x d m
least_here is d n x i old at a h (inl t) = let l = a.least x t in (l.0, omega (arith, l.1), l.2)
least_here is d n x i old at a h (inr f) = (
  n,
  omega arith,
  record {
    has = at_has is (Gives d) x n i at h;
    least = λ m b. elim (cases_lt m n) [
      | inl l ↦ let no : false ≡ true = sym f ∙ a.has x m l b in absurd (cc)
      | inr g ↦ g
    ];
  },
)

pub least_more : (is : List PlainInst) (d n : ℕ) (i : PlainInst) (old new : BTreeSet ℕ) → slice_get is n ≡ Some i
    → Adds (λ x. HasAt is (Gives d) x i) old new → AreLeast is d n old → AreLeast is d (n + 1) new
least_more is d n i old new at add a = record {
  has = λ x m l h. (add x).1 (elim (cases_lt m n) [
    | inl k ↦ inl (a.has x m k h)
    | inr g ↦
        let e : m ≡ n = omega (arith, l, g) in
        inr (has_at is (Gives d) x n i at (subst (λ (k : ℕ). HasBy is x d k) e h))
  ]);
  least = λ x t. elim ((add x).0 t) [
    | inl o ↦ let l = a.least x o in (l.0, omega (arith, l.1), l.2)
    | inr h ↦ least_here is d n x i old at a h (tested (contains nat_cmp old x))
  ];
}

-- one of the two is n, where both are not below it
pub one_here : (r a n : ℕ) → r < n + 1 → a < n + 1 → (r < n → a < n → ⊥) → (n ≡ r) ⊎ (n ≡ a)
one_here r a n l k never = elim (cases_lt r n) [
  | inl p ↦ elim (cases_lt a n) [
    | inl q ↦ absurd (never p q)
    | inr q ↦ inr (omega (arith, k, q))
  ]
  | inr p ↦ inl (omega (arith, l, p))
]

-- An id that has both since instruction n breaks the rule there.
pub second_here : (is : List PlainInst) (n x : ℕ) (r a s b : BTreeSet ℕ) → AreLeast is 19 n r → AreLeast is 20 n a
    → AreApart r a → AreLeast is 19 (n + 1) s → AreLeast is 20 (n + 1) b → IsIn s x → IsIn b x → IsSecond is n
second_here is n x r a s b old other apart new more p q =
    let l = new.least x p in
    let k = more.least x q in
    record {
      id = x;
      restricted = l.0;
      aliased = k.0;
      one = l.2;
      other = k.2;
      greater = (
        let h = l.1 in omega (arith, h),
        let h = k.1 in omega (arith, h),
        one_here l.0 k.0 n l.1 k.1
            (λ u v. apart x (old.has x l.0 u l.2.has) (other.has x k.0 v k.2.has)),
      );
    }

-- Where none has both, none breaks the rule.
pub none_second : (is : List PlainInst) (n : ℕ) (r a : BTreeSet ℕ) → AreLeast is 19 n r → AreLeast is 20 n a
    → AreApart r a → (m : ℕ) → m < n → IsSecond is m → ⊥
none_second is n r a l k apart m lt s =
    let u = s.greater.0 in
    let v = s.greater.1 in
    apart s.id (l.has s.id s.restricted (omega (arith, u, lt)) s.one.has)
    (k.has s.id s.aliased (omega (arith, v, lt)) s.other.has)

pub apart_none : (r a : BTreeSet ℕ) → r.keys ≡ [] → AreApart r a
apart_none r a e x t u = none_in r x e t

pub apart_more : (is : List PlainInst) (i : PlainInst) (r a s b : BTreeSet ℕ)
    → Adds (λ x. HasAt is (Gives 19) x i) r s → Adds (λ x. HasAt is (Gives 20) x i) a b
    → ((d x : ℕ) → HasAt is (Gives d) x i → IsIn s x → IsIn b x → ⊥) → AreApart r a → AreApart s b
apart_more is i r a s b p q none apart x t u = elim ((p x).0 t) [
  | inl o ↦ elim ((q x).0 u) [ inl w ↦ apart x o w | inr h ↦ none 20 x h t u ]
  | inr h ↦ none 19 x h t u
]
