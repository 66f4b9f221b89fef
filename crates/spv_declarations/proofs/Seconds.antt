-- O8: an id that has Restrict and Aliased, and the first instructions by which it has them.
use Rattle.std.proofs.Common.{◌≡◌, ◌∙◌, ◌⊎◌, ◌↔◌, ◌+◌, ◌<◌, ◌≤◌, inl, inr, ℕ, Bool, refl, sym, subst, arith, List, []}
use Rattle.std.proofs.Common.{Some, None, IsTrue, length}
use Rattle.std.specs.Prelude.{slice_get}
use Rattle.std.specs.BTreeSet.{BTreeSet, contains}
use Rattle.std.specs.Ordering.{nat_cmp}
use Rattle.std.proofs.lemmas.Bool.{cases_lt}
use Rattle.std.proofs.lemmas.Option.{none-some, slice_get_within}
use Rattle.spv_module.specs.Operand.{Plain, PlainInst}
use Rattle.spv_declarations.specs.Given.{At, Gives, HasId, behind_first, given_by}
use Rattle.spv_declarations.specs.Decorated.{Has, HasBy, IsLeastBy, IsSecond}
use Rattle.spv_declarations.specs.Shown.{IsOtherOf}
use Rattle.spv_declarations.specs.declared.shown.other.Both.{Both}
use Rattle.spv_declarations.specs.inner.Said.{HasAt}
use Rattle.spv_declarations.specs.inner.Second.{AreLeast}
use Rattle.spv_declarations.specs.inner.Sets.{Adds, AnyId, IsIn, IsSaid}
use Rattle.spv_declarations.specs.inner.Shown.{AreBothBefore, IsDecorated, IsNewIn, IsSecondOf}
use Rattle.spv_declarations.proofs.Least.{least_none, least_more, least_here, tested, one_here}
use Rattle.spv_declarations.proofs.Misplacing.{id_any}
use Rattle.spv_declarations.proofs.Showing.{decorated_own, has_decorated}
use Rattle.spv_declarations.proofs.Stated.{at_has, has_at, has_place, has_some}

-- sets of what comes before an instruction: none, and one more
pub both_first : (is : List PlainInst) (b : Both) → b.restricted.keys ≡ [] → b.aliased.keys ≡ []
    → AreBothBefore is 0 b
both_first is b e f =
    record { restricted = least_none is 19 b.restricted e; aliased = least_none is 20 b.aliased f }

pub both_more : (is : List PlainInst) (n : ℕ) (i : PlainInst) (old new : Both) → slice_get is n ≡ Some i
    → Adds (λ x. HasAt is (Gives 19) x i) old.restricted new.restricted
    → Adds (λ x. HasAt is (Gives 20) x i) old.aliased new.aliased → AreBothBefore is n old
    → AreBothBefore is (n + 1) new
both_more is n i old new at p q b = record {
  restricted = least_more is 19 n i old.restricted new.restricted at p b.restricted;
  aliased = least_more is 20 n i old.aliased new.aliased at q b.aliased;
}

-- an instruction by which an id has a decoration is there
pub has_within : (is : List PlainInst) (d x n : ℕ) → HasBy is x d n → n < length is
has_within is d x n h = let t = has_place is d x n h in slice_get_within is n t.0 t.1

second_has : (is : List PlainInst) (n : ℕ) (s : IsSecond is n) → (d : ℕ) × HasBy is s.id d n
second_has is n s = elim s.greater.2 [
  | inl e ↦ (19, subst (λ (k : ℕ). HasBy is s.id 19 k) (sym e) s.one.has)
  | inr e ↦ (20, subst (λ (k : ℕ). HasBy is s.id 20 k) (sym e) s.other.has)
]

pub second_within : (is : List PlainInst) (n : ℕ) → IsSecond is n → n < length is
second_within is n s = let h = second_has is n s in has_within is h.0 s.id n h.1

-- two least instructions are one
pub one_least : (is : List PlainInst) (x d m n : ℕ) → IsLeastBy is x d m → IsLeastBy is x d n → m ≡ n
one_least is x d m n a b =
    let p = a.least n b.has in
    let q = b.least m a.has in
    omega (arith, p, q)

-- Of an id by which instruction n breaks the rule it is new there that it has both.
was_least : (is : List PlainInst) (d x n m : ℕ) (s : BTreeSet ℕ) → AreLeast is d n s → IsIn s x
    → IsLeastBy is x d m → m < n
was_least is d x n m s a t l =
    let k = a.least x t in
    let e = one_least is x d m k.0 l k.2 in
    let lt = k.1 in
    omega (arith, e, lt)

was_or_is : (is : List PlainInst) (d x n m : ℕ) (i : PlainInst) (s : BTreeSet ℕ) (b : Bool) → slice_get is n ≡ Some i
    → AreLeast is d n s → IsLeastBy is x d m → m ≤ n
    → ((x : ℕ) → IsDecorated i x → IsTrue b ↔ HasAt is (Gives d) x i) → IsIn s x ⊎ IsTrue b
was_or_is is d x n m i s b at a l le t = elim (cases_lt m n) [
  | inl lt ↦ inl (a.has x m lt l.has)
  | inr ge ↦
      let e : m ≡ n = omega (arith, le, ge) in
      let h = has_at is (Gives d) x n i at (subst (λ (k : ℕ). HasBy is x d k) e l.has) in
      inr ((t x (has_decorated is d x i h)).1 h)
]

pub some_new : (is : List PlainInst) (n : ℕ) (i : PlainInst) (b : Both) (p q : Bool) → slice_get is n ≡ Some i
    → IsSecond is n → AreBothBefore is n b
    → ((x : ℕ) → IsDecorated i x → IsTrue p ↔ HasAt is (Gives 19) x i)
    → ((x : ℕ) → IsDecorated i x → IsTrue q ↔ HasAt is (Gives 20) x i)
    → (x : ℕ) × IsDecorated i x × IsNewIn b p q x
some_new is n i b p q at s before t u =
    let h = second_has is n s in
    let g = s.greater in (
      s.id,
      has_decorated is h.0 s.id i (has_at is (Gives h.0) s.id n i at h.1),
      (
        λ v w.
            let l = was_least is 19 s.id n s.restricted b.restricted before.restricted v s.one in
            let k = was_least is 20 s.id n s.aliased b.aliased before.aliased w s.other in
            elim g.2 [ inl e ↦ omega (arith, e, l) | inr e ↦ omega (arith, e, k) ],
        was_or_is is 19 s.id n s.restricted i b.restricted p at before.restricted s.one g.0 t,
        was_or_is is 20 s.id n s.aliased i b.aliased q at before.aliased s.other g.1 u,
      ),
    )

-- By an id of which it is new there the instruction breaks the rule.
least_or : (is : List PlainInst) (d n x : ℕ) (i : PlainInst) (s : BTreeSet ℕ) → slice_get is n ≡ Some i
    → AreLeast is d n s → IsIn s x ⊎ HasAt is (Gives d) x i → (m : ℕ) × (m < n + 1) × IsLeastBy is x d m
least_or is d n x i s at a h = elim h [
  | inl o ↦ let l = a.least x o in let lt = l.1 in (l.0, omega (arith, lt), l.2)
  | inr h ↦ least_here is d n x i s at a h (tested (contains nat_cmp s x))
]

told : (is : List PlainInst) (d x : ℕ) (i : PlainInst) (s : BTreeSet ℕ) (b : Bool) → IsDecorated i x
    → ((x : ℕ) → IsDecorated i x → IsTrue b ↔ HasAt is (Gives d) x i) → IsIn s x ⊎ IsTrue b
    → IsIn s x ⊎ HasAt is (Gives d) x i
told is d x i s b k t o = elim o [ inl m ↦ inl m | inr h ↦ inr ((t x k).0 h) ]

pub new_breaks : (is : List PlainInst) (n x : ℕ) (i : PlainInst) (b : Both) (p q : Bool) → slice_get is n ≡ Some i
    → AreBothBefore is n b
    → ((x : ℕ) → IsDecorated i x → IsTrue p ↔ HasAt is (Gives 19) x i)
    → ((x : ℕ) → IsDecorated i x → IsTrue q ↔ HasAt is (Gives 20) x i)
    → IsDecorated i x × IsNewIn b p q x → IsSecondOf is n x
new_breaks is n x i b p q at before t u new =
    let l = least_or is 19 n x i b.restricted at before.restricted
    (told is 19 x i b.restricted p new.0 t new.1.1) in
    let k = least_or is 20 n x i b.aliased at before.aliased (told is 20 x i b.aliased q new.0 u new.1.2) in (
      record {
        id = x;
        restricted = l.0;
        aliased = k.0;
        one = l.2;
        other = k.2;
        greater = (
          let h = l.1 in omega (arith, h),
          let h = k.1 in omega (arith, h),
          one_here l.0 k.0 n l.1 k.1 (λ v w. new.1.0 (before.restricted.has x l.0 v l.2.has)
              (before.aliased.has x k.0 w k.2.has)),
        );
      },
      refl,
    )

-- the id that is told: the one that is given a decoration, or a target
pub own_new : (i : PlainInst) (y e : ℕ) (b : Both) (p q : Bool) → given_by i ≡ Some (y, e)
    → ((x : ℕ) × IsDecorated i x × IsNewIn b p q x) → IsDecorated i y × IsNewIn b p q y
own_new i y e b p q g r =
    let same = decorated_own i y e r.0 g r.1 in
    (inl (e, g), subst (λ (z : ℕ). IsNewIn b p q z) same r.2)

target_named : (i : PlainInst) (x y : ℕ) (os : List Plain) → given_by i ≡ None → os ≡ behind_first i.operands
    → IsDecorated i x → HasId os y → IsDecorated i y
target_named i x y os n e (inl (d, h)) k = absurd (none-some (x, d) (sym n ∙ h))
target_named i x y os n e (inr (g, t)) k = inr (g, (t.0, subst (λ (ps : List Plain). HasId ps y) e k))

pub target_new : (i : PlainInst) (y : ℕ) (os : List Plain) (b : Both) (p q : Bool) → given_by i ≡ None
    → os ≡ behind_first i.operands → ((x : ℕ) × IsDecorated i x × IsNewIn b p q x)
    → HasId os y × IsNewIn b p q y → IsDecorated i y × IsNewIn b p q y
target_new i y os b p q n e r h = (target_named i r.0 y os n e r.1 h.0, h.1)

target_there : (i : PlainInst) (x : ℕ) (os : List Plain) → given_by i ≡ None → os ≡ behind_first i.operands
    → IsDecorated i x → HasId os x
target_there i x os n e (inl (d, h)) = absurd (none-some (x, d) (sym n ∙ h))
target_there i x os n e (inr (g, t)) = subst (λ (ps : List Plain). HasId ps x) (sym e) t.1

pub none_new : (i : PlainInst) (os : List Plain) (b : Both) (p q : Bool) → given_by i ≡ None
    → os ≡ behind_first i.operands → ((x : ℕ) × IsDecorated i x × IsNewIn b p q x)
    → ¬ (AnyId (IsNewIn b p q) os) → ⊥
none_new i os b p q n e r none = none (id_any (IsNewIn b p q) os r.0 (target_there i r.0 os n e r.1) r.2)

-- the first instruction by which an id has a decoration
pub least_at : (is : List PlainInst) (d x n : ℕ) (i : PlainInst) → slice_get is n ≡ Some i → HasAt is (Gives d) x i
    → ((k : ℕ) → k < n → ¬ (At is (HasAt is (Gives d) x) k)) → IsLeastBy is x d n
least_at is d x n i at h none = record {
  has = at_has is (Gives d) x n i at h;
  least = λ m b. elim (cases_lt m n) [ inl l ↦ absurd (none m l (has_place is d x m b)) | inr g ↦ g ];
}

pub some_by : (is : List PlainInst) (d x : ℕ) → ((m : ℕ) × HasBy is x d m) → IsSaid is (HasAt is (Gives d) x)
some_by is d x h = has_some is (Gives d) x h.0 h.1

-- the two decorations of the id that is told
pub has_restrict : (is : List PlainInst) (n x : ℕ) → IsSecondOf is n x → (m : ℕ) × HasBy is x 19 m
has_restrict is n x s = (s.0.restricted, subst (λ (y : ℕ). HasBy is y 19 s.0.restricted) s.1 s.0.one.has)

pub has_alias : (is : List PlainInst) (n x : ℕ) → IsSecondOf is n x → (m : ℕ) × HasBy is x 20 m
has_alias is n x s = (s.0.aliased, subst (λ (y : ℕ). HasBy is y 20 s.0.aliased) s.1 s.0.other.has)

-- the greater of both least instructions is n
record Ends (r a n : ℕ) : Type 0 where
  pub restricted : r ≤ n
  pub aliased : a ≤ n
  pub is_one : (n ≡ r) ⊎ (n ≡ a)

ends : (is : List PlainInst) (n x r a : ℕ) → IsSecondOf is n x → IsLeastBy is x 19 r → IsLeastBy is x 20 a
    → Ends r a n
ends is n x r a s l k =
    let p = one_least is x 19 s.0.restricted r
    (subst (λ (y : ℕ). IsLeastBy is y 19 s.0.restricted) s.1 s.0.one) l in
    let q = one_least is x 20 s.0.aliased a
    (subst (λ (y : ℕ). IsLeastBy is y 20 s.0.aliased) s.1 s.0.other) k in
    let g = s.0.greater in
    let u = g.0 in
    let v = g.1 in
    record {
      restricted = omega (arith, p, u);
      aliased = omega (arith, q, v);
      is_one = elim g.2 [ inl e ↦ inl (e ∙ p) | inr e ↦ inr (e ∙ q) ];
    }

pub restrict_first : (is : List PlainInst) (n x r a : ℕ) → IsSecondOf is n x → IsLeastBy is x 19 r
    → IsLeastBy is x 20 a → r < a → IsOtherOf is n r
restrict_first is n x r a s l k lt =
    let e = ends is n x r a s l k in
    let u = e.restricted in
    let v = e.aliased in
    let same : a ≡ n = elim e.is_one [ inl o ↦ omega (arith, o, v, lt) | inr o ↦ sym o ] in
    (u, (x, inl (l, subst (λ (m : ℕ). IsLeastBy is x 20 m) same k)))

pub alias_first : (is : List PlainInst) (n x r a : ℕ) → IsSecondOf is n x → IsLeastBy is x 19 r
    → IsLeastBy is x 20 a → a ≤ r → IsOtherOf is n a
alias_first is n x r a s l k le =
    let e = ends is n x r a s l k in
    let u = e.restricted in
    let v = e.aliased in
    let same : r ≡ n = elim e.is_one [ inl o ↦ sym o | inr o ↦ omega (arith, o, u, le) ] in
    (v, (x, inr (k, subst (λ (m : ℕ). IsLeastBy is x 19 m) same l)))
