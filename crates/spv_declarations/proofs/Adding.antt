-- Sets of ids and of pairs.
use Rattle.std.proofs.Common.{◌≡◌, ◌↔◌, ◌∙◌, ◌⊎◌, ◌<◌, ◌||◌, inl, inr, ℕ, Bool, true, false, cond, refl, sym, ap}
use Rattle.std.proofs.Common.{IsTrue, arith, List, [], ◌∷◌, map, nat_eq, Contains}
use Rattle.std.specs.Prelude.{filter}
use Rattle.std.specs.List.{list_any}
use Rattle.std.specs.BTreeSet.{contains, BTreeSet, Updates, keys_between}
use Rattle.std.specs.BTreeMap.{is_at}
use Rattle.std.specs.BTreeMap.Range.{range_contains}
use Rattle.std.specs.declared.ops.Bound.TheVariants.{Included, Excluded}
use Rattle.std.specs.Ordering.{nat_cmp}
use Rattle.std.specs.Cmp.{nat_cmp_total, nat_eq_equiv, IsTotalOrder, tied_itself, then_total, on_total}
use Rattle.std.proofs.lemmas.Bool.{eqb-true, eq-eqb}
use Rattle.std.proofs.lemmas.Bool.Decides.{nat_tests}
use Rattle.std.proofs.lemmas.Map.Lookups.{exact_pairs, exact_unsigned}
use Rattle.std.proofs.lemmas.Map.Views.{tells_apart, IsInRange-from_range_contains, range_contains-from_IsInRange}
use Rattle.std.proofs.lemmas.Map.Views.{Contains-from_any, list_any-from_Contains, exact_unsigned_eq}
use Rattle.spv_declarations.specs.inner.Sets.{pair_cmp, HasBoth, Adds, AddsBoth}

pair_total : IsTotalOrder pair_cmp
pair_total = then_total (on_total (λ (p : ℕ × ℕ). p.0) nat_cmp_total) (on_total (λ (p : ℕ × ℕ). p.1) nat_cmp_total)

same_pair : (g d : ℕ) → is_at (pair_cmp (g, d)) (g, d) ≡ true
same_pair g d = rw (tied_itself pair_total (g, d)) refl

pair_same : (g d h e : ℕ) → is_at (pair_cmp (g, d)) (h, e) ≡ true → (h ≡ g) × (e ≡ d)
pair_same g d h e a =
    let p = tells_apart (exact_pairs nat_cmp nat_cmp exact_unsigned exact_unsigned) (g, d) (h, e) a in
    (sym (ap (λ (x : ℕ × ℕ). x.0) p), sym (ap (λ (x : ℕ × ℕ). x.1) p))

pub by_test : (b : Bool) (old new : Bool) (P : Type 0) → new ≡ cond b true old → (b ≡ true → P) → (P → b ≡ true)
    → IsTrue new ↔ (IsTrue old ⊎ P)
by_test true old new P e f g = (λ t. inr (f refl), λ o. e)
by_test false old new P e f g =
    (λ t. inl (sym e ∙ t), λ o. elim o [ inl t ↦ e ∙ t | inr p ↦ let q : false ≡ true = g p in cc ])

pub both_put : (old new : BTreeSet (ℕ × ℕ)) (g d : ℕ) → Updates pair_cmp old new (g, d) true
    → AddsBoth (λ v w. (v ≡ g) × (w ≡ d)) old new
both_put old new g d u h e =
    by_test (is_at (pair_cmp (g, d)) (h, e)) (contains pair_cmp old (h, e)) (contains pair_cmp new (h, e))
    ((h ≡ g) × (e ≡ d)) (u.0 (h, e)) (pair_same g d h e) (λ q. rw (q.0, q.1) (same_pair g d))

-- What is added is so by another word for it; nothing is added.
pub adds_same : (P Q : ℕ → Type 0) (old new : BTreeSet ℕ) → ((x : ℕ) → P x → Q x) → ((x : ℕ) → Q x → P x)
    → Adds P old new → Adds Q old new
adds_same P Q old new f g a x = (
  λ t. elim ((a x).0 t) [ inl o ↦ inl o | inr p ↦ inr (f x p) ],
  λ o. (a x).1 (elim o [ inl t ↦ inl t | inr q ↦ inr (g x q) ]),
)

pub adds_none : (P : ℕ → Type 0) (s : BTreeSet ℕ) → ((x : ℕ) → P x → ⊥) → Adds P s s
adds_none P s never x = (λ t. inl t, λ o. elim o [ inl t ↦ t | inr p ↦ absurd (never x p) ])

pub both_same : (P Q : ℕ → ℕ → Type 0) (old new : BTreeSet (ℕ × ℕ)) → ((x y : ℕ) → P x y → Q x y)
    → ((x y : ℕ) → Q x y → P x y) → AddsBoth P old new → AddsBoth Q old new
both_same P Q old new f g a x y = (
  λ t. elim ((a x y).0 t) [ inl o ↦ inl o | inr p ↦ inr (f x y p) ],
  λ o. (a x y).1 (elim o [ inl t ↦ inl t | inr q ↦ inr (g x y q) ]),
)

pub both_none : (P : ℕ → ℕ → Type 0) (s : BTreeSet (ℕ × ℕ)) → ((x y : ℕ) → P x y → ⊥) → AddsBoth P s s
both_none P s never x y = (λ t. inl t, λ o. elim o [ inl t ↦ t | inr p ↦ absurd (never x y p) ])

-- whether a pair is of the group and below its end
abbrev is_of : ℕ → ℕ → ℕ × ℕ → Bool
is_of g m = range_contains pair_cmp (Included (g, 0)) (Excluded (g, m))

of_group : (g m h e : ℕ) → is_of g m (h, e) ≡ true → h ≡ g
of_group g m h e t =
    let r = IsInRange-from_range_contains pair_total (Included (g, 0)) (Excluded (g, m)) (h, e) t in
    let low = r.0 in
    let high = r.1 in
    grind (arith, nat_tests, low, high)

of_itself : (g m d : ℕ) → d < m → is_of g m (g, d) ≡ true
of_itself g m d l = range_contains-from_IsInRange pair_total (Included (g, 0)) (Excluded (g, m)) (g, d)
    (grind (arith, nat_tests), grind (arith, nat_tests))

not_true : (b : Bool) → (b ≡ true → ⊥) → b ≡ false
not_true true h = absurd (h refl)
not_true false h = refl

same_test : (b c : Bool) → (b ≡ true → c ≡ true) → (c ≡ true → b ≡ true) → b ≡ c
same_test true c f g = sym (f refl)
same_test false true f g = g refl
same_test false false f g = refl

one_of : (g m d h e : ℕ) (b : Bool) (xs ys : Bool) → is_of g m (h, e) ≡ b → d < m → xs ≡ ys
    → cond b (nat_eq d e || xs) xs ≡ (is_at (pair_cmp (g, d)) (h, e) || ys)
one_of g m d h e true xs ys t l same =
    let k = of_group g m h e t in
    let p : nat_eq d e ≡ is_at (pair_cmp (g, d)) (h, e) =
    same_test (nat_eq d e) (is_at (pair_cmp (g, d)) (h, e))
    (λ q. rw (k, sym (eqb-true d e q)) (same_pair g d)) (λ q. eq-eqb d e (sym (pair_same g d h e q).1)) in
    ap (λ (z : Bool). z || xs) p ∙ ap (λ (z : Bool). is_at (pair_cmp (g, d)) (h, e) || z) same
one_of g m d h e false xs ys t l same =
    let p : is_at (pair_cmp (g, d)) (h, e) ≡ false = not_true (is_at (pair_cmp (g, d)) (h, e))
    (λ q. let s = pair_same g d h e q in
    let u : is_of g m (h, e) ≡ true = rw (s.0, s.1) (of_itself g m d l) in
    let no : false ≡ true = sym t ∙ u in cc) in
    rw p same

among_more : (g m d : ℕ) (p : ℕ × ℕ) (ps : List (ℕ × ℕ)) → d < m → (b : Bool) → is_of g m p ≡ b
    → list_any (nat_eq d) (map (λ (p : ℕ × ℕ). p.1) (filter (is_of g m) ps)) ≡ list_any (is_at (pair_cmp (g, d))) ps
    → list_any (nat_eq d) (map (λ (p : ℕ × ℕ). p.1) (filter (is_of g m) (p ∷ ps)))
    ≡ list_any (is_at (pair_cmp (g, d))) (p ∷ ps)
among_more g m d p ps l true t same =
    rw t (one_of g m d p.0 p.1 true _ _ t l same)
among_more g m d p ps l false t same =
    rw t (one_of g m d p.0 p.1 false _ _ t l same)

pub among : (g m d : ℕ) → d < m → (ps : List (ℕ × ℕ))
    → list_any (nat_eq d) (map (λ (p : ℕ × ℕ). p.1) (filter (is_of g m) ps)) ≡ list_any (is_at (pair_cmp (g, d))) ps
among g m d l [] = refl
among g m d l (p ∷ ps) = among_more g m d p ps l (is_of g m p) refl (among g m d l ps)

pub of_tells : (pairs : BTreeSet (ℕ × ℕ)) (g m : ℕ) (ds : List ℕ)
    → ds ≡ map (λ (p : ℕ × ℕ). p.1) (keys_between pair_cmp (Included (g, 0)) (Excluded (g, m)) pairs) → (d : ℕ) → d < m
    → Contains ds d ↔ HasBoth pairs g d
of_tells pairs g m ds e d l =
    let a = among g m d l pairs.keys in
    let f : list_any (nat_eq d) ds ≡ contains pair_cmp pairs (g, d) = ap (list_any (nat_eq d)) e ∙ a in
    (λ k. sym f ∙ list_any-from_Contains nat_eq_equiv d ds k, λ k. Contains-from_any exact_unsigned_eq d ds (f ∙ k))
