-- Types that match have one number.
use Rattle.std.proofs.Common.{◌≡◌, ◌≢◌, ◌<◌, ◌≤◌, ◌+◌, ◌∙◌, ◌↔◌, ◌⊎◌, ℕ, zero, suc, List, [], ◌∷◌, ◌++◌, Option, Some}
use Rattle.std.proofs.Common.{None, Bool, true, false, refl, sym, ap, subst, inl, inr, length, arith, nat_eq}
use Rattle.std.specs.Prelude.{slice_get, unwrap_or}
use Rattle.std.proofs.lemmas.Option.{none-some, same_Some, slice_get_within, slice_get_cases}
use Rattle.std.proofs.lemmas.Bool.{cases_eq, cases_lt, eq-eqb}
use Rattle.std.proofs.Common.{length-append}
use Rattle.spv_module.specs.Operand.{Plain, Id, PlainInst}
use Rattle.spv_ids.specs.Outcome.{IsOnly}
use Rattle.spv_type_forms.specs.declared.form.Form.{Form}
use Rattle.spv_type_forms.specs.declared.form.Form.TheVariants as form
use Rattle.spv_type_forms.specs.Form.{form_of}
use Rattle.spv_type_forms.specs.Matches.{is_aggregate, IsDeclaredFor, Matches, AreMatching}
use Rattle.spv_type_forms.specs.inner.Matching.{IsNumbered, IsNumber, IsMemberNumber, AreNumbers, IsKey, AreMatched}
use Rattle.spv_type_forms.specs.inner.Matching.{KeepsKey}

-- It is told whether a type is an aggregate.

pub aggregate_or_not : (b : Bool) → (b ≡ true) ⊎ (b ≡ false)
aggregate_or_not true = inl refl
aggregate_or_not false = inr refl

pub both_ways : {P : Type 0} (b : Bool) → b ≡ true → b ≡ false → P
both_ways b h e = absurd (let no : true ≡ false = sym h ∙ e in cc)

of_array : (is : List PlainInst) (t d l : ℕ) → form_of is t ≡ Some (form.Array d l)
    → is_aggregate (form_of is t) ≡ true
of_array is t d l f = ap is_aggregate f

of_struct : (is : List PlainInst) (t : ℕ) → form_of is t ≡ Some form.Struct → is_aggregate (form_of is t) ≡ true
of_struct is t f = ap is_aggregate f

-- Types that match are one, or both are aggregates.
pub one_or_aggregates : (is : List PlainInst) (t u : ℕ) → Matches is t u
    → (t ≡ u) ⊎ ((is_aggregate (form_of is t) ≡ true) × (is_aggregate (form_of is u) ≡ true))
one_or_aggregates is _ _ (Matches.same t) = inl refl
one_or_aggregates is _ _ (Matches.arrays t u d e l f g a b m) = inr (of_array is t d l f, of_array is u e l g)
one_or_aggregates is _ _ (Matches.structs t u ms ns f g m n a) = inr (of_struct is t f, of_struct is u g)

mutual
  pub turned : (is : List PlainInst) (t u : ℕ) → Matches is t u → Matches is u t
  turned is _ _ (Matches.same t) = Matches.same t
  turned is _ _ (Matches.arrays t u d e l f g a b m) = Matches.arrays u t e d l g f b a (turned is d e m)
  turned is _ _ (Matches.structs t u ms ns f g m n a) = Matches.structs u t ns ms g f n m (all_turned is t u ms ns a)

  all_turned : (is : List PlainInst) (t u : ℕ) (ms ns : List Plain) → AreMatching is t u ms ns
      → AreMatching is u t ns ms
  all_turned is _ _ _ _ (AreMatching.none t u) = AreMatching.none u t
  all_turned is _ _ _ _ (AreMatching.more t u a b ms ns p q m r) =
      AreMatching.more u t b a ns ms q p (turned is a b m) (all_turned is t u ms ns r)

-- A number is told once, and a key too.

pub same_place : (is : List PlainInst) (u p q : ℕ) → IsOnly is u p → IsOnly is u q → p ≡ q
same_place is u p q a b = b.only p a.there

numbered_once : (is : List PlainInst) (cs : List ℕ) (n m u c d : ℕ) → IsNumbered is cs n u c
    → IsNumbered is cs m u d → c ≡ d
numbered_once is cs n m u c d a b =
    let e : a.place ≡ b.place = same_place is u a.place b.place a.one b.one in
    same_Some c d (sym a.there ∙ (ap (slice_get cs) e ∙ b.there))

pub number_once : (is : List PlainInst) (cs : List ℕ) (n u c d : ℕ) → IsNumber is cs n u c → IsNumber is cs n u d
    → c ≡ d
number_once is cs n u c d (inl a) (inl b) = a.1 ∙ sym b.1
number_once is cs n u c d (inl a) (inr b) = both_ways (is_aggregate (form_of is u)) b.aggregate a.0
number_once is cs n u c d (inr a) (inl b) = both_ways (is_aggregate (form_of is u)) a.aggregate b.0
number_once is cs n u c d (inr a) (inr b) = numbered_once is cs n n u c d a b

same_id : (a b : ℕ) → Id a ≡ Id b → a ≡ b
same_id a b e = cc

member_once : (is : List PlainInst) (cs : List ℕ) (n : ℕ) (o : Plain) (c d : ℕ) → IsMemberNumber is cs n o c
    → IsMemberNumber is cs n o d → c ≡ d
member_once is cs n o c d a b =
    let e : a.0 ≡ b.0 = same_id a.0 b.0 (sym a.1 ∙ b.1) in
    number_once is cs n b.0 c d (subst (λ u. IsNumber is cs n u c) e a.2) b.2

numbers_once : (is : List PlainInst) (cs : List ℕ) (n : ℕ) (ms : List Plain) (ks js : List ℕ)
    → AreNumbers is cs n ms ks → AreNumbers is cs n ms js → ks ≡ js
numbers_once is cs n [] [] [] a b = refl
numbers_once is cs n [] [] (j ∷ js) a b = absurd b
numbers_once is cs n [] (k ∷ ks) js a b = absurd a
numbers_once is cs n (o ∷ ms) [] js a b = absurd a
numbers_once is cs n (o ∷ ms) (k ∷ ks) [] a b = absurd b
numbers_once is cs n (o ∷ ms) (k ∷ ks) (j ∷ js) a b =
    let e : k ≡ j = member_once is cs n o k j a.0 b.0 in
    let f : ks ≡ js = numbers_once is cs n ms ks js a.1 b.1 in
    cc

same_array : (d l e m : ℕ) (o : Option Form) → o ≡ Some (form.Array d l) → o ≡ Some (form.Array e m)
    → (d ≡ e) × (l ≡ m)
same_array d l e m o a b =
    let same : form.Array d l ≡ form.Array e m = same_Some _ _ (sym a ∙ b) in
    let f : d ≡ e = cc in
    let g : l ≡ m = cc in
    (f, g)

never_both : {P : Type 0} (d l : ℕ) (o : Option Form) → o ≡ Some (form.Array d l) → o ≡ Some form.Struct → P
never_both d l o a b = absurd (let no : form.Array d l ≡ form.Struct = same_Some _ _ (sym a ∙ b) in cc)

pub key_once : (is : List PlainInst) (cs : List ℕ) (n t : ℕ) (k j : List ℕ) → IsKey is cs n t k → IsKey is cs n t j
    → k ≡ j
key_once is cs n t _ _ (IsKey.array e l c f x) (IsKey.array d m b g y) =
    let s = same_array e l d m (form_of is t) f g in
    let r : c ≡ b = number_once is cs n d c b (subst (λ u. IsNumber is cs n u c) s.0 x) y in
    rw (s.1, r) refl
key_once is cs n t _ _ (IsKey.array e l c f x) (IsKey.struct ns js g n' y) = never_both e l (form_of is t) f g
key_once is cs n t _ _ (IsKey.struct ms ks f m x) (IsKey.array d l b g y) = never_both d l (form_of is t) g f
key_once is cs n t _ _ (IsKey.struct ms ks f m x) (IsKey.struct ns js g n' y) =
    let same : ms ≡ ns = same_Some ms ns (sym m ∙ n') in
    ap (λ rest. 1 ∷ rest) (numbers_once is cs n ns ks js (subst (λ os. AreNumbers is cs n os ks) same x) y)

-- One number more.

get_last : (cs : List ℕ) (b : ℕ) → slice_get (cs ++ b ∷ []) (length cs) ≡ Some b
get_last [] b = refl
get_last (c ∷ cs) b = get_last cs b

get_front : (cs : List ℕ) (b p c : ℕ) → slice_get cs p ≡ Some c → slice_get (cs ++ b ∷ []) p ≡ Some c
get_front [] b p c e = absurd (let l = slice_get_within [] p c e in omega arith)
get_front (d ∷ cs) b zero c e = e
get_front (d ∷ cs) b (suc p) c e = get_front cs b p c e

get_back : (cs : List ℕ) (b p c : ℕ) → p < length cs → slice_get (cs ++ b ∷ []) p ≡ Some c → slice_get cs p ≡ Some c
get_back [] b p c l e = absurd (omega arith)
get_back (d ∷ cs) b zero c l e = e
get_back (d ∷ cs) b (suc p) c l e = get_back cs b p c (omega arith) e

last_place : (cs : List ℕ) (b p c : ℕ) → slice_get (cs ++ b ∷ []) p ≡ Some c
    → ((p < length cs) × (slice_get cs p ≡ Some c)) ⊎ ((p ≡ length cs) × (c ≡ b))
last_place cs b p c e = elim (cases_lt p (length cs)) [
  | inl l ↦ inl (l, get_back cs b p c l e)
  | inr h ↦
      let w : p < length (cs ++ b ∷ []) = slice_get_within (cs ++ b ∷ []) p c e in
      let s : length (cs ++ b ∷ []) ≡ length cs + 1 = length-append cs (b ∷ []) in
      let same : p ≡ length cs = omega arith in
      inr (same, same_Some c b (sym e ∙ (ap (slice_get (cs ++ b ∷ [])) same ∙ get_last cs b)))
]

longer : (cs : List ℕ) (b : ℕ) → length (cs ++ b ∷ []) ≡ length cs + 1
longer cs b = length-append cs (b ∷ [])

-- what is numbered before an instruction of those so far

numbered_then : (is : List PlainInst) (cs : List ℕ) (b n u c : ℕ) → IsNumbered is cs n u c
    → IsNumbered is (cs ++ b ∷ []) n u c
numbered_then is cs b n u c x = record {
  aggregate = x.aggregate;
  place = x.place;
  before = x.before;
  one = x.one;
  there = get_front cs b x.place c x.there;
}

numbered_now : (is : List PlainInst) (cs : List ℕ) (b n u c : ℕ) → n ≤ length cs → IsNumbered is (cs ++ b ∷ []) n u c
    → IsNumbered is cs n u c
numbered_now is cs b n u c l x = record {
  aggregate = x.aggregate;
  place = x.place;
  before = x.before;
  one = x.one;
  there = get_back cs b x.place c (let k = x.before in omega arith) x.there;
}

number_then : (is : List PlainInst) (cs : List ℕ) (b n u c : ℕ) → IsNumber is cs n u c
    → IsNumber is (cs ++ b ∷ []) n u c
number_then is cs b n u c (inl a) = inl a
number_then is cs b n u c (inr x) = inr (numbered_then is cs b n u c x)

number_now : (is : List PlainInst) (cs : List ℕ) (b n u c : ℕ) → n ≤ length cs → IsNumber is (cs ++ b ∷ []) n u c
    → IsNumber is cs n u c
number_now is cs b n u c l (inl a) = inl a
number_now is cs b n u c l (inr x) = inr (numbered_now is cs b n u c l x)

numbers_then : (is : List PlainInst) (cs : List ℕ) (b n : ℕ) (ms : List Plain) (ks : List ℕ)
    → AreNumbers is cs n ms ks → AreNumbers is (cs ++ b ∷ []) n ms ks
numbers_then is cs b n [] [] a = tt
numbers_then is cs b n [] (k ∷ ks) a = absurd a
numbers_then is cs b n (o ∷ ms) [] a = absurd a
numbers_then is cs b n (o ∷ ms) (k ∷ ks) a =
    ((a.0.0, a.0.1, number_then is cs b n a.0.0 k a.0.2), numbers_then is cs b n ms ks a.1)

numbers_now : (is : List PlainInst) (cs : List ℕ) (b n : ℕ) (ms : List Plain) (ks : List ℕ) → n ≤ length cs
    → AreNumbers is (cs ++ b ∷ []) n ms ks → AreNumbers is cs n ms ks
numbers_now is cs b n [] [] l a = tt
numbers_now is cs b n [] (k ∷ ks) l a = absurd a
numbers_now is cs b n (o ∷ ms) [] l a = absurd a
numbers_now is cs b n (o ∷ ms) (k ∷ ks) l a =
    ((a.0.0, a.0.1, number_now is cs b n a.0.0 k l a.0.2), numbers_now is cs b n ms ks l a.1)

key_then : (is : List PlainInst) (cs : List ℕ) (b n t : ℕ) (k : List ℕ) → IsKey is cs n t k
    → IsKey is (cs ++ b ∷ []) n t k
key_then is cs b n t _ (IsKey.array e l c f x) = IsKey.array e l c f (number_then is cs b n e c x)
key_then is cs b n t _ (IsKey.struct ms ks f m x) = IsKey.struct ms ks f m (numbers_then is cs b n ms ks x)

key_now : (is : List PlainInst) (cs : List ℕ) (b n t : ℕ) (k : List ℕ) → n ≤ length cs
    → IsKey is (cs ++ b ∷ []) n t k → IsKey is cs n t k
key_now is cs b n t _ h (IsKey.array e l c f x) = IsKey.array e l c f (number_now is cs b n e c h x)
key_now is cs b n t _ h (IsKey.struct ms ks f m x) = IsKey.struct ms ks f m (numbers_now is cs b n ms ks h x)

-- Types with one key match.

wider : (is : List PlainInst) (cs : List ℕ) (n m u c : ℕ) → n ≤ m → IsNumbered is cs n u c → IsNumbered is cs m u c
wider is cs n m u c l x = record {
  aggregate = x.aggregate;
  place = x.place;
  before = (let k = x.before in omega arith);
  one = x.one;
  there = x.there;
}

declared : (is : List PlainInst) (cs : List ℕ) (n t u c : ℕ) → IsOnly is t n → IsNumber is cs n u c
    → IsDeclaredFor is u t
declared is cs n t u c one (inl a) = λ h. both_ways (is_aggregate (form_of is u)) h a.0
declared is cs n t u c one (inr x) =
    λ h. record { place = x.place; later = n; before = x.before; one = x.one; next = one }

one_number : (is : List PlainInst) (cs : List ℕ) (found : List ℕ → Option ℕ) (p q a b c : ℕ) → AreMatched is cs found
    → p ≤ length cs → q ≤ length cs → IsNumber is cs p a c → IsNumber is cs q b c → Matches is a b
one_number is cs found p q a b c s k l (inl x) (inl y) =
    let same : a ≡ b = sym x.1 ∙ y.1 in subst (λ u. Matches is a u) same (Matches.same a)
one_number is cs found p q a b c s k l (inl x) (inr y) =
    let h = s.own b c (wider is cs q (length cs) b c l y) in
    both_ways (is_aggregate (form_of is a)) (subst (λ u. is_aggregate (form_of is u) ≡ true) x.1 h) x.0
one_number is cs found p q a b c s k l (inr x) (inl y) =
    let h = s.own a c (wider is cs p (length cs) a c k x) in
    both_ways (is_aggregate (form_of is b)) (subst (λ u. is_aggregate (form_of is u) ≡ true) y.1 h) y.0
one_number is cs found p q a b c s k l (inr x) (inr y) =
    (s.alike a b c c (wider is cs p (length cs) a c k x) (wider is cs q (length cs) b c l y)).0 refl

with_ids : (is : List PlainInst) (t u a b : ℕ) (m n : Plain) (ms ns : List Plain) → m ≡ Id a → n ≡ Id b
    → AreMatching is t u (Id a ∷ ms) (Id b ∷ ns) → AreMatching is t u (m ∷ ms) (n ∷ ns)
with_ids is t u a b m n ms ns e f h = rw (e, f) h

same_numbers : (is : List PlainInst) (cs : List ℕ) (found : List ℕ → Option ℕ) (p q t u : ℕ) (ms ns : List Plain)
    (ks : List ℕ) → AreMatched is cs found → p ≤ length cs → q ≤ length cs → IsOnly is t p → IsOnly is u q
    → AreNumbers is cs p ms ks → AreNumbers is cs q ns ks → AreMatching is t u ms ns
same_numbers is cs found p q t u [] [] [] s k l x y a b = AreMatching.none t u
same_numbers is cs found p q t u [] [] (c ∷ ks) s k l x y a b = absurd a
same_numbers is cs found p q t u [] (n ∷ ns) [] s k l x y a b = absurd b
same_numbers is cs found p q t u [] (n ∷ ns) (c ∷ ks) s k l x y a b = absurd a
same_numbers is cs found p q t u (m ∷ ms) ns [] s k l x y a b = absurd a
same_numbers is cs found p q t u (m ∷ ms) [] (c ∷ ks) s k l x y a b = absurd b
same_numbers is cs found p q t u (m ∷ ms) (n ∷ ns) (c ∷ ks) s k l x y a b =
    with_ids is t u a.0.0 b.0.0 m n ms ns a.0.1 b.0.1
    (AreMatching.more t u a.0.0 b.0.0 ms ns (declared is cs p t a.0.0 c x a.0.2) (declared is cs q u b.0.0 c y b.0.2)
    (one_number is cs found p q a.0.0 b.0.0 c s k l a.0.2 b.0.2)
    (same_numbers is cs found p q t u ms ns ks s k l x y a.1 b.1))

heads : (a b : ℕ) (ks js : List ℕ) → a ∷ ks ≡ b ∷ js → a ≡ b
heads a b ks js e = cc

key_differs : {P : Type 0} (ks js : List ℕ) → 0 ∷ ks ≡ 1 ∷ js → P
key_differs ks js e = absurd (let no : nat_eq 0 1 ≡ true = eq-eqb 0 1 (heads 0 1 ks js e) in cc)

by_keys : (is : List PlainInst) (cs : List ℕ) (found : List ℕ → Option ℕ) (p q t u : ℕ) (k j : List ℕ)
    → AreMatched is cs found → p ≤ length cs → q ≤ length cs → IsOnly is t p → IsOnly is u q → IsKey is cs p t k
    → IsKey is cs q u j → k ≡ j → Matches is t u
by_keys is cs found p q t u _ _ s h i x y (IsKey.array d l c f a) (IsKey.array e m b g z) r =
    let same : l ≡ m = cc in
    let number : c ≡ b = cc in
    let other = subst (λ v. IsNumber is cs q e v) (sym number) z in
    Matches.arrays t u d e l f (rw same g) (declared is cs p t d c x a) (declared is cs q u e c y other)
    (one_number is cs found p q d e c s h i a other)
by_keys is cs found p q t u _ _ s h i x y (IsKey.array d l c f a) (IsKey.struct ns js g n z) r = key_differs _ _ r
by_keys is cs found p q t u _ _ s h i x y (IsKey.struct ms ks f m a) (IsKey.array e l b g z) r = key_differs _ _ (sym r)
by_keys is cs found p q t u _ _ s h i x y (IsKey.struct ms ks f m a) (IsKey.struct ns js g n z) r =
    let same : ks ≡ js = cc in
    Matches.structs t u ms ns f g m n
    (same_numbers is cs found p q t u ms ns js s h i x y (subst (λ v. AreNumbers is cs p ms v) same a) z)

-- Types that match have one key, if they are not one type.

there : (cs : List ℕ) (p : ℕ) → p < length cs → (c : ℕ) × (slice_get cs p ≡ Some c)
there cs p l = elim (slice_get_cases cs p).1 [
  | inl x ↦ (x.0, x.2)
  | inr y ↦ absurd (let k = y.0 in omega arith)
]

placed : (is : List PlainInst) (cs : List ℕ) (n t u : ℕ) → n ≤ length cs → IsOnly is t n
    → is_aggregate (form_of is u) ≡ true → IsDeclaredFor is u t → (c : ℕ) × IsNumbered is cs n u c
placed is cs n t u l one h d =
    let e = d h in
    let same : e.later ≡ n = same_place is t e.later n e.next one in
    let k = e.before in
    let b : e.place < n = omega arith in
    let at = there cs e.place (omega arith) in
    (at.0, record { aggregate = h; place = e.place; before = b; one = e.one; there = at.1 })

pub parts_number : (is : List PlainInst) (cs : List ℕ) (found : List ℕ → Option ℕ) (p q t u a b : ℕ)
    → AreMatched is cs found → p ≤ length cs → q ≤ length cs → IsOnly is t p → IsOnly is u q
    → IsDeclaredFor is a t → IsDeclaredFor is b u → Matches is a b
    → (c : ℕ) × IsNumber is cs p a c × IsNumber is cs q b c
parts_number is cs found p q t u a b s k l x y d e m =
    elim (aggregate_or_not (is_aggregate (form_of is a))) [
      | inl h ↦ elim (aggregate_or_not (is_aggregate (form_of is b))) [
        | inl i ↦
            let r = placed is cs p t a k x h d in
            let z = placed is cs q u b l y i e in
            let same : r.0 ≡ z.0 = (s.alike a b r.0 z.0 (wider is cs p (length cs) a r.0 k r.1)
            (wider is cs q (length cs) b z.0 l z.1)).1 m in
            (r.0, inr r.1, inr (subst (λ c. IsNumbered is cs q b c) (sym same) z.1))
        | inr i ↦ elim (one_or_aggregates is a b m) [
          | inl same ↦ both_ways (is_aggregate (form_of is b)) (subst (λ v. is_aggregate (form_of is v) ≡ true) same h) i
          | inr two ↦ both_ways (is_aggregate (form_of is b)) two.1 i
        ]
      ]
      | inr h ↦ elim (one_or_aggregates is a b m) [
        | inl same ↦ (a, inl (h, refl), inl (subst (λ v. is_aggregate (form_of is v) ≡ false) same h, same))
        | inr two ↦ both_ways (is_aggregate (form_of is a)) two.0 h
      ]
    ]

members_numbers : (is : List PlainInst) (cs : List ℕ) (found : List ℕ → Option ℕ) (p q t u : ℕ) (ms ns : List Plain)
    → AreMatched is cs found → p ≤ length cs → q ≤ length cs → IsOnly is t p → IsOnly is u q → AreMatching is t u ms ns
    → (ks : List ℕ) × AreNumbers is cs p ms ks × AreNumbers is cs q ns ks
members_numbers is cs found p q _ _ _ _ s k l x y (AreMatching.none t u) = ([], tt, tt)
members_numbers is cs found p q _ _ _ _ s k l x y (AreMatching.more t u a b ms ns d e m r) =
    let one = parts_number is cs found p q t u a b s k l x y d e m in
    let rest = members_numbers is cs found p q t u ms ns s k l x y r in
    (one.0 ∷ rest.0, ((a, refl, one.1), rest.1), ((b, refl, one.2), rest.2))

pub to_keys : (is : List PlainInst) (cs : List ℕ) (found : List ℕ → Option ℕ) (p q t u : ℕ)
    → AreMatched is cs found → p ≤ length cs → q ≤ length cs → IsOnly is t p → IsOnly is u q → Matches is t u
    → (t ≡ u) ⊎ ((k : List ℕ) × IsKey is cs p t k × IsKey is cs q u k)
to_keys is cs found p q _ _ s h i x y (Matches.same t) = inl refl
to_keys is cs found p q _ _ s h i x y (Matches.arrays t u d e l f g a b m) =
    let one = parts_number is cs found p q t u d e s h i x y a b m in
    inr (0 ∷ l ∷ one.0 ∷ [], IsKey.array d l one.0 f one.1, IsKey.array e l one.0 g one.2)
to_keys is cs found p q _ _ s h i x y (Matches.structs t u ms ns f g m n r) =
    let all = members_numbers is cs found p q t u ms ns s h i x y r in
    inr (1 ∷ all.0, IsKey.struct ms all.0 f m all.1, IsKey.struct ns all.0 g n all.2)

-- What is known of one instruction more, where its number is told apart as it must be.

pub record IsFresh (is : List PlainInst) (cs : List ℕ) (b : ℕ) : Type 0 where
  pub alike : (t v d : ℕ) → is_aggregate (form_of is t) ≡ true → IsOnly is t (length cs)
      → IsNumbered is cs (length cs) v d → (b ≡ d) ↔ Matches is t v
  pub own : (t : ℕ) → is_aggregate (form_of is t) ≡ true → IsOnly is t (length cs)
      → is_aggregate (form_of is b) ≡ true
  pub early : (t m : ℕ) → is_aggregate (form_of is t) ≡ true → IsOnly is t (length cs) → IsOnly is b m
      → m < length cs + 1

-- a number of those so far, or the last
was_or_is : (is : List PlainInst) (cs : List ℕ) (b t c : ℕ) (x : IsNumbered is (cs ++ b ∷ []) (length (cs ++ b ∷ [])) t c)
    → ((x.place < length cs) × IsNumbered is cs (length cs) t c)
    ⊎ ((x.place ≡ length cs) × (c ≡ b) × IsOnly is t (length cs))
was_or_is is cs b t c x = elim (last_place cs b x.place c x.there) [
  | inl y ↦ inl (
    y.0,
    record { aggregate = x.aggregate; place = x.place; before = y.0; one = x.one; there = y.1 },
  )
  | inr y ↦ inr (y.0, y.1, subst (λ p. IsOnly is t p) y.0 x.one)
]

result_of : (is : List PlainInst) (t u n : ℕ) → IsOnly is t n → IsOnly is u n → t ≡ u
result_of is t u n a b =
    let same : a.there.inst ≡ b.there.inst = same_Some _ _ (sym a.there.there ∙ b.there.there) in
    same_Some t u (sym a.there.result ∙ rw same b.there.result)

one_same : (is : List PlainInst) (t u : ℕ) → t ≡ u → Matches is t u
one_same is t u e = subst (λ v. Matches is t v) e (Matches.same t)

more_alike : (is : List PlainInst) (cs : List ℕ) (found : List ℕ → Option ℕ) (b : ℕ) → AreMatched is cs found
    → IsFresh is cs b → (t u c d : ℕ) → IsNumbered is (cs ++ b ∷ []) (length (cs ++ b ∷ [])) t c
    → IsNumbered is (cs ++ b ∷ []) (length (cs ++ b ∷ [])) u d → (c ≡ d) ↔ Matches is t u
more_alike is cs found b s f t u c d x y = elim (was_or_is is cs b t c x) [
  | inl p ↦ elim (was_or_is is cs b u d y) [
    | inl q ↦ s.alike t u c d p.1 q.1
    | inr q ↦
        let h = f.alike u t c y.aggregate q.2 p.1 in
        (λ e. turned is u t (h.0 (sym q.1 ∙ sym e)), λ m. sym (q.1 ∙ h.1 (turned is t u m)))
  ]
  | inr p ↦ elim (was_or_is is cs b u d y) [
    | inl q ↦
        let h = f.alike t u d x.aggregate p.2 q.1 in
        (λ e. h.0 (sym p.1 ∙ e), λ m. p.1 ∙ h.1 m)
    | inr q ↦ (λ e. one_same is t u (result_of is t u (length cs) p.2 q.2), λ m. p.1 ∙ sym q.1)
  ]
]

more_own : (is : List PlainInst) (cs : List ℕ) (found : List ℕ → Option ℕ) (b : ℕ) → AreMatched is cs found
    → IsFresh is cs b → (t c : ℕ) → IsNumbered is (cs ++ b ∷ []) (length (cs ++ b ∷ [])) t c
    → is_aggregate (form_of is c) ≡ true
more_own is cs found b s f t c x = elim (was_or_is is cs b t c x) [
  | inl p ↦ s.own t c p.1
  | inr p ↦ subst (λ v. is_aggregate (form_of is v) ≡ true) (sym p.1) (f.own t x.aggregate p.2)
]

more_early : (is : List PlainInst) (cs : List ℕ) (found : List ℕ → Option ℕ) (b : ℕ) → AreMatched is cs found
    → IsFresh is cs b → (t c m : ℕ) → IsNumbered is (cs ++ b ∷ []) (length (cs ++ b ∷ [])) t c → IsOnly is c m
    → m < length (cs ++ b ∷ [])
more_early is cs found b s f t c m x o =
    let l = longer cs b in
    elim (was_or_is is cs b t c x) [
      | inl p ↦ (let k = s.early t c m p.1 o in omega arith)
      | inr p ↦ (let k = f.early t m x.aggregate p.2 (subst (λ v. IsOnly is v m) p.1 o) in omega arith)
    ]

-- what is numbered so far is so then
numbered_still : (is : List PlainInst) (cs : List ℕ) (b t c : ℕ) → IsNumbered is cs (length cs) t c
    → IsNumbered is (cs ++ b ∷ []) (length (cs ++ b ∷ [])) t c
numbered_still is cs b t c x =
    let l = longer cs b in
    wider is (cs ++ b ∷ []) (length cs) (length (cs ++ b ∷ [])) t c (omega arith)
    (numbered_then is cs b (length cs) t c x)

numbered_last : (is : List PlainInst) (cs : List ℕ) (b t : ℕ) → is_aggregate (form_of is t) ≡ true
    → IsOnly is t (length cs) → IsNumbered is (cs ++ b ∷ []) (length (cs ++ b ∷ [])) t b
numbered_last is cs b t h one =
    let l = longer cs b in
    record { aggregate = h; place = length cs; before = omega arith; one = one; there = get_last cs b }

-- the key of an aggregate, where its place is told otherwise
key_at : (is : List PlainInst) (cs : List ℕ) (n t c p : ℕ) (k : List ℕ) (y : IsNumbered is cs n t c) → IsOnly is t p
    → IsKey is cs p t k → IsKey is cs y.place t k
key_at is cs n t c p k y one key = subst (λ q. IsKey is cs q t k) (same_place is t p y.place one y.one) key

kept_still : (is : List PlainInst) (cs : List ℕ) (found : List ℕ → Option ℕ) (b : ℕ) → AreMatched is cs found
    → (k : List ℕ) (c : ℕ) → found k ≡ Some c
    → (t : ℕ) × (x : IsNumbered is (cs ++ b ∷ []) (length (cs ++ b ∷ [])) t c) × IsKey is (cs ++ b ∷ []) x.place t k
kept_still is cs found b s k c e =
    let w = s.kept k c e in
    let y = numbered_still is cs b w.0 c w.1 in (
      w.0,
      y,
      key_at is (cs ++ b ∷ []) (length (cs ++ b ∷ [])) w.0 c w.1.place k y w.1.one
          (key_then is cs b w.1.place w.0 k w.2),
    )

-- the key of one of those so far
key_was : (is : List PlainInst) (cs : List ℕ) (b n t : ℕ) (k : List ℕ) → n < length cs
    → IsKey is (cs ++ b ∷ []) n t k → IsKey is cs n t k
key_was is cs b n t k l y = key_now is cs b n t k (omega arith) y

each_was : (is : List PlainInst) (cs : List ℕ) (found : List ℕ → Option ℕ) (b t c p : ℕ) (k : List ℕ)
    → AreMatched is cs found → (x : IsNumbered is cs (length cs) t c) → IsOnly is t p → p < length cs
    → IsKey is (cs ++ b ∷ []) p t k → found k ≡ Some c
each_was is cs found b t c p k s x one l y =
    let same : p ≡ x.place = same_place is t p x.place one x.one in
    s.each t c k x (subst (λ n. IsKey is cs n t k) same (key_was is cs b p t k l y))

-- where the next instruction declares no aggregate, or one without a key
pub keyless : (is : List PlainInst) (cs : List ℕ) (found : List ℕ → Option ℕ) (b : ℕ) → AreMatched is cs found
    → IsFresh is cs b
    → ((t : ℕ) (k : List ℕ) → is_aggregate (form_of is t) ≡ true → IsOnly is t (length cs)
    → IsKey is cs (length cs) t k → ⊥) → AreMatched is (cs ++ b ∷ []) found
keyless is cs found b s f none = record {
  alike = more_alike is cs found b s f;
  own = more_own is cs found b s f;
  early = more_early is cs found b s f;
  kept = kept_still is cs found b s;
  each = λ t c k x y. elim (was_or_is is cs b t c x) [
    | inl p ↦ each_was is cs found b t c x.place k s p.1 x.one p.0 y
    | inr p ↦
        let l : length cs ≤ length cs = omega arith in
        let z = key_now is cs b (length cs) t k l (subst (λ n. IsKey is (cs ++ b ∷ []) n t k) p.0 y) in
        absurd (none t k x.aggregate p.2 z)
  ];
}

no_place : {P : Type 0} (is : List PlainInst) (t u p q : ℕ) → IsOnly is t p → IsOnly is u q → t ≡ u → q < p → P
no_place is t u p q a b e l =
    let same : p ≡ q = same_place is u p q (subst (λ v. IsOnly is v p) e a) b in absurd (omega arith)

-- the next instruction declares no aggregate
pub never_fresh : (is : List PlainInst) (cs : List ℕ) (b : ℕ)
    → ((t : ℕ) → is_aggregate (form_of is t) ≡ true → IsOnly is t (length cs) → ⊥) → IsFresh is cs b
never_fresh is cs b none = record {
  alike = λ t v d h one x. absurd (none t h one);
  own = λ t h one. absurd (none t h one);
  early = λ t m h one o. absurd (none t h one);
}

new_id : {P : Type 0} (is : List PlainInst) (cs : List ℕ) (found : List ℕ → Option ℕ) (t v d : ℕ)
    → AreMatched is cs found → IsOnly is t (length cs) → IsNumbered is cs (length cs) v d → t ≡ d → P
new_id is cs found t v d s one x e =
    let l = s.early v d (length cs) x (subst (λ u. IsOnly is u (length cs)) e one) in absurd (omega arith)

by_new : {P : Type 0} (is : List PlainInst) (cs : List ℕ) (found : List ℕ → Option ℕ) (t v d : ℕ)
    → AreMatched is cs found → IsOnly is t (length cs) → (x : IsNumbered is cs (length cs) v d) → Matches is t v
    → ((k : List ℕ) → IsKey is cs (length cs) t k → IsKey is cs x.place v k → P) → P
by_new is cs found t v d s one x m f =
    let b = x.before in
    elim (to_keys is cs found (length cs) x.place t v s (omega arith) (omega arith) one x.one m) [
      | inl e ↦ no_place is t v (length cs) x.place one x.one e b
      | inr k ↦ f k.0 k.1 k.2
    ]

last_early : (is : List PlainInst) (n t m : ℕ) → IsOnly is t n → IsOnly is t m → m < n + 1
last_early is n t m a b = let same : m ≡ n = same_place is t m n b a in omega arith

-- it declares one whose number is its own id, since no other has its key
own_fresh : (is : List PlainInst) (cs : List ℕ) (found : List ℕ → Option ℕ) (t : ℕ) → AreMatched is cs found
    → IsOnly is t (length cs)
    → ((k : List ℕ) (v d : ℕ) (x : IsNumbered is cs (length cs) v d) → IsKey is cs (length cs) t k
    → IsKey is cs x.place v k → ⊥) → IsFresh is cs t
own_fresh is cs found t s one none = record {
  alike = λ u v d h other x. (
    λ e. new_id is cs found t v d s one x e,
    λ m.
        let same : u ≡ t = result_of is u t (length cs) other one in
        by_new is cs found t v d s one x (subst (λ w. Matches is w v) same m) (λ k y z. absurd (none k v d x y z)),
  );
  own = λ u h other. subst (λ w. is_aggregate (form_of is w) ≡ true) (result_of is u t (length cs) other one) h;
  early = λ u m h other o. last_early is (length cs) t m one o;
}

-- it declares one that has the key of an earlier one
shared_fresh : (is : List PlainInst) (cs : List ℕ) (found : List ℕ → Option ℕ) (t c : ℕ) (k : List ℕ)
    → AreMatched is cs found → IsOnly is t (length cs) → IsKey is cs (length cs) t k → found k ≡ Some c
    → IsFresh is cs c
shared_fresh is cs found t c k s one key e =
    let w = s.kept k c e in
    let p = w.1.before in
    record {
      alike = λ u v d h other x. (
        λ f.
            let same : t ≡ u = result_of is t u (length cs) one other in
            let q = x.before in
            let m = (s.alike w.0 v c d w.1 x).0 f in
            let other_key : IsKey is cs x.place v k = elim (to_keys is cs found w.1.place x.place w.0 v s (omega arith)
            (omega arith) w.1.one x.one m) [
              | inl g ↦
                  let place : w.1.place ≡ x.place = same_place is v w.1.place x.place
                  (subst (λ z. IsOnly is z w.1.place) g w.1.one) x.one in
                  subst (λ n. IsKey is cs n v k) place (subst (λ z. IsKey is cs w.1.place z k) g w.2)
              | inr j ↦ subst (IsKey is cs x.place v) (key_once is cs w.1.place w.0 j.0 k j.1 w.2) j.2
            ] in
            subst (λ z. Matches is z v) same
            (by_keys is cs found (length cs) x.place t v k k s (omega arith) (omega arith) one x.one key other_key refl),
        λ m.
            let same : u ≡ t = result_of is u t (length cs) other one in
            by_new is cs found t v d s one x (subst (λ z. Matches is z v) same m)
            (λ j y z.
            let f : found k ≡ Some d = s.each v d k x
            (subst (IsKey is cs x.place v) (key_once is cs (length cs) t j k y key) z) in
            same_Some c d (sym e ∙ f)),
      );
      own = λ u h other. s.own w.0 c w.1;
      early = λ u m h other o. (let l = s.early w.0 c m w.1 o in omega arith);
    }

lists_or_not : (k j : List ℕ) → (k ≡ j) ⊎ (k ≢ j)
lists_or_not [] [] = inl refl
lists_or_not [] (c ∷ j) = inr (λ e. cc)
lists_or_not (b ∷ k) [] = inr (λ e. cc)
lists_or_not (b ∷ k) (c ∷ j) = elim (cases_eq b c) [
  | inr n ↦ inr (λ e. n (let same : b ≡ c = cc in same))
  | inl e ↦ elim (lists_or_not k j) [
    | inl f ↦ inl (rw (e, f) refl)
    | inr n ↦ inr (λ g. n (let same : k ≡ j = cc in same))
  ]
]

key_aggregate : (is : List PlainInst) (cs : List ℕ) (n t : ℕ) (k : List ℕ) → IsKey is cs n t k
    → is_aggregate (form_of is t) ≡ true
key_aggregate is cs n t _ (IsKey.array e l c f x) = of_array is t e l f
key_aggregate is cs n t _ (IsKey.struct ms ks f m x) = of_struct is t f

with_key : (is : List PlainInst) (cs : List ℕ) (old new : List ℕ → Option ℕ) (t c : ℕ) (k : List ℕ)
    → AreMatched is cs old → IsOnly is t (length cs) → IsKey is cs (length cs) t k → KeepsKey old new k t c
    → IsFresh is cs c → ((d : ℕ) → old k ≡ Some d → d ≡ c) → AreMatched is (cs ++ c ∷ []) new
with_key is cs old new t c k s one key keeps f agree = record {
  alike = more_alike is cs old c s f;
  own = more_own is cs old c s f;
  early = more_early is cs old c s f;
  kept = λ j d e. elim (lists_or_not j k) [
    | inl same ↦
        let number : c ≡ d = same_Some c d (sym keeps.here ∙ (ap new (sym same) ∙ e)) in
        let last = numbered_last is cs c t (key_aggregate is cs (length cs) t k key) one in
        let y = subst (λ b. IsNumbered is (cs ++ c ∷ []) (length (cs ++ c ∷ [])) t b) number last in (
          t,
          y,
          key_at is (cs ++ c ∷ []) (length (cs ++ c ∷ [])) t d (length cs) j y one
              (subst (IsKey is (cs ++ c ∷ []) (length cs) t) (sym same) (key_then is cs c (length cs) t k key)),
        )
    | inr apart ↦ kept_still is cs old c s j d (sym (keeps.others j apart) ∙ e)
  ];
  each = λ u d j x y. elim (was_or_is is cs c u d x) [
    | inl p ↦
        let was : old j ≡ Some d = each_was is cs old c u d x.place j s p.1 x.one p.0 y in
        elim (lists_or_not j k) [
          | inl same ↦
              let number : d ≡ c = agree d (ap old (sym same) ∙ was) in
              ap new same ∙ (keeps.here ∙ ap Some (sym number))
          | inr apart ↦ keeps.others j apart ∙ was
        ]
    | inr p ↦
        let l : length cs ≤ length cs = omega arith in
        let z = key_now is cs c (length cs) u j l (subst (λ n. IsKey is (cs ++ c ∷ []) n u j) p.0 y) in
        let id : u ≡ t = result_of is u t (length cs) p.2 one in
        let same : j ≡ k = key_once is cs (length cs) t j k (subst (λ v. IsKey is cs (length cs) v j) id z) key in
        ap new same ∙ (keeps.here ∙ ap Some (sym p.1))
  ];
}

by_kept : (is : List PlainInst) (cs : List ℕ) (old new : List ℕ → Option ℕ) (t c : ℕ) (k : List ℕ) (o : Option ℕ)
    → old k ≡ o → AreMatched is cs old → IsOnly is t (length cs) → IsKey is cs (length cs) t k
    → KeepsKey old new k t c → AreMatched is (cs ++ c ∷ []) new
by_kept is cs old new t c k None e s one key keeps =
    let number : c ≡ t = keeps.answer ∙ ap (λ o. unwrap_or o t) e in
    let fresh = own_fresh is cs old t s one (λ j v d x y z. none-some d (sym e ∙ s.each v d k x
    (subst (IsKey is cs x.place v) (key_once is cs (length cs) t j k y key) z))) in
    with_key is cs old new t c k s one key keeps (subst (IsFresh is cs) (sym number) fresh)
    (λ d f. absurd (none-some d (sym e ∙ f)))
by_kept is cs old new t c k (Some b) e s one key keeps =
    let number : c ≡ b = keeps.answer ∙ ap (λ o. unwrap_or o t) e in
    let fresh = shared_fresh is cs old t b k s one key e in
    with_key is cs old new t c k s one key keeps (subst (IsFresh is cs) (sym number) fresh)
    (λ d f. same_Some d b (sym f ∙ e) ∙ sym number)

pub keyed : (is : List PlainInst) (cs : List ℕ) (old new : List ℕ → Option ℕ) (t c : ℕ) (k : List ℕ)
    → AreMatched is cs old → IsOnly is t (length cs) → IsKey is cs (length cs) t k → KeepsKey old new k t c
    → AreMatched is (cs ++ c ∷ []) new
keyed is cs old new t c k s one key keeps = by_kept is cs old new t c k (old k) refl s one key keeps

pub unkeyed : (is : List PlainInst) (cs : List ℕ) (found : List ℕ → Option ℕ) (t : ℕ) → AreMatched is cs found
    → IsOnly is t (length cs) → ((k : List ℕ) → IsKey is cs (length cs) t k → ⊥) → AreMatched is (cs ++ t ∷ []) found
unkeyed is cs found t s one none =
    keyless is cs found t s (own_fresh is cs found t s one (λ k v d x y z. none k y))
    (λ u k h other y. none k
    (subst (λ v. IsKey is cs (length cs) v k) (result_of is u t (length cs) other one) y))

pub undefined : (is : List PlainInst) (cs : List ℕ) (found : List ℕ → Option ℕ) (b : ℕ) → AreMatched is cs found
    → ((t : ℕ) → IsOnly is t (length cs) → ⊥) → AreMatched is (cs ++ b ∷ []) found
undefined is cs found b s none =
    keyless is cs found b s (never_fresh is cs b (λ t h one. none t one)) (λ t k h one y. none t one)

pub matched_none : (is : List PlainInst) → AreMatched is [] (λ k. None)
matched_none is = record {
  alike = λ t u c d x y. (let b = x.before in absurd (omega arith));
  own = λ t c x. (let b = x.before in absurd (omega arith));
  early = λ t c m x o. (let b = x.before in absurd (omega arith));
  kept = λ k c e. absurd (none-some c e);
  each = λ t c k x y. (let b = x.before in absurd (omega arith));
}

-- The answer.

-- a type has a number, whose declaration is among the first instructions if it is an aggregate
pub has_number : (is : List PlainInst) (cs : List ℕ) (t : ℕ)
    → (is_aggregate (form_of is t) ≡ true → (m : ℕ) × IsOnly is t m × (m < length cs))
    → (c : ℕ) × IsNumber is cs (length cs) t c
has_number is cs t declared = elim (aggregate_or_not (is_aggregate (form_of is t))) [
  | inr h ↦ (t, inl (h, refl))
  | inl h ↦
      let at = declared h in
      let number = there cs at.0 at.2 in
      (number.0, inr (record { aggregate = h; place = at.0; before = at.2; one = at.1; there = number.1 }))
]

pub match_told : (is : List PlainInst) (cs : List ℕ) (found : List ℕ → Option ℕ) (t u c d : ℕ) → AreMatched is cs found
    → IsNumber is cs (length cs) t c → IsNumber is cs (length cs) u d → (c ≡ d) ↔ Matches is t u
match_told is cs found t u c d s x y = (
  λ e.
      let l : length cs ≤ length cs = omega arith in
      one_number is cs found (length cs) (length cs) t u d s l l (subst (λ b. IsNumber is cs (length cs) t b) e x) y,
  λ m. elim (one_or_aggregates is t u m) [
    | inl e ↦ number_once is cs (length cs) u c d (subst (λ v. IsNumber is cs (length cs) v c) e x) y
    | inr two ↦ of_aggregates c d two.0 two.1 x y m
  ],
) where
  of_aggregates : (c d : ℕ) → is_aggregate (form_of is t) ≡ true → is_aggregate (form_of is u) ≡ true
      → IsNumber is cs (length cs) t c → IsNumber is cs (length cs) u d → Matches is t u → c ≡ d
  of_aggregates c d h i (inl x) y m = both_ways (is_aggregate (form_of is t)) h x.0
  of_aggregates c d h i (inr x) (inl y) m = both_ways (is_aggregate (form_of is u)) i y.0
  of_aggregates c d h i (inr x) (inr y) m = (s.alike t u c d x y).1 m
