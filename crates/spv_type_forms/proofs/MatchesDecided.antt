-- Whether types match, decided.
use Rattle.std.proofs.Common.{◌≡◌, ◌<◌, ◌∙◌, ◌⊎◌, ℕ, zero, suc, List, [], ◌∷◌, Option, Some}
use Rattle.std.proofs.Common.{refl, sym, subst, inl, inr, arith}
use Rattle.std.proofs.lemmas.Bool.{cases_eq, cases_lt}
use Rattle.std.proofs.lemmas.Option.{same_Some}
use Rattle.spv_module.specs.Operand.{Plain, Id, PlainInst}
use Rattle.spv_ids.specs.Outcome.{IsOnly}
use Rattle.spv_type_forms.specs.declared.form.Form.{Form}
use Rattle.spv_type_forms.specs.declared.form.Form.TheVariants as form
use Rattle.spv_type_forms.specs.Form.{form_of}
use Rattle.spv_type_forms.specs.Parts.{members_of}
use Rattle.spv_type_forms.specs.Null.{IsEarlier}
use Rattle.spv_type_forms.specs.Matches.{is_aggregate, IsDeclaredFor, Matches, AreMatching}
use Rattle.spv_type_forms.proofs.Deciding.{Is, one_place, members_there}
use Rattle.spv_type_forms.proofs.Numbering.{aggregate_or_not, both_ways, one_or_aggregates, same_place}

earlier_or_not : (is : List PlainInst) (a t : ℕ) → Is (IsEarlier is a t)
earlier_or_not is a t = elim (one_place is a) [
  | inr none ↦ inr (λ e. none e.place e.one)
  | inl p ↦ elim (one_place is t) [
    | inr none ↦ inr (λ e. none e.later e.next)
    | inl q ↦ elim (cases_lt p.0 q.0) [
      | inl l ↦ inl (record { place = p.0; later = q.0; before = l; one = p.1; next = q.1 })
      | inr h ↦ inr (λ e.
          let f : e.place ≡ p.0 = same_place is a e.place p.0 e.one p.1 in
          let g : e.later ≡ q.0 = same_place is t e.later q.0 e.next q.1 in
          let l = e.before in
          absurd (omega arith))
    ]
  ]
]

declared_or_not : (is : List PlainInst) (a t : ℕ) → Is (IsDeclaredFor is a t)
declared_or_not is a t = elim (aggregate_or_not (is_aggregate (form_of is a))) [
  | inr never_so ↦ inl (λ h. both_ways (is_aggregate (form_of is a)) h never_so)
  | inl h ↦ elim (earlier_or_not is a t) [ inl e ↦ inl (λ i. e) | inr never_so ↦ inr (λ d. never_so (d h)) ]
]

-- It is decided of the aggregates that are declared before t and u.
abbrev AreDecided : List PlainInst → ℕ → ℕ → Type 0
AreDecided is t u = (a b : ℕ) → IsEarlier is a t → IsEarlier is b u → Is (Matches is a b)

-- the same of two parts that may be told
parts_match : (is : List PlainInst) (t u a b : ℕ) → AreDecided is t u → IsDeclaredFor is a t → IsDeclaredFor is b u
    → Is (Matches is a b)
parts_match is t u a b d x y = elim (cases_eq a b) [
  | inl e ↦ inl (subst (λ v. Matches is a v) e (Matches.same a))
  | inr ne ↦ elim (aggregate_or_not (is_aggregate (form_of is a))) [
    | inr never_so ↦ inr (λ m. elim (one_or_aggregates is a b m) [
      | inl e ↦ ne e
      | inr two ↦ both_ways (is_aggregate (form_of is a)) two.0 never_so
    ])
    | inl h ↦ elim (aggregate_or_not (is_aggregate (form_of is b))) [
      | inr never_so ↦ inr (λ m. elim (one_or_aggregates is a b m) [
        | inl e ↦ ne e
        | inr two ↦ both_ways (is_aggregate (form_of is b)) two.1 never_so
      ])
      | inl i ↦ d a b (x h) (y i)
    ]
  ]
]

-- Two parts may be told, and match.
pub record ArePairs (is : List PlainInst) (t u a b : ℕ) : Type 0 where
  pub first : IsDeclaredFor is a t
  pub second : IsDeclaredFor is b u
  pub match : Matches is a b

pair_or_not : (is : List PlainInst) (t u a b : ℕ) → AreDecided is t u → Is (ArePairs is t u a b)
pair_or_not is t u a b d = elim (declared_or_not is a t) [
  | inr never_so ↦ inr (λ p. never_so p.first)
  | inl x ↦ elim (declared_or_not is b u) [
    | inr never_so ↦ inr (λ p. never_so p.second)
    | inl y ↦ elim (parts_match is t u a b d x y) [
      | inl m ↦ inl (record { first = x; second = y; match = m })
      | inr never_so ↦ inr (λ p. never_so p.match)
    ]
  ]
]

-- an operand is an id, or none
id_or_not : (o : Plain) → ((a : ℕ) × (o ≡ Id a)) ⊎ ((a : ℕ) → o ≡ Id a → ⊥)
id_or_not (Id a) = inl (a, refl)
id_or_not o = inr (λ a e. cc)

same_id : (a b : ℕ) → Id a ≡ Id b → a ≡ b
same_id a b e = cc

pub record Split (is : List PlainInst) (t u : ℕ) (m n : Plain) (ms ns : List Plain) : Type 0 where
  pub a : ℕ
  pub b : ℕ
  pub first : m ≡ Id a
  pub second : n ≡ Id b
  pub pair : ArePairs is t u a b
  pub rest : AreMatching is t u ms ns

pub split : (is : List PlainInst) (t u : ℕ) (m n : Plain) (ms ns : List Plain) → AreMatching is t u (m ∷ ms) (n ∷ ns)
    → Split is t u m n ms ns
split is _ _ _ _ _ _ (AreMatching.more t u a b ms ns x y m r) = record {
  a = a;
  b = b;
  first = refl;
  second = refl;
  pair = record { first = x; second = y; match = m };
  rest = r;
}

joined : (is : List PlainInst) (t u a b : ℕ) (m n : Plain) (ms ns : List Plain) → m ≡ Id a → n ≡ Id b
    → ArePairs is t u a b → AreMatching is t u ms ns → AreMatching is t u (m ∷ ms) (n ∷ ns)
joined is t u a b m n ms ns e f p r = rw (e, f) (AreMatching.more t u a b ms ns p.first p.second p.match r)

pub never_left : {P : Type 0} (is : List PlainInst) (t u : ℕ) (n : Plain) (ns : List Plain)
    → AreMatching is t u [] (n ∷ ns) → P
never_left is t u n ns m = elim m [ ]

never_right : {P : Type 0} (is : List PlainInst) (t u : ℕ) (m : Plain) (ms : List Plain)
    → AreMatching is t u (m ∷ ms) [] → P
never_right is t u m ms r = elim r [ ]

members_or_not : (is : List PlainInst) (t u : ℕ) (ms ns : List Plain) → AreDecided is t u → Is (AreMatching is t u ms ns)
members_or_not is t u [] [] d = inl (AreMatching.none t u)
members_or_not is t u [] (n ∷ ns) d = inr (λ r. never_left is t u n ns r)
members_or_not is t u (m ∷ ms) [] d = inr (λ r. never_right is t u m ms r)
members_or_not is t u (m ∷ ms) (n ∷ ns) d =
    elim (id_or_not m) [
      | inr never_so ↦ inr (λ r. let s = split is t u m n ms ns r in never_so s.a s.first)
      | inl a ↦ elim (id_or_not n) [
        | inr never_so ↦ inr (λ r. let s = split is t u m n ms ns r in never_so s.b s.second)
        | inl b ↦ elim (pair_or_not is t u a.0 b.0 d) [
          | inr never_so ↦ inr (λ r.
              let s = split is t u m n ms ns r in
              let e : s.a ≡ a.0 = same_id s.a a.0 (sym s.first ∙ a.1) in
              let f : s.b ≡ b.0 = same_id s.b b.0 (sym s.second ∙ b.1) in
              never_so (subst (λ v. ArePairs is t u a.0 v) f (subst (λ v. ArePairs is t u v s.b) e s.pair)))
          | inl p ↦ elim (members_or_not is t u ms ns d) [
            | inl r ↦ inl (joined is t u a.0 b.0 m n ms ns a.1 b.1 p r)
            | inr never_so ↦ inr (λ r. never_so (split is t u m n ms ns r).rest)
          ]
        ]
      ]
    ]

-- What matches, where two are not one.

pub record TwoArrays (is : List PlainInst) (t u : ℕ) : Type 0 where
  pub d : ℕ
  pub e : ℕ
  pub l : ℕ
  pub first : form_of is t ≡ Some (form.Array d l)
  pub second : form_of is u ≡ Some (form.Array e l)
  pub pair : ArePairs is t u d e

pub record TwoStructs (is : List PlainInst) (t u : ℕ) : Type 0 where
  pub ms : List Plain
  pub ns : List Plain
  pub first : form_of is t ≡ Some form.Struct
  pub second : form_of is u ≡ Some form.Struct
  pub of_first : members_of is t ≡ Some ms
  pub of_second : members_of is u ≡ Some ns
  pub all : AreMatching is t u ms ns

pub by_cases : (is : List PlainInst) (t u : ℕ) → Matches is t u → (t ≡ u) ⊎ (TwoArrays is t u ⊎ TwoStructs is t u)
by_cases is _ _ (Matches.same t) = inl refl
by_cases is _ _ (Matches.arrays t u d e l f g a b m) = inr (inl (record {
  d = d;
  e = e;
  l = l;
  first = f;
  second = g;
  pair = record { first = a; second = b; match = m };
}))
by_cases is _ _ (Matches.structs t u ms ns f g m n a) =
    inr (inr (record { ms = ms; ns = ns; first = f; second = g; of_first = m; of_second = n; all = a }))

arrays_match : (is : List PlainInst) (t u : ℕ) → TwoArrays is t u → Matches is t u
arrays_match is t u a =
    Matches.arrays t u a.d a.e a.l a.first a.second a.pair.first a.pair.second a.pair.match

structs_match : (is : List PlainInst) (t u : ℕ) → TwoStructs is t u → Matches is t u
structs_match is t u a = Matches.structs t u a.ms a.ns a.first a.second a.of_first a.of_second a.all

same_arrays : (d l e m : ℕ) → form.Array d l ≡ form.Array e m → (d ≡ e) × (l ≡ m)
same_arrays d l e m s = (cc, cc)

no_struct : {P : Type 0} (d l : ℕ) → form.Array d l ≡ form.Struct → P
no_struct d l s = absurd (cc)

array_or_not : (is : List PlainInst) (t u d l e m : ℕ) → form_of is t ≡ Some (form.Array d l)
    → form_of is u ≡ Some (form.Array e m) → AreDecided is t u → Is (TwoArrays is t u)
array_or_not is t u d l e m f g k = elim (cases_eq l m) [
  | inr ne ↦ inr (λ a.
      let x = same_arrays a.d a.l d l (same_Some _ _ (sym a.first ∙ f)) in
      let y = same_arrays a.e a.l e m (same_Some _ _ (sym a.second ∙ g)) in
      ne (sym x.1 ∙ y.1))
  | inl same ↦ elim (pair_or_not is t u d e k) [
    | inl p ↦ inl (record { d = d; e = e; l = l; first = f; second = rw same g; pair = p })
    | inr never_so ↦ inr (λ a.
        let x = same_arrays a.d a.l d l (same_Some _ _ (sym a.first ∙ f)) in
        let y = same_arrays a.e a.l e m (same_Some _ _ (sym a.second ∙ g)) in
        never_so (subst (λ v. ArePairs is t u d v) y.0 (subst (λ v. ArePairs is t u v a.e) x.0 a.pair)))
  ]
]

struct_or_not : (is : List PlainInst) (t u : ℕ) → form_of is t ≡ Some form.Struct → form_of is u ≡ Some form.Struct
    → AreDecided is t u → Is (TwoStructs is t u)
struct_or_not is t u f g d =
    let x = members_there is t f in
    let y = members_there is u g in
    elim (members_or_not is t u x.0 y.0 d) [
      | inl a ↦ inl (record { ms = x.0; ns = y.0; first = f; second = g; of_first = x.1; of_second = y.1; all = a })
      | inr never_so ↦ inr (λ s.
          let m : s.ms ≡ x.0 = same_Some _ _ (sym s.of_first ∙ x.1) in
          let n : s.ns ≡ y.0 = same_Some _ _ (sym s.of_second ∙ y.1) in
          never_so (subst (λ v. AreMatching is t u x.0 v) n (subst (λ v. AreMatching is t u v s.ns) m s.all)))
    ]

-- whether a form is that of an array, or of a struct
array_form : (o : Option Form) → ((d l : ℕ) × (o ≡ Some (form.Array d l))) ⊎ ((d l : ℕ) → o ≡ Some (form.Array d l) → ⊥)
array_form (Some (form.Array d l)) = inl (d, l, refl)
array_form o = inr (λ d l e. cc)

struct_form : (o : Option Form) → (o ≡ Some form.Struct) ⊎ (o ≡ Some form.Struct → ⊥)
struct_form (Some form.Struct) = inl refl
struct_form o = inr (λ e. cc)

arrays_or_not : (is : List PlainInst) (t u : ℕ) → AreDecided is t u → Is (TwoArrays is t u)
arrays_or_not is t u d = elim (array_form (form_of is t)) [
  | inr never_so ↦ inr (λ a. never_so a.d a.l a.first)
  | inl x ↦ elim (array_form (form_of is u)) [
    | inr never_so ↦ inr (λ a. never_so a.e a.l a.second)
    | inl y ↦ array_or_not is t u x.0 x.1 y.0 y.1 x.2 y.2 d
  ]
]

structs_or_not : (is : List PlainInst) (t u : ℕ) → AreDecided is t u → Is (TwoStructs is t u)
structs_or_not is t u d = elim (struct_form (form_of is t)) [
  | inr never_so ↦ inr (λ s. never_so s.first)
  | inl f ↦ elim (struct_form (form_of is u)) [
    | inr never_so ↦ inr (λ s. never_so s.second)
    | inl g ↦ struct_or_not is t u f g d
  ]
]

by_parts : (is : List PlainInst) (t u : ℕ) → AreDecided is t u → Is (Matches is t u)
by_parts is t u d = elim (cases_eq t u) [
  | inl e ↦ inl (subst (λ v. Matches is t v) e (Matches.same t))
  | inr ne ↦ elim (arrays_or_not is t u d) [
    | inl a ↦ inl (arrays_match is t u a)
    | inr no_arrays ↦ elim (structs_or_not is t u d) [
      | inl s ↦ inl (structs_match is t u s)
      | inr no_structs ↦ inr (λ m. elim (by_cases is t u m) [
        | inl e ↦ ne e
        | inr two ↦ elim two [ inl a ↦ no_arrays a | inr s ↦ no_structs s ]
      ])
    ]
  ]
]

decided_below : (n : ℕ) (is : List PlainInst) (t p u : ℕ) → IsOnly is t p → p < n → Is (Matches is t u)
decided_below zero is t p u one l = absurd (omega arith)
decided_below (suc n) is t p u one l =
    by_parts is t u (λ a b e f.
    let same : e.later ≡ p = same_place is t e.later p e.next one in
    let k = e.before in
    decided_below n is a e.place b e.one (omega arith))

pub matches_or_not : (is : List PlainInst) (t u : ℕ) → Matches is t u ⊎ (Matches is t u → ⊥)
matches_or_not is t u =
    by_parts is t u (λ a b e f. decided_below (suc e.place) is a e.place b e.one (omega arith))
