-- Chains of links, and one link more.
use Rattle.std.proofs.Common.{◌≡◌, ◌≢◌, ◌≤◌, ◌<◌, ◌+◌, ◌-◌, ◌++◌, ◌⊎◌, ◌∙◌, inl, inr, ℕ, zero, suc, List, [], ◌∷◌, Some}
use Rattle.std.proofs.Common.{length, set, refl, sym, ap, subst, arith}
use Rattle.std.specs.Prelude.{slice_get, slice_index}
use Rattle.std.proofs.lemmas.Bool.{cases_eq}
use Rattle.std.proofs.lemmas.List.{get_or-set_same, get_or-set_other, length-set, length-append}
use Rattle.std.proofs.lemmas.Option.{slice_get_within}
use Rattle.spv_flow.specs.declared.branches.edges.Link.{Link}
use Rattle.spv_flow.specs.branches.inner.Edges.{InChain, AreEdges, AddsLink}

-- an element of a list with one more at its end
pushed : {A : Type 0} → (xs : List A) (x : A) (k : ℕ) (y : A) → slice_get (xs ++ (x ∷ [])) k ≡ Some y
    → (slice_get xs k ≡ Some y) ⊎ ((k ≡ length xs) × (x ≡ y))
pushed [] x zero y e = inr (refl, cc)
pushed [] x (suc k) y e = cc
pushed (z ∷ xs) x zero y e = inl e
pushed (z ∷ xs) x (suc k) y e = elim (pushed xs x k y e) [ inl h ↦ inl h | inr p ↦ inr (ap suc p.0, p.1) ]

later_get : {A : Type 0} → (xs : List A) (x : A) (k : ℕ) (y : A) → slice_get xs k ≡ Some y
    → slice_get (xs ++ (x ∷ [])) k ≡ Some y
later_get [] x k y e = cc
later_get (z ∷ xs) x zero y e = e
later_get (z ∷ xs) x (suc k) y e = later_get xs x k y e

last_get : {A : Type 0} → (xs : List A) (x : A) → slice_get (xs ++ (x ∷ [])) (length xs) ≡ Some x
last_get [] x = refl
last_get (z ∷ xs) x = last_get xs x

same_get : {A : Type 0} → (xs : List A) (j k : ℕ) (x y : A) → j ≡ k → slice_get xs j ≡ Some x → slice_get xs k ≡ Some y
    → x ≡ y
same_get xs j k x y e g h = let f : slice_get xs j ≡ slice_get xs k = ap (slice_get xs) e in cc

pub chain_head : (links : List Link) (h : ℕ) (l : Link) → 0 < h → slice_get links (h - 1) ≡ Some l
    → InChain links h l.source
chain_head links h l some g = InChain.here h (h - 1) l (omega arith) g

pub chain_tail : (links : List Link) (h p : ℕ) (l : Link) → 0 < h → slice_get links (h - 1) ≡ Some l
    → InChain links l.next p → InChain links h p
chain_tail links h p l some g r = InChain.later h (h - 1) p l (omega arith) g r

pub chain_split : (links : List Link) (h p : ℕ) (l : Link) → slice_get links (h - 1) ≡ Some l → InChain links h p
    → (p ≡ l.source) ⊎ InChain links l.next p
chain_split links _ _ l g (InChain.here h k m e f) =
    inl (ap (λ (n : Link). n.source) (same_get links k (h - 1) m l (omega (arith, e)) f g))
chain_split links _ _ l g (InChain.later h k p m e f r) =
    let P : ℕ → Type 0 = λ n. InChain links n p in
    inr (subst P (ap (λ (n : Link). n.next) (same_get links k (h - 1) m l (omega (arith, e)) f g)) r)

chain_more : (links : List Link) (x : Link) (h p : ℕ) → InChain links h p → InChain (links ++ (x ∷ [])) h p
chain_more links x _ _ (InChain.here h k l e g) = InChain.here h k l e (later_get links x k l g)
chain_more links x _ _ (InChain.later h k p l e g r) =
    InChain.later h k p l e (later_get links x k l g) (chain_more links x l.next p r)

chain_less : (links : List Link) (x : Link) (h p : ℕ) → ((k : ℕ) (l : Link) → slice_get links k ≡ Some l → l.next ≤ k)
    → InChain (links ++ (x ∷ [])) h p → h ≤ length links → InChain links h p
chain_less links x _ _ next (InChain.here h k l e g) le = elim (pushed links x k l g) [
  | inl a ↦ InChain.here h k l e a
  | inr b ↦ absurd (omega (arith, b.0, e, le))
]
chain_less links x _ _ next (InChain.later h k p l e g r) le = elim (pushed links x k l g) [
  | inl a ↦ InChain.later h k p l e a (chain_less links x l.next p next r
      (let lt = slice_get_within links k l a in omega (arith, next k l a, lt)))
  | inr b ↦ absurd (omega (arith, b.0, e, le))
]

-- the link that goes before the chain of a target
abbrev pub link_to : List ℕ → ℕ → ℕ → Link
link_to heads p b = record { source = p; next = slice_index heads b }

-- the heads with a new one
top_same : (heads : List ℕ) (b n : ℕ) → b < length heads → slice_index (set heads b n) b ≡ n
top_same heads b n within = get_or-set_same heads b n 0 within

top_other : (heads : List ℕ) (b n c : ℕ) → c ≢ b → slice_index (set heads b n) c ≡ slice_index heads c
top_other heads b n c apart = get_or-set_other heads b c n 0 apart

length_one : (links : List Link) (x : Link) → length (links ++ (x ∷ [])) ≡ length links + 1
length_one links x = length-append links (x ∷ [])

still_edges : (links : List Link) (heads : List ℕ) (p b : ℕ) → AreEdges links heads → p < length heads
    → b < length heads → AreEdges (links ++ (link_to heads p b ∷ [])) (set heads b (length links + 1))
still_edges links heads p b are in_p in_b = record {
  next = λ k l g. elim (pushed links (link_to heads p b) k l g) [
    | inl a ↦ are.next k l a
    | inr here ↦ (let e : slice_index heads b ≡ l.next = ap (λ (n : Link). n.next) here.1 in let bound = are.tops b in
        omega (arith, e, here.0, bound))
  ];
  source = λ k l g. elim (pushed links (link_to heads p b) k l g) [
    | inl a ↦ (let s = are.source k l a in omega (arith, s, length-set heads b (length links + 1)))
    | inr here ↦ (let e : p ≡ l.source = ap (λ (n : Link). n.source) here.1 in
        omega (arith, e, in_p, length-set heads b (length links + 1)))
  ];
  tops = λ c. elim (cases_eq c b) [
    | inl same ↦ (let e : slice_index (set heads b (length links + 1)) c ≡ length links + 1 = ap
        (slice_index (set heads b (length links + 1))) same ∙ top_same heads b (length links + 1) in_b in
        omega (arith, e, length_one links (link_to heads p b)))
    | inr apart ↦ (let e = top_other heads b (length links + 1) c apart in let bound = are.tops c in
        omega (arith, e, bound, length_one links (link_to heads p b)))
  ];
}

-- A link goes before the chain of a target.
pub adds_link : (links : List Link) (heads : List ℕ) (p b : ℕ) → AreEdges links heads → p < length heads
    → b < length heads → AddsLink links heads (links ++ (link_to heads p b ∷ [])) (set heads b (length links + 1)) p b
adds_link links heads p b are in_p in_b =
    let x : Link = link_to heads p b in
    let n : ℕ = length links + 1 in
    let all : List Link = links ++ (x ∷ []) in
    let tops : List ℕ = set heads b n in
    let last : slice_get all (length links) ≡ Some x = last_get links x in
    let P : ℕ → ℕ → Type 0 = λ q h. InChain all h q in
    record {
      edges = still_edges links heads p b are in_p in_b;
      count = length-set heads b n;
      kept = λ q c leads. elim (cases_eq c b) [
        | inl same ↦ (
            let e : slice_index tops c ≡ n = ap (slice_index tops) same ∙ top_same heads b n in_b in
            let r : InChain links (slice_index heads b) q = subst
            (λ (d : ℕ). InChain links (slice_index heads d) q) same leads in
            subst (P q) (sym e) (InChain.later n (length links) q x refl last
            (chain_more links x (slice_index heads b) q r)))
        | inr apart ↦ subst (P q) (sym (top_other heads b n c apart)) (chain_more links x (slice_index heads c) q leads)
      ];
      added = subst (P p) (sym (top_same heads b n in_b)) (InChain.here n (length links) x refl last);
      only = λ q c leads. elim (cases_eq c b) [
        | inl same ↦ (
            let e : slice_index tops c ≡ n = ap (slice_index tops) same ∙ top_same heads b n in_b in
            let here : InChain all n q = subst (P q) e leads in
            let at : slice_get all (n - 1) ≡ Some x = ap (slice_get all) (omega arith) ∙ last in
            elim (chain_split all n q x at here) [
              | inl is_p ↦ inr (is_p, same)
              | inr r ↦ inl (subst (λ (d : ℕ). InChain links (slice_index heads d) q) (sym same)
                  (chain_less links x (slice_index heads b) q are.next r (are.tops b)))
            ])
        | inr apart ↦ inl (chain_less links x (slice_index heads c) q are.next
            (subst (P q) (top_other heads b n c apart) leads) (are.tops c))
      ];
    }

-- The edge is there already.
pub adds_none : (links : List Link) (heads : List ℕ) (p b h : ℕ) (l : Link) → AreEdges links heads
    → h ≡ slice_index heads b → 0 < h → slice_get links (h - 1) ≡ Some l → l.source ≡ p
    → AddsLink links heads links heads p b
adds_none links heads p b h l are top some at e = record {
  edges = are;
  count = refl;
  kept = λ q c leads. leads;
  added = subst (λ (n : ℕ). InChain links n p) top
      (subst (λ (q : ℕ). InChain links h q) e (chain_head links h l some at));
  only = λ q c leads. inl leads;
}

pub adds_at : (links new : List Link) (heads tops : List ℕ) (p b h n : ℕ) → AreEdges links heads → p < length heads
    → b < length heads → h ≡ slice_index heads b
    → new ≡ links ++ (record { source = p; next = h } ∷ []) → tops ≡ set heads b n → n ≡ length new
    → AddsLink links heads new tops p b
adds_at links new heads tops p b h n are in_p in_b top grown put count =
    let x : Link = record { source = p; next = h } in
    let e : n ≡ length links + 1 = count ∙ ap length grown ∙ length-append links (x ∷ []) in
    rw (grown, put, e, top) (adds_link links heads p b are in_p in_b)
