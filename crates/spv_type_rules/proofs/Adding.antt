-- Keys in a set of keys.
use Rattle.std.proofs.Common.{◌≡◌, ◌↔◌, ◌⊎◌, inl, inr, ℕ, List, [], ◌∷◌, Bool, true, false, refl, sym, ap, ◌∙◌}
use Rattle.std.specs.Prelude.{Vec, ◌||◌, not, MatchBool}
use Rattle.std.specs.Global.{Global}
use Rattle.std.specs.declared.cmp.Ordering.{Ordering}
use Rattle.std.specs.declared.cmp.Ordering.TheVariants.{Less, Equal, Greater}
use Rattle.std.specs.Ordering.{nat_cmp, is_eq, match_ordering, ordering_reverse}
use Rattle.std.specs.Cmp.Lexicographic.{slice_cmp}
use Rattle.std.specs.List.{list_any}
use Rattle.std.specs.BTreeSet.{insert_key}
use Rattle.std.specs.BTreeMap.{is_at}
use Rattle.std.proofs.lemmas.Cmp.{nat_list_cmp_total}
use Rattle.std.proofs.lemmas.Map.Lookups.{exact_bytes}
use Rattle.spv_type_rules.specs.inner.Seen.{HasKey}

itself : (o : Ordering) → o ≡ ordering_reverse o → o ≡ Equal
itself Equal e = refl
itself _ e = cc

same_list : (xs : List ℕ) → slice_cmp nat_cmp xs xs ≡ Equal
same_list xs = itself (slice_cmp nat_cmp xs xs) (nat_list_cmp_total.antisymm xs xs)

abbrev cmp : Vec ℕ Global → Vec ℕ Global → Ordering
cmp x y = slice_cmp nat_cmp x.items y.items

is_equal : (o : Ordering) → is_eq o ≡ true → o ≡ Equal
is_equal Equal e = refl
is_equal _ e = cc

either : (a b : Bool) (A B : Type 0) → (a ≡ true) ↔ A → (b ≡ true) ↔ B → (a || b ≡ true) ↔ (A ⊎ B)
either true b A B f g = (λ e. inl (f.0 refl), λ o. refl)
either false b A B f g =
    (λ e. inr (g.0 e), λ o. elim o [ inl x ↦ absurd (let no : false ≡ true = f.1 x in cc) | inr y ↦ g.1 y ])

here : (k v : Vec ℕ Global) → (is_eq (cmp k v) ≡ true) ↔ (v.items ≡ k.items)
here k v = (
  λ e. sym (exact_bytes k.items v.items (is_equal (cmp k v) e)),
  λ e. ap is_eq (ap (λ xs. slice_cmp nat_cmp k.items xs) e ∙ same_list k.items),
)

pub has_tells : (k : Vec ℕ Global) (ks : List (Vec ℕ Global)) → (list_any (is_at (cmp k)) ks ≡ true) ↔ HasKey k.items ks
has_tells k [] = (λ e. absurd (let no : false ≡ true = e in cc), λ h. absurd h)
has_tells k (v ∷ vs) =
    either (is_eq (cmp k v)) (list_any (is_at (cmp k)) vs) (v.items ≡ k.items) (HasKey k.items vs) (here k v)
    (has_tells k vs)

placed : (key x : Vec ℕ Global) (xs new : List (Vec ℕ Global)) (k : List ℕ) (o : Ordering) → cmp key x ≡ o
    → HasKey k new ↔ (HasKey k xs ⊎ (key.items ≡ k))
    → HasKey k (match_ordering o (key ∷ x ∷ xs) (x ∷ xs) (x ∷ new)) ↔ (HasKey k (x ∷ xs) ⊎ (key.items ≡ k))
placed key x xs new k Less e h = (
  λ a. elim a [ inl q ↦ inr q | inr b ↦ inl b ],
  λ a. elim a [ inl b ↦ inr b | inr q ↦ inl q ],
)
placed key x xs new k Equal e h = (
  λ a. inl a,
  λ a. elim a [ inl b ↦ b | inr q ↦ inl (sym (exact_bytes key.items x.items e) ∙ q) ],
)
placed key x xs new k Greater e h = (
  λ a. elim a [ inl q ↦ inl (inl q) | inr b ↦ elim (h.0 b) [ inl c ↦ inl (inr c) | inr q ↦ inr q ] ],
  λ a. elim a [ inl b ↦ elim b [ inl q ↦ inl q | inr c ↦ inr (h.1 (inl c)) ] | inr q ↦ inr (h.1 (inr q)) ],
)

pub added_keys : (key : Vec ℕ Global) (ks : List (Vec ℕ Global)) (k : List ℕ)
    → HasKey k (insert_key cmp ks key) ↔ (HasKey k ks ⊎ (key.items ≡ k))
added_keys key [] k = (
  λ a. elim a [ inl q ↦ inr q | inr b ↦ absurd b ],
  λ a. elim a [ inl b ↦ absurd b | inr q ↦ inl q ],
)
added_keys key (x ∷ xs) k = placed key x xs (insert_key cmp xs key) k (cmp key x) refl (added_keys key xs k)

known_by : (a b : Bool) (P : Type 0) → a ≡ not b → (b ≡ true) ↔ P → MatchBool a (¬ P) P
known_by true true P e h = absurd (let no : true ≡ false = e in cc)
known_by true false P e h = λ p. let no : false ≡ true = h.1 p in cc
known_by false true P e h = h.0 refl
known_by false false P e h = absurd (let no : false ≡ true = e in cc)

pub added_tells : (k : Vec ℕ Global) (ks : List (Vec ℕ Global)) (a : Bool) → a ≡ not (list_any (is_at (cmp k)) ks)
    → MatchBool a (¬ (HasKey k.items ks)) (HasKey k.items ks)
added_tells k ks a e = known_by a (list_any (is_at (cmp k)) ks) (HasKey k.items ks) e (has_tells k ks)
