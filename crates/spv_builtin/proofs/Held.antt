-- Slots that pass the tests find the names.
use Rattle.std.proofs.Common.{◌≡◌, ℕ, zero, suc, ◌+◌, ◌-◌, ◌<◌, ◌≤◌, inl, inr, Bool, true, false, ◌&&◌, nat_eq, nat_le, nat_lt, List, [], ◌∷◌, length, take, drop, map, refl, sym, ap, subst, ◌∙◌, true≢false, ltb-true, leb-true, drop-drop, arith}
use Rattle.std.specs.Prelude.{slice_range, if◌then◌else◌}
use Rattle.std.proofs.lemmas.Bool.{and_parts, cases_lt}
use Rattle.std.proofs.lemmas.Bool.Decides.{nat_tests}
use Rattle.std.proofs.lemmas.List.{get_or-drop, length-map}
use Rattle.spv_table.specs.declared.span.Span.{Span}
use Rattle.spv_table.specs.Span.{spanned}
use Rattle.spv_table.specs.inner.Named.{slot_in, name_at, held, BearsAt, Fills, Finds}
use Rattle.spv_builtin.specs.inner.Slots.{begin_of, follow, cut, is_held, are_held, find}

-- the parts of a text at spans that follow each other
pub cut_is : (text : List ℕ) (ss : List Span) (at : ℕ) → follow at ss ≡ true → map (spanned text) ss ≡ cut at (drop at text) ss
unfolding follow cut
cut_is text [] at h = refl
cut_is text (s ∷ ss) at h =
    let all = and_parts (nat_eq s.0 at) (nat_le at s.1 && follow s.1 ss) h in
    let more = and_parts (nat_le at s.1) (follow s.1 ss) all.1 in
    let here : s.0 ≡ at = grind (arith, nat_tests, all.0) in
    let order : at ≤ s.1 = leb-true at s.1 more.0 in
    let past : at + (s.1 - at) ≡ s.1 = omega (arith, order) in
    let rest : drop (s.1 - at) (drop at text) ≡ drop s.1 text = drop-drop (s.1 - at) at text ∙ ap (λ n. drop n text) past in
    let first : spanned text s ≡ take (s.1 - at) (drop at text) = ap (λ n. slice_range text n s.1) here in
    let later : map (spanned text) ss ≡ cut s.1 (drop (s.1 - at) (drop at text)) ss = cut_is text ss s.1 more.1 ∙ ap (λ t. cut s.1 t ss) (sym rest) in
    ap (λ x. x ∷ map (spanned text) ss) first ∙ ap (λ xs. take (s.1 - at) (drop at text) ∷ xs) later

-- where a place is, and that those before it are lesser
record IsHeld (place n : ℕ) (slots : List ℕ) : Type 0 where
  at : ℕ
  few : at < n
  is : held slots at ≡ place
  before : (i : ℕ) → i < at → held slots i < place

before_more : (p place : ℕ) (ps : List ℕ) (at : ℕ) → p < place → ((i : ℕ) → i < at → held ps i < place) → (i : ℕ) → i < suc at → held (p ∷ ps) i < place
before_more p place ps at first later zero l = first
before_more p place ps at first later (suc i) l = later i (omega (arith, l))

module _ (place n p : ℕ) (ps : List ℕ) (later : is_held place n ps ≡ true → IsHeld place n ps) where
  held_by : (b : Bool) → nat_eq p place ≡ b → (if b then true else (nat_lt p place && is_held place n ps)) ≡ true → IsHeld place (suc n) (p ∷ ps)
  held_by true e h = record { at = 0; few = omega arith; is = grind (arith, nat_tests, e); before = λ i l. absurd (omega (arith, l)) }
  held_by false e h =
      let parts = and_parts (nat_lt p place) (is_held place n ps) h in
      let rest = later parts.1 in
      record { at = suc rest.at; few = (let f = rest.few in omega (arith, f)); is = rest.is; before = before_more p place ps rest.at (ltb-true p place parts.0) rest.before }

is_held-at : (place n : ℕ) (slots : List ℕ) → is_held place n slots ≡ true → IsHeld place n slots
unfolding is_held
is_held-at place zero slots h = absurd (true≢false (sym h))
is_held-at place (suc n) [] h = absurd (true≢false (sym h))
is_held-at place (suc n) (p ∷ ps) h = held_by place n p ps (is_held-at place n ps) (nat_eq p place) refl h

are_held-at : (count : ℕ) (slots : List ℕ) (place : ℕ) (qs : List (List ℕ)) → are_held count slots place qs ≡ true → (j : ℕ) → j < length qs
    → is_held (place + j) 8 (drop (slot_in count (name_at qs j)) slots) ≡ true
unfolding are_held
are_held-at count slots place [] h j l = absurd (omega (arith, l))
are_held-at count slots place (q ∷ qs) h zero l = let e : place + 0 ≡ place = omega arith in rw e (and_parts _ _ h).0
are_held-at count slots place (q ∷ qs) h (suc j) l =
    let e : place + suc j ≡ suc place + j = omega arith in
    rw e (are_held-at count slots (suc place) qs (and_parts _ _ h).1 j (omega (arith, l)))

module _ (ns : List (List ℕ)) (count : ℕ) (slots : List ℕ) (all : are_held count slots 0 ns ≡ true) where
  slot : ℕ → ℕ
  slot j = slot_in count (name_at ns j)

  placed : (j : ℕ) → j < length ns → IsHeld j 8 (drop (slot_in count (name_at ns j)) slots)
  placed j l =
      let first = drop (slot_in count (name_at ns j)) slots in
      let e : 0 + j ≡ j = omega arith in
      is_held-at j 8 first (subst (λ i. is_held i 8 first ≡ true) e (are_held-at count slots 0 ns all j l))

  moved : (j k : ℕ) → held (drop (slot_in count (name_at ns j)) slots) k ≡ held slots (slot_in count (name_at ns j) + k)
  moved j k = get_or-drop (slot_in count (name_at ns j)) slots k 4294967295

  bears_at : (j : ℕ) (l : j < length ns) → BearsAt ns (name_at ns j) (held slots (slot_in count (name_at ns j) + (placed j l).at))
  bears_at j l =
      let is : j ≡ held slots (slot_in count (name_at ns j) + (placed j l).at) = sym (placed j l).is ∙ moved j (placed j l).at in
      subst (BearsAt ns (name_at ns j)) is (l, refl)

  least_at : (j k : ℕ) (l : j < length ns) → ((i : ℕ) → i < k → BearsAt ns (name_at ns j) (held slots (slot_in count (name_at ns j) + i)) → ⊥)
      → held slots (slot_in count (name_at ns j) + k) ≤ j
  least_at j k l none =
      let p = placed j l in
      elim (cases_lt k p.at) [
        | inl few ↦ (let b = p.before k few in let m = moved j k in omega (arith, b, m))
        | inr far ↦ elim (cases_lt p.at k) [
          | inl more ↦ absurd (none p.at more (bears_at j l))
          | inr same ↦ (let e : p.at ≡ k = omega (arith, far, same) in
              let m : held slots (slot_in count (name_at ns j) + k) ≡ j = sym (moved j k) ∙ ap (held (drop (slot_in count (name_at ns j)) slots)) (sym e) ∙ p.is in
              omega (arith, m))
        ]
      ]

  pub fills : Fills ns 0 count slots []
  fills = record {
    least = λ j k from below few bears none. least_at j k below none;
    kept = λ j from below. inl (record { behind = (placed j below).at; few = (placed j below).few; bears = bears_at j below });
  }

-- slots that pass find the names of elements which are those at the spans
pub finds : {A : Type 0} (name : A → List ℕ) (xs : List A) (text slots : List ℕ) (spans : List Span) → find text slots spans ≡ true → map name xs ≡ map (spanned text) spans
    → Finds name xs (record { slots = slots; others = [] })
unfolding find
finds name xs text slots spans h same =
    let some = and_parts _ _ h in
    let few = and_parts _ _ some.1 in
    let rest = and_parts _ _ few.1 in
    let at = begin_of spans in
    let ns : map name xs ≡ cut at (drop at text) spans = same ∙ cut_is text spans at rest.0 in
    let held_all : are_held (length slots - 8) slots 0 (map name xs) ≡ true = ap (are_held (length slots - 8) slots 0) ns ∙ rest.1 in
    let long : length xs ≡ length spans = sym (length-map xs name) ∙ ap length same ∙ length-map spans (spanned text) in
    let less : length spans < 4294967296 = ltb-true _ _ few.0 in
    record {
      some = ltb-true _ _ some.0;
      few = omega (arith, long, less);
      fills = fills (map name xs) (length slots - 8) slots held_all;
      places = λ k l. absurd (omega (arith, l));
      sorted = λ k d low l. absurd (omega (arith, l));
    }
