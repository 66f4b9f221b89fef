-- What the code finds by numbers is what the table says, and what holds of its lines.
use Rattle.std.proofs.Common.{◌≡◌, ◌∙◌, ◌<◌, ◌≤◌, ◌+◌, ◌-◌, ℕ, zero, suc, nat_le, nat_eq, List, [], ◌∷◌, refl, sym}
use Rattle.std.proofs.Common.{ap, subst, Bool, true, false, ◌&&◌, ◌||◌, if◌then◌else◌, Option, Some, None, length}
use Rattle.std.proofs.Common.{arith, inl, inr, ◌⊎◌}
use Rattle.std.specs.Prelude.{slice_get}
use Rattle.std.proofs.lemmas.Bool.{cases_lt, leb-true, leb-false, le-leb, lt-leb, eqb-true}
use Rattle.std.proofs.lemmas.Option.{slice_get_past, none-some}
use Rattle.spv_module.specs.declared.opcode.TheConstants as opcode
use Rattle.spv_type_forms.proofs.Opcodes.{both, and_yes, all_from, one_from}
use Rattle.spv_conditions.specs.declared.asked.Asks.{Asks}
use Rattle.spv_conditions.specs.inner.Direct.{are_direct}
use Rattle.spv_ops.specs.declared.table.Places.{Places}
use Rattle.spv_ops.specs.declared.table.Places.TheVariants as places
use Rattle.spv_ops.specs.declared.table.TheConstants.{NUMBERS}
use Rattle.spv_ops.specs.Table.{Line, lines, is_among, line_in, line_of, places_of, asks_of}
use Rattle.spv_ops.specs.inner.Table.{first_from, first_of, numbered_at}
use Rattle.spv_ops.specs.inner.Typed.{IsUncopied}
use Rattle.spv_type_forms.specs.declared.form.Sort.{Sort}
use Rattle.spv_type_forms.specs.declared.form.Sort.TheVariants as sort
use Rattle.spv_ops.specs.inner.Wide.{binary_of, is_counted}

-- What is found by numbers.

abbrev pub all_found : {T : Type 0} → (Option ℕ → T) → List ℕ → List T
all_found g [] = []
all_found g (k ∷ ks) = g (Some k) ∷ all_found g ks

abbrev pub told_from : {T : Type 0} → (ℕ → T) → ℕ → ℕ → List T
told_from f n zero = []
told_from f n (suc count) = f n ∷ told_from f (n + 1) count

found_at : {T : Type 0} → (g : Option ℕ → T) (ks : List ℕ) (n : ℕ) (r : T) → slice_get (all_found g ks) n ≡ Some r
    → g (slice_get ks n) ≡ r
found_at g [] n r e = absurd (none-some r e)
found_at g (k ∷ ks) zero r e = cc
found_at g (k ∷ ks) (suc n) r e = found_at g ks n r e

told_at : {T : Type 0} → (f : ℕ → T) (n count k : ℕ) → k < count → slice_get (told_from f n count) k ≡ Some (f (n + k))
told_at f n zero k h = absurd (omega arith)
told_at f n (suc count) zero h = let e : n ≡ n + 0 = omega arith in ap (λ m. Some (f m)) e
told_at f n (suc count) (suc k) h =
    let e : (n + 1) + k ≡ n + suc k = omega arith in
    told_at f (n + 1) count k (omega arith) ∙ ap (λ m. Some (f m)) e

-- The opcodes that have a number: the one that stands at a place, and that each stands at its own.

abbrev pub opcode_at : ℕ → ℕ
opcode_at k = if nat_le k 403 then k else (if nat_le k 409 then k + 4046 else k + 5222)

abbrev Placed : ℕ → Type 0
Placed n = (numbered_at n < 412) × (opcode_at (numbered_at n) ≡ n)

-- an opcode that has none
abbrev pub IsPast : ℕ → Type 0
IsPast n = (403 < n) × ((n < 4450) ⊎ (4455 < n)) × ((n < 5632) ⊎ (5633 < n)) × (numbered_at n ≡ 412)

first_place : (n k : ℕ) → k ≡ n → nat_le n 403 ≡ true → (k < 412) × (opcode_at k ≡ n)
first_place n k e h =
    let l : n ≤ 403 = leb-true n 403 h in
    rw e (let low : n < 412 = omega (arith, l) in low, rw h refl)

second_place : (n k : ℕ) → k ≡ n - 4046 → 4450 ≤ n → n ≤ 4455 → (k < 412) × (opcode_at k ≡ n)
second_place n k e l h =
    let past : nat_le k 403 ≡ false = lt-leb k 403 (omega (arith, e, l)) in
    let here : nat_le k 409 ≡ true = le-leb k 409 (omega (arith, e, h)) in
    let low : k < 412 = omega (arith, e, h) in
    let same : k + 4046 ≡ n = omega (arith, e, l) in
    (low, rw (past, here) same)

third_place : (n k : ℕ) → k ≡ n - 5222 → 5632 ≤ n → n ≤ 5633 → (k < 412) × (opcode_at k ≡ n)
third_place n k e l h =
    let past : nat_le k 403 ≡ false = lt-leb k 403 (omega (arith, e, l)) in
    let next : nat_le k 409 ≡ false = lt-leb k 409 (omega (arith, e, l)) in
    let low : k < 412 = omega (arith, e, h) in
    let same : k + 5222 ≡ n = omega (arith, e, l) in
    (low, rw (past, next) same)

not_both : (m n k : ℕ) → (nat_le m n && nat_le n k) ≡ false → (n < m) ⊎ (k < n)
not_both m n k e = elim (cases_lt n m) [
  | inl h ↦ inl h
  | inr h ↦ elim (cases_lt k n) [
    | inl l ↦ inr l
    | inr l ↦ absurd (let yes =
        and_yes (nat_le m n) (nat_le n k) (le-leb m n (omega arith)) (le-leb n k (omega arith)) in
        let no : true ≡ false = sym yes ∙ e in cc)
  ]
]

placed_by : (n : ℕ) (a b c : Bool) → nat_le n 403 ≡ a → (nat_le 4450 n && nat_le n 4455) ≡ b
    → (nat_le 5632 n && nat_le n 5633) ≡ c → Placed n ⊎ IsPast n
placed_by n true b c e f g = inl (first_place n (numbered_at n) (rw e refl) e)
placed_by n false true c e f g =
    let two = both (nat_le 4450 n) (nat_le n 4455) f in
    inl (second_place n (numbered_at n) (rw (e, f) refl) (leb-true 4450 n two.0) (leb-true n 4455 two.1))
placed_by n false false true e f g =
    let two = both (nat_le 5632 n) (nat_le n 5633) g in
    inl (third_place n (numbered_at n) (rw (e, f, g) refl) (leb-true 5632 n two.0) (leb-true n 5633 two.1))
placed_by n false false false e f g =
    inr (leb-false n 403 e, not_both 4450 n 4455 f, not_both 5632 n 5633 g, rw (e, f, g) refl)

pub placed : (n : ℕ) → Placed n ⊎ IsPast n
placed n = placed_by n (nat_le n 403) (nat_le 4450 n && nat_le n 4455) (nat_le 5632 n && nat_le n 5633) refl refl refl

-- No line speaks of an opcode that has no place.

abbrev is_placed_range : ℕ × ℕ → Bool
is_placed_range r =
    nat_le r.1 403 || ((nat_le 4450 r.0 && nat_le r.1 4455) || (nat_le 5632 r.0 && nat_le r.1 5633))

abbrev are_placed_ranges : List (ℕ × ℕ) → Bool
are_placed_ranges [] = true
are_placed_ranges (r ∷ rs) = is_placed_range r && are_placed_ranges rs

abbrev are_placed : List Line → Bool
are_placed [] = true
are_placed (l ∷ ls) = are_placed_ranges l.0.now && are_placed ls

above : (a b : Bool) → b ≡ false → (a && b) ≡ false
above true b h = h
above false b h = refl

below : (a b : Bool) → a ≡ false → (a && b) ≡ false
below a b h = rw h refl

not_there : (a c : Bool) → a ≡ false → c ≡ false → (a || c) ≡ false
not_there a c h k = rw (h, k) refl

one_of_two : (a b : Bool) → a || b ≡ true → (a ≡ true) ⊎ (b ≡ true)
one_of_two true b h = inl refl
one_of_two false b h = inr h

between : (f l m k n : ℕ) → nat_le m f && nat_le l k ≡ true → (n < m) ⊎ (k < n) → (nat_le f n && nat_le n l) ≡ false
between f l m k n h (inl p) =
    let two = both (nat_le m f) (nat_le l k) h in
    let low : m ≤ f = leb-true m f two.0 in
    below (nat_le f n) (nat_le n l) (lt-leb f n (omega (arith, low, p)))
between f l m k n h (inr p) =
    let two = both (nat_le m f) (nat_le l k) h in
    let high : l ≤ k = leb-true l k two.1 in
    above (nat_le f n) (nat_le n l) (lt-leb n l (omega (arith, high, p)))

not_within : (r : ℕ × ℕ) (n : ℕ) → is_placed_range r ≡ true → IsPast n → (nat_le r.0 n && nat_le n r.1) ≡ false
not_within r n h past = elim (one_of_two (nat_le r.1 403)
    ((nat_le 4450 r.0 && nat_le r.1 4455) || (nat_le 5632 r.0 && nat_le r.1 5633)) h) [
      | inl a ↦
          let t : r.1 ≤ 403 = leb-true r.1 403 a in
          let p : 403 < n = past.0 in
          above (nat_le r.0 n) (nat_le n r.1) (lt-leb n r.1 (omega (arith, t, p)))
      | inr a ↦ elim (one_of_two (nat_le 4450 r.0 && nat_le r.1 4455) (nat_le 5632 r.0 && nat_le r.1 5633) a) [
        | inl b ↦ between r.0 r.1 4450 4455 n b past.1
        | inr b ↦ between r.0 r.1 5632 5633 n b past.2
      ]
    ]

not_among : (rs : List (ℕ × ℕ)) (n : ℕ) → are_placed_ranges rs ≡ true → IsPast n → is_among rs n ≡ false
not_among [] n h past = refl
not_among (r ∷ rs) n h past =
    let p = both (is_placed_range r) (are_placed_ranges rs) h in
    not_there (nat_le r.0 n && nat_le n r.1) (is_among rs n) (not_within r n p.0 past) (not_among rs n p.1 past)

passed : (a : Bool) (r o : Line) → a ≡ false → (if a then r else o) ≡ o
passed a r o h = rw h refl

abbrev pub no_line : Line
no_line = (record { now = [] }, places.Free, record { now = [] })

none_there : (ls : List Line) (n : ℕ) → are_placed ls ≡ true → IsPast n → line_in ls n ≡ no_line
none_there [] n h past = refl
none_there (e ∷ es) n h past =
    let p = both (are_placed_ranges e.0.now) (are_placed es) h in
    passed (is_among e.0.now n) e (line_in es n) (not_among e.0.now n p.0 past) ∙ none_there es n p.1 past

-- there is a number for each opcode that has a place
unfoldable pub count : ℕ
count = length NUMBERS

pub late_line : (n : ℕ) → IsPast n → line_of n ≡ no_line
unfolding lines
late_line n past = none_there lines n refl past

pub late_row : (n : ℕ) → IsPast n → places_of n ≡ places.Free
late_row n past = ap (λ (h : Line). h.1) (late_line n past)

pub late_asks : (n : ℕ) → IsPast n → asks_of n ≡ []
late_asks n past = ap (λ (h : Line). h.2.now) (late_line n past)

counts : count ≡ 412
unfolding count
counts = refl

-- what the code finds, by its list of lines and of numbers
pub found : {T : Type 0} → (g : Option ℕ → T) (f : Line → T) (ks : List ℕ) (n : ℕ)
    → all_found g ks ≡ told_from (λ k. f (line_of (opcode_at k))) 0 count → g None ≡ f no_line → length ks ≡ count
    → g (slice_get ks (numbered_at n)) ≡ f (line_of n)
found g f ks n e z c = elim (placed n) [
  | inl h ↦
      let k = numbered_at n in
      let q : 0 + k ≡ k = omega arith in
      let low : k < count = rw counts h.0 in
      found_at g ks k (f (line_of n)) (ap (λ all. slice_get all k) e
      ∙ told_at (λ m. f (line_of (opcode_at m))) 0 count k low
      ∙ ap (λ m. Some (f (line_of (opcode_at m)))) q ∙ ap (λ m. Some (f (line_of m))) h.1)
  | inr h ↦
      let all : length ks ≡ 412 = c ∙ counts in
      let past : length ks ≤ numbered_at n = let e : numbered_at n ≡ 412 = h.3 in omega (arith, all, e) in
      ap g (slice_get_past ks (numbered_at n) past) ∙ z ∙ sym (ap f (late_line n h))
]

-- The line of the first opcode of a line is that line.

all_first : told_from (λ k. line_of (first_of (opcode_at k))) 0 count ≡ told_from (λ k. line_of (opcode_at k)) 0 count
unfolding count lines
all_first = refl

none_first : line_of 0 ≡ no_line
unfolding lines
none_first = refl

same_item : (l m : Line) → Some l ≡ Some m → l ≡ m
same_item l m e = cc

first_at : (k : ℕ) → k < 412 → line_of (first_of (opcode_at k)) ≡ line_of (opcode_at k)
first_at k h =
    let q : 0 + k ≡ k = omega arith in
    let low : k < count = rw counts h in
    let a = told_at (λ m. line_of (first_of (opcode_at m))) 0 count k low in
    let b = told_at (λ m. line_of (opcode_at m)) 0 count k low in
    let same = same_item (line_of (first_of (opcode_at (0 + k)))) (line_of (opcode_at (0 + k)))
    (sym a ∙ ap (λ all. slice_get all k) all_first ∙ b) in
    rw q at same

pub line_first : (n : ℕ) → line_of (first_of n) ≡ line_of n
line_first n = elim (placed n) [
  | inl h ↦ subst (λ m. line_of (first_of m) ≡ line_of m) h.1 (first_at (numbered_at n) h.0)
  | inr h ↦ ap line_of (ap (λ (l : Line). first_from l.0.now) (late_line n h)) ∙ none_first ∙ sym (late_line n h)
]

pub asks_first : (n m : ℕ) → first_of n ≡ m → asks_of n ≡ asks_of m
asks_first n m e = sym (ap (λ (l : Line). l.2.now) (line_first n)) ∙ ap asks_of e

pub places_first : (n m : ℕ) → first_of n ≡ m → places_of n ≡ places_of m
places_first n m e = sym (ap (λ (l : Line). l.1) (line_first n)) ∙ ap places_of e

-- What holds of lines, by where their values stand.

abbrev is_empty : List Asks → Bool
is_empty [] = true
is_empty _ = false

abbrev is_right : Places → ℕ → List Asks → Bool
is_right places.Free first line = is_empty line
is_right places.Ids first line = is_counted line
is_right places.Around first line = is_counted line
is_right (places.Beside k) first line = is_counted line
is_right places.Enqueued first line = nat_eq first opcode.ENQUEUE_KERNEL
is_right places.Many first line =
    nat_eq first opcode.ACCESS_CHAIN || (nat_eq first opcode.PTR_ACCESS_CHAIN
    || nat_eq first opcode.COMPOSITE_CONSTRUCT)
is_right places.Pairs first line = nat_eq first opcode.PHI
is_right places.Initializers first line = nat_eq first opcode.VARIABLE
is_right places.Copied first line = nat_eq first opcode.COPY_LOGICAL
is_right _ first line = true

abbrev is_line : ℕ → Bool
is_line n = is_right (places_of n) (first_of n) (asks_of n)

abbrev is_line_at : ℕ → Bool
is_line_at k = is_line (opcode_at k)

all_right : all_from is_line_at 0 count ≡ true
unfolding count lines
all_right = refl

right_at : (k : ℕ) → k < 412 → is_line (opcode_at k) ≡ true
right_at k h =
    let low : k < count = rw counts h in
    one_from is_line_at count 0 k all_right (omega arith) (omega (arith, low))

pub right : (n : ℕ) → is_line n ≡ true
right n = elim (placed n) [
  | inl h ↦ subst (λ m. is_line m ≡ true) h.1 (right_at (numbered_at n) h.0)
  | inr h ↦ subst (λ (l : Line). is_right l.1 (first_from l.0.now) l.2.now ≡ true) (sym (late_line n h)) refl
]

empty : (line : List Asks) → is_empty line ≡ true → line ≡ []
empty [] h = refl
empty (a ∷ line) h = cc

pub free_asks : (n : ℕ) → places_of n ≡ places.Free → asks_of n ≡ []
free_asks n e = empty (asks_of n) (let h : is_right (places_of n) (first_of n) (asks_of n) ≡ true = right n in
    rw e at h)

pub counted : (n : ℕ) → places_of n ≡ places.Ids → is_counted (asks_of n) ≡ true
counted n e = let h : is_right (places_of n) (first_of n) (asks_of n) ≡ true = right n in rw e at h

pub around_counted : (n : ℕ) → places_of n ≡ places.Around → is_counted (asks_of n) ≡ true
around_counted n e = let h : is_right (places_of n) (first_of n) (asks_of n) ≡ true = right n in rw e at h

pub beside_counted : (n k : ℕ) → places_of n ≡ places.Beside k → is_counted (asks_of n) ≡ true
beside_counted n k e = let h : is_right (places_of n) (first_of n) (asks_of n) ≡ true = right n in rw e at h

pub many_first : (n : ℕ) → places_of n ≡ places.Many
    → (first_of n ≡ opcode.ACCESS_CHAIN) ⊎ (first_of n ≡ opcode.PTR_ACCESS_CHAIN)
    ⊎ (first_of n ≡ opcode.COMPOSITE_CONSTRUCT)
many_first n e =
    let h : is_right (places_of n) (first_of n) (asks_of n) ≡ true = right n in
    let k = rw e at h in
    let f = first_of n in
    elim (one_of_two (nat_eq f opcode.ACCESS_CHAIN)
    (nat_eq f opcode.PTR_ACCESS_CHAIN || nat_eq f opcode.COMPOSITE_CONSTRUCT) k) [
      | inl a ↦ inl (eqb-true f opcode.ACCESS_CHAIN a)
      | inr b ↦ elim (one_of_two (nat_eq f opcode.PTR_ACCESS_CHAIN) (nat_eq f opcode.COMPOSITE_CONSTRUCT) b) [
        | inl a ↦ inr (inl (eqb-true f opcode.PTR_ACCESS_CHAIN a))
        | inr a ↦ inr (inr (eqb-true f opcode.COMPOSITE_CONSTRUCT a))
      ]
    ]

pub pairs_first : (n : ℕ) → places_of n ≡ places.Pairs → first_of n ≡ opcode.PHI
pairs_first n e = let h : is_right (places_of n) (first_of n) (asks_of n) ≡ true = right n in
    eqb-true (first_of n) opcode.PHI (rw e at h)

pub initializers_first : (n : ℕ) → places_of n ≡ places.Initializers → first_of n ≡ opcode.VARIABLE
initializers_first n e = let h : is_right (places_of n) (first_of n) (asks_of n) ≡ true = right n in
    eqb-true (first_of n) opcode.VARIABLE (rw e at h)

pub enqueued_first : (n : ℕ) → places_of n ≡ places.Enqueued → first_of n ≡ opcode.ENQUEUE_KERNEL
enqueued_first n e = let h : is_right (places_of n) (first_of n) (asks_of n) ≡ true = right n in
    eqb-true (first_of n) opcode.ENQUEUE_KERNEL (rw e at h)

pub copied_first : (n : ℕ) → places_of n ≡ places.Copied → first_of n ≡ opcode.COPY_LOGICAL
copied_first n e = let h : is_right (places_of n) (first_of n) (asks_of n) ≡ true = right n in
    eqb-true (first_of n) opcode.COPY_LOGICAL (rw e at h)

-- No line but that of OpCopyLogical asks that types match.

abbrev is_told : Places → List Asks → Bool
is_told places.Copied line = true
is_told _ line = are_direct line

abbrev is_told_at : ℕ → Bool
is_told_at k = is_told (places_of (opcode_at k)) (asks_of (opcode_at k))

all_told : all_from is_told_at 0 count ≡ true
unfolding count lines
all_told = refl

told_at_place : (k : ℕ) → k < 412 → is_told (places_of (opcode_at k)) (asks_of (opcode_at k)) ≡ true
told_at_place k h =
    let low : k < count = rw counts h in
    one_from is_told_at count 0 k all_told (omega arith) (omega (arith, low))

told : (n : ℕ) → is_told (places_of n) (asks_of n) ≡ true
told n = elim (placed n) [
  | inl h ↦ subst (λ m. is_told (places_of m) (asks_of m) ≡ true) h.1 (told_at_place (numbered_at n) h.0)
  | inr h ↦ subst (λ (l : Line). is_told l.1 l.2.now ≡ true) (sym (late_line n h)) refl
]

by_places : (p : Places) (line : List Asks) → is_told p line ≡ true → IsUncopied p → are_direct line ≡ true
by_places places.Copied line h u = absurd u
by_places p line h u = h

pub direct : (n : ℕ) → IsUncopied (places_of n) → are_direct (asks_of n) ≡ true
direct n u = by_places (places_of n) (asks_of n) (told n) u

pub uncopied_first : (n m : ℕ) → first_of n ≡ m → IsUncopied (places_of m) → IsUncopied (places_of n)
uncopied_first n m e u = subst IsUncopied (sym (places_first n m e)) u

pub binary_uncopied : (s : Sort) → IsUncopied (places_of (binary_of s))
unfolding lines
binary_uncopied sort.Int = tt
binary_uncopied sort.Float = tt
binary_uncopied sort.Bool = tt
