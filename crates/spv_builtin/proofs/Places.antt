-- Places that pass the tests, and patterns that do.
use Rattle.std.proofs.Common.{◌≡◌, ◌≢◌, ℕ, zero, suc, ◌+◌, ◌-◌, ◌<◌, ◌≤◌, inl, inr, Bool, true, false, ◌&&◌, nat_eq, nat_le, nat_lt, List, [], ◌∷◌, ◌++◌, Some, None, length, map, drop, replicate, get_or, slice_get, if◌then◌else◌, refl, sym, ap, ap₂, ◌∙◌, true≢false, leb-true, ltb-true, drop-drop, arith}
use Rattle.std.specs.List.{list_all}
use Rattle.std.proofs.lemmas.Bool.{and_parts, cases_lt}
use Rattle.std.proofs.lemmas.Bool.Decides.{nat_tests}
use Rattle.std.proofs.lemmas.List.{length-map}
use Rattle.std.proofs.lemmas.Option.{slice_get_past}
use Rattle.spv_table.specs.Table.{first_with}
use Rattle.spv_table.specs.declared.table.Item.{Item}
use Rattle.spv_table.specs.declared.table.Quantifier.{Quantifier}
use Rattle.spv_table.specs.declared.table.Quantifier.TheVariants.{One, Maybe, Many}
use Rattle.spv_table.specs.declared.row.EntryRow.{EntryRow}
use Rattle.spv_table.specs.declared.row.EnumerantRow.{EnumerantRow}
use Rattle.spv_table.specs.Span.{spanned}
use Rattle.spv_table.specs.inner.Pattern.{EndsOptional}
use Rattle.spv_table.specs.inner.Rows.{AreCounted, AreNear}
use Rattle.spv_builtin.specs.inner.Places.{fill, rise, first_place, are_first, are_near, may_lack, end_optional, are_counted}

-- what stands before places, and behind them
before : (g : ℕ) (ys : List ℕ) (j : ℕ) → j < g → get_or (replicate g 4294967295 ++ ys) j 4294967295 ≡ 4294967295
before zero ys j l = absurd (omega (arith, l))
before (suc g) ys zero l = refl
before (suc g) ys (suc j) l = before g ys j (omega (arith, l))

behind : (g : ℕ) (ys : List ℕ) (i j : ℕ) → j ≡ g + i → get_or (replicate g 4294967295 ++ ys) j 4294967295 ≡ get_or ys i 4294967295
behind zero ys i j e = let same : j ≡ i = omega (arith, e) in ap (λ n. get_or ys n 4294967295) same
behind (suc g) ys i zero e = absurd (omega (arith, e))
behind (suc g) ys i (suc j) e = behind g ys i j (omega (arith, e))

module _ {A : Type 0} (number : A → ℕ) where
  passed : (x : A) (xs : List A) (n : ℕ) → number x ≢ n → first_with number n (x ∷ xs) ≡ first_with number n xs
  passed x xs n other = let no : nat_eq (number x) n ≡ false = grind (arith, nat_tests) in rw no refl

  reached : (x : A) (xs : List A) (n : ℕ) → number x ≡ n → first_with number n (x ∷ xs) ≡ Some x
  reached x xs n same = let yes : nat_eq (number x) n ≡ true = grind (arith, nat_tests) in rw yes refl

  none_below : (zs : List A) (m n : ℕ) → rise m (map number zs) ≡ true → n < m → first_with number n zs ≡ None
  unfolding rise
  none_below [] m n h l = refl
  none_below (z ∷ zs) m n h l =
      let a = and_parts (nat_le m (number z)) (rise (number z) (map number zs)) h in
      let order : m ≤ number z = leb-true m (number z) a.0 in
      passed z zs n (λ e. omega (arith, e, order, l)) ∙ none_below zs (number z) n a.1 (omega (arith, order, l))

  -- the rest of a list behind a place, and the element there
  next : (xs : List A) (at : ℕ) (z : A) (zs : List A) → drop at xs ≡ z ∷ zs → drop (suc at) xs ≡ zs
  next xs at z zs e = let one : suc at ≡ at + 1 = omega arith in ap (λ n. drop n xs) one ∙ sym (drop-drop 1 at xs) ∙ ap (drop 1) e

  got : (xs : List A) (at : ℕ) (z : A) (zs : List A) → drop at xs ≡ z ∷ zs → slice_get xs at ≡ Some z
  got [] zero z zs e = let l = ap length e in absurd (omega (arith, l))
  got [] (suc at) z zs e = let l = ap length e in absurd (omega (arith, l))
  got (x ∷ xs) zero z zs e = ap (λ ys. Some (get_or ys 0 x)) e
  got (x ∷ xs) (suc at) z zs e = got xs at z zs e

  module _ (xs : List A) (few : length xs ≤ 4294967295) where
    none : slice_get xs 4294967295 ≡ None
    none = slice_get_past xs 4294967295 few

    -- places that are filled, by what the rest is
    module _ (z : A) (zs : List A) (n at k j : ℕ) (e : drop at xs ≡ z ∷ zs) (up : rise (number z) (map number zs) ≡ true) (s : k ≡ n + j)
        (same : slice_get xs (get_or (fill n (suc at) (map number zs)) j 4294967295) ≡ first_with number k zs)
        (later : (i : ℕ) → k ≡ suc (number z) + i → slice_get xs (get_or (fill (suc (number z)) (suc at) (map number zs)) i 4294967295) ≡ first_with number k zs) where
      abbrev more : List ℕ
      more = fill (suc (number z)) (suc at) (map number zs)

      filled_by : (b : Bool) → nat_lt (number z) n ≡ b
          → slice_get xs (get_or (if b then fill n (suc at) (map number zs) else replicate (number z - n) 4294967295 ++ at ∷ fill (suc (number z)) (suc at) (map number zs)) j 4294967295)
          ≡ first_with number k (z ∷ zs)
      filled_by true t =
          let less : number z < n = ltb-true (number z) n t in
          same ∙ sym (passed z zs k (λ q. omega (arith, q, less, s)))
      filled_by false t =
          let past : n ≤ number z = grind (arith, nat_tests, t) in
          elim (cases_lt j (number z - n)) [
            | inl l ↦ (let front = before (number z - n) (at ∷ more) j l in
                let low : k < number z = omega (arith, l, s, past) in
                let other = passed z zs k (λ q. omega (arith, q, low)) ∙ none_below zs (number z) k up low in
                ap (slice_get xs) front ∙ none ∙ sym other)
            | inr g ↦ elim (cases_lt (number z - n) j) [
              | inl l ↦ (let i = j - suc (number z - n) in
                  let moved = behind (number z - n) (at ∷ more) (suc i) j (omega (arith, l)) in
                  ap (slice_get xs) moved ∙ later i (omega (arith, s, l, past)) ∙ sym (passed z zs k (λ q. omega (arith, q, s, l, past))))
              | inr last ↦ (let moved = behind (number z - n) (at ∷ more) 0 j (omega (arith, g, last)) in
                  ap (slice_get xs) moved ∙ got xs at z zs e ∙ sym (reached z zs k (omega (arith, s, g, last, past))))
            ]
          ]

    filled : (zs : List A) (n at last k j : ℕ) → drop at xs ≡ zs → rise last (map number zs) ≡ true → k ≡ n + j
        → slice_get xs (get_or (fill n at (map number zs)) j 4294967295) ≡ first_with number k zs
    unfolding fill rise
    filled [] n at last k j e h s = none
    filled (z ∷ zs) n at last k j e h s =
        let up = (and_parts (nat_le last (number z)) (rise (number z) (map number zs)) h).1 in
        let rest = next xs at z zs e in
        filled_by z zs n at k j e up s (filled zs n (suc at) (number z) k j rest up s)
        (λ i q. filled zs (suc (number z)) (suc at) (number z) k i rest up q) (nat_lt (number z) n) refl

    -- the place of the first
    first_placed : (zs : List A) (at n : ℕ) → drop at xs ≡ zs → slice_get xs (first_place n at (map number zs)) ≡ first_with number n zs
    unfolding first_place
    first_placed [] at n e = none
    first_placed (z ∷ zs) at n e = by (nat_eq (number z) n) (first_placed zs (suc at) n (next xs at z zs e))
      where
        by : (b : Bool) → slice_get xs (first_place n (suc at) (map number zs)) ≡ first_with number n zs
            → slice_get xs (if b then at else first_place n (suc at) (map number zs)) ≡ (if b then Some z else first_with number n zs)
        by true later = got xs at z zs e
        by false later = later

first_at : (n : ℕ) (near ms : List ℕ) → are_first n near ms ≡ true → (v : ℕ) → v < n → get_or near v 4294967295 ≡ first_place v 0 ms
unfolding are_first
first_at zero near ms h v l = absurd (omega (arith, l))
first_at (suc n) near ms h v l =
    let a = and_parts (nat_eq (get_or near n 4294967295) (first_place n 0 ms)) (are_first n near ms) h in
    elim (cases_lt v n) [
      | inl less ↦ first_at n near ms a.1 v less
      | inr last ↦ (let same : v ≡ n = omega (arith, l, last) in
          let here : get_or near n 4294967295 ≡ first_place n 0 ms = grind (arith, nat_tests, a.0) in
          ap (λ i. get_or near i 4294967295) same ∙ here ∙ ap (λ i. first_place i 0 ms) (sym same))
    ]

pub near_are : (near : List ℕ) (rows : List EnumerantRow) → are_near near rows ≡ true → AreNear near rows
near_are near rows h = λ v l.
    let a = and_parts (nat_lt (length rows) 4294967296) (are_first 64 near (map (λ (r : EnumerantRow). r.0) rows)) h in
    let few : length rows < 4294967296 = ltb-true _ _ a.0 in
    ap (slice_get rows) (first_at 64 near (map (λ (r : EnumerantRow). r.0) rows) a.1 v l)
    ∙ first_placed (λ (r : EnumerantRow). r.0) rows (omega (arith, few)) rows 0 v refl

numbers_of : {A B : Type 0} (number : B → ℕ) (f : A → B) (of : A → ℕ) → ((r : A) → number (f r) ≡ of r) → (rs : List A) → map number (map f rs) ≡ map of rs
numbers_of number f of same [] = refl
numbers_of number f of same (r ∷ rs) = ap₂ (λ (m : ℕ) (ms : List ℕ). m ∷ ms) (same r) (numbers_of number f of same rs)

-- places by which rows are found
pub places_are : {A B : Type 0} (number : B → ℕ) (f : A → B) (of : A → ℕ) (rows : List A) (places : List ℕ) → ((r : A) → number (f r) ≡ of r)
    → places ≡ fill 0 0 (map of rows) → rise 0 (map of rows) ≡ true → length rows < 4294967296
    → (n : ℕ) → slice_get (map f rows) (get_or places n 4294967295) ≡ first_with number n (map f rows)
places_are number f of rows places same made up few n =
    let long = length-map rows f in
    let all = numbers_of number f of same rows in
    ap (λ ps. slice_get (map f rows) (get_or ps n 4294967295)) (made ∙ ap (fill 0 0) (sym all))
    ∙ filled number (map f rows) (omega (arith, long, few)) (map f rows) 0 0 0 n n refl (ap (rise 0) all ∙ up) (omega arith)

-- patterns
pub all_at : {A : Type 0} (p : A → Bool) (xs : List A) → list_all p xs ≡ true → (k : ℕ) (d : A) → k < length xs → p (get_or xs k d) ≡ true
all_at p [] h k d l = absurd (omega (arith, l))
all_at p (x ∷ xs) h zero d l = (and_parts (p x) (list_all p xs) h).0
all_at p (x ∷ xs) h (suc k) d l = all_at p xs (and_parts (p x) (list_all p xs) h).1 k d (omega (arith, l))

dropped_at : {A : Type 0} (p : A → Bool) (xs : List A) (j : ℕ) → list_all p (drop j xs) ≡ true → (k : ℕ) (d : A) → j ≤ k → k < length xs → p (get_or xs k d) ≡ true
dropped_at p xs zero h k d low l = all_at p xs h k d l
dropped_at p [] (suc j) h k d low l = absurd (omega (arith, l))
dropped_at p (x ∷ xs) (suc j) h zero d low l = absurd (omega (arith, low))
dropped_at p (x ∷ xs) (suc j) h (suc k) d low l = dropped_at p xs j h k d (omega (arith, low)) (omega (arith, l))

not_one : (q : Quantifier) → may_lack q ≡ true → q ≢ One
not_one q h e = true≢false (sym h ∙ ap may_lack e)

optional_is : (n : ℕ) (is : List Item) → end_optional n is ≡ true → (n ≤ length is) × EndsOptional n is
optional_is n is h =
    let a = and_parts (nat_le n (length is)) (list_all (λ (i : Item). may_lack i.quantifier) (drop (length is - n) is)) h in
    let within : n ≤ length is = leb-true n (length is) a.0 in
    (within, λ k d low l. not_one (get_or is k d).quantifier (dropped_at (λ (i : Item). may_lack i.quantifier) is (length is - n) a.1 k d (omega (arith, low)) l))

pub counted_are : (items : List Item) (rows : List EntryRow) → are_counted items rows ≡ true → AreCounted items rows
unfolding are_counted
counted_are items rows h = λ r c.
    let test = all_at (λ (r : EntryRow). end_optional r.4 (spanned items r.2)) rows h c.0 r c.1 in
    optional_is r.4 (spanned items r.2) (ap (λ (x : EntryRow). end_optional x.4 (spanned items x.2)) (sym c.2) ∙ test)
