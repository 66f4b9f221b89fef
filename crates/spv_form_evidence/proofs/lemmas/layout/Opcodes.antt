-- The opcodes that may come at a state are those with a row in the table of shapes that may.
use Rattle.std.proofs.Common.{◌≡◌, ◌∙◌, ◌++◌, ◌+◌, ◌<◌, ◌≤◌, ℕ, zero, suc, List, [], ◌∷◌, refl, sym, ap, subst}
use Rattle.std.proofs.Common.{Bool, true, false, ◌&&◌, inl, inr, length, get_or, Some, None, arith}
use Rattle.std.specs.Prelude.{filter, nat_le, nat_lt, not, ◌||◌, if◌then◌else◌}
use Rattle.std.specs.List.{Contains, range_with_len}
use Rattle.std.specs.List.Sorted.{IsStrictlyIncreasing}
use Rattle.std.proofs.lemmas.Bool.{cond_both, leb-true, ltb-true}
use Rattle.std.proofs.lemmas.List.Elements.{All-contains, Contains-append_right, filter_passes, filter-append}
use Rattle.std.proofs.lemmas.List.Kept.{IsStrictlyIncreasing-filter}
use Rattle.std.proofs.lemmas.List.FromFn.{length-range_with_len, get_or-range_with_len}
use Rattle.spv_module.specs.Operand.{PlainInst}
use Rattle.spv_module.specs.declared.profile.Profile.{Profile}
use Rattle.spv_module.specs.declared.profile.Profile.TheVariants.{Own, OpenCl}
use Rattle.spv_layout.specs.declared.state.State.{State}
use Rattle.spv_layout.specs.Row.{PlainRow, row_in}
use Rattle.spv_layout.specs.Rows.{rows}
use Rattle.spv_layout.specs.Profile.{includes, has_row}
use Rattle.spv_layout.specs.Layout.{seen_classes}
use Rattle.spv_layout.specs.inner.State.{may_stop}
use Rattle.spv_layout.specs.inner.Pass.{Leads}
use Rattle.spv_layout.proofs.Layouts.{leads_begin}
use Rattle.spv_form_evidence.specs.layout.Evidence.{HasRow, AreToCome}
use Rattle.spv_form_evidence.specs.layout.inner.Automaton.{opcodes_of, may_follow, followers}
use Rattle.spv_form_evidence.proofs.lemmas.layout.States.{ends_there, follows, followed}

-- an element that passes is kept
kept_at : (p : ℕ → Bool) (xs : List ℕ) (k x : ℕ) → k < length xs → get_or xs k x ≡ x → p x ≡ true
    → Contains (filter p xs) x
kept_at p [] k x l e h = absurd (omega (arith, l))
kept_at p (y ∷ ys) zero x l e h = let q : p y ≡ true = rw e h in rw q (0, omega arith, e)
kept_at p (y ∷ ys) (suc k) x l e h =
    let r = kept_at p ys k x (omega (arith, l)) e h in
    cond_both (p y) (y ∷ filter p ys) (filter p ys) (λ l. Contains l x)
    (λ _. Contains-append_right (y ∷ []) (filter p ys) x r) (λ _. r)

range_has : (n x : ℕ) → x < n → Contains (range_with_len 0 n) x
range_has n x l = (x, (let e = length-range_with_len 0 n in omega arith), get_or-range_with_len 0 n x x l ∙ plus_none)
  where
    plus_none : 0 + x ≡ x
    plus_none = omega arith

range_rises : (n : ℕ) → IsStrictlyIncreasing (range_with_len 0 n)
range_rises n k l =
    let e = length-range_with_len 0 n in
    let a = get_or-range_with_len 0 n k 0 (omega arith) in
    let b = get_or-range_with_len 0 n (k + 1) 0 (omega arith) in
    omega arith

range_more : (a n : ℕ) → range_with_len a (n + 1) ≡ range_with_len a n ++ ((a + n) ∷ [])
range_more a zero =
    let e : a ≡ a + zero = omega arith in
    ap (λ m. m ∷ []) e
range_more a (suc n) =
    let e : a + 1 + n ≡ a + suc n = omega arith in
    let m : suc n + 1 ≡ suc (n + 1) = omega arith in
    subst (λ k. range_with_len a k ≡ range_with_len a (suc n) ++ ((a + suc n) ∷ [])) (sym m)
    (ap (λ l. a ∷ l) (range_more (a + 1) n ∙ ap (λ k. range_with_len (a + 1) n ++ (k ∷ [])) e))

pub no_followers : (p : Profile) (s : State) → followers p s 0 ≡ []
unfolding followers
no_followers p s = refl

-- one opcode more
pub followers_more : (p : Profile) (s : State) (n : ℕ)
    → followers p s (n + 1) ≡ followers p s n ++ (if may_follow p s n then n ∷ [] else [])
unfolding followers
followers_more p s n =
    let e : 0 + n ≡ n = omega arith in
    ap (filter (may_follow p s)) (range_more 0 n ∙ ap (λ k. range_with_len 0 n ++ (k ∷ [])) e) ∙ filter-append
    (may_follow p s) (range_with_len 0 n) (n ∷ [])

-- no row that the profile has is for an opcode past its last one
abbrev is_below : Profile → PlainRow → Bool
is_below p r = not (includes p r.profile) || nat_lt r.to (opcodes_of p)

abbrev are_below : Profile → List PlainRow → Bool
are_below p [] = true
are_below p (r ∷ rs) = is_below p r && are_below p rs

both : (a b : Bool) → (a && b) ≡ true → (a ≡ true) × (b ≡ true)
both true b h = (refl, h)
both false b h = cc

below_by : (a b : Bool) → (not a || b) ≡ true → a ≡ true → b ≡ true
below_by true b h e = h
below_by false b h e = cc

-- an opcode of a row that the profile has
within_by : (p : Profile) (b : Bool) (r : PlainRow) (rs : List PlainRow) (n : ℕ)
    → (nat_le r.from n && nat_le n r.to) ≡ b → is_below p r ≡ true
    → has_row p (if b then Some r else row_in rs n) ≡ true → (has_row p (row_in rs n) ≡ true → n < opcodes_of p)
    → n < opcodes_of p
within_by p true r rs n e h k rest =
    let t = below_by (includes p r.profile) (nat_lt r.to (opcodes_of p)) h k in
    let u : r.to < opcodes_of p = ltb-true r.to (opcodes_of p) t in
    let q = leb-true n r.to (both (nat_le r.from n) (nat_le n r.to) e).1 in
    omega arith
within_by p false r rs n e h k rest = rest k

within : (p : Profile) (rs : List PlainRow) (n : ℕ) → are_below p rs ≡ true → has_row p (row_in rs n) ≡ true
    → n < opcodes_of p
within p [] n h k = cc
within p (r ∷ rs) n h k =
    let q = both (is_below p r) (are_below p rs) h in
    within_by p (nat_le r.from n && nat_le n r.to) r rs n refl q.0 k (within p rs n q.1)

rows_below : (p : Profile) → are_below p rows ≡ true
unfolding rows
rows_below Own = refl
rows_below OpenCl = refl

row_below : (p : Profile) (n : ℕ) → HasRow p n → n < opcodes_of p
row_below p n h = within p rows n (rows_below p) h

-- what the list has is what may come
pub to_come : (p : Profile) (before : List PlainInst) (s : State) → Leads (seen_classes p before) s
    → AreToCome p before (followers p s (opcodes_of p)) (may_stop s)
unfolding followers
to_come p before s l = record {
  begun = leads_begin (seen_classes p before) s l;
  order = IsStrictlyIncreasing-filter (may_follow p s) (range_with_len 0 (opcodes_of p)) (range_rises (opcodes_of p));
  each = λ opcode. (
    λ h. follows p before s opcode l (All-contains (λ n. may_follow p s n ≡ true) (followers p s (opcodes_of p)) opcode
        (filter_passes (may_follow p s) (range_with_len 0 (opcodes_of p))) h),
    λ m. let r = range_has (opcodes_of p) opcode (row_below p opcode m.row) in
        kept_at (may_follow p s) (range_with_len 0 (opcodes_of p)) r.0
        opcode r.1 r.2 (followed p before s opcode l m),
  );
  whole = ends_there (seen_classes p before) s l;
}
