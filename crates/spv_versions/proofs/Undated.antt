-- The lines of table X, which come last: no version has what they speak of.
use Rattle.std.proofs.Common.{◌≡◌, ◌≤◌, ◌+◌, ◌∙◌, ℕ, zero, suc, List, [], ◌∷◌, Bool, true, false, Some, None, nat_le, nat_lt, drop, map}
use Rattle.std.proofs.Common.{◌<◌, ◌↔◌, IsTrue, get_or, length, set, refl, sym, ap, subst, inl, inr, arith, get_or-set_other, get_or-set_same}
use Rattle.std.specs.Prelude.{slice_get, slice_index}
use Rattle.std.specs.List.{list_all}
use Rattle.std.proofs.lemmas.Bool.{and_parts, cases_eq, false≢true, leb-true, ltb-true}
use Rattle.std.proofs.lemmas.Option.{none-some, same_Some}
use Rattle.spv_versions.specs.declared.table.Kind.{Kind}
use Rattle.spv_versions.specs.Table.{IsBefore, Line, lines}
use Rattle.spv_versions.specs.inner.Lines.{IsListed, IsListedAt, Read, plain_line}
use Rattle.spv_versions.specs.inner.Told.{AreLeast, place_of, undated}
use Rattle.spv_versions.proofs.Listed.{line_at, read_at, unread}

-- what holds of each line behind the first n
pub all_behind : (p : Line → Bool) (ls : List Line) (n k : ℕ) (l : Line) → list_all p (drop n ls) ≡ true → n ≤ k
    → slice_get ls k ≡ Some l → p l ≡ true
all_behind p [] n k l a b e = absurd (none-some l e)
all_behind p (m ∷ ls) zero zero l a b e =
    ap p (sym (same_Some m l e)) ∙ (and_parts (p m) (list_all p ls) a).0
all_behind p (m ∷ []) zero (suc k) l a b e = absurd (none-some l e)
all_behind p (m ∷ o ∷ ls) zero (suc k) l a b e =
    all_behind p (o ∷ ls) zero k l (and_parts (p m) (list_all p (o ∷ ls)) a).1 (omega arith) e
all_behind p (m ∷ ls) (suc n) zero l a b e = absurd (let c : suc n ≤ 0 = b in omega (arith, c))
all_behind p (m ∷ ls) (suc n) (suc k) l a b e =
    all_behind p ls n k l a (let c : suc n ≤ suc k = b in omega (arith, c)) e

abbrev is_undated : Line → Bool
is_undated (k, from, to, None, names) = true
is_undated (k, from, to, Some first, names) = false

each_undated : list_all is_undated (drop 39 lines) ≡ true
unfolding lines
each_undated = refl

abbrev is_above : Line → Bool
is_above l = nat_le (slice_index undated (place_of l.0)) l.1

each_above : list_all is_above (drop 39 lines) ≡ true
unfolding lines undated
each_above = refl

none_there : (l : Line) → is_undated l ≡ true → l.3 ≡ None
none_there (k, from, to, None, names) e = refl
none_there (k, from, to, Some first, names) e = absurd (false≢true e)

line_there : (ls : List Read) (k : ℕ) (x : Read) → map plain_line ls ≡ lines → slice_get ls k ≡ Some x
    → slice_get lines k ≡ Some (plain_line x)
line_there ls k x same e = subst (λ (qs : List Line). slice_get qs k ≡ Some (plain_line x)) same (read_at ls k x e)

-- such a line has no first version, and no number below what is said
pub never : (ls : List Read) (k : ℕ) (x : Read) → map plain_line ls ≡ lines → 39 ≤ k → slice_get ls k ≡ Some x
    → x.3 ≡ None
never ls k x same b e =
    none_there (plain_line x) (all_behind is_undated lines 39 k (plain_line x) each_undated b (line_there ls k x same e))

above : (ls : List Read) (k : ℕ) (x : Read) → map plain_line ls ≡ lines → 39 ≤ k → slice_get ls k ≡ Some x
    → slice_index undated (place_of x.0) ≤ x.1
above ls k x same b e = leb-true (slice_index undated (place_of x.0)) x.1
    (all_behind is_above lines 39 k (plain_line x) each_above b (line_there ls k x same e))

pub above_listed : (ls : List Read) (flags : List Bool) (k : Kind) (n m : ℕ) → map plain_line ls ≡ lines → 39 ≤ m
    → IsListedAt (map plain_line ls) flags k n m → slice_index undated (place_of k) ≤ n
above_listed ls flags k n m same b h =
    let u = unread ls m h.0 h.1 in
    let of = line_at ls flags k n m u.0 u.1 h in
    let low = subst (λ (q : Kind). slice_index undated (place_of q) ≤ u.0.1) of.1.0 (above ls m u.0 same b u.1) in
    let up = of.1.1 in omega (arith, low, up)

-- one line more of which it is told whether a version is before what it says
pub lacked_more : (ls : List Read) (flags : List Bool) (minor m : ℕ) (x : Read) (b : Bool) → slice_get ls m ≡ Some x
    → IsTrue b ↔ IsBefore minor x.3 → m < length flags
    → ((j : ℕ) (r : Read) → j < m → slice_get ls j ≡ Some r → IsTrue (get_or flags j false) ↔ IsBefore minor r.3)
    → (j : ℕ) (r : Read) → j < m + 1 → slice_get ls j ≡ Some r
    → IsTrue (get_or (set flags m b) j false) ↔ IsBefore minor r.3
lacked_more ls flags minor m x b at says l before j r below e = elim (cases_eq j m) [
  | inl same ↦
      let one : Some x ≡ Some r = sym at ∙ ap (slice_get ls) (sym same) ∙ e in
      let here : get_or (set flags m b) m false ≡ b = rw get_or-set_same refl in
      let told : get_or (set flags m b) j false ≡ b =
      ap (λ (q : ℕ). get_or (set flags m b) q false) same ∙ here in
      let f = λ (y : Bool). IsTrue y ↔ IsBefore minor r.3 in
      subst f (sym told) (subst (λ (y : Read). IsTrue b ↔ IsBefore minor y.3) (same_Some x r one) says)
  | inr apart ↦
      let under : j < m = omega (arith, apart) in
      rw get_or-set_other (before j r under e)
]

-- no line is of the greatest number
abbrev is_small : Line → Bool
is_small l = nat_lt l.2 4294967295

each_small : list_all is_small (drop 0 lines) ≡ true
unfolding lines
each_small = refl

pub none_listed : (flags : List Bool) (least : List ℕ) (k : Kind) (m : ℕ) → AreLeast flags least
    → m ≡ slice_index least (place_of k) → m ≡ 4294967295 → (n : ℕ) → ¬ (IsListed lines flags k n)
none_listed flags least k m all is most n h =
    let l = h.1.0 in
    let small = ltb-true l.2 4294967295 (all_behind is_small lines 0 h.0 l each_small (omega arith) h.1.1) in
    let up = h.1.3.2 in
    let low = all k n h in omega (arith, small, up, low, is, most)
