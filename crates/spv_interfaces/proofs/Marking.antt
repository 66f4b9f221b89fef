-- Marks: sets of bits, and what spreads along calls.
use Rattle.std.proofs.Common.{◌≡◌, ◌<◌, ◌≤◌, ◌+◌, ◌-◌, ◌^◌, ◌∙◌, ◌⊎◌, ◌↔◌, inl, inr, ℕ, zero, suc, List, [], ◌∷◌}
use Rattle.std.proofs.Common.{Some, refl, sym, subst, arith, length, bit_or, bit_and, get_or-set_same}
use Rattle.std.proofs.Common.{get_or-set_other}
use Rattle.std.specs.Prelude.{slice_get, slice_set}
use Rattle.std.proofs.Math.ListN.{length-set}
use Rattle.std.proofs.lemmas.Bool.{cases_lt, cases_order}
use Rattle.std.proofs.lemmas.Nat.{le_or_l}
use Rattle.std.proofs.lemmas.Option.{same_Some}
use Rattle.spv_flow.specs.declared.calls.graph.Call.{Call}
use Rattle.spv_flow.specs.calls.Chain.{Chain, alone, more}
use Rattle.spv_flow.specs.calls.inner.Graph.{HasCall, AreWithin}
use Rattle.spv_flow.proofs.lemmas.calls.Chains.{joined, keeps}
use Rattle.spv_interfaces.specs.declared.used.Use.{Use}
use Rattle.spv_interfaces.specs.inner.Marks.{Adds, Grows, HasBit, IsClosed, IsMarked, IsMissing, IsOpen, Rises, word_of}
use Rattle.spv_interfaces.proofs.Bits.{and_both, and_left, and_right, has_or_not, none_of_zero, not_bit, not_told}
use Rattle.spv_interfaces.proofs.Bits.{or_left, or_right, or_told}

-- two numbers are the same or not
pub split : (f g : ℕ) → (f ≡ g) ⊎ (f ≡ g → ⊥)
split f g = elim (cases_order f g) [
  | inl e ↦ inl e
  | inr r ↦ inr (λ e. elim r [ inl a ↦ absurd (omega (arith, a, e)) | inr b ↦ absurd (omega (arith, b, e)) ])
]

-- A word that is written.
same_word : (words : List ℕ) (f number v : ℕ) → f ≡ number → number < length words
    → word_of (slice_set words number v) f ≡ v
same_word words f number v e l = rw e (get_or-set_same words number v 0 l)

other_word : (words : List ℕ) (f number v : ℕ) → (f ≡ number → ⊥)
    → word_of (slice_set words number v) f ≡ word_of words f
other_word words f number v n = get_or-set_other words number f v 0 n

pub moved : (v w k : ℕ) → v ≡ w → HasBit v k → HasBit w k
moved v w k e h = subst (λ (x : ℕ). HasBit x k) e h

pub set_adds : (words : List ℕ) (number w bits : ℕ) → number < length words → w ≡ word_of words number
    → Adds bits (λ f. f ≡ number) words (slice_set words number (bit_or w bits))
set_adds words number w bits l e = record {
  count = length-set words number (bit_or w bits);
  each = λ f k. elim (split f number) [
    | inl same ↦
        let s = same_word words f number (bit_or w bits) same l in
        let o : word_of words f ≡ w = rw same (sym e) in (
          λ h. elim (or_told w bits k (moved _ _ k s h)) [
            | inl old ↦ inl (moved w (word_of words f) k (sym o) old)
            | inr b ↦ inr (record { bit = b; within = rw same l; so = same })
          ],
          λ h. moved (bit_or w bits) _ k (sym s) (elim h [
            | inl old ↦ or_left w bits k (moved _ w k o old)
            | inr a ↦ or_right w bits k a.bit
          ]),
        )
    | inr apart ↦
        let s = other_word words f number (bit_or w bits) apart in (
          λ h. inl (moved _ _ k s h),
          λ h. elim h [ inl old ↦ moved _ _ k (sym s) old | inr a ↦ absurd (apart a.so) ],
        )
  ];
}

pub set_rises : (words : List ℕ) (number w bits : ℕ) → number < length words → w ≡ word_of words number
    → Rises words (slice_set words number (bit_or w bits))
set_rises words number w bits l e = record {
  count = length-set words number (bit_or w bits);
  each = λ f. elim (split f number) [
    | inl same ↦
        let s = same_word words f number (bit_or w bits) same l in
        let o : word_of words f ≡ w = rw same (sym e) in
        let u = le_or_l w bits in
        at_most (word_of words f) w (bit_or w bits) (word_of (slice_set words number (bit_or w bits)) f) o s u
    | inr apart ↦
        let s = other_word words f number (bit_or w bits) apart in
        same_most (word_of words f) (word_of (slice_set words number (bit_or w bits)) f) s
  ];
} where
  at_most : (a b c d : ℕ) → a ≡ b → d ≡ c → b ≤ c → a ≤ d
  at_most a b c d p q r = omega arith

  same_most : (a d : ℕ) → d ≡ a → a ≤ d
  same_most a d p = omega arith

pub rises_not : (words : List ℕ) → Rises words words
rises_not words = record { count = refl; each = λ f. omega arith }

pub rises_on : (a b c : List ℕ) → Rises a b → Rises b c → Rises a c
rises_on a b c p q = record {
  count = q.count ∙ p.count;
  each = λ f. let x = p.each f in let y = q.each f in omega (arith, x, y);
}

-- What spreads along calls.
has_call : (calls : List Call) (place : ℕ) (c : Call) → slice_get calls place ≡ Some c
    → HasCall calls c.caller c.callee
has_call calls place c h = record { place = place; call = c; there = h; from = refl; to = refl }

pub grows_not : (calls : List Call) (words : List ℕ) → Grows calls words words
grows_not calls words = record { rises = rises_not words; kept = λ f k h. h; sound = λ f k h. (f, h, alone) }

pub grows_on : (calls : List Call) (a b c : List ℕ) → Grows calls a b → Grows calls b c → Grows calls a c
grows_on calls a b c g h = record {
  rises = rises_on a b c g.rises h.rises;
  kept = λ f k m. h.kept f k (g.kept f k m);
  sound = λ f k m.
      let s = h.sound f k m in
      let t = g.sound s.0 k s.1 in
      (t.0, t.1, joined (HasCall calls) t.0 s.0 f t.2 s.2);
}

pub grows_by : (calls : List Call) (old new : List ℕ) (place : ℕ) (c : Call) → slice_get calls place ≡ Some c
    → Adds (word_of old c.caller) (λ f. f ≡ c.callee) old new → Rises old new → Grows calls old new
grows_by calls old new place c h a r = record {
  rises = r;
  kept = λ f k m. (a.each f k).1 (inl m);
  sound = λ f k m. elim ((a.each f k).0 m) [
    | inl o ↦ (f, o, alone)
    | inr s ↦ (
      c.caller,
      s.bit,
      (let P : ℕ → Type 0 = λ x. Chain (HasCall calls) c.caller x in
          subst P (sym s.so) (more c.caller c.callee alone (has_call calls place c h))),
    )
  ];
}

-- by calls along which something spreads
pub closed_chain : (calls : List Call) (words : List ℕ) → IsClosed calls words → (k e f : ℕ)
    → Chain (HasCall calls) e f → IsMarked words e k → IsMarked words f k
closed_chain calls words closed k e f c m =
    let P : ℕ → Type 0 = λ x. IsMarked words x k in
    keeps (HasCall calls) P
    (λ g h s p. subst P s.to (closed.each s.place s.call s.there k (subst P (sym s.from) p))) e f c m

-- a call that is not open
pub closed_by : (a b : ℕ) → ((k : ℕ) × HasBit a k × ¬ (HasBit b k) → ⊥) → (k : ℕ) → HasBit a k → HasBit b k
closed_by a b never k h = elim (has_or_not b k) [
  | inl g ↦ g
  | inr n ↦ absurd (never (k, h, n))
]

-- How much room there is in the words.
abbrev pub room : List ℕ → ℕ
room [] = 0
room (w ∷ ws) = (2 ^ 64 - w) + room ws

less_in : (a b c d t : ℕ) → a ≤ b → c ≤ d → (t - b) + c ≤ (t - a) + d
less_in a b c d t p q = omega arith

pub no_more_room : (old new : List ℕ) → length new ≡ length old → ((f : ℕ) → word_of old f ≤ word_of new f)
    → room new ≤ room old
no_more_room [] [] e h = omega arith
no_more_room [] (b ∷ new) e h = absurd (omega arith)
no_more_room (a ∷ old) [] e h = absurd (omega arith)
no_more_room (a ∷ old) (b ∷ new) e h =
    less_in a b (room new) (room old) (2 ^ 64) (h zero)
    (no_more_room old new (omega arith) (λ f. h (suc f)))

less_at : (a b c d t : ℕ) → a < b → a < t → c ≤ d → (t - b) + c < (t - a) + d
less_at a b c d t p l q = omega arith

less_past : (a b c d t : ℕ) → a ≤ b → c < d → (t - b) + c < (t - a) + d
less_past a b c d t p q = omega arith

pub less_room : (old new : List ℕ) (k : ℕ) → length new ≡ length old → ((f : ℕ) → word_of old f ≤ word_of new f)
    → word_of old k < word_of new k → word_of old k < 2 ^ 64 → room new < room old
less_room [] [] k e h o n = absurd (omega arith)
less_room [] (b ∷ new) k e h o n = absurd (omega arith)
less_room (a ∷ old) [] k e h o n = absurd (omega arith)
less_room (a ∷ old) (b ∷ new) zero e h o n =
    less_at a b (room new) (room old) (2 ^ 64) o n (no_more_room old new (omega arith) (λ f. h (suc f)))
less_room (a ∷ old) (b ∷ new) (suc k) e h o n =
    less_past a b (room new) (room old) (2 ^ 64) (h zero) (less_room old new k (omega arith) (λ f. h (suc f)) o n)

-- there is less where a call was open and was followed
pub open_less : (calls : List Call) (old mid new : List ℕ) (c : Call) → AreWithin (length old) calls
    → IsOpen calls old c
    → Adds (word_of old c.caller) (λ f. f ≡ c.callee) old mid → Rises old mid → Rises mid new → room new < room old
open_less calls old mid new c within o a r s =
    let in_list = (within.each o.place c o.there).1 in
    let here = (a.each c.callee o.bit).1 (inr (record { bit = o.from; within = in_list; so = refl })) in
    let le = r.each c.callee in
    let apart : word_of old c.callee ≡ word_of mid c.callee → ⊥ =
    λ e. o.to (moved (word_of mid c.callee) (word_of old c.callee) o.bit (sym e) here) in
    let lt : word_of old c.callee < word_of mid c.callee =
    strictly (word_of old c.callee) (word_of mid c.callee) le apart in
    let one = less_room old mid c.callee r.count r.each lt o.fits in
    let other = no_more_room mid new s.count s.each in
    omega (arith, one, other)
  where
    strictly : (a b : ℕ) → a ≤ b → (a ≡ b → ⊥) → a < b
    strictly a b l n = elim (cases_lt a b) [ inl p ↦ p | inr g ↦ absurd (n (omega (arith, l, g))) ]

pub open_grows : (calls : List Call) (old mid new : List ℕ) (c : Call) → IsOpen calls old c
    → Adds (word_of old c.caller) (λ f. f ≡ c.callee) old mid → Rises old mid → Grows calls mid new
    → Grows calls old new
open_grows calls old mid new c o a r g = grows_on calls old mid new (grows_by calls old mid o.place c o.there a r) g

-- What is missing.
pub missing_none : (reached named : List ℕ) (uses : List Use) (k : ℕ)
    → HasBit 0 k ↔ IsMissing reached named uses 0 k
missing_none reached named uses k = (
  λ h. absurd (none_of_zero k h),
  λ m. let l = m.below in absurd (omega (arith, l)),
)

pub missing_more : (reached named : List ℕ) (uses : List Use) (i old r n : ℕ) (u : Use) → slice_get uses i ≡ Some u
    → r ≡ word_of reached u.function → n ≡ word_of named u.variable → n < 2 ^ 64
    → (k : ℕ) → k < 64 → HasBit old k ↔ IsMissing reached named uses i k
    → HasBit (bit_or old (bit_and r (18446744073709551615 - n))) k ↔ IsMissing reached named uses (i + 1) k
missing_more reached named uses i old r n u at e f l k below h =
    let m = 18446744073709551615 - n in (
      λ b. elim (or_told old (bit_and r m) k b) [
        | inl o ↦
            let t = h.0 o in
            let b = t.below in
            record {
              place = t.place;
              below = omega (arith, b);
              use_there = t.use_there;
              there = t.there;
              has = t.has;
              lacks = t.lacks;
            }
        | inr w ↦
            record {
              place = i;
              below = omega arith;
              use_there = u;
              there = at;
              has = moved r (word_of reached u.function) k e (and_left r m k w);
              lacks = λ g. not_told n k l (and_right r m k w) (moved (word_of named u.variable) n k (sym f) g);
            }
      ],
      λ t. elim (cases_lt t.place i) [
        | inl less ↦ or_left old (bit_and r m) k (h.1 (record {
          place = t.place;
          below = less;
          use_there = t.use_there;
          there = t.there;
          has = t.has;
          lacks = t.lacks;
        }))
        | inr at_least ↦
            let b = t.below in
            let here : t.place ≡ i = omega (arith, b, at_least) in
            let there : slice_get uses i ≡ Some t.use_there =
            subst (λ (j : ℕ). slice_get uses j ≡ Some t.use_there) here t.there in
            let same : t.use_there ≡ u = same_Some t.use_there u (sym there ∙ at) in
            let has : IsMarked reached u.function k = subst (λ (v : Use). IsMarked reached v.function k) same t.has in
            let lacks : ¬ (IsMarked named u.variable k) =
            subst (λ (v : Use). ¬ (IsMarked named v.variable k)) same t.lacks in
            or_right old (bit_and r m) k (and_both r m k (moved (word_of reached u.function) r k (sym e) has)
            (not_bit n k l below (λ g. lacks (moved n (word_of named u.variable) k f g))))
      ],
    )
