-- Literals that show that O19 is broken.
use Rattle.std.proofs.Common.{◌≡◌, ◌≢◌, ◌<◌, ◌≤◌, ◌∙◌, ◌+◌, ◌-◌, ◌⊎◌, ◌^◌, if◌then◌else◌, nat_eq, ℕ, zero, suc, List, [], ◌∷◌, Option, Some, None}
use Rattle.std.proofs.Common.{length, inl, inr, refl, sym, ap, subst, arith}
use Rattle.std.specs.Prelude.{slice_get, option_and_then}
use Rattle.std.proofs.lemmas.Bool.{cases_eq, cases_lt, eq-eqb, ne_eqb}
use Rattle.std.proofs.lemmas.Option.{none-some, same_Some, slice_get-get_or, slice_get_within}
use Rattle.spv_table.specs.Table.{Table}
use Rattle.spv_module.specs.declared.opcode.TheConstants as opcode
use Rattle.spv_module.specs.Operand.{Plain, PlainInst}
use Rattle.spv_module.specs.declared.fault.Rule.TheVariants.{O19}
use Rattle.spv_evidence.specs.declared.evidence.Evidence.TheVariants.{Operand, Pair}
use Rattle.spv_kernel_operands.specs.Switch.{HasTwice, HasWide, IsMisswitched, literal_in, literals_of}
use Rattle.spv_kernel_operands.specs.inner.Switch.{IsSelector}
use Rattle.spv_kernel_operands.proofs.Literals.{wide_found}
use Rattle.spv_standard_evidence.specs.Operands.{AreEqual, Shows, literal_at}
use Rattle.spv_standard_evidence.specs.inner.Operands.{AreNarrow, IsWider}

-- an operand and its place among the literals: of one with a place, the literal there
pub record Placed (os : List Plain) (p x : ℕ) : Type 0 where
  pub operand : ℕ
  pub literal : literal_at os operand ≡ Some x

placed_behind : (o : Plain) (os : List Plain) (p x : ℕ) → Placed os p x → Placed (o ∷ os) p x
placed_behind o os p x h = record { operand = suc h.operand; literal = h.literal }

place_in : (o : Plain) (os : List Plain) (r : Option ℕ) (p x : ℕ) → literal_in o ≡ r
    → ((q : ℕ) → slice_get (literals_of os) q ≡ Some x → Placed os q x)
    → slice_get (literals_of (o ∷ os)) p ≡ Some x → Placed (o ∷ os) p x
place_in o os None p x e more h =
    let there : slice_get (literals_of os) p ≡ Some x = rw e at h in
    placed_behind o os p x (more p there)
place_in o os (Some y) zero x e more h =
    let there : Some y ≡ Some x = rw e at h in
    record { operand = 0; literal = e ∙ there }
place_in o os (Some y) (suc p) x e more h =
    let there : slice_get (literals_of os) p ≡ Some x = rw e at h in
    placed_behind o os (suc p) x (record { operand = (more p there).operand; literal = (more p there).literal })

pub placed : (os : List Plain) (p x : ℕ) → slice_get (literals_of os) p ≡ Some x → Placed os p x
placed [] p x h = absurd (none-some x h)
placed (o ∷ os) p x h = place_in o os (literal_in o) p x refl (λ q. placed os q x) h

-- and the other way round
pub record Index (os : List Plain) (k x : ℕ) : Type 0 where
  pub place : ℕ
  pub there : slice_get (literals_of os) place ≡ Some x

index_front : (o : Plain) (os : List Plain) (r : Option ℕ) (x : ℕ) → literal_in o ≡ r → literal_in o ≡ Some x
    → slice_get (literals_of (o ∷ os)) 0 ≡ Some x
index_front o os None x e h = absurd (none-some x (sym e ∙ h))
index_front o os (Some y) x e h = rw e (sym e ∙ h)

behind_place : (o : Plain) (os : List Plain) (r : Option ℕ) (p x : ℕ) → literal_in o ≡ r
    → slice_get (literals_of os) p ≡ Some x
    → (q : ℕ) × (slice_get (literals_of (o ∷ os)) q ≡ Some x) × (p ≤ q)
behind_place o os None p x e h = (p, rw e h, omega arith)
behind_place o os (Some y) p x e h = (suc p, rw e h, omega arith)

pub indexed : (os : List Plain) (k x : ℕ) → literal_at os k ≡ Some x → Index os k x
indexed [] k x h = absurd (none-some x h)
indexed (o ∷ os) zero x h = record { place = 0; there = index_front o os (literal_in o) x refl h }
indexed (o ∷ os) (suc k) x h =
    let one = indexed os k x h in
    let more = behind_place o os (literal_in o) one.place x refl one.there in
    record { place = more.0; there = more.1 }

-- two equal literals by the operands
later : (o : Plain) (os : List Plain) → (j : ℕ) × (k : ℕ) × AreEqual os j k
    → (j : ℕ) × (k : ℕ) × AreEqual (o ∷ os) j k
later o os (j, k, e) = (
  suc j,
  suc k,
  record {
    before = let l = e.before in omega (arith, l);
    literal = e.literal;
    one = e.one;
    other = e.other;
  },
)

two_in : (o : Plain) (os : List Plain) (r : Option ℕ) → literal_in o ≡ r
    → (HasTwice (literals_of os) → (j : ℕ) × (k : ℕ) × AreEqual os j k) → HasTwice (literals_of (o ∷ os))
    → (j : ℕ) × (k : ℕ) × AreEqual (o ∷ os) j k
two_in o os None e more h =
    let less : HasTwice (literals_of os) = record {
      first = h.first;
      second = h.second;
      before = h.before;
      literal = h.literal;
      one = rw e at h.one;
      other = rw e at h.other;
    } in
    later o os (more less)
two_in o os (Some y) e more h = by h.first h.second h.before (rw e at h.one) (rw e at h.other) where
  by : (p q : ℕ) → p < q → slice_get (y ∷ literals_of os) p ≡ Some h.literal
      → slice_get (y ∷ literals_of os) q ≡ Some h.literal → (j : ℕ) × (k : ℕ) × AreEqual (o ∷ os) j k
  by p zero l one other = absurd (omega (arith, l))
  by zero (suc q) l one other =
      let two = placed os q h.literal other in (
        0,
        suc two.operand,
        record { before = omega arith; literal = h.literal; one = e ∙ one; other = two.literal },
      )
  by (suc p) (suc q) l one other = later o os (more record {
    first = p;
    second = q;
    before = omega (arith, l);
    literal = h.literal;
    one = one;
    other = other;
  })

pub equal_in : (os : List Plain) → HasTwice (literals_of os) → (j : ℕ) × (k : ℕ) × AreEqual os j k
equal_in [] h = absurd (none-some h.literal h.one)
equal_in (o ∷ os) h = two_in o os (literal_in o) refl (equal_in os) h

-- the literals that two equal operands are
twice_front : (o : Plain) (os : List Plain) (r : Option ℕ) (k x : ℕ) → literal_in o ≡ r → literal_in o ≡ Some x
    → literal_at os k ≡ Some x → HasTwice (literals_of (o ∷ os))
twice_front o os None k x e one other = absurd (none-some x (sym e ∙ one))
twice_front o os (Some y) k x e one other =
    let two = indexed os k x other in
    record {
      first = 0;
      second = suc two.place;
      before = omega arith;
      literal = x;
      one = rw e (sym e ∙ one);
      other = rw e two.there;
    }

twice_behind : (o : Plain) (os : List Plain) (r : Option ℕ) → literal_in o ≡ r → HasTwice (literals_of os)
    → HasTwice (literals_of (o ∷ os))
twice_behind o os None e h = record {
  first = h.first;
  second = h.second;
  before = h.before;
  literal = h.literal;
  one = rw e h.one;
  other = rw e h.other;
}
twice_behind o os (Some y) e h = record {
  first = suc h.first;
  second = suc h.second;
  before = let l = h.before in omega (arith, l);
  literal = h.literal;
  one = rw e h.one;
  other = rw e h.other;
}

pub twice_at : (os : List Plain) (j k x : ℕ) → j < k → literal_at os j ≡ Some x → literal_at os k ≡ Some x
    → HasTwice (literals_of os)
twice_at [] j k x l one other = absurd (none-some x one)
twice_at (o ∷ os) j zero x l one other = absurd (omega (arith, l))
twice_at (o ∷ os) zero (suc k) x l one other = twice_front o os (literal_in o) k x refl one other
twice_at (o ∷ os) (suc j) (suc k) x l one other =
    twice_behind o os (literal_in o) refl (twice_at os j k x (omega (arith, l)) one other)

-- The first literals among the first operands are kept, each by the number behind its own; and no two are equal.
pub record AreFirsts (os : List Plain) (k : ℕ) (kept : ℕ → ℕ) : Type 0 where
  pub before : (x p : ℕ) → kept x ≡ p + 1 → (p < k) × (literal_at os p ≡ Some x)
  pub each : (p x : ℕ) → p < k → literal_at os p ≡ Some x → 0 < kept x

pub record AreApart (os : List Plain) (k : ℕ) : Type 0 where
  pub none : (p q : ℕ) → q < k → ¬ (AreEqual os p q)

-- no literal is so wide
pub none_wide : (is : List PlainInst) (os : List Plain) (w : ℕ) → IsSelector is os w → AreNarrow os w
    → ¬ (HasWide is os)
none_wide is os w s narrow h =
    let found = wide_found is os (literals_of os) w refl s h in
    let n = found.0 in
    let p = found.1.0 in
    let there : slice_get (literals_of os) p ≡ Some n =
    slice_get-get_or (literals_of os) p n found.1.1 ∙ ap Some found.1.2 in
    let at = placed os p n there in
    let less = narrow at.operand n at.literal in
    let more = found.2 in
    absurd (omega (arith, less, more))

pub not_selected : (is : List PlainInst) (os : List Plain) → ((w : ℕ) → ¬ (IsSelector is os w)) → ¬ (HasWide is os)
not_selected is os none h = none h.width record { selector = h.selector; typed = h.typed; int = h.int }

pub switched : (is : List PlainInst) (i : PlainInst) → IsMisswitched is i → i.opcode ≡ opcode.SWITCH
switched is i (IsMisswitched.twice e h) = e
switched is i (IsMisswitched.wide e h) = e

pub must_be_twice : (is : List PlainInst) (i : PlainInst) → IsMisswitched is i → ¬ (HasWide is i.operands)
    → HasTwice (literals_of i.operands)
must_be_twice is i (IsMisswitched.twice e h) none = h
must_be_twice is i (IsMisswitched.wide e h) none = absurd (none h)

pub shown_wide : (is : List PlainInst) (i : PlainInst) (w k : ℕ) → IsMisswitched is i → IsSelector is i.operands w
    → IsWider i.operands w k → (G : Table) → Shows G is i O19 (Operand k)
shown_wide is i w k h s (n, there, wide) G = Shows.wide k (switched is i h) record {
  selector = s.selector;
  typed = s.typed;
  width = w;
  int = s.int;
  literal = n;
  there = there;
  wide = wide;
}

pub shown_twice : (is : List PlainInst) (i : PlainInst) (j k : ℕ) → IsMisswitched is i → AreEqual i.operands j k
    → (G : Table) → Shows G is i O19 (Pair j k)
shown_twice is i j k h e G = Shows.twice j k (switched is i h) e

-- one operand more: it is no literal; it is one that was there; it is a new one
pub apart_none : (os : List Plain) (k : ℕ) → literal_at os k ≡ None → AreApart os k → AreApart os (k + 1)
apart_none os k e h = record {
  none = λ p q l t. elim (cases_lt q k) [
    | inl less ↦ h.none p q less t
    | inr more ↦
        let same : q ≡ k = omega (arith, l, more) in
        none-some t.literal (sym e ∙ subst (λ (x : ℕ). literal_at os x ≡ Some t.literal) same t.other)
  ];
}

pub firsts_none : (os : List Plain) (k : ℕ) (kept : ℕ → ℕ) → literal_at os k ≡ None → AreFirsts os k kept
    → AreFirsts os (k + 1) kept
firsts_none os k kept e h = record {
  before = λ x p s. let b = h.before x p s in (let l = b.0 in omega (arith, l), b.1);
  each = λ p x l t. elim (cases_lt p k) [
    | inl less ↦ h.each p x less t
    | inr more ↦
        let same : p ≡ k = omega (arith, l, more) in
        absurd (none-some x (sym e ∙ subst (λ (y : ℕ). literal_at os y ≡ Some x) same t))
  ];
}

pub apart_new : (os : List Plain) (k n : ℕ) (kept : ℕ → ℕ) → literal_at os k ≡ Some n → kept n ≡ 0
    → AreFirsts os k kept → AreApart os k → AreApart os (k + 1)
apart_new os k n kept e empty firsts h = record {
  none = λ p q l t. elim (cases_lt q k) [
    | inl less ↦ h.none p q less t
    | inr more ↦
        let same : q ≡ k = omega (arith, l, more) in
        let literal : t.literal ≡ n = same_Some t.literal n
        (sym (subst (λ (x : ℕ). literal_at os x ≡ Some t.literal) same t.other) ∙ e) in
        let below : p < k = let b = t.before in omega (arith, b, same) in
        let some : 0 < kept t.literal = firsts.each p t.literal below t.one in
        let none : kept t.literal ≡ 0 = ap kept literal ∙ empty in
        omega (arith, some, none)
  ];
}

pub firsts_new : (os : List Plain) (k n : ℕ) (old new : ℕ → ℕ) → literal_at os k ≡ Some n → AreFirsts os k old
    → ((x : ℕ) → new x ≡ (if nat_eq n x then k + 1 else old x)) → AreFirsts os (k + 1) new
firsts_new os k n old new e h puts = record {
  before = λ x p s. by_before x p s (cases_eq n x);
  each = λ p x l t. by_each p x l t (cases_eq n x);
} where
  by_before : (x p : ℕ) → new x ≡ p + 1 → (n ≡ x) ⊎ (n ≢ x) → (p < k + 1) × (literal_at os p ≡ Some x)
  by_before x p s (inl same) =
      let here : new x ≡ k + 1 = puts x ∙ ap (λ b. if b then k + 1 else old x) (eq-eqb n x same) in
      let place : k ≡ p = omega (arith, s, here) in (
        omega (arith, place),
        subst (λ (q : ℕ). literal_at os q ≡ Some x) place (e ∙ ap Some same),
      )
  by_before x p s (inr other) =
      let there : new x ≡ old x = puts x ∙ ap (λ b. if b then k + 1 else old x) (ne_eqb n x other) in
      let b = h.before x p (sym there ∙ s) in
      (let l = b.0 in omega (arith, l), b.1)

  by_each : (p x : ℕ) → p < k + 1 → literal_at os p ≡ Some x → (n ≡ x) ⊎ (n ≢ x) → 0 < new x
  by_each p x l t (inl same) =
      let here : new x ≡ k + 1 = puts x ∙ ap (λ b. if b then k + 1 else old x) (eq-eqb n x same) in
      omega (arith, here)
  by_each p x l t (inr other) =
      let there : new x ≡ old x = puts x ∙ ap (λ b. if b then k + 1 else old x) (ne_eqb n x other) in
      elim (cases_lt p k) [
        | inl less ↦ (let some = h.each p x less t in omega (arith, some, there))
        | inr more ↦
            let place : p ≡ k = omega (arith, l, more) in
            let literal : n ≡ x = same_Some n x
            (sym e ∙ subst (λ (q : ℕ). literal_at os q ≡ Some x) place t) in
            absurd (other literal)
      ]

-- the two that are found
pub equal_found : (os : List Plain) (k n : ℕ) (kept : ℕ → ℕ) → literal_at os k ≡ Some n → kept n ≢ 0
    → AreFirsts os k kept → AreEqual os (kept n - 1) k
equal_found os k n kept e some h =
    let place : kept n ≡ (kept n - 1) + 1 = omega (arith, some) in
    let b = h.before n (kept n - 1) place in
    record { before = b.0; literal = n; one = b.1; other = e }

-- a literal's operand is there
pub within_literal : (os : List Plain) (k x : ℕ) → literal_at os k ≡ Some x → k < length os
within_literal os k x e = by (slice_get os k) refl where
  by : (o : Option Plain) → slice_get os k ≡ o → k < length os
  by (Some p) there = slice_get_within os k p there
  by None none = absurd (none-some x (sym (ap (option_and_then literal_in) none) ∙ e))

pub all_apart : (os : List Plain) (k : ℕ) → length os ≤ k → AreApart os k → ¬ (HasTwice (literals_of os))
all_apart os k all h twice =
    let two = equal_in os twice in
    let e = two.2 in
    let within = within_literal os two.1 e.literal e.other in
    h.none two.0 two.1 (omega (arith, within, all)) e

pub no_firsts : (os : List Plain) (kept : ℕ → ℕ) → ((x : ℕ) → kept x ≡ 0) → AreFirsts os 0 kept
no_firsts os kept empty = record {
  before = λ x p s. let none = empty x in absurd (omega (arith, s, none));
  each = λ p x l t. absurd (omega (arith, l));
}

pub none_apart : (os : List Plain) → AreApart os 0
none_apart os = record { none = λ p q l t. omega (arith, l) }

-- no literal is wider, where none of the operands is
pub narrow_by : (os : List Plain) (w n : ℕ) → length os ≤ n → ((j : ℕ) → j < n → ¬ (IsWider os w j)) → AreNarrow os w
narrow_by os w n all none = λ k x e.
    let within = within_literal os k x e in
    elim (cases_lt x (2 ^ w)) [
      | inl less ↦ less
      | inr more ↦ absurd (none k (omega (arith, within, all)) (x, e, more))
    ]
