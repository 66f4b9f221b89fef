-- O7: targets of a group on which a decoration of the group may not stand.
use Rattle.std.proofs.Common.{◌≡◌, ◌∙◌, ◌⊎◌, ◌↔◌, ◌+◌, ◌<◌, ◌≤◌, inl, inr, ℕ, zero, suc, Bool, refl, sym, ap, subst}
use Rattle.std.proofs.Common.{arith, List, [], ◌∷◌, Option, Some, None, IsTrue, length, Contains}
use Rattle.std.specs.Prelude.{slice_get, MatchOption}
use Rattle.std.proofs.lemmas.Bool.{cases_lt}
use Rattle.std.proofs.lemmas.Option.{none-some, same_Some, slice_get_within}
use Rattle.spv_module.specs.declared.opcode.TheConstants as opcode
use Rattle.spv_module.specs.Operand.{Plain, Id, PlainInst}
use Rattle.spv_declarations.specs.Given.{At, Gives, HasId, behind_first, given_by, group_by}
use Rattle.spv_declarations.specs.Shown.{IsBadTarget, IsGivenBadly}
use Rattle.spv_declarations.specs.Table.{StandsOn}
use Rattle.spv_declarations.specs.declared.said.Said.{Said}
use Rattle.spv_declarations.specs.inner.Misplaced.{IsAnyMisplaced}
use Rattle.spv_declarations.specs.inner.Said.{AreSaid}
use Rattle.spv_declarations.specs.inner.Sets.{HasBoth, IsSaid}
use Rattle.spv_declarations.specs.inner.Shown.{IsBadAt}
use Rattle.spv_declarations.proofs.Misplacing.{known_small, misplaced_in}
use Rattle.spv_declarations.proofs.Mixed.{place_of}
use Rattle.spv_declarations.proofs.Stated.{kept_said, known_misplaced}

-- a target stands behind the first operand
target_place : (os : List Plain) (x : ℕ) → HasId (behind_first os) x
    → (k : ℕ) × (0 < k) × (slice_get os k ≡ Some (Id x))
target_place [] x h = absurd h
target_place (o ∷ os) x h = let r = place_of os x h in (suc r.0, omega arith, r.1)

-- the decorations of a group are those that are given it
abbrev pub AreOf : Said → ℕ → List ℕ → Type 0
AreOf s g ds = (d : ℕ) → d < 4294967295 → Contains ds d ↔ HasBoth s.pairs g d

small : (is : List PlainInst) (d x : ℕ) → ¬ (StandsOn is d x) → d < 4294967295
small is d x bad = known_small d (known_misplaced is d x bad)

pub some_bad : (l : Option ℕ) (is : List PlainInst) (s : Said) (i : PlainInst) (g n : ℕ) (ds : List ℕ)
    → AreSaid l is s → slice_get is n ≡ Some i → group_by opcode.GROUP_DECORATE i ≡ Some g → AreOf s g ds
    → IsGivenBadly is i g → (k d : ℕ) × (0 < k) × IsBadAt is i.operands ds d k
some_bad l is s i g n ds a at e all b =
    let p = target_place i.operands b.target b.names in
    let kept = a.keeps g b.decoration (n, i, at, inl e) (known_misplaced is b.decoration b.target b.bad)
    (b.place, b.inst, b.there, b.gives) in
    (p.0, b.decoration, p.1, ((all b.decoration (small is b.decoration b.target b.bad)).1 kept, (b.target, p.2, b.bad)))

pub given_some : (l : Option ℕ) (is : List PlainInst) (s : Said) (os : List Plain) (g d k : ℕ) (ds : List ℕ)
    → AreSaid l is s → AreOf s g ds → (0 < k) × IsBadAt is os ds d k → IsSaid is (λ j. Gives d j g)
given_some l is s os g d k ds a all b =
    kept_said l is s g d a ((all d (small is d b.1.1.0 b.1.1.2)).0 b.1.0)

pub bad_told : (is : List PlainInst) (i : PlainInst) (g d k m : ℕ) (ds : List ℕ)
    → (0 < k) × IsBadAt is i.operands ds d k → At is (λ j. Gives d j g) m → IsBadTarget is i g k m
bad_told is i g d k m ds b a = record {
  behind = b.0;
  target = b.1.1.0;
  names = b.1.1.1;
  inst = a.0;
  there = a.1;
  decoration = d;
  gives = a.2;
  bad = b.1.1.2;
}

-- one of some decorations may not stand on an id
pub any_bad : (is : List PlainInst) (ds : List ℕ) (d x : ℕ) → Contains ds d → ¬ (StandsOn is d x)
    → IsAnyMisplaced is ds x
any_bad is ds d x c bad = misplaced_in is x ds c.0 d c.1 c.2 bad

-- the test of one operand
pub at_tells : (is : List PlainInst) (os : List Plain) (ds : List ℕ) (k x : ℕ) (o : Option ℕ)
    → slice_get os k ≡ Some (Id x)
    → MatchOption o (¬ (IsAnyMisplaced is ds x)) (λ d. Contains ds d × (¬ (StandsOn is d x)))
    → MatchOption o ((d : ℕ) → ¬ (IsBadAt is os ds d k)) (λ d. IsBadAt is os ds d k)
at_tells is os ds k x None e h = λ d b.
    let p : Id b.1.0 ≡ Id x = same_Some (Id b.1.0) (Id x) (sym b.1.1 ∙ e) in
    let q : b.1.0 ≡ x = cc in
    h (any_bad is ds d x b.0 (subst (λ (z : ℕ). ¬ (StandsOn is d z)) q b.1.2))
at_tells is os ds k x (Some d) e h = (h.0, (x, e, h.1))

pub none_at : (is : List PlainInst) (os : List Plain) (ds : List ℕ) (k : ℕ)
    → ((x : ℕ) → ¬ (slice_get os k ≡ Some (Id x))) → (d : ℕ) → ¬ (IsBadAt is os ds d k)
none_at is os ds k none d b = none b.1.0 b.1.1

-- a pass over operands: one more; and all
pub bad_more : (is : List PlainInst) (os : List Plain) (ds : List ℕ) (k : ℕ) → ((d : ℕ) → ¬ (IsBadAt is os ds d k))
    → ((j d : ℕ) → 0 < j → j < k → ¬ (IsBadAt is os ds d j)) → (j d : ℕ) → 0 < j → j < k + 1
    → ¬ (IsBadAt is os ds d j)
bad_more is os ds k none before j d p lt b = elim (cases_lt j k) [
  | inl l ↦ before j d p l b
  | inr g ↦
      let e : j ≡ k = omega (arith, lt, g) in
      none d (subst (λ (z : ℕ). IsBadAt is os ds d z) e b)
]

pub bad_missed : (is : List PlainInst) (os : List Plain) (ds : List ℕ) (n : ℕ) → length os ≤ n
    → ((j d : ℕ) → 0 < j → j < n → ¬ (IsBadAt is os ds d j)) → ((k d : ℕ) × (0 < k) × IsBadAt is os ds d k) → ⊥
bad_missed is os ds n all none b =
    let w = slice_get_within os b.0 (Id b.3.1.0) b.3.1.1 in
    none b.0 b.1 b.2 (omega (arith, w, all)) b.3

-- the test of what one instruction gives
pub gives_tells : (i : PlainInst) (g d x e : ℕ) (b : Bool) → given_by i ≡ Some (x, e)
    → (IsTrue b ↔ ((x ≡ g) × (e ≡ d))) → IsTrue b ↔ Gives d i g
gives_tells i g d x e b h t = (
  λ y. let p = t.0 y in
      subst (λ (z : ℕ × ℕ). given_by i ≡ Some z) (ap (λ (v : ℕ). (v, e)) p.0 ∙ ap (λ (v : ℕ). (g, v)) p.1) h,
  λ k.
      let q : (x, e) ≡ (g, d) = same_Some (x, e) (g, d) (sym h ∙ k) in
      t.1 (ap (λ (z : ℕ × ℕ). z.0) q, ap (λ (z : ℕ × ℕ). z.1) q),
)
