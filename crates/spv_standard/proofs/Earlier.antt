-- The first broken rule of two relations, by the first of each.
use Rattle.std.proofs.Common.{◌≡◌, ◌<◌, ◌≤◌, ◌⊎◌, ℕ, Option, Some, None, inl, inr, refl, sym, subst, arith}
use Rattle.std.specs.Prelude.{IfSome}
use Rattle.std.proofs.lemmas.Bool.{cases_order, cases_lt}
use Rattle.spv_module.specs.declared.fault.Rule.{Rule}
use Rattle.spv_layout.specs.First.{IsFirst, rank_of, stage_of}
use Rattle.spv_layout.specs.Stage.{of_standard}
use Rattle.spv_standard.specs.declared.found.Found.{Found}
use Rattle.spv_standard.specs.inner.Earlier.{ComesBefore, IsEarlier}
use Rattle.spv_standard.specs.inner.First.{Either, IsFirstIn}

-- the order is total
pub before_itself : (f : Found) → ComesBefore f f
before_itself f = inr (refl, omega arith)

pub turned : (a b : Found) → ¬ (ComesBefore a b) → ComesBefore b a
turned a b never = elim (cases_order a.inst b.inst) [
  | inl same ↦ inr (
    sym same,
    elim (cases_lt (rank_of a.rule) (rank_of b.rule)) [
      | inl l ↦ absurd (never (inr (same, omega (arith, l))))
      | inr g ↦ omega (arith, g)
    ],
  )
  | inr apart ↦ elim apart [ inl less ↦ absurd (never (inl less)) | inr more ↦ inl more ]
]

pub second_told : (one other : Option Found) (a b : Found) → one ≡ Some a → other ≡ Some b → ¬ (ComesBefore a b)
    → IsEarlier one other (Some b)
second_told one other a b e f never = rw (e, f) (inr refl, turned a b never, before_itself b)

chained : (f a : Found) (q : Rule) (m : ℕ) → ComesBefore f a
    → (a.inst < m) ⊎ ((a.inst ≡ m) × (rank_of a.rule ≤ rank_of q))
    → (f.inst < m) ⊎ ((f.inst ≡ m) × (rank_of f.rule ≤ rank_of q))
chained f a q m (inl l) (inl k) = inl (omega (arith, l, k))
chained f a q m (inl l) (inr e) = let s = e.0 in inl (omega (arith, l, s))
chained f a q m (inr e) (inl k) = let s = e.0 in inl (omega (arith, s, k))
chained f a q m (inr d) (inr e) =
    let s = d.0 in
    let t = e.0 in
    let u = d.1 in
    let v = e.1 in
    inr (omega (arith, s, t), omega (arith, u, v))

above : (P : Rule → ℕ → Type 0) (o : Option Found) (f : Found) (q : Rule) (m : ℕ) → IsFirstIn P o
    → IfSome o (ComesBefore f) → stage_of q ≡ of_standard → P q m
    → (f.inst < m) ⊎ ((f.inst ≡ m) × (rank_of f.rule ≤ rank_of q))
above P None f q m none b s p = absurd (none q m s p)
above P (Some a) f q m first b s p = chained f a q m b (first.least q m s p)

here : (P : Rule → ℕ → Type 0) (o : Option Found) (f : Found) → o ≡ Some f → IsFirstIn P o
    → IsFirst P of_standard f.rule f.inst
here P o f e h = subst (λ (x : Option Found). IsFirstIn P x) e h

nowhere : (P : Rule → ℕ → Type 0) (o : Option Found) → o ≡ None → IsFirstIn P o → IsFirstIn P None
nowhere P o e h = subst (λ (x : Option Found). IsFirstIn P x) e h

pub earlier_first : (P Q : Rule → ℕ → Type 0) (one other result : Option Found) → IsFirstIn P one → IsFirstIn Q other
    → IsEarlier one other result → IsFirstIn (Either P Q) result
earlier_first P Q one other None p q e = none where
  none : (r : Rule) (n : ℕ) → stage_of r ≡ of_standard → ¬ (Either P Q r n)
  none r n s (inl b) = nowhere P one e.0 p r n s b
  none r n s (inr b) = nowhere Q other e.1 q r n s b
earlier_first P Q one other (Some f) p q e = record {
  of_stage = elim e.0 [ inl a ↦ (here P one f a p).of_stage | inr b ↦ (here Q other f b q).of_stage ];
  broken = elim e.0 [ inl a ↦ inl (here P one f a p).broken | inr b ↦ inr (here Q other f b q).broken ];
  least = least;
} where
  least : (r : Rule) (m : ℕ) → stage_of r ≡ of_standard → Either P Q r m
      → (f.inst < m) ⊎ ((f.inst ≡ m) × (rank_of f.rule ≤ rank_of r))
  least r m s (inl b) = above P one f r m p e.1 s b
  least r m s (inr b) = above Q other f r m q e.2 s b

-- relations that say the same have the same first
pub first_same : (P Q : Rule → ℕ → Type 0) (o : Option Found) → ((r : Rule) (n : ℕ) → P r n → Q r n)
    → ((r : Rule) (n : ℕ) → Q r n → P r n) → IsFirstIn P o → IsFirstIn Q o
first_same P Q None to back none = λ r n s b. none r n s (back r n b)
first_same P Q (Some f) to back first = record {
  of_stage = first.of_stage;
  broken = to f.rule f.inst first.broken;
  least = λ q m s b. first.least q m s (back q m b);
}
