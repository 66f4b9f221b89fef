-- The first of the rules that single instructions break, by what is told at one instruction after the other.
use Rattle.std.proofs.Common.{◌≡◌, ◌<◌, ◌≤◌, ◌+◌, ℕ, List, Bool, true, false, not, Option, Some, None, inl, inr, length}
use Rattle.std.proofs.Common.{refl, sym, subst, arith}
use Rattle.std.specs.Prelude.{is_some, slice_get}
use Rattle.std.proofs.lemmas.Bool.{cases_order}
use Rattle.spv_table.specs.Table.{Table}
use Rattle.spv_module.specs.Operand.{Plain, PlainInst}
use Rattle.spv_module.specs.declared.fault.Rule.{Rule}
use Rattle.spv_module.specs.declared.fault.Rule.TheVariants.{O21, O22}
use Rattle.spv_layout.specs.First.{rank_of, stage_of}
use Rattle.spv_layout.specs.Stage.{of_standard}
use Rattle.spv_kernel_operands.specs.Broken as by_operands
use Rattle.spv_kernel_operands.specs.inner.First as operands_first
use Rattle.spv_kernel_operands.proofs.Firsts.{broken_there}
use Rattle.spv_versions.specs.Broken as by_versions
use Rattle.spv_versions.specs.Missing.{IsLateAt}
use Rattle.spv_versions.specs.declared.late.Late.{Late}
use Rattle.spv_limits.specs.Broken as by_limits
use Rattle.spv_limits.specs.Past.{IsPast}
use Rattle.spv_limits.specs.declared.past.Counts.{Counts}
use Rattle.spv_limits.specs.inner.Counting.{IsUpTo}
use Rattle.spv_standard.specs.declared.asked.Asked.{Asked}
use Rattle.spv_standard.specs.inner.Asked.{IsAskedAt, IsAskedBy}
use Rattle.spv_standard.specs.declared.found.Found.{Found}
use Rattle.spv_standard.specs.inner.Alone.{Alone, At}
use Rattle.spv_standard.specs.inner.Earlier.{IsEarlier}
use Rattle.spv_standard.specs.inner.First.{Either, IsFirstIn}
use Rattle.spv_standard.specs.inner.Told.{AreTold}
use Rattle.spv_standard.proofs.Earlier.{earlier_first, first_same}
use Rattle.spv_standard.proofs.Silences.{hit_told, long_told}
use Rattle.spv_standard.proofs.Stages.{of_operands}
use Rattle.spv_standard.proofs.Within.{limits_within, versions_within}

-- one rule of a crate at an instruction, and none
pub one_at : (P : Rule → ℕ → Type 0) (n : ℕ) (r : Rule) → stage_of r ≡ of_standard → P r n
    → ((q : Rule) → P q n → rank_of r ≤ rank_of q) → IsFirstIn (At n P) (Some (record { rule = r; inst = n }))
one_at P n r s b least = record {
  of_stage = s;
  broken = (refl, b);
  least = λ q m t h. inr (sym h.0, least q h.1);
}

pub none_at : (P : Rule → ℕ → Type 0) (n : ℕ) → ((r : Rule) → ¬ (P r n)) → IsFirstIn (At n P) None
none_at P n none = λ r m s h. none r h.1

pub operands_at : (G : Table) (is : List PlainInst) (n : ℕ) (r : Rule)
    → operands_first.IsFirstOf (λ q. by_operands.Broken G is q n) (Some r)
    → IsFirstIn (At n (by_operands.Broken G is)) (Some (record { rule = r; inst = n }))
operands_at G is n r h = one_at (by_operands.Broken G is) n r (of_operands G is r n h.0) h.0 h.1

version_least : (G : Table) (minor : ℕ) (is : List PlainInst) (n : ℕ) (q : Rule) → by_versions.Broken G minor is q n
    → rank_of O21 ≤ rank_of q
version_least G minor is _ _ (by_versions.late n h) = omega arith

pub version_at : (G : Table) (minor : ℕ) (is : List PlainInst) (n : ℕ) → IsLateAt G minor is n
    → IsFirstIn (At n (by_versions.Broken G minor is)) (Some (record { rule = O21; inst = n }))
version_at G minor is n h =
    one_at (by_versions.Broken G minor is) n O21 refl (by_versions.late n h) (version_least G minor is n)

not_late : (G : Table) (minor : ℕ) (is : List PlainInst) (n : ℕ) (q : Rule) → by_versions.Broken G minor is q n
    → IsLateAt G minor is n
not_late G minor is _ _ (by_versions.late n h) = h

pub no_version_at : (G : Table) (minor : ℕ) (is : List PlainInst) (n : ℕ) → ¬ (IsLateAt G minor is n)
    → IsFirstIn (At n (by_versions.Broken G minor is)) None
no_version_at G minor is n never =
    none_at (by_versions.Broken G minor is) n (λ r b. never (not_late G minor is n r b))

limits_least : (is : List PlainInst) (n : ℕ) (q : Rule) → by_limits.Broken is q n → rank_of O22 ≤ rank_of q
limits_least is _ _ (by_limits.past n h) = omega arith

pub limits_at : (is : List PlainInst) (n : ℕ) → IsPast is n
    → IsFirstIn (At n (by_limits.Broken is)) (Some (record { rule = O22; inst = n }))
limits_at is n h = one_at (by_limits.Broken is) n O22 refl (by_limits.past n h) (limits_least is n)

not_past : (is : List PlainInst) (n : ℕ) (q : Rule) → by_limits.Broken is q n → IsPast is n
not_past is _ _ (by_limits.past n h) = h

pub no_limits_at : (is : List PlainInst) (n : ℕ) → ¬ (IsPast is n) → IsFirstIn (At n (by_limits.Broken is)) None
no_limits_at is n never = none_at (by_limits.Broken is) n (λ r b. never (not_past is n r b))

-- the answers at an instruction, put together
to_alone : (G : Table) (minor : ℕ) (is : List PlainInst) (n : ℕ) (r : Rule) (m : ℕ)
    → Either (Either (At n (by_operands.Broken G is)) (At n (by_versions.Broken G minor is))) (At n (by_limits.Broken is)) r m
    → At n (Alone G minor is) r m
to_alone G minor is n r m (inl (inl h)) = (h.0, inl (inl h.1))
to_alone G minor is n r m (inl (inr h)) = (h.0, inl (inr h.1))
to_alone G minor is n r m (inr h) = (h.0, inr h.1)

of_alone : (G : Table) (minor : ℕ) (is : List PlainInst) (n : ℕ) (r : Rule) (m : ℕ) → At n (Alone G minor is) r m
    → Either (Either (At n (by_operands.Broken G is)) (At n (by_versions.Broken G minor is))) (At n (by_limits.Broken is)) r m
of_alone G minor is n r m (same, inl (inl h)) = inl (inl (same, h))
of_alone G minor is n r m (same, inl (inr h)) = inl (inr (same, h))
of_alone G minor is n r m (same, inr h) = inr (same, h)

pub alone_at : (G : Table) (minor : ℕ) (is : List PlainInst) (n : ℕ) (operands version limits two result : Option Found)
    → IsFirstIn (At n (by_operands.Broken G is)) operands → IsFirstIn (At n (by_versions.Broken G minor is)) version
    → IsFirstIn (At n (by_limits.Broken is)) limits → IsEarlier operands version two → IsEarlier two limits result
    → IsFirstIn (At n (Alone G minor is)) result
alone_at G minor is n operands version limits two result a b c e f =
    let P = At n (by_operands.Broken G is) in
    let Q = At n (by_versions.Broken G minor is) in
    let R = At n (by_limits.Broken is) in
    first_same (Either (Either P Q) R) (At n (Alone G minor is)) result (to_alone G minor is n) (of_alone G minor is n)
    (earlier_first (Either P Q) R two limits result (earlier_first P Q operands version two a b e) c f)

-- nothing is told, so that of two answers the second is none
pub second_none : (one other result : Option Found) → IsEarlier one other result → result ≡ None → other ≡ None
second_none one other None e h = e.1
second_none one other (Some f) e h = cc

-- no rule is broken below an instruction
abbrev pub NoneBelow : Table → ℕ → List PlainInst → ℕ → Type 0
NoneBelow G minor is n = (r : Rule) (m : ℕ) → stage_of r ≡ of_standard → m < n → ¬ (Alone G minor is r m)

by_none : (P : Rule → ℕ → Type 0) (o : Option Found) → o ≡ None → IsFirstIn P o → IsFirstIn P None
by_none P o e h = subst (λ (x : Option Found). IsFirstIn P x) e h

pub none_further : (G : Table) (minor : ℕ) (is : List PlainInst) (n : ℕ) (o : Option Found) → o ≡ None
    → IsFirstIn (At n (Alone G minor is)) o → NoneBelow G minor is n → NoneBelow G minor is (n + 1)
none_further G minor is n o e here below r m s l b = elim (cases_order m n) [
  | inl same ↦ by_none (At n (Alone G minor is)) o e here r m s
      (same, subst (λ (k : ℕ). Alone G minor is r k) same b)
  | inr apart ↦ elim apart [ inl less ↦ below r m s less b | inr more ↦ absurd (omega (arith, l, more)) ]
]

by_some : (P : Rule → ℕ → Type 0) (o : Option Found) (f : Found) → o ≡ Some f → IsFirstIn P o → IsFirstIn P (Some f)
by_some P o f e h = subst (λ (x : Option Found). IsFirstIn P x) e h

pub first_here : (G : Table) (minor : ℕ) (is : List PlainInst) (n : ℕ) (o : Option Found) (f : Found) → o ≡ Some f
    → IsFirstIn (At n (Alone G minor is)) o → NoneBelow G minor is n → IsFirstIn (Alone G minor is) (Some f)
first_here G minor is n o f e h below =
    let here = by_some (At n (Alone G minor is)) o f e h in record {
      of_stage = here.of_stage;
      broken = subst (λ (k : ℕ). Alone G minor is f.rule k) (sym here.broken.0) here.broken.1;
      least = λ q m s b. elim (cases_order m n) [
        | inl same ↦ here.least q m s (same, subst (λ (k : ℕ). Alone G minor is q k) same b)
        | inr apart ↦ elim apart [
          | inl less ↦ absurd (below q m s less b)
          | inr more ↦ let at = here.broken.0 in inl (omega (arith, at, more))
        ]
      ];
    }

-- no rule is broken, where none is below the end
within : (G : Table) (minor : ℕ) (is : List PlainInst) (r : Rule) (m : ℕ) → Alone G minor is r m → m < length is
within G minor is r m (inl (inl b)) = broken_there G is r m b
within G minor is r m (inl (inr b)) = versions_within G minor is r m b
within G minor is r m (inr b) = limits_within is r m b

pub none_alone : (G : Table) (minor : ℕ) (is : List PlainInst) (n : ℕ) → length is ≤ n → NoneBelow G minor is n
    → IsFirstIn (Alone G minor is) None
none_alone G minor is n past below =
    λ r m s b. let w = within G minor is r m b in below r m s (omega (arith, w, past)) b

-- what is not asked, by the tests of it
pub denied : (b : Bool) → not b ≡ false → b ≡ true
denied true e = refl
denied false e = cc

pub never_so : {P : Type 0} (b : Bool) → b ≡ false → b ≡ true → P
never_so true f t = let no : true ≡ false = f in absurd (cc)
never_so false f t = let no : false ≡ true = t in absurd (cc)

-- what there is to ask of an instruction, where none of its operands calls for more than its opcode does
pub none_same : (l : Late) (i : PlainInst) (os : List Plain) → os ≡ i.operands
    → (¬ (AreTold l os)) × (length os ≤ 255) → (¬ (AreTold l i.operands)) × (length i.operands ≤ 255)
none_same l i os e h = subst (λ (xs : List Plain). (¬ (AreTold l xs)) × (length xs ≤ 255)) e h

pub asked_at : (G : Table) (minor : ℕ) (is : List PlainInst) (n : ℕ) (l : Late) (i : PlainInst) (a : Asked)
    → slice_get is n ≡ Some i → IsAskedBy G minor is l i.opcode a
    → (¬ (AreTold l i.operands)) × (length i.operands ≤ 255) → IsAskedAt G minor is n a
asked_at G minor is n l i a at asked none = record {
  operands = λ e r. asked.operands e n i at refl r;
  version = λ e. asked.version e n i at refl (λ h. none.0 (hit_told l i.operands h));
  limits = λ e counts up_to.
      asked.limits e n i counts at refl (λ h. none.0 (long_told l i.operands h)) none.1 up_to;
}

pub nothing_at : (G : Table) (minor : ℕ) (is : List PlainInst) (n : ℕ) (a : Asked) (counts : Counts)
    → IsAskedAt G minor is n a → a.operands ≡ false → a.version ≡ false → a.limits ≡ false → IsUpTo is n counts
    → IsFirstIn (At n (Alone G minor is)) None × IsUpTo is (n + 1) counts
nothing_at G minor is n a counts asked x y z up_to =
    let l = asked.limits z counts up_to in (
      λ r m s h. elim h.1 [
        | inl h ↦ elim h [
          | inl b ↦ asked.operands x r b
          | inr b ↦ asked.version y (not_late G minor is n r b)
        ]
        | inr b ↦ l.0 (not_past is n r b)
      ],
      l.1,
    )

-- an answer that is none; and where all three are none at an instruction
pub nothing_found : (o : Option Found) → is_some o ≡ false → o ≡ None
nothing_found None e = refl
nothing_found (Some f) e = cc

pub none_of_three : (G : Table) (minor : ℕ) (is : List PlainInst) (n : ℕ) (operands version limits : Option Found)
    → operands ≡ None → version ≡ None → limits ≡ None → IsFirstIn (At n (by_operands.Broken G is)) operands
    → IsFirstIn (At n (by_versions.Broken G minor is)) version → IsFirstIn (At n (by_limits.Broken is)) limits
    → IsFirstIn (At n (Alone G minor is)) None
none_of_three G minor is n operands version limits x y z a b c =
    alone_at G minor is n None None None None None (by_none (At n (by_operands.Broken G is)) operands x a)
    (by_none (At n (by_versions.Broken G minor is)) version y b) (by_none (At n (by_limits.Broken is)) limits z c)
    (refl, refl) (refl, refl)
