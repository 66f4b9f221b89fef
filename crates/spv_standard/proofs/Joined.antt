-- The first broken rule of stage O, by what each crate answers; and what is told of it.
use Rattle.std.proofs.Common.{◌≡◌, ◌∙◌, ℕ, List, Option, Some, None, inl, inr, refl, sym, ap, subst, arith}
use Rattle.std.proofs.lemmas.Bool.{cases_order}
use Rattle.spv_table.specs.Table.{Table}
use Rattle.spv_module.specs.Operand.{PlainInst}
use Rattle.spv_module.specs.declared.fault.Rule.{Rule}
use Rattle.spv_module.specs.declared.fault.Rule.TheVariants.{O4}
use Rattle.spv_module.specs.declared.fault.Stop.{Stop}
use Rattle.spv_module.specs.declared.fault.Stop.TheVariants.{Fault, Memory}
use Rattle.spv_extended.specs.declared.reach.Reach.TheVariants.{OpenCl}
use Rattle.spv_layout.specs.First.{IsFirst, rank_of, stage_of}
use Rattle.spv_layout.specs.Place.{first_word_of}
use Rattle.spv_layout.specs.Stage.{of_standard}
use Rattle.spv_layout.specs.inner.Outcome.{IsStopAt}
use Rattle.spv_block_order.specs.Broken as by_order
use Rattle.spv_declarations.specs.Broken as by_declarations
use Rattle.spv_interfaces.specs.Broken as by_interfaces
use Rattle.spv_interfaces.specs.Interface.{IsMisfaced}
use Rattle.spv_interfaces.specs.inner.First as misfaced_first
use Rattle.spv_standard.specs.Broken.{KernelBroken, IsRefusal}
use Rattle.spv_standard.specs.declared.found.Found.{Found}
use Rattle.spv_standard.specs.inner.Alone.{Alone}
use Rattle.spv_standard.specs.inner.Earlier.{IsEarlier}
use Rattle.spv_standard.specs.inner.First.{Either, IsFirstIn}
use Rattle.spv_standard.specs.inner.Found.{found_by}
use Rattle.spv_standard.proofs.Earlier.{earlier_first, first_same}

-- The rules on order and declarations, with those on interfaces, and all, in the order in which the answers are put
-- together.
abbrev Two : Table → List PlainInst → Rule → ℕ → Type 0
Two G is = Either (by_order.Broken G is) (by_declarations.Broken G is)

abbrev Three : Table → ℕ → List PlainInst → Rule → ℕ → Type 0
Three G minor is = Either (Two G is) (by_interfaces.Broken G minor is)

abbrev All : Table → ℕ → List PlainInst → Rule → ℕ → Type 0
All G minor is = Either (Three G minor is) (Alone G minor is)

to_all : (G : Table) (minor : ℕ) (is : List PlainInst) (r : Rule) (n : ℕ) → All G minor is r n
    → KernelBroken G minor is r n
to_all G minor is r n (inl (inl (inl b))) = KernelBroken.of_order r n b
to_all G minor is r n (inl (inl (inr b))) = KernelBroken.of_declarations r n b
to_all G minor is r n (inl (inr b)) = KernelBroken.of_interfaces r n b
to_all G minor is r n (inr (inl (inl b))) = KernelBroken.of_operands r n b
to_all G minor is r n (inr (inl (inr b))) = KernelBroken.of_versions r n b
to_all G minor is r n (inr (inr b)) = KernelBroken.of_limits r n b

of_all : (G : Table) (minor : ℕ) (is : List PlainInst) (r : Rule) (n : ℕ) → KernelBroken G minor is r n
    → All G minor is r n
of_all G minor is _ _ (KernelBroken.of_order r n b) = inl (inl (inl b))
of_all G minor is _ _ (KernelBroken.of_declarations r n b) = inl (inl (inr b))
of_all G minor is _ _ (KernelBroken.of_interfaces r n b) = inl (inr b)
of_all G minor is _ _ (KernelBroken.of_operands r n b) = inr (inl (inl b))
of_all G minor is _ _ (KernelBroken.of_versions r n b) = inr (inl (inr b))
of_all G minor is _ _ (KernelBroken.of_limits r n b) = inr (inr b)

-- what is answered, put together
pub record AreAnswers (G : Table) (minor : ℕ) (is : List PlainInst) (result : Option Found) : Type 0 where
  pub order : Option Found
  pub declarations : Option Found
  pub interfaces : Option Found
  pub alone : Option Found
  pub two : Option Found
  pub three : Option Found
  pub in_order : IsFirstIn (by_order.Broken G is) order
  pub in_declarations : IsFirstIn (by_declarations.Broken G is) declarations
  pub in_interfaces : IsFirstIn (by_interfaces.Broken G minor is) interfaces
  pub in_insts : IsFirstIn (Alone G minor is) alone
  pub of_two : IsEarlier order declarations two
  pub of_three : IsEarlier two interfaces three
  pub of_all : IsEarlier three alone result

pub joined : (G : Table) (minor : ℕ) (is : List PlainInst) (result : Option Found) → AreAnswers G minor is result
    → IsFirstIn (KernelBroken G minor is) result
joined G minor is result a =
    let two = earlier_first (by_order.Broken G is) (by_declarations.Broken G is) a.order a.declarations a.two
    a.in_order a.in_declarations a.of_two in
    let three = earlier_first (Two G is) (by_interfaces.Broken G minor is) a.two a.interfaces a.three two
    a.in_interfaces a.of_three in
    let all = earlier_first (Three G minor is) (Alone G minor is) a.three a.alone result three a.in_insts a.of_all in
    first_same (All G minor is) (KernelBroken G minor is) result (to_all G minor is) (of_all G minor is) all

-- the crate with one rule
abbrev OneBroken : Rule → (ℕ → Type 0) → Rule → ℕ → Type 0
OneBroken r P q n = (q ≡ r) × P n

one_first : (r : Rule) (P : ℕ → Type 0) (o : Option ℕ) → stage_of r ≡ of_standard → misfaced_first.IsFirstOf P o
    → IsFirstIn (OneBroken r P) (found_by r o)
one_first r P None s none = λ q n t b. none n b.1
one_first r P (Some n) s first = record {
  of_stage = s;
  broken = (refl, first.0);
  least = λ q m t b. elim (cases_order n m) [
    | inl same ↦ inr (same, let e : rank_of q ≡ rank_of r = ap rank_of b.0 in omega (arith, e))
    | inr apart ↦ elim apart [ inl less ↦ inl less | inr more ↦ absurd (first.1 m more b.1) ]
  ];
}

to_misfaced : (G : Table) (minor : ℕ) (is : List PlainInst) (q : Rule) (n : ℕ)
    → OneBroken O4 (IsMisfaced G minor is) q n → by_interfaces.Broken G minor is q n
to_misfaced G minor is q n b =
    subst (λ (r : Rule). by_interfaces.Broken G minor is r n) (sym b.0) (by_interfaces.misfaced n b.1)

of_misfaced : (G : Table) (minor : ℕ) (is : List PlainInst) (q : Rule) (n : ℕ) → by_interfaces.Broken G minor is q n
    → OneBroken O4 (IsMisfaced G minor is) q n
of_misfaced G minor is _ _ (by_interfaces.misfaced n h) = (refl, h)

pub interfaces_first : (G : Table) (minor : ℕ) (is : List PlainInst) (o : Option ℕ)
    → misfaced_first.IsFirstOf (IsMisfaced G minor is) o → IsFirstIn (by_interfaces.Broken G minor is) (found_by O4 o)
interfaces_first G minor is o h =
    first_same (OneBroken O4 (IsMisfaced G minor is)) (by_interfaces.Broken G minor is) (found_by O4 o)
    (to_misfaced G minor is) (of_misfaced G minor is) (one_first O4 (IsMisfaced G minor is) o refl h)

-- what is told
stage_by : (G : Table) (minor : ℕ) (is : List PlainInst) (o : Option Found) → o ≡ None
    → IsFirstIn (KernelBroken G minor is) o → (r : Rule) (n : ℕ) → stage_of r ≡ of_standard
    → ¬ (KernelBroken G minor is r n)
stage_by G minor is o e h = subst (λ (x : Option Found). IsFirstIn (KernelBroken G minor is) x) e h

pub told : (G : Table) (minor : ℕ) (is : List PlainInst) (r : Rule) (n : ℕ) (stop : Stop)
    → IsFirst (KernelBroken G minor is) of_standard r n → IsStopAt is r n stop
    → IsRefusal G (OpenCl minor) is stop
told G minor is r n Memory first h = absurd h
told G minor is r n (Fault f) first (e, where_at, word) =
    let one : IsFirst (KernelBroken G minor is) of_standard f.rule n =
    subst (λ (q : Rule). IsFirst (KernelBroken G minor is) of_standard q n) (sym e) first in (
      subst (λ (m : ℕ). IsFirst (KernelBroken G minor is) of_standard f.rule m) (sym where_at) one,
      word ∙ ap (first_word_of is) (sym where_at),
    )
