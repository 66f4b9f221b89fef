-- Y9: what a look at the calls of extended instructions finds.
use Rattle.std.proofs.Common.{◌≡◌, ◌<◌, ◌≤◌, ℕ, List, Option, Some, None, Result, Ok, Err, inl, inr, refl, true, false, IsTrue, ap, length, arith}
use Rattle.std.proofs.Math.Nat.{eq-or-lt_of_le}
use Rattle.std.specs.Prelude.{IfErr, IfOk}
use Rattle.std.proofs.lemmas.Bool.{cases_lt}
use Rattle.std.proofs.lemmas.Option.{slice_get_within}
use Rattle.spv_module.specs.Operand.{PlainInst}
use Rattle.spv_module.specs.declared.fault.Rule.{Rule}
use Rattle.spv_module.specs.declared.fault.Rule.TheVariants.{Y9}
use Rattle.spv_module.specs.declared.fault.Stop.{Stop}
use Rattle.spv_module.specs.declared.fault.Stop.TheVariants.{Fault, Memory}
use Rattle.spv_extended.specs.Broken.{Broken, miscalled}
use Rattle.spv_extended.specs.Miscalled.{IsFirstMiscalled}
use Rattle.spv_extended.specs.Reach.{opens}
use Rattle.spv_extended.specs.declared.reach.Reach.{Reach}
use Rattle.spv_extended.specs.declared.reach.Reach.TheVariants.{Profile, Extended, OpenCl}
use Rattle.spv_extended.proofs.Brokens.{of_call, of_reach, of_rule}
use Rattle.spv_std_types.specs.Broken.{asks_types}
use Rattle.spv_std_types.specs.Mistyped.{IsFirstMistyped}
use Rattle.spv_layout.specs.First.{IsFirst, rank_of}
use Rattle.spv_layout.specs.Stage.{of_extended}
use Rattle.spv_layout.specs.inner.Outcome.{IsStopAt}
use Rattle.spv_check.specs.extended.Outcome.{IsRefusal}

pub not_asked : (reach : Reach) (is : List PlainInst) → opens reach ≡ false → (r : Rule) (n : ℕ)
    → ¬ (Broken reach is r n)
not_asked reach is e r n b =
    let o = of_reach reach is r n b in
    let no_true : false ≡ true = rw e at o in
    cc

pub none_broken : (reach : Reach) (is : List PlainInst) → IsFirstMiscalled is None → (r : Rule) (n : ℕ)
    → ¬ (Broken reach is r n)
none_broken reach is none r n b = none n (of_call reach is r n b)

first : (reach : Reach) (is : List PlainInst) (n : ℕ) → IsTrue (opens reach) → IsFirstMiscalled is (Some n)
    → IsFirst (Broken reach is) of_extended Y9 n
first reach is n o h = record {
  of_stage = refl;
  broken = miscalled n o h.0;
  least = λ q m s b.
      let up : n ≤ m = elim (cases_lt m n) [
        | inl l ↦ absurd (h.1 m l (of_call reach is q m b))
        | inr g ↦
            omega (arith, g)
      ] in
      elim (eq-or-lt_of_le up) [
        | inl e ↦ inr (
          e,
          let same : rank_of q ≡ rank_of Y9 = ap rank_of (of_rule reach is q m b) in
              omega (arith, same),
        )
        | inr l ↦ inl l
      ];
}

pub refused_at : (reach : Reach) (is : List PlainInst) (n : ℕ) (s : Stop) → IsTrue (opens reach)
    → IsFirstMiscalled is (Some n) → IsStopAt is Y9 n s → IsRefusal reach is s
refused_at reach is n Memory o h s = tt
refused_at reach is n (Fault f) o h s = (rw (s.0, s.1) (first reach is n o h), rw s.1 s.2)

pub call_within : (is : List PlainInst) (n : ℕ) → IsFirstMiscalled is (Some n) → n < length is
call_within is n h = slice_get_within is n h.0.inst h.0.there

-- where the types of calls are asked, extended instructions are looked at whole
pub asked_opens : (reach : Reach) → asks_types reach ≡ true → opens reach ≡ true
asked_opens Profile e = absurd (let no : false ≡ true = e in cc)
asked_opens Extended e = refl
asked_opens (OpenCl minor) e = refl

-- what one look at the calls for both rules says of how far the module is looked at
pub unbroken_by : (reach : Reach) (is : List PlainInst) (o : Result (Option ℕ) Stop)
    → IfOk o (λ _. IsFirstMiscalled is None) → IfOk o (λ _. (r : Rule) (n : ℕ) → ¬ (Broken reach is r n))
unbroken_by reach is (Ok m) h = none_broken reach is h
unbroken_by reach is (Err s) h = tt

pub refused_by : (reach : Reach) (is : List PlainInst) (o : Result (Option ℕ) Stop) → opens reach ≡ true
    → IfErr o (λ s. (r : Reach) → opens r ≡ true → IsRefusal r is s) → IfErr o (λ s. IsRefusal reach is s)
refused_by reach is (Ok m) e h = tt
refused_by reach is (Err s) e h = h reach e

pub mistyped_by : (reach : Reach) (is : List PlainInst) (o : Result (Option ℕ) Stop) → IfOk o (IsFirstMistyped is)
    → IfOk o (λ m. asks_types reach ≡ true → IsFirstMistyped is m)
mistyped_by reach is (Ok m) h = λ _. h
mistyped_by reach is (Err s) h = tt
