-- Y10: what a look at the types of the calls of OpenCL.std finds.
use Rattle.std.proofs.Common.{◌≡◌, ◌<◌, ◌≤◌, ℕ, List, Some, None, inl, inr, refl, true, false, IsTrue, ap, length, arith}
use Rattle.std.proofs.Math.Nat.{eq-or-lt_of_le}
use Rattle.std.proofs.lemmas.Bool.{cases_lt}
use Rattle.std.proofs.lemmas.Option.{slice_get_within}
use Rattle.spv_module.specs.Operand.{PlainInst}
use Rattle.spv_module.specs.declared.fault.Rule.{Rule}
use Rattle.spv_module.specs.declared.fault.Rule.TheVariants.{Y10}
use Rattle.spv_module.specs.declared.fault.Stop.{Stop}
use Rattle.spv_module.specs.declared.fault.Stop.TheVariants.{Fault, Memory}
use Rattle.spv_extended.specs.declared.reach.Reach.{Reach}
use Rattle.spv_std_types.specs.Broken.{Broken, asks_types, mistyped}
use Rattle.spv_std_types.specs.Mistyped.{IsFirstMistyped}
use Rattle.spv_std_types.proofs.Brokens.{of_call, of_reach, of_rule}
use Rattle.spv_layout.specs.First.{IsFirst, rank_of}
use Rattle.spv_layout.specs.Stage.{of_std_types}
use Rattle.spv_layout.specs.inner.Outcome.{IsStopAt}
use Rattle.spv_check.specs.std_types.Outcome.{IsRefusal}

pub types_not_asked : (reach : Reach) (is : List PlainInst) → asks_types reach ≡ false → (r : Rule) (n : ℕ)
    → ¬ (Broken reach is r n)
types_not_asked reach is e r n b =
    let o = of_reach reach is r n b in
    let no_true : false ≡ true = rw e at o in
    cc

pub none_broken : (reach : Reach) (is : List PlainInst) → IsFirstMistyped is None → (r : Rule) (n : ℕ)
    → ¬ (Broken reach is r n)
none_broken reach is none r n b = none n (of_call reach is r n b)

first : (reach : Reach) (is : List PlainInst) (n : ℕ) → IsTrue (asks_types reach) → IsFirstMistyped is (Some n)
    → IsFirst (Broken reach is) of_std_types Y10 n
first reach is n o h = record {
  of_stage = refl;
  broken = mistyped n o h.0;
  least = λ q m s b.
      let up : n ≤ m = elim (cases_lt m n) [
        | inl l ↦ absurd (h.1 m l (of_call reach is q m b))
        | inr g ↦
            omega (arith, g)
      ] in
      elim (eq-or-lt_of_le up) [
        | inl e ↦ inr (
          e,
          let same : rank_of q ≡ rank_of Y10 = ap rank_of (of_rule reach is q m b) in
              omega (arith, same),
        )
        | inr l ↦ inl l
      ];
}

pub refused_at : (reach : Reach) (is : List PlainInst) (n : ℕ) (s : Stop) → IsTrue (asks_types reach)
    → IsFirstMistyped is (Some n) → IsStopAt is Y10 n s → IsRefusal reach is s
refused_at reach is n Memory o h s = tt
refused_at reach is n (Fault f) o h s = (rw (s.0, s.1) (first reach is n o h), rw s.1 s.2)

pub call_within : (is : List PlainInst) (n : ℕ) → IsFirstMistyped is (Some n) → n < length is
call_within is n h = slice_get_within is n h.0.1.inst h.0.1.there
