-- Execution modes, counted.
use Rattle.std.proofs.Common.{◌≡◌, ◌≤◌, ◌+◌, ◌∙◌, ◌&&◌, ℕ, List, ◌∷◌, Bool, true, false, Some, None, take, count_by}
use Rattle.std.proofs.Common.{if◌then◌else◌, nat_eq, nat_lt, refl, sym, ap, subst, inl, inr, arith, eq-eqb, ne_eqb}
use Rattle.std.specs.Prelude.{slice_get}
use Rattle.std.specs.BTreeMap.{BTreeMap}
use Rattle.std.proofs.lemmas.Bool.{cases_eq, eqb-true, false≢true, false_from_ne_true, ltb-true, ltb-false}
use Rattle.std.proofs.lemmas.List.Sums.{count_by_more_yes, count_by_more_no}
use Rattle.std.proofs.lemmas.Option.{get_or_from_slice_get, none-some, same_Some, slice_get_within}
use Rattle.spv_module.specs.Operand.{Plain, Id, PlainInst}
use Rattle.spv_limits.specs.declared.table.Limit.TheVariants as limit
use Rattle.spv_limits.specs.Counted.{has_first_id, modes_before, sets_mode}
use Rattle.spv_limits.specs.Table.{most}
use Rattle.spv_limits.specs.inner.Alone.{mode_in, mode_of}
use Rattle.spv_limits.specs.inner.Counting.{AreModes, HasModeTooMany, IsAnswer}
use Rattle.spv_limits.specs.inner.Kept.{kept}

-- one instruction more that passes a test, or does not
pub count_yes : (p : PlainInst → Bool) (is : List PlainInst) (n : ℕ) (i : PlainInst) → slice_get is n ≡ Some i
    → p i ≡ true → count_by p (take (n + 1) is) ≡ count_by p (take n is) + 1
count_yes p is n i e t = count_by_more_yes p is n i (slice_get_within is n i e)
    (ap p (get_or_from_slice_get is n i i e) ∙ t)

pub count_no : (p : PlainInst → Bool) (is : List PlainInst) (n : ℕ) (i : PlainInst) → slice_get is n ≡ Some i
    → p i ≡ false → count_by p (take (n + 1) is) ≡ count_by p (take n is)
count_no p is n i e t = count_by_more_no p is n i (slice_get_within is n i e)
    (ap p (get_or_from_slice_get is n i i e) ∙ t)

first_id : (os : List Plain) (f : ℕ) → mode_in os ≡ Some f → has_first_id f os ≡ true
first_id (Id x ∷ os) f e = eq-eqb x f (same_Some x f e)
first_id _ f e = absurd (none-some f e)

id_first : (os : List Plain) (f : ℕ) → has_first_id f os ≡ true → mode_in os ≡ Some f
id_first (Id x ∷ os) f e = ap Some (eqb-true x f e)
id_first _ f e = absurd (false≢true e)

mode_sets : (b : Bool) (os : List Plain) (f : ℕ) → (if b then mode_in os else None) ≡ Some f
    → (b && has_first_id f os) ≡ true
mode_sets true os f e = first_id os f e
mode_sets false os f e = absurd (none-some f e)

sets_one : (b : Bool) (os : List Plain) (f : ℕ) → (b && has_first_id f os) ≡ true
    → (if b then mode_in os else None) ≡ Some f
sets_one true os f e = id_first os f e
sets_one false os f e = absurd (false≢true e)

sets : (i : PlainInst) (f : ℕ) → mode_of i ≡ Some f → sets_mode f i ≡ true
sets i f e = mode_sets _ i.operands f e

of_sets : (i : PlainInst) (f : ℕ) → sets_mode f i ≡ true → mode_of i ≡ Some f
of_sets i f e = sets_one _ i.operands f e

pub modes_more : (is : List PlainInst) (n : ℕ) (i : PlainInst) (f count r : ℕ) (m w : BTreeMap ℕ ℕ)
    → slice_get is n ≡ Some i → Some f ≡ mode_of i → count ≡ kept m f
    → ((k : ℕ) → kept w k ≡ (if nat_eq f k then count + 1 else kept m k)) → r ≡ most limit.Modes → AreModes is n m
    → IsAnswer (nat_lt r (count + 1)) (HasModeTooMany is n i) (AreModes is (n + 1) w)
modes_more is n i f count r m w at mode now says top modes = by (nat_lt r (count + 1)) refl
  where
    own : kept w f ≡ count + 1
    own = says f ∙ ap (λ (b : Bool). if b then count + 1 else kept m f) (eq-eqb f f refl)

    other : (k : ℕ) → (f ≡ k → ⊥) → kept w k ≡ kept m k
    other k never = says k ∙ ap (λ (b : Bool). if b then count + 1 else kept m k) (ne_eqb f k never)

    by : (b : Bool) → nat_lt r (count + 1) ≡ b → IsAnswer b (HasModeTooMany is n i) (AreModes is (n + 1) w)
    by true t =
        let less = ltb-true r (count + 1) t in
        let all = modes.counted f in
        let limit255 : r ≡ 255 = top in
        (f, sets i f (sym mode), omega (arith, less, all, now, limit255))
    by false t =
        let small = ltb-false r (count + 1) t in
        let limit255 : r ≡ 255 = top in (
          λ h.
              let one = same_Some f h.0 (mode ∙ of_sets i h.0 h.1) in
              let many : 255 ≤ modes_before is f n = subst (λ (g : ℕ). 255 ≤ modes_before is g n) (sym one) h.2 in
              let all = modes.counted f in
              omega (arith, small, many, all, now, limit255),
          record {
            counted = λ g. elim (cases_eq f g) [
              | inl same ↦
                  let yes = count_yes (sets_mode f) is n i at (sets i f (sym mode)) in
                  let all = modes.counted f in
                  let here : kept w f ≡ modes_before is f (n + 1) = omega (arith, yes, all, own, now) in
                  subst (λ (q : ℕ). kept w q ≡ modes_before is q (n + 1)) same here
              | inr apart ↦
                  let never = count_no (sets_mode g) is n i at (false_from_ne_true (sets_mode g i)
                  (λ s. apart (same_Some f g (mode ∙ of_sets i g s)))) in
                  other g apart ∙ modes.counted g ∙ sym never
            ];
            few = λ g. elim (cases_eq f g) [
              | inl same ↦
                  let here : kept w f ≤ 255 = omega (arith, own, small, limit255) in
                  subst (λ (q : ℕ). kept w q ≤ 255) same here
              | inr apart ↦
                  let old = modes.few g in
                  omega (arith, old, other g apart)
            ];
          },
        )

pub modes_same : (is : List PlainInst) (n : ℕ) (i : PlainInst) (m : BTreeMap ℕ ℕ) → slice_get is n ≡ Some i
    → None ≡ mode_of i → AreModes is n m → (¬ (HasModeTooMany is n i)) × AreModes is (n + 1) m
modes_same is n i m at none modes =
    let never : (g : ℕ) → sets_mode g i ≡ true → ⊥ = λ g s. none-some g (none ∙ of_sets i g s) in (
      λ h. never h.0 h.1,
      record {
        counted = λ g. modes.counted g ∙ sym (count_no (sets_mode g) is n i at (false_from_ne_true (sets_mode g i) (never g)));
        few = modes.few;
      },
    )
