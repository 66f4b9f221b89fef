-- The deepest of some operands.
use Rattle.std.proofs.Common.{◌≡◌, ◌<◌, ◌≤◌, ◌+◌, ◌∙◌, ℕ, suc, List, [], ◌∷◌, Bool, true, false, Option, Some, length, max}
use Rattle.std.proofs.Common.{nat_lt, refl, sym, ap, subst, inl, inr, arith, below_more}
use Rattle.std.specs.Prelude.{option_map, slice_get}
use Rattle.std.specs.BTreeMap.{BTreeMap}
use Rattle.std.proofs.lemmas.Bool.{cases_lt, ltb-true, ltb-false}
use Rattle.std.proofs.lemmas.Option.{same_Some, slice_get-map, slice_get_within}
use Rattle.spv_module.specs.declared.operand.Operand.{Operand}
use Rattle.spv_module.specs.Module.{plain_operand, plain_operands}
use Rattle.spv_module.specs.Operand.{Plain, Id, PlainInst}
use Rattle.spv_ids.specs.Definition.{IsDefinedAt}
use Rattle.spv_ids.specs.Outcome.{IsOnly}
use Rattle.spv_limits.specs.declared.table.Limit.TheVariants as limit
use Rattle.spv_limits.specs.Table.{most}
use Rattle.spv_limits.specs.inner.Counting.{IsAnswer, IsDepth, IsOperandDepth, IsReached, IsTooDeep}
use Rattle.spv_limits.specs.inner.Kept.{kept}

pub operand_some : (is : List PlainInst) (m : BTreeMap ℕ ℕ) (x k d : ℕ) → IsOnly is x k → d ≡ kept m k
    → IsOperandDepth is m (Id x) d
operand_some is m x k d only e =
    (λ j other. ap (kept m) (only.only j other.there) ∙ sym e, inr (k, only, sym e))

pub operand_none : (is : List PlainInst) (m : BTreeMap ℕ ℕ) (x : ℕ) → ((k : ℕ) → ¬ (IsDefinedAt is x k))
    → IsOperandDepth is m (Id x) 0
operand_none is m x never = (λ k only. absurd (never k only.there), inl refl)

operand_reached : (is : List PlainInst) (m : BTreeMap ℕ ℕ) (os : List Plain) (k r : ℕ) (o : Plain)
    → slice_get os k ≡ Some o → IsOperandDepth is m o r → 0 < r → IsReached is m os r
operand_reached is m os k r (Id x) at h pos = elim h.1 [
  | inl z ↦ absurd (omega (arith, z, pos))
  | inr j ↦ inr (k, x, j.0, at, j.1, j.2)
]
operand_reached is m os k r _ at h pos = absurd (let z : r ≡ 0 = h in omega (arith, z, pos))

operand_few : (is : List PlainInst) (m : BTreeMap ℕ ℕ) (r : ℕ) (o : Plain) → ((k : ℕ) → kept m k ≤ 255)
    → IsOperandDepth is m o r → r ≤ 255
operand_few is m r (Id x) few h = elim h.1 [
  | inl z ↦ omega (arith, z)
  | inr j ↦ let f = few j.0 in omega (arith, f, j.2)
]
operand_few is m r _ few h = let z : r ≡ 0 = h in omega (arith, z)

pub record Deepened (is : List PlainInst) (m : BTreeMap ℕ ℕ) (os : List Operand) (k e : ℕ) : Type 0 where
  pub bound : (p : ℕ) → p < k → (x j : ℕ) → slice_get (plain_operands os) p ≡ Some (Id x) → IsOnly is x j
      → kept m j ≤ e
  pub reached : IsReached is m (plain_operands os) e
  pub few : e ≤ 255

pub deepest_more : (is : List PlainInst) (m : BTreeMap ℕ ℕ) (os : List Operand) (k e r new : ℕ) (o : Operand)
    → slice_get os k ≡ Some o → IsOperandDepth is m (plain_operand o) r → new ≡ max e r
    → ((j : ℕ) → kept m j ≤ 255) → Deepened is m os k e → Deepened is m os (k + 1) new
deepest_more is m os k e r new o at h says few old =
    let here : slice_get (plain_operands os) k ≡ Some (plain_operand o) =
    slice_get-map plain_operand os k ∙ ap (λ (q : Option Operand). option_map plain_operand q) at in
    let low = operand_few is m r (plain_operand o) few h in
    record {
      bound = below_more _ _ (λ p l x j q only. let b = old.bound p l x j q only in omega (arith, b, says))
          (λ x j q only.
          let same : plain_operand o ≡ Id x = same_Some (plain_operand o) (Id x) (sym here ∙ q) in
          let d = subst (λ (p : Plain). IsOperandDepth is m p r) same h in
          let b = d.0 j only in omega (arith, b, says));
      reached = elim (cases_lt e r) [
        | inl less ↦
            let is_r : r ≡ new = omega (arith, less, says) in
            subst (IsReached is m (plain_operands os)) is_r
            (operand_reached is m (plain_operands os) k r (plain_operand o) here h (omega (arith, less)))
        | inr more ↦
            let is_e : e ≡ new = omega (arith, more, says) in
            subst (IsReached is m (plain_operands os)) is_e old.reached
      ];
      few = let f = old.few in omega (arith, f, low, says);
    }

count_plain : (os : List Operand) → length (plain_operands os) ≡ length os
count_plain [] = refl
count_plain (o ∷ os) = ap suc (count_plain os)

pub plain_within : (os : List Operand) (p : ℕ) (o : Plain) → slice_get (plain_operands os) p ≡ Some o → p < length os
plain_within os p o e =
    let w = slice_get_within (plain_operands os) p o e in
    omega (arith, w, count_plain os)

-- whether a struct is too deep
pub depth_answer : (is : List PlainInst) (n d r : ℕ) (Q : Type 0) → r ≡ most limit.Depth → IsDepth is n d
    → (d ≤ 255 → Q) → IsAnswer (nat_lt r d) (IsTooDeep is n) Q
depth_answer is n d r Q e depth next = by (nat_lt r d) refl
  where
    by : (b : Bool) → nat_lt r d ≡ b → IsAnswer b (IsTooDeep is n) Q
    by true f =
        let less = ltb-true r d f in
        elim depth.1 [
          | inl z ↦ absurd (omega (arith, z, less))
          | inr deep ↦ (d, deep, subst (λ (q : ℕ). q < d) e less)
        ]
    by false f =
        let small = ltb-false r d f in (
          λ t.
              let low = depth.0 t.0 t.1 in
              let over : r < t.0 = subst (λ (q : ℕ). q < t.0) (sym e) t.2 in
              omega (arith, low, over, small),
          next (let top : r ≡ 255 = e in omega (arith, top, small)),
        )
