use Rattle.std.proofs.Common.{◌<◌, ◌≤◌, ℕ, List, length, map, sym, subst, ◌∙◌, below_more, arith}
use Rattle.spv_module.specs.declared.module.Inst.{Inst}
use Rattle.spv_module.specs.Module.{plain_inst}
use Rattle.spv_extended.specs.Miscalled.{IsMiscalled}
use Rattle.spv_extended.specs.inner.Found.{set_found}
use Rattle.spv_extended.proofs.Missing.{missed_at, none_missed, not_missed_at}
use Rattle.spv_extended.proofs.miscalled.first_miscalled.Goals as goal

pub returns-then-miscalls : goal.returns-then-miscalls
returns-then-miscalls c =
    let xs = c.as_slice-insts.result.now in
    let n = c.loop-number.number in
    let h : n < length xs = omega arith in
    subst (λ (l : List Inst). IsMiscalled (map plain_inst l) n × ((k : ℕ) → k < n → ¬ (IsMiscalled (map plain_inst l) k))) c.as_slice-insts.ensures.value
    (missed_at (set_found c.in_ok-sets.sets) xs n c.index-insts-number.result h c.index-insts-number.is c.in_ok-sets.ensures (sym c.miscalls.ensures ∙ c.if-miscalls.true), c.loop-number.invariant)

pub loop-number-preserved : goal.loop-number-preserved
loop-number-preserved c =
    let xs = c.as_slice-insts.result.now in
    let n = c.loop-number.number in
    let h : n < length xs = omega arith in
    below_more _ _ c.loop-number.invariant
    (not_missed_at (set_found c.in_ok-sets.sets) xs n c.index-insts-number.result h c.index-insts-number.is c.in_ok-sets.ensures (sym c.miscalls.ensures ∙ c.if-miscalls.false))

pub returns : goal.returns
returns c =
    let xs = c.as_slice-insts.result.now in
    let n = c.loop-number.number in
    let h : length xs ≤ n = omega arith in
    subst (λ (l : List Inst). (k : ℕ) → ¬ (IsMiscalled (map plain_inst l) k)) c.as_slice-insts.ensures.value (none_missed xs n c.loop-number.invariant h)
