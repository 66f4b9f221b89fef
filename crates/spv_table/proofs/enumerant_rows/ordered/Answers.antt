use Rattle.std.proofs.Common.{◌≡◌, ◌≢◌, ◌<◌, ◌≤◌, inl, inr, length, get_or, ltb, ltb-true, ltb-false, ap, sym, ◌∙◌, arith, rules}
use Rattle.std.proofs.lemmas.Bool.{cases_lt}
use Rattle.std.proofs.lemmas.List.{get_or_default}
use Rattle.std.proofs.lemmas.List.Sorted.{IsPartitionPoint-from_clause, IsPartitionedBy-ltb}
use Rattle.spv_table.specs.declared.row.EnumerantRow.{EnumerantRow}
use Rattle.spv_table.proofs.Ordered.{none_has, first_has}
use Rattle.spv_table.proofs.enumerant_rows.ordered.Goals as goal

pub returns-then-row-value : goal.returns-then-row-value
returns-then-row-value c =
    let es = c.args.rows.now in
    let v = c.args.value in
    let parted = IsPartitionedBy-ltb (λ (e : EnumerantRow). e.0) es v c.requires in
    let point = IsPartitionPoint-from_clause (λ (e : EnumerantRow). ltb e.0 v) es _ c.partition_point-place.ensures.partitioned parted (λ a r q k. search rules) in
    let same : c.in-Some.row.now.0 ≡ v = omega (arith, c.if-row-value.true) in
    sym (first_has (λ (e : EnumerantRow). e.0) es c.partition_point-place.result v c.in-Some.row.now c.in-Some.ensures.lookup.3.0 c.in-Some.ensures.lookup.1 same
    (λ k d h e. let l = ltb-true _ _ (point.0 k d (omega arith) h) in omega (arith, l, e)))

pub returns-else-row-value : goal.returns-else-row-value
returns-else-row-value c =
    let es = c.args.rows.now in
    let v = c.args.value in
    let i = c.partition_point-place.result in
    let parted = IsPartitionedBy-ltb (λ (e : EnumerantRow). e.0) es v c.requires in
    let point = IsPartitionPoint-from_clause (λ (e : EnumerantRow). ltb e.0 v) es _ c.partition_point-place.ensures.partitioned parted (λ a r q k. search rules) in
    let within : i < length es = c.in-Some.ensures.lookup.3.0 in
    let here : (d : EnumerantRow) → get_or es i d ≡ c.in-Some.row.now = λ d. get_or_default es i d c.in-Some.row.now within ∙ sym c.in-Some.ensures.lookup.1 in
    let other : c.in-Some.row.now.0 ≢ v = λ e. omega (arith, c.if-row-value.false, e) in
    sym (none_has (λ (e : EnumerantRow). e.0) es v (λ k d h e. elim (cases_lt k i) [
      | inl l ↦ (let b = ltb-true _ _ (point.0 k d (omega arith) l) in omega (arith, b, e))
      | inr g ↦ (let b = ltb-false _ _ (point.1 i d (omega arith) within) in
          let up = c.requires i k d g h in
          let x = ap (λ (y : EnumerantRow). y.0) (here d) in
          other (omega (arith, b, up, e, x)))
    ]))

pub returns-in-None : goal.returns-in-None
returns-in-None c =
    let es = c.args.rows.now in
    let v = c.args.value in
    let i = c.partition_point-place.result in
    let parted = IsPartitionedBy-ltb (λ (e : EnumerantRow). e.0) es v c.requires in
    let point = IsPartitionPoint-from_clause (λ (e : EnumerantRow). ltb e.0 v) es _ c.partition_point-place.ensures.partitioned parted (λ a r q k. search rules) in
    let past : length es ≤ i = omega (arith, c.in-None.ensures.lookup) in
    sym (none_has (λ (e : EnumerantRow). e.0) es v (λ k d h e. let b = ltb-true _ _ (point.0 k d (omega arith) (omega (arith, h, past))) in omega (arith, b, e)))
