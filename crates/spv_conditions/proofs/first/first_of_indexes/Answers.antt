use Rattle.std.proofs.Common.{◌≡◌, ◌+◌, ◌-◌, ◌∷◌, ℕ, length, subst, sym, ap, ◌∙◌}
use Rattle.spv_module.specs.Module.{plain_inst}
use Rattle.spv_conditions.specs.declared.asked.Asked.{Asked}
use Rattle.spv_conditions.specs.declared.asked.Asked.TheVariants as asked
use Rattle.spv_conditions.specs.declared.asked.Rest.TheVariants as rest
use Rattle.spv_type_kinds.specs.declared.kinds.Kind.TheVariants as kind
use Rattle.spv_conditions.specs.declared.seat.Seat.TheVariants as seat
use Rattle.spv_conditions.specs.Condition.{FailsFirst}
use Rattle.spv_conditions.specs.Asks.{indexes_from}
use Rattle.spv_conditions.specs.inner.Direct.{HoldsDirectly}
use Rattle.spv_conditions.specs.Chain.{first_index}
use Rattle.spv_conditions.proofs.lemmas.Listing.{Held, index_front, index_end, one_more, one_fails}
use Rattle.spv_conditions.proofs.first.first_of_indexes.Goals as goal

pub returns-then-not-holds : goal.returns-then-not-holds
returns-then-not-holds c =
    let P = HoldsDirectly c.args.definitions.now c.args.number (plain_inst c.args.inst.now) c.args.r c.args.types.now in
    let e = c.args.element in
    let k = c.loop-k.k in
    let n = length c.args.types.now in
    let first = c.first_index-first.ensures in
    let a = asked.Kind kind.Int (seat.Value k) in
    let b = asked.Rest (rest.Chosen e (k - first_index e)) in
    let left = indexes_from e (k + 1) (n - (k + 1)) in
    let whole = indexes_from e (first_index e) (n - first_index e) in
    let held : Held P (indexes_from e k (n - k)) whole = subst
    (λ (m : ℕ). Held P (indexes_from e k (n - k)) (indexes_from e m (n - m))) first c.loop-k.invariant in
    let front = index_front P e k n whole c.loop-k-test.true held in
    let same = sym c.is_index-asked.ensures in
    subst (λ (q : Asked). FailsFirst P whole q) same
    (one_fails P a (b ∷ left) whole front (λ h. let on = c.holds.ensures.1 (subst P same h) in
    let off = c.if-not-holds.true in cc))

pub returns-then-not-leads_past : goal.returns-then-not-leads_past
returns-then-not-leads_past c =
    let P = HoldsDirectly c.args.definitions.now c.args.number (plain_inst c.args.inst.now) c.args.r c.args.types.now in
    let e = c.args.element in
    let k = c.loop-k.k in
    let n = length c.args.types.now in
    let first = c.first_index-first.ensures in
    let a = asked.Kind kind.Int (seat.Value k) in
    let b = asked.Rest (rest.Chosen e (k - first_index e)) in
    let left = indexes_from e (k + 1) (n - (k + 1)) in
    let whole = indexes_from e (first_index e) (n - first_index e) in
    let held : Held P (indexes_from e k (n - k)) whole = subst
    (λ (m : ℕ). Held P (indexes_from e k (n - k)) (indexes_from e m (n - m))) first c.loop-k.invariant in
    let front = index_front P e k n whole c.loop-k-test.true held in
    let holds = subst P c.is_index-asked.ensures (c.holds.ensures.0 c.if-not-holds.false) in
    let next = one_more P a (b ∷ left) whole front holds in
    let stops = c.stops_of-stops.ensures e (k - first_index e) in
    let same : b ≡ c.is_chosen.result = sym
    (c.is_chosen.ensures ∙ ap (λ (m : ℕ). asked.Rest (rest.Chosen e (k - m))) first) in
    subst (λ (q : Asked). FailsFirst P whole q) same
    (one_fails P b left whole next (λ h. let on = c.leads_past.ensures.1 (rw (← first) at (stops.1 h)) in
    let off = c.if-not-leads_past.true in cc))

pub loop-k-preserved : goal.loop-k-preserved
loop-k-preserved c =
    let P = HoldsDirectly c.args.definitions.now c.args.number (plain_inst c.args.inst.now) c.args.r c.args.types.now in
    let e = c.args.element in
    let k = c.loop-k.k in
    let n = length c.args.types.now in
    let first = c.first_index-first.ensures in
    let a = asked.Kind kind.Int (seat.Value k) in
    let b = asked.Rest (rest.Chosen e (k - first_index e)) in
    let left = indexes_from e (k + 1) (n - (k + 1)) in
    let whole = indexes_from e (first_index e) (n - first_index e) in
    let held : Held P (indexes_from e k (n - k)) whole = subst
    (λ (m : ℕ). Held P (indexes_from e k (n - k)) (indexes_from e m (n - m))) first c.loop-k.invariant in
    let front = index_front P e k n whole c.loop-k-test.true held in
    let holds = subst P c.is_index-asked.ensures (c.holds.ensures.0 c.if-not-holds.false) in
    let next = one_more P a (b ∷ left) whole front holds in
    let stops = c.stops_of-stops.ensures e (k - first_index e) in
    let past = rw first at (c.leads_past.ensures.0 c.if-not-leads_past.false) in
    subst (λ (m : ℕ). Held P left (indexes_from e m (n - m))) (sym first) (one_more P b left whole next (stops.0 past))

pub returns : goal.returns
returns c =
    let P = HoldsDirectly c.args.definitions.now c.args.number (plain_inst c.args.inst.now) c.args.r c.args.types.now in
    let e = c.args.element in
    let k = c.loop-k.k in
    let n = length c.args.types.now in
    let held = subst (λ (m : ℕ). Held P (indexes_from e k (n - k)) (indexes_from e m (n - m)))
    c.first_index-first.ensures c.loop-k.invariant in
    index_end P e k n (indexes_from e (first_index e) (n - first_index e)) c.loop-k-test.false held
