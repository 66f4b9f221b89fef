use Rattle.std.proofs.Common.{◌≡◌, ℕ, sym, subst}
use Rattle.spv_ids.specs.Definition.{IsDefinedAt}
use Rattle.spv_interfaces.proofs.Counting.{counts_none, counts_same}
use Rattle.spv_interfaces.proofs.counted.count_id.Goals as goal

pub returns-in-Some : goal.returns-in-Some
returns-in-Some c =
    let is = c.args.definitions.now in
    counts_same c.args.k (λ v. v ≡ c.in-Some.number) (IsDefinedAt is c.args.x) c.args.counts.now.items
    c.count.new.counts.items
    (λ v e. subst (λ (n : ℕ). IsDefinedAt is c.args.x n) (sym e) c.in-Some.ensures.there) c.count.ensures

pub returns-in_default : goal.returns-in_default
returns-in_default c =
    counts_none c.args.k (IsDefinedAt c.args.definitions.now c.args.x) c.args.counts.now.items
