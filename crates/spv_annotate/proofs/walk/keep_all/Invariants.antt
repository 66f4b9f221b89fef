use Rattle.std.proofs.Common.{◌≡◌, ◌||◌, ℕ, drop, is_some, nat_eq}
use Rattle.std.specs.List.{list_any}
use Rattle.spv_annotate.specs.inner.Numbers.{kept}
use Rattle.spv_annotate.proofs.walk.keep_all.Given as goal

abbrev pub invariant-loop-id : goal.invariant-loop-id
invariant-loop-id l = (x : ℕ) → (list_any (nat_eq x) (drop l.id-index l.ids) || is_some (kept l.walk x))
    ≡ (list_any (nat_eq x) l.ids || is_some (kept l.fn.walk x))
