use Rattle.std.proofs.Common.{◌≡◌, ◌<◌, ◌≤◌, ℕ, List, Option, length, take, sym, arith}
use Rattle.std.proofs.lemmas.List.{length-take-le, take_all}
use Rattle.spv_facts.proofs.owners.first_types.Goals as goal

ends : (n : ℕ) (us : List (Option ℕ)) → n < length us → n ≡ length (take n us)
ends n us l = sym (length-take-le n us (omega (arith, l)))

few : (n : ℕ) (us : List (Option ℕ)) → n < length us → length (take n us) ≤ n
few n us l = let e = ends n us l in omega (arith, e)

pub slice_bounds-result-end : goal.slice_bounds-result-end
slice_bounds-result-end c = ends 65535 c.args.types.now c.if-types-gt-MOST.true

pub returns-then-types-gt-MOST-clause-few : goal.returns-then-types-gt-MOST-clause-few
returns-then-types-gt-MOST-clause-few c = few 65535 c.args.types.now c.if-types-gt-MOST.true

pub returns-clause-value : goal.returns-clause-value
returns-clause-value c = sym (take_all 65535 c.args.types.now c.if-types-gt-MOST.false)
