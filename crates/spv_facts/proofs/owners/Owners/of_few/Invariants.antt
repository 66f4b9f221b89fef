use Rattle.std.proofs.Common.{◌≡◌, ◌++◌, ℕ, drop}
use Rattle.spv_facts.specs.Owners.{places_from}
use Rattle.spv_facts.specs.inner.Owned.{listed}
use Rattle.spv_facts.proofs.owners.Owners.of_few.Given as goal

abbrev pub invariant-loop-found : goal.invariant-loop-found
invariant-loop-found l = record {
  counted : l.place ≡ l.found-index;
  places : (t : ℕ) → listed l.owners t ++ places_from t l.place (drop l.found-index l.fn.types)
      ≡ places_from t 0 l.fn.types;
}
