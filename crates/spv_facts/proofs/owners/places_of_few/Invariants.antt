use Rattle.std.proofs.Common.{◌≡◌, ◌++◌, drop}
use Rattle.spv_facts.specs.Owners.{places_from}
use Rattle.spv_facts.proofs.owners.places_of_few.Given as goal

abbrev pub invariant-loop-found : goal.invariant-loop-found
invariant-loop-found l = record {
  counted : l.place ≡ l.found-index;
  places : l.places.items ++ places_from l.fn.of l.place
      (drop l.found-index l.fn.types) ≡ places_from l.fn.of 0 l.fn.types;
}
