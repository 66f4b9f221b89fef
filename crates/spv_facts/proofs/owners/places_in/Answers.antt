use Rattle.spv_facts.proofs.owners.places_in.Goals as goal

pub returns : goal.returns
returns c = rw (c.in-Some.is, ← c.first_types-few.ensures.value) c.places_of_few.ensures
