use Rattle.std.proofs.Common.{refl}
use Rattle.spv_versions.proofs.late.Late.of.Goals as goal

pub returns : goal.returns
returns c = record {
  version = refl;
  told = c.of_front-missing.ensures.told;
  least = c.of_front-missing.ensures.least;
  numbers = c.of_missing-kinds.ensures;
  floors = (c.floors.ensures c.of_front-missing.ensures.least, c.listed.ensures c.of_front-missing.result.lines);
}
