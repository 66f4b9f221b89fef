use Rattle.std.proofs.lemmas.Grind.{common_steps}
use Rattle.std.proofs.Common.{arith}
use Rattle.std.proofs.lemmas.List.{map-id}
use Rattle.spv_grammar.proofs.shared.list_of.Goals as goal

pub returns : goal.returns
returns c = grind (arith, common_steps, map-id c.args.names.now)
