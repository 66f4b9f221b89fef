use Rattle.std.proofs.Common.{◌≡◌, drop}
use Rattle.spv_grammar.specs.Made.{all_of}
use Rattle.spv_grammar.specs.Kinds.{number_in}
use Rattle.spv_grammar.proofs.Fronts.{with_front}
use Rattle.spv_grammar.proofs.make.bases.Given as goal

abbrev pub invariant-loop-name : goal.invariant-loop-name
invariant-loop-name l = all_of (number_in l.numbers) l.names ≡ with_front l.found.items (all_of (number_in l.numbers) (drop l.name-index l.names))
