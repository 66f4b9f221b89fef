use Rattle.std.proofs.Common.{◌≡◌, drop}
use Rattle.spv_grammar.specs.Made.{all_of, entry_from}
use Rattle.spv_grammar.proofs.Fronts.{with_front}
use Rattle.spv_grammar.proofs.make.entries.Given as goal

abbrev pub invariant-loop-instruction : goal.invariant-loop-instruction
invariant-loop-instruction l = all_of (entry_from l.numbers) l.instructions ≡ with_front l.found.items (all_of (entry_from l.numbers) (drop l.instruction-index l.instructions))
