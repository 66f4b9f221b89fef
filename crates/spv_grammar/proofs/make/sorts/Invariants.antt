use Rattle.std.proofs.Common.{◌≡◌, drop}
use Rattle.spv_grammar.specs.Made.{all_of, sort_from}
use Rattle.spv_grammar.proofs.Fronts.{with_front}
use Rattle.spv_grammar.proofs.make.sorts.Given as goal

abbrev pub invariant-loop-number : goal.invariant-loop-number
invariant-loop-number l = all_of (sort_from l.numbers) l.numbers ≡ with_front l.found.items (all_of (sort_from l.numbers) (drop l.number l.numbers))
