use Rattle.std.proofs.Common.{◌≡◌, drop}
use Rattle.std.specs.List.{filter}
use Rattle.spv_grammar.specs.Made.{all_of, enumerant_from, is_kept}
use Rattle.spv_grammar.proofs.Fronts.{with_front}
use Rattle.spv_grammar.proofs.make.enumerants.Given as goal

abbrev pub invariant-loop-element : goal.invariant-loop-element
invariant-loop-element l = all_of (enumerant_from l.numbers) (filter (is_kept l.category) l.elements) ≡ with_front l.found.items (all_of (enumerant_from l.numbers) (filter (is_kept l.category) (drop l.element-index l.elements)))
