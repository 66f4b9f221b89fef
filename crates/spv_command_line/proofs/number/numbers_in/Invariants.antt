use Rattle.std.proofs.Common.{length, suc, zero, Option, Some, None, List, ℕ}
use Rattle.std.specs.Prelude.{option_map}
use Rattle.spv_command_line.proofs.Numerals.{NumbersSoFar}
use Rattle.spv_command_line.proofs.number.numbers_in.Given as goal

abbrev pub left_of : Option (List ℕ) → ℕ
left_of None = zero
left_of (Some t) = suc (length t)

abbrev pub invariant-loop-rest : goal.invariant-loop-rest
invariant-loop-rest l = NumbersSoFar l.text (option_map (λ t. t.now) l.rest) l.numbers.items

abbrev pub decreases-loop-rest : goal.decreases-loop-rest
decreases-loop-rest l = left_of (option_map (λ t. t.now) l.rest)
