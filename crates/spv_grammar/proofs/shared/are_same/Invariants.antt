use Rattle.std.proofs.Common.{◌≡◌, take, length}
use Rattle.spv_grammar.proofs.shared.are_same.Given as goal

abbrev pub invariant-loop-i : goal.invariant-loop-i
invariant-loop-i l = (take l.i l.names ≡ take l.i l.lent) × (length l.names ≡ length l.lent)
