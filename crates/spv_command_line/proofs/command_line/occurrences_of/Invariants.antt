use Rattle.std.proofs.Common.{◌≡◌, take, map}
use Rattle.spv_command_line.specs.CommandLine.{count_of}
use Rattle.spv_command_line.proofs.command_line.occurrences_of.Given as goal

abbrev pub invariant-loop-other : goal.invariant-loop-other
invariant-loop-other l = l.count ≡ count_of l.word (take l.other-index (map (λ w. w.now) l.words))
