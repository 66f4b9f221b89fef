use Rattle.std.proofs.Common.{◌≡◌, ◌+◌, drop}
use Rattle.spv_standard.specs.inner.Silent.{silent_front}
use Rattle.spv_standard.proofs.silent.silent_front.Given as goal

abbrev pub invariant-loop-count : goal.invariant-loop-count
invariant-loop-count l = l.count + silent_front (drop l.count l.forms) ≡ silent_front l.forms
