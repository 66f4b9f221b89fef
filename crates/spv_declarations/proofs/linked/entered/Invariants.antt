use Rattle.std.proofs.Common.{◌≡◌, Some}
use Rattle.spv_capabilities.specs.Entry.{entered_by}
use Rattle.spv_declarations.specs.inner.Sets.{Gathers}
use Rattle.spv_declarations.proofs.linked.entered.Given as goal

abbrev pub invariant-loop-number : goal.invariant-loop-number
invariant-loop-number l = Gathers l.number l.definitions (λ i x. entered_by i ≡ Some x) l.entered
