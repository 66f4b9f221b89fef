use Rattle.spv_interfaces.specs.inner.Cleared.{Clears, IsOfOneBefore}
use Rattle.spv_interfaces.specs.inner.Entries.{Begins, Names}
use Rattle.spv_interfaces.proofs.cleared.end_all.Given as goal

abbrev pub invariant-loop-number : goal.invariant-loop-number
invariant-loop-number l = record {
  reached : Clears (IsOfOneBefore (Begins l.definitions) l.few l.number-index) l.fn.marks.reached.items
      l.marks.reached.items;
  named : Clears (IsOfOneBefore (Names l.definitions) l.few l.number-index) l.fn.marks.named.items
      l.marks.named.items;
}
