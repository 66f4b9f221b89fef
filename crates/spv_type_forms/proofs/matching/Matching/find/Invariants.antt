use Rattle.std.proofs.Common.{◌-◌, ◌+◌, ◌≤◌, length}
use Rattle.spv_type_forms.specs.inner.Matching.{IsMatching}
use Rattle.spv_type_forms.proofs.matching.Matching.find.Given as goal

abbrev pub invariant-loop-alloc : goal.invariant-loop-alloc
invariant-loop-alloc l = record {
  matching : IsMatching l.definitions l.self;
  grows : length l.fn.self.numbers.items ≤ length l.self.numbers.items;
}

abbrev pub decreases-loop-alloc : goal.decreases-loop-alloc
decreases-loop-alloc l = l.number + 1 - length l.self.numbers.items
