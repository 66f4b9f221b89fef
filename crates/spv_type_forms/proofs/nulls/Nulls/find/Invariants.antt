use Rattle.std.proofs.Common.{◌-◌, ◌+◌, length}
use Rattle.spv_type_forms.specs.inner.Null.{AreLacking}
use Rattle.spv_type_forms.proofs.nulls.Nulls.find.Given as goal

abbrev pub invariant-loop-self : goal.invariant-loop-self
invariant-loop-self l = AreLacking l.definitions l.self.lacks.items

abbrev pub decreases-loop-self : goal.decreases-loop-self
decreases-loop-self l = l.number + 1 - length l.self.lacks.items
