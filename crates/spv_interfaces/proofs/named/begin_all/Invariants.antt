use Rattle.std.proofs.Common.{◌≡◌, ◌↔◌, ℕ, length}
use Rattle.spv_interfaces.specs.inner.Entries.{Begins, IsEntered, Names}
use Rattle.spv_interfaces.specs.inner.Marks.{IsMarked}
use Rattle.spv_interfaces.proofs.named.begin_all.Given as goal

abbrev pub invariant-loop-k : goal.invariant-loop-k
invariant-loop-k l = record {
  reached_count : length l.marks.reached.items ≡ length l.definitions;
  named_count : length l.marks.named.items ≡ length l.definitions;
  reached : (f j : ℕ) → IsMarked l.marks.reached.items f j ↔ IsEntered (Begins l.definitions) l.few l.k f j;
  named : (f j : ℕ) → IsMarked l.marks.named.items f j ↔ IsEntered (Names l.definitions) l.few l.k f j;
}
