-- What the three looks at the flow refuse.
use Rattle.std.proofs.Common.{ℕ, List}
use Rattle.spv_table.specs.Table.{Table}
use Rattle.spv_module.specs.Operand.{PlainInst}
use Rattle.spv_module.specs.declared.fault.Rule.TheVariants.{G1}
use Rattle.spv_module.specs.declared.fault.Stop.{Stop}
use Rattle.spv_module.specs.declared.fault.Stop.TheVariants.{Fault, Memory}
use Rattle.spv_layout.specs.First.{IsFirst, IsUnbroken}
use Rattle.spv_layout.specs.Stage as stages
use Rattle.spv_ids.specs.inner.Outcome.{IsStopAt}
use Rattle.spv_flow.specs.branches.Broken as branch_rules
use Rattle.spv_flow.specs.declared.branches.fork.Fork.{Fork}
use Rattle.spv_flow.specs.branches.Found as branches
use Rattle.spv_flow.specs.walks.Found as walks
use Rattle.spv_flow.specs.calls.Broken as call_rules
use Rattle.spv_check.specs.flow.Outcome.{IsFirstOfFlow, IsRefusal}

pub by_branches : (fork : Fork) (G : Table) (is : List PlainInst) (s : Stop) → branches.IsRefusal fork G is s
    → IsRefusal fork G is s
by_branches fork G is Memory h = tt
by_branches fork G is (Fault f) h = (IsFirstOfFlow.of_branches h.0, h.1)

pub by_values : (fork : Fork) (G : Table) (is : List PlainInst) (s : Stop)
    → IsUnbroken (branch_rules.Broken fork G is) stages.of_branches
    → walks.IsRefusal fork G is s → IsRefusal fork G is s
by_values fork G is Memory u h = tt
by_values fork G is (Fault f) u h = (IsFirstOfFlow.of_values u h.0, h.1)

pub by_calls : (fork : Fork) (G : Table) (is : List PlainInst) (s : Stop) (n : ℕ)
    → IsUnbroken (branch_rules.Broken fork G is) stages.of_branches
    → IsUnbroken (branch_rules.Broken fork G is) stages.of_values
    → IsFirst (call_rules.Broken is) stages.of_calls G1 n → IsStopAt is G1 n s → IsRefusal fork G is s
by_calls fork G is Memory n u v h s = tt
by_calls fork G is (Fault f) n u v h s = (IsFirstOfFlow.of_calls u v (rw (s.0, s.1) h), rw s.1 s.2)
