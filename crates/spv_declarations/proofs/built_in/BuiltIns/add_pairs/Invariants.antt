use Rattle.std.proofs.Common.{◌↔◌, ◌⊎◌, ℕ, length}
use Rattle.spv_conditions.specs.Further.{IsMember}
use Rattle.spv_module.specs.Module.{plain_operands}
use Rattle.spv_declarations.specs.Given.{HasPair}
use Rattle.spv_declarations.specs.inner.BuiltIn.{AreTheirs}
use Rattle.spv_declarations.specs.inner.Sets.{HasBoth}
use Rattle.spv_declarations.proofs.built_in.BuiltIns.add_pairs.Given as goal

abbrev pub decreases-loop-t : goal.decreases-loop-t
decreases-loop-t l = length (plain_operands l.left)

abbrev pub invariant-loop-t : goal.invariant-loop-t
invariant-loop-t l = record {
  members : (t k : ℕ)
      → (HasBoth l.self.members t k ⊎ (IsMember l.definitions t k × HasPair (plain_operands l.left) t k))
      ↔ (HasBoth l.initial.self.members t k ⊎ (IsMember l.definitions t k × HasPair (plain_operands l.pairs) t k));
  structs : AreTheirs l.initial.self → AreTheirs l.self;
}
