use Rattle.std.proofs.Common.{◌≡◌, ◌<◌, ◌≤◌, ℕ, false}
use Rattle.spv_flow.specs.branches.Target.{is_phi, IsOp}
use Rattle.spv_flow.specs.walks.inner.Code.{insts_of}
use Rattle.spv_flow.proofs.lemmas.walks.Starting.{IsOpenTo}
use Rattle.spv_flow.proofs.walks.divide.function_extent.Given as goal

abbrev pub invariant-loop-at : goal.invariant-loop-at
invariant-loop-at l = record {
  inside : IsOpenTo (insts_of l.code) l.function l.at;
  phis : l.has_phis ≡ false → (n : ℕ) → l.function ≤ n → n < l.at → ¬ (IsOp (insts_of l.code) n is_phi);
}
