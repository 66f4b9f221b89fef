use Rattle.std.proofs.Common.{◌≡◌, ◌<◌, ℕ, length, map}
use Rattle.std.specs.Prelude.{IsTrue}
use Rattle.spv_module.specs.Module.{plain_inst}
use Rattle.spv_flow.specs.branches.Target.{is_phi, IsOp}
use Rattle.spv_flow.proofs.lemmas.branches.Entries.{IsFollowing}
use Rattle.spv_flow.proofs.branches.gather.survey.Given as goal

abbrev pub invariant-loop-at : goal.invariant-loop-at
invariant-loop-at l = record {
  count : length l.entries.items ≡ length l.insts;
  following : IsFollowing (map plain_inst l.insts) l.entries.items l.is_open l.at;
  phis : (n : ℕ) → n < l.at → IsOp (map plain_inst l.insts) n is_phi → IsTrue l.has_phis;
}
