use Rattle.spv_check.specs.Fork.{fork_of}
use Rattle.spv_explain.proofs.Parted.{not_asked}
use Rattle.spv_explain.proofs.standard.standard_evidence.Goals as goal

pub kernel_evidence-requires-clause-branches : goal.kernel_evidence-requires-clause-branches
kernel_evidence-requires-clause-branches c = (fork_of c.args.reach, c.requires.branches)

pub kernel_evidence-requires-clause-broken : goal.kernel_evidence-requires-clause-broken
kernel_evidence-requires-clause-broken c = rw c.in-OpenCl.is at c.requires.broken

pub unreachable-requires : goal.unreachable-requires
unreachable-requires c =
    not_asked c.args.reach (λ minor e. c.in_default.not-OpenCl minor e) _ _ _ _ c.requires.broken

pub returns : goal.returns
returns c = rw c.in-OpenCl.is c.kernel_evidence.ensures
