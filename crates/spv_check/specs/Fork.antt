-- What is asked of the two labels of an OpBranchConditional. [3.49.17]
use Rattle.std.specs.Prelude.{nat_lt, if◌then◌else◌}
use Rattle.spv_extended.specs.declared.reach.Reach.{Reach}
use Rattle.spv_extended.specs.declared.reach.Reach.TheVariants.{Profile, Extended, OpenCl}
use Rattle.spv_flow.specs.declared.branches.fork.Fork.{Fork}
use Rattle.spv_flow.specs.declared.branches.fork.Fork.TheVariants.{Distinct, Free}

-- as far as a module is looked at: that they are not the same, but of a kernel of OpenCL since version 1.6 alone
-- [3.49.17, version 1.6; own]
abbrev pub fork_of : Reach → Fork
fork_of Profile = Distinct
fork_of Extended = Distinct
fork_of (OpenCl minor) = if nat_lt minor 6 then Free else Distinct
