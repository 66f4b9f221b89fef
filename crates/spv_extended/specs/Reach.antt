-- How far a module is looked at, and a module as far as that. [own]
use Rattle.std.specs.Prelude.{List, Bool, true, false, if◌then◌else◌}
use Rattle.spv_module.specs.Operand.{PlainInst}
use Rattle.spv_module.specs.declared.profile.Profile as declared
use Rattle.spv_module.specs.declared.profile.Profile.TheVariants as profile
use Rattle.spv_extended.specs.declared.reach.Reach.{Reach}
use Rattle.spv_extended.specs.declared.reach.Reach.TheVariants.{Profile, Extended, OpenCl}
use Rattle.spv_extended.specs.Opened.{opened}

-- which instructions a module may have that is looked at so far [own]
abbrev pub profile_of : Reach → declared.Profile
profile_of Profile = profile.Own
profile_of Extended = profile.Own
profile_of (OpenCl minor) = profile.OpenCl

-- are extended instructions looked at whole? [own]
abbrev pub opens : Reach → Bool
opens Profile = false
opens Extended = true
opens (OpenCl minor) = true

abbrev pub looked_at : Reach → List PlainInst → List PlainInst
looked_at reach is = if opens reach then opened is else is
