-- As which version a module is read, and how far it is looked at. (Own.)
use Rattle.std.specs.Prelude.{ℕ, List, Bool, true, unwrap_or, if◌then◌else◌}
use Rattle.spv_words.specs.Version.{as_1_6}
use Rattle.spv_extended.specs.declared.reach.Reach.{Reach}
use Rattle.spv_extended.specs.declared.reach.Reach.TheVariants as reach
use Rattle.spv_scope.specs.Minor.{minor_of}
use Rattle.spv_scope.specs.Told.{with_text_minor}
use Rattle.spv_scope.specs.declared.scope.Scope.{Scope}
use Rattle.spv_scope.specs.declared.scope.Scope.TheVariants.{Own, Extended, OpenCl}

-- is version 1.6 put in place of another version from 1.0 to 1.6
abbrev pub takes_as_1_6 : Scope → Bool
takes_as_1_6 (Own newest) = newest
takes_as_1_6 (Extended newest) = newest
takes_as_1_6 OpenCl = true

-- the bytes as they are read
abbrev pub taken : Scope → List ℕ → List ℕ
taken scope bytes = if takes_as_1_6 scope then as_1_6 bytes else bytes

-- the minor version number of bytes; 6 where they begin as a module of none of the versions 1.0 to 1.6 does
abbrev pub own_minor : List ℕ → ℕ
own_minor bytes = unwrap_or (minor_of bytes) 6

-- how far what is read is looked at: OpenCL asks for the version that the bytes told
abbrev pub reach_of : Scope → List ℕ → Reach
reach_of (Own newest) bytes = reach.Profile
reach_of (Extended newest) bytes = reach.Extended
reach_of OpenCl bytes = reach.OpenCl (own_minor bytes)

-- the text of what is read, which tells the version that the bytes told where that is looked at
abbrev pub told_text : Reach → List ℕ → List ℕ
told_text (reach.OpenCl minor) text = with_text_minor minor text
told_text reach text = text
