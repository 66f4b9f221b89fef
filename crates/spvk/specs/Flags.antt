-- What the flags of a call ask for. (Own.)
use Rattle.std.specs.Prelude.{◌||◌, ℕ, true, false, Option, Some, None, nat_eq, if◌then◌else◌}
use Rattle.spv_scope.specs.declared.scope.Scope.{Scope}
use Rattle.spv_scope.specs.declared.scope.Scope.TheVariants.{Own, Extended, OpenCl}

-- The flags of the C header: 1, the version is taken to be 1.6; 2, extended instructions are looked at whole; 3 is
-- both; 4, all that a kernel of OpenCL can be, of version 1.0 to 1.6, which takes in what 2 asks for and does not go
-- with 1. In any number over 7 a bit is set that is no flag.
abbrev pub asked_by : ℕ → Option Scope
asked_by flags =
    if nat_eq flags 0 then Some (Own false) else (
    if nat_eq flags 1 then Some (Own true) else (
    if nat_eq flags 2 then Some (Extended false) else (
    if nat_eq flags 3 then Some (Extended true) else (
    if nat_eq flags 4 || nat_eq flags 6 then Some OpenCl else None))))
