-- The function and the block that an instruction of a list is of, by opcodes alone. [2.4]
use Rattle.std.specs.Prelude.{◌+◌, ◌||◌, ◌&&◌, ℕ, zero, suc, List, [], ◌∷◌, Bool, Option, Some, None}
use Rattle.std.specs.Prelude.{is_some, nat_eq, slice_get, if◌then◌else◌}
use Rattle.spv_module.specs.Operand.{PlainInst}
use Rattle.spv_module.specs.declared.opcode.TheConstants.{FUNCTION, FUNCTION_END, LABEL}
use Rattle.spv_module.specs.declared.opcode.TheConstants.{BRANCH, BRANCH_CONDITIONAL, SWITCH}
use Rattle.spv_module.specs.declared.opcode.TheConstants.{RETURN, RETURN_VALUE, UNREACHABLE}
use Rattle.spv_facts.specs.declared.fact.Place.{Place}

-- no function and no block
abbrev pub nowhere : Place
nowhere = record { function = None; block = None }

-- does a block end with this opcode [3.49.17]
abbrev pub is_terminator : ℕ → Bool
is_terminator c =
    nat_eq c BRANCH || (nat_eq c BRANCH_CONDITIONAL || (nat_eq c SWITCH
    || (nat_eq c RETURN || (nat_eq c RETURN_VALUE || nat_eq c UNREACHABLE))))

-- where instruction n, of this opcode, stands, if those before it leave this open: an OpFunction begins a function, an
-- OpLabel a block, and an OpFunctionEnd is of no block [2.4]
abbrev pub entered : ℕ → ℕ → Place → Place
entered n c p = if nat_eq c FUNCTION then record { function = Some n; block = None }
    else (if nat_eq c FUNCTION_END then record { function = p.function; block = None }
    else (if nat_eq c LABEL then record { function = p.function; block = Some n } else p))

-- what an instruction of this opcode leaves open of where it stands [2.4]
abbrev pub left_by : ℕ → Place → Place
left_by c p = if nat_eq c FUNCTION_END then nowhere
    else (if is_terminator c then record { function = p.function; block = None } else p)

-- what is open before the instruction n places further, if the next is the one of this number and this is open before
-- that
abbrev pub open_from : ℕ → Place → List PlainInst → ℕ → Place
open_from at p [] n = p
open_from at p (i ∷ is) zero = p
open_from at p (i ∷ is) (suc n) = open_from (at + 1) (left_by i.opcode (entered at i.opcode p)) is n

-- what is open before instruction n; after the last one, at the end
abbrev pub open_before : List PlainInst → ℕ → Place
open_before is n = open_from 0 nowhere is n

-- where instruction n stands, if there is one
abbrev pub standing : ℕ → Option PlainInst → Place → Place
standing n None p = p
standing n (Some i) p = entered n i.opcode p

-- where instruction n stands; after the last one, what is open at the end
abbrev pub place_of : List PlainInst → ℕ → Place
place_of is n = standing n (slice_get is n) (open_before is n)

-- does an instruction of this opcode come too early where this is open before it: in a block, one that begins a block
-- or a function, or ends a function; in a function, one that begins a function [2.4]
abbrev pub comes_early : ℕ → Place → Bool
comes_early c p = (is_some p.block && (nat_eq c LABEL || (nat_eq c FUNCTION || nat_eq c FUNCTION_END)))
    || (is_some p.function && nat_eq c FUNCTION)
