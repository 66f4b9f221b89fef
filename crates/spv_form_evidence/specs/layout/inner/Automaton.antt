-- What the automaton of the layout says of the instructions to come. (For the code alone.)
use Rattle.std.specs.Prelude.{◌+◌, ◌++◌, ℕ, List, Bool, filter, is_some}
use Rattle.std.specs.List.{range_with_len}
use Rattle.spv_module.specs.declared.profile.Profile.{Profile}
use Rattle.spv_module.specs.declared.profile.Profile.TheVariants.{Own, OpenCl}
use Rattle.spv_module.specs.declared.opcode.TheConstants as opcode
use Rattle.spv_layout.specs.declared.class.Class.{Class}
use Rattle.spv_layout.specs.declared.state.State.{State}
use Rattle.spv_layout.specs.Layout.{IsLayout, class_under}
use Rattle.spv_layout.specs.inner.State.{next_of, Remains}

-- What makes a module of these classes is what remains at the state.
pub record LeadsTo (cs : List Class) (s : State) : Type 0 where
  pub forth : (more : List Class) → IsLayout (cs ++ more) → Remains s more
  pub back : (more : List Class) → Remains s more → IsLayout (cs ++ more)

-- the number past the opcodes that a profile has
abbrev pub opcodes_of : Profile → ℕ
opcodes_of Own = opcode.MODULE_PROCESSED + 1
opcodes_of OpenCl = opcode.MEMBER_DECORATE_STRING + 1

-- whether an instruction of the opcode may come at a state
abbrev pub may_follow : Profile → State → ℕ → Bool
may_follow p s opcode = is_some (next_of s (class_under p opcode))

-- the opcodes below n that may
unfoldable pub followers : Profile → State → ℕ → List ℕ
followers p s n = filter (may_follow p s) (range_with_len 0 n)
