-- What the numbers of the code's list say of an opcode. (For the code alone.)
use Rattle.std.specs.Prelude.{◌≡◌, ◌&&◌, ◌||◌, ℕ, nat_eq, nat_le, if◌then◌else◌}
use Rattle.spv_type_rules.specs.declared.concern.Concern.{Concern}
use Rattle.spv_type_rules.specs.declared.concern.Concern.TheVariants.{Declaration, Constant, Function, Return, Call}
use Rattle.spv_type_rules.specs.declared.concern.Concern.TheVariants.{Nothing}
use Rattle.spv_type_rules.specs.inner.Concern.{concern_of, is_operation, is_silent}
use Rattle.spv_type_rules.specs.inner.Repeat.{is_declared_once}

abbrev pub concern_by : ℕ → Concern
concern_by turn =
    if nat_le 2 turn && nat_le turn 3 then Declaration
    else (if nat_eq turn 4 then Constant
    else (if nat_eq turn 5 then Function
    else (if nat_eq turn 6 then Return
    else (if nat_eq turn 7 then Call
    else Nothing))))

-- the number is that of what the rules of types ask of the opcode n
pub record IsTurn (turn n : ℕ) : Type 0 where
  pub operation : nat_le 8 turn ≡ is_operation n
  pub silent : nat_eq turn 1 || nat_eq turn 9 ≡ is_silent n
  pub once : nat_eq turn 2 ≡ is_declared_once n
  pub concern : concern_by turn ≡ concern_of n
