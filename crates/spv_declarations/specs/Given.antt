-- What single instructions say of ids and of members. [3.49.3]
use Rattle.std.specs.Prelude.{if◌then◌else◌, ◌≡◌, ℕ, List, [], ◌∷◌, Option, Some, None, Bool, nat_eq, ◌||◌, drop}
use Rattle.std.specs.Prelude.{slice_get}
use Rattle.std.specs.Prelude.{◌⊎◌}
use Rattle.spv_module.specs.declared.opcode.TheConstants as opcode
use Rattle.spv_module.specs.Operand.{Plain, Id, Word, Value, PlainInst}

-- Instruction n is such a one. [own]
abbrev pub At : List PlainInst → (PlainInst → Type 0) → ℕ → Type 0
At is P n = (i : PlainInst) × (slice_get is n ≡ Some i) × P i

-- the opcodes of OpDecorate, OpDecorateId and OpDecorateString; of OpMemberDecorate and OpMemberDecorateString; and of
-- these and OpMemberName [3.49.2, 3.49.3]
abbrev pub is_decorate : ℕ → Bool
is_decorate n = nat_eq n opcode.DECORATE || (nat_eq n opcode.DECORATE_ID || nat_eq n opcode.DECORATE_STRING)

abbrev pub is_member_decorate : ℕ → Bool
is_member_decorate n = nat_eq n opcode.MEMBER_DECORATE || nat_eq n opcode.MEMBER_DECORATE_STRING

abbrev pub is_of_member : ℕ → Bool
is_of_member n = nat_eq n opcode.MEMBER_NAME || is_member_decorate n

-- OpDecorate %x d .., or one of the others: the id and the decoration that the instruction gives it [3.49.3]
abbrev pub given_in : List Plain → Option (ℕ × ℕ)
given_in (Id x ∷ Value k d ∷ os) = Some (x, d)
given_in _ = None

abbrev pub given_by : PlainInst → Option (ℕ × ℕ)
given_by i = if is_decorate i.opcode then given_in i.operands else None

-- OpMemberDecorate %t m d .., or the other: the struct, the member and the decoration that it gives it [3.49.3]
abbrev pub member_given_in : List Plain → Option (ℕ × ℕ × ℕ)
member_given_in (Id t ∷ Word m ∷ Value k d ∷ os) = Some (t, m, d)
member_given_in _ = None

abbrev pub member_given_by : PlainInst → Option (ℕ × ℕ × ℕ)
member_given_by i = if is_member_decorate i.opcode then member_given_in i.operands else None

-- the member that an instruction names or decorates: OpMemberName %t m .., or one of the others [3.49.2, 3.49.3]
abbrev pub member_in : List Plain → Option (ℕ × ℕ)
member_in (Id t ∷ Word m ∷ os) = Some (t, m)
member_in _ = None

abbrev pub member_by : PlainInst → Option (ℕ × ℕ)
member_by i = if is_of_member i.opcode then member_in i.operands else None

-- the group that an instruction of that opcode names, OpGroupDecorate %g ..; what stands behind it [3.49.3]
abbrev pub first_in : List Plain → Option ℕ
first_in (Id g ∷ os) = Some g
first_in _ = None

abbrev pub group_by : ℕ → PlainInst → Option ℕ
group_by n i = if nat_eq i.opcode n then first_in i.operands else None

abbrev pub behind_first : List Plain → List Plain
behind_first (o ∷ os) = os
behind_first [] = []

-- The instruction gives the id the decoration. [3.49.3]
abbrev pub Gives : ℕ → PlainInst → ℕ → Type 0
Gives d i x = given_by i ≡ Some (x, d)

-- One of the operands is the id. [own]
abbrev pub HasId : List Plain → ℕ → Type 0
HasId [] x = ⊥
HasId (Id y ∷ os) x = (y ≡ x) ⊎ HasId os x
HasId (o ∷ os) x = HasId os x

-- OpGroupDecorate %g ..: one of the targets is x. [3.49.3]
abbrev pub NamesTarget : PlainInst → ℕ → ℕ → Type 0
NamesTarget i g x = (group_by opcode.GROUP_DECORATE i ≡ Some g) × HasId (behind_first i.operands) x

-- OpGroupMemberDecorate %g ..: one of the pairs behind g is t and m. [3.49.3]
abbrev pub HasPair : List Plain → ℕ → ℕ → Type 0
HasPair (Id u ∷ Word k ∷ os) t m = ((u ≡ t) × (k ≡ m)) ⊎ HasPair os t m
HasPair _ t m = ⊥

abbrev pub NamesMember : PlainInst → ℕ → ℕ → ℕ → Type 0
NamesMember i g t m =
    (group_by opcode.GROUP_MEMBER_DECORATE i ≡ Some g) × HasPair (behind_first i.operands) t m

-- Some operand behind the first two is an id: one behind the mode of OpExecutionMode %f mode .., or behind the
-- decoration of OpDecorate %x d ... [3.49.3, 3.49.5]
abbrev pub HasIdBehind : List Plain → Type 0
HasIdBehind os = (x : ℕ) × HasId (drop 2 os) x
