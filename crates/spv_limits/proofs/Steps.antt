-- One instruction more, by its opcode.
use Rattle.std.proofs.Common.{◌≡◌, ◌⊎◌, ◌∙◌, ◌↔◌, ◌<◌, ◌≤◌, ◌+◌, ◌||◌, ℕ, List, Bool, true, false, Some, None, IsTrue}
use Rattle.std.proofs.Common.{if◌then◌else◌, length, nat_eq, refl, sym, ap, subst, inl, inr, arith, eq-eqb, ne_eqb}
use Rattle.std.specs.Prelude.{slice_get}
use Rattle.std.specs.BTreeMap.{BTreeMap}
use Rattle.std.proofs.lemmas.Bool.{false≢true}
use Rattle.std.proofs.lemmas.Option.{none-some}
use Rattle.spv_module.specs.declared.opcode.TheConstants as opcode
use Rattle.spv_module.specs.Operand.{Plain, PlainInst}
use Rattle.spv_limits.specs.declared.past.Counts.{Counts}
use Rattle.spv_limits.specs.declared.tallies.Variables.{Variables}
use Rattle.spv_limits.specs.declared.table.Limit.TheVariants as limit
use Rattle.spv_limits.specs.Counted.{argument_count, before_indexes}
use Rattle.spv_limits.specs.Past.{IsPast}
use Rattle.spv_limits.specs.Table.{most}
use Rattle.spv_limits.specs.inner.Alone.{AreLong, HasTooMany, HasTooManyArguments, IsStdCall, PassesAlone, mode_of}
use Rattle.spv_limits.specs.inner.Alone as alone
use Rattle.spv_limits.specs.inner.Counting.{AreDepths, AreModes, AreVariables, HasModeTooMany, IsAnswer, IsTooDeep}
use Rattle.spv_limits.specs.inner.Counting.{IsUpTo, IsVariableTooMany}
use Rattle.spv_limits.proofs.Deep.{depths_same, no_struct}
use Rattle.spv_limits.proofs.Locals.{other_answer}
use Rattle.spv_limits.proofs.Modes.{modes_same}
use Rattle.spv_limits.proofs.Passing.{alone_passes, deep_passes, mode_passes, none_passes, variable_passes}

-- two opcodes are not one
apart : (code k m : ℕ) → code ≡ k → nat_eq k m ≡ false → code ≡ m → ⊥
apart code k m e never f = false≢true (sym never ∙ eq-eqb k m (sym e ∙ f))

-- instructions of an opcode are not counted: they declare no struct, give no mode, and are no variable and no function
pub record IsUncounted (code : ℕ) : Type 0 where
  pub struct : code ≡ opcode.TYPE_STRUCT → ⊥
  pub mode : code ≡ opcode.EXECUTION_MODE → ⊥
  pub mode_id : code ≡ opcode.EXECUTION_MODE_ID → ⊥
  pub variable : code ≡ opcode.VARIABLE → ⊥
  pub function : code ≡ opcode.FUNCTION → ⊥

no_mode : (i : PlainInst) → (i.opcode ≡ opcode.EXECUTION_MODE → ⊥) → (i.opcode ≡ opcode.EXECUTION_MODE_ID → ⊥)
    → None ≡ mode_of i
no_mode i a b = sym (ap (λ (c : Bool). if c then alone.mode_in i.operands else None)
    (ap (λ (c : Bool). c || nat_eq i.opcode opcode.EXECUTION_MODE_ID) (ne_eqb i.opcode opcode.EXECUTION_MODE a)
    ∙ ne_eqb i.opcode opcode.EXECUTION_MODE_ID b))

-- what stays, of the parts that an instruction does not concern
same_depths : (is : List PlainInst) (n : ℕ) (i : PlainInst) (m : BTreeMap ℕ ℕ) → slice_get is n ≡ Some i
    → (i.opcode ≡ opcode.TYPE_STRUCT → ⊥) → AreDepths is n m → (¬ (IsTooDeep is n)) × AreDepths is (n + 1) m
same_depths is n i m at never d = (λ h. no_struct is n i at never h.0 h.1, depths_same is n i m at never d)

same_modes : (is : List PlainInst) (n : ℕ) (i : PlainInst) (m : BTreeMap ℕ ℕ) → slice_get is n ≡ Some i
    → (i.opcode ≡ opcode.EXECUTION_MODE → ⊥) → (i.opcode ≡ opcode.EXECUTION_MODE_ID → ⊥) → AreModes is n m
    → (¬ (HasModeTooMany is n i)) × AreModes is (n + 1) m
same_modes is n i m at a b d = modes_same is n i m at (no_mode i a b) d

up_to : (is : List PlainInst) (n : ℕ) (i : PlainInst) (new : Counts) → slice_get is n ≡ Some i → ¬ (PassesAlone is i)
    → (¬ (IsTooDeep is n)) × AreDepths is (n + 1) new.depths → (¬ (HasModeTooMany is n i)) × AreModes is (n + 1) new.modes
    → (¬ (IsVariableTooMany is n i)) × AreVariables is (n + 1) new.variables.are_local new.variables.count
    → (¬ (IsPast is n)) × IsUpTo is (n + 1) new
up_to is n i new at a d m v =
    (none_passes is n i at a d.0 m.0 v.0, record { depths = d.1; modes = m.1; variables = v.1 })

-- an instruction that is not counted
uncounted : (is : List PlainInst) (n : ℕ) (i : PlainInst) (counts : Counts) → slice_get is n ≡ Some i
    → IsUncounted i.opcode → ¬ (PassesAlone is i) → IsUpTo is n counts → (¬ (IsPast is n)) × IsUpTo is (n + 1) counts
uncounted is n i counts at u a h = up_to is n i counts at a (same_depths is n i counts.depths at u.struct h.depths)
    (same_modes is n i counts.modes at u.mode u.mode_id h.modes)
    (other_answer is n i counts.variables.are_local counts.variables.count at u.variable u.function h.variables)

pub uncounted_step : (is : List PlainInst) (n : ℕ) (i : PlainInst) (b : Bool) (counts : Counts)
    → slice_get is n ≡ Some i → IsUncounted i.opcode → (IsTrue b ↔ PassesAlone is i) → IsUpTo is n counts
    → IsAnswer b (IsPast is n) (IsUpTo is (n + 1) counts)
uncounted_step is n i true counts at u told h = (i, at, alone_passes is n i (told.0 refl))
uncounted_step is n i false counts at u told h = uncounted is n i counts at u (λ p. false≢true (told.1 p)) h

-- what is told of the operands that are lent
pub short_texts : (i : PlainInst) (os : List Plain) (b : Bool) → os ≡ i.operands → (IsTrue b ↔ AreLong os) → b ≡ false
    → ¬ (AreLong i.operands)
short_texts i os b same told e long = false≢true (sym e ∙ told.1 (subst AreLong (sym same) long))

-- whether it passes a limit by what it has itself, where its texts are not too long
pub many_alone : (is : List PlainInst) (i : PlainInst) (b : Bool) → ¬ (AreLong i.operands)
    → (i.opcode ≡ opcode.EXT_INST → ⊥) → (IsTrue b ↔ HasTooMany i) → (IsTrue b ↔ PassesAlone is i)
many_alone is i b short never told = (
  λ t. inl (told.0 t),
  λ h. elim h [
    | inl many ↦ told.1 many
    | inr other ↦ elim other [ inl long ↦ absurd (short long) | inr args ↦ absurd (never args.0) ]
  ],
)

-- none has too many members, parameters, indexes or pairs
pub record IsFew (code : ℕ) : Type 0 where
  pub struct : code ≡ opcode.TYPE_STRUCT → ⊥
  pub function_type : code ≡ opcode.TYPE_FUNCTION → ⊥
  pub switch : code ≡ opcode.SWITCH → ⊥
  pub indexes : before_indexes code ≡ None

few : (i : PlainInst) → IsFew i.opcode → ¬ (HasTooMany i)
few i f (alone.of_members e h) = f.struct e
few i f (alone.of_parameters e h) = f.function_type e
few i f (alone.of_pairs e h) = f.switch e
few i f (alone.of_indexes h) = none-some h.0 (sym f.indexes ∙ h.1)

few_at : (code k : ℕ) → code ≡ k → nat_eq k opcode.TYPE_STRUCT ≡ false → nat_eq k opcode.TYPE_FUNCTION ≡ false
    → nat_eq k opcode.SWITCH ≡ false → before_indexes k ≡ None → IsFew code
few_at code k op s f w x = record {
  struct = apart code k opcode.TYPE_STRUCT op s;
  function_type = apart code k opcode.TYPE_FUNCTION op f;
  switch = apart code k opcode.SWITCH op w;
  indexes = ap before_indexes op ∙ x;
}

mode_few : (code : ℕ) → (code ≡ opcode.EXECUTION_MODE) ⊎ (code ≡ opcode.EXECUTION_MODE_ID) → IsFew code
mode_few code (inl e) = few_at code opcode.EXECUTION_MODE e refl refl refl refl
mode_few code (inr e) = few_at code opcode.EXECUTION_MODE_ID e refl refl refl refl

variable_few : (code : ℕ) → (code ≡ opcode.FUNCTION) ⊎ (code ≡ opcode.VARIABLE) → IsFew code
variable_few code (inl e) = few_at code opcode.FUNCTION e refl refl refl refl
variable_few code (inr e) = few_at code opcode.VARIABLE e refl refl refl refl

-- it has too many arguments, and nothing else is asked of it
arguments_alone : (is : List PlainInst) (i : PlainInst) (b : Bool) → ¬ (AreLong i.operands) → IsFew i.opcode
    → (IsTrue b ↔ HasTooManyArguments is i) → (IsTrue b ↔ PassesAlone is i)
arguments_alone is i b short f told = (
  λ t. inr (inr (told.0 t)),
  λ h. elim h [
    | inl many ↦ absurd (few i f many)
    | inr other ↦ elim other [ inl long ↦ absurd (short long) | inr args ↦ told.1 args ]
  ],
)

-- it passes none by what it has itself
none_many : (is : List PlainInst) (i : PlainInst) → ¬ (AreLong i.operands) → ¬ (HasTooMany i)
    → (i.opcode ≡ opcode.EXT_INST → ⊥) → ¬ (PassesAlone is i)
none_many is i short many never h = elim h [
  | inl m ↦ many m
  | inr other ↦ elim other [ inl long ↦ short long | inr args ↦ never args.0 ]
]

none_alone : (is : List PlainInst) (i : PlainInst) → ¬ (AreLong i.operands) → IsFew i.opcode
    → (i.opcode ≡ opcode.EXT_INST → ⊥) → ¬ (PassesAlone is i)
none_alone is i short f never = none_many is i short (few i f) never

-- so few operands pass no limit on how many there are
few_many : (i : PlainInst) → length i.operands ≤ 255 → ¬ (HasTooMany i)
few_many i l (alone.of_members e h) = absurd (let m : most limit.Members ≡ 16383 = refl in omega (arith, l, h, m))
few_many i l (alone.of_parameters e h) = absurd (let m : most limit.Parameters ≡ 255 = refl in omega (arith, l, h, m))
few_many i l (alone.of_pairs e h) = absurd (let m : most limit.Pairs ≡ 16383 = refl in omega (arith, l, h, m))
few_many i l (alone.of_indexes h) =
    absurd (let m : most limit.Indexes ≡ 255 = refl in let many = h.2 in omega (arith, l, many, m))

few_alone : (is : List PlainInst) (i : PlainInst) → ¬ (AreLong i.operands) → length i.operands ≤ 255
    → ¬ (PassesAlone is i)
few_alone is i short l h = elim h [
  | inl many ↦ few_many i l many
  | inr other ↦ elim other [
    | inl long ↦ short long
    | inr args ↦
        let m : most limit.Arguments ≡ 255 = refl in
        let many = args.1 in absurd (omega (arith, l, many, m))
  ]
]

pub quiet_step : (is : List PlainInst) (n : ℕ) (i : PlainInst) (counts : Counts) → slice_get is n ≡ Some i
    → IsUncounted i.opcode → length i.operands ≤ 255 → ¬ (AreLong i.operands) → IsUpTo is n counts
    → (¬ (IsPast is n)) × IsUpTo is (n + 1) counts
quiet_step is n i counts at u l short h = uncounted is n i counts at u (few_alone is i short l) h

-- an OpTypeStruct
pub struct_answer : (i : PlainInst) (b : Bool) (P R : Type 0) → ¬ (HasTooMany i) → IsAnswer b P R
    → IsAnswer b (HasTooMany i ⊎ P) R
struct_answer i true P R never h = inr h
struct_answer i false P R never h = (λ x. elim x [ inl p ↦ never p | inr q ↦ h.0 q ], h.1)

pub struct_step : (is : List PlainInst) (n : ℕ) (i : PlainInst) (b : Bool) (old new : Counts) → slice_get is n ≡ Some i
    → i.opcode ≡ opcode.TYPE_STRUCT → ¬ (AreLong i.operands)
    → IsAnswer b (HasTooMany i ⊎ IsTooDeep is n) (AreDepths is (n + 1) new.depths) → new.modes ≡ old.modes
    → new.variables ≡ old.variables → IsUpTo is n old → IsAnswer b (IsPast is n) (IsUpTo is (n + 1) new)
struct_step is n i true old new at op short told m v h = elim told [
  | inl many ↦ (i, at, alone_passes is n i (inl many))
  | inr deep ↦ (i, at, deep_passes is n i deep)
]
struct_step is n i false old new at op short told m v h = up_to is n i new at
    (none_many is i short (λ x. told.0 (inl x)) (never opcode.EXT_INST refl)) (λ x. told.0 (inr x), told.1)
    (same_modes is n i new.modes at (never opcode.EXECUTION_MODE refl) (never opcode.EXECUTION_MODE_ID refl)
    (subst (λ (w : BTreeMap ℕ ℕ). AreModes is n w) (sym m) h.modes))
    (other_answer is n i new.variables.are_local new.variables.count at (never opcode.VARIABLE refl)
    (never opcode.FUNCTION refl) (subst (λ (w : Variables). AreVariables is n w.are_local w.count) (sym v) h.variables))
  where
    never : (m : ℕ) → nat_eq opcode.TYPE_STRUCT m ≡ false → i.opcode ≡ m → ⊥
    never m = apart i.opcode opcode.TYPE_STRUCT m op

-- an OpExecutionMode or OpExecutionModeId
no_other_mode : (code m : ℕ) → nat_eq opcode.EXECUTION_MODE m ≡ false → nat_eq opcode.EXECUTION_MODE_ID m ≡ false
    → (code ≡ opcode.EXECUTION_MODE) ⊎ (code ≡ opcode.EXECUTION_MODE_ID) → code ≡ m → ⊥
no_other_mode code m a b (inl e) f = apart code opcode.EXECUTION_MODE m e a f
no_other_mode code m a b (inr e) f = apart code opcode.EXECUTION_MODE_ID m e b f

pub mode_step : (is : List PlainInst) (n : ℕ) (i : PlainInst) (b : Bool) (old new : Counts) → slice_get is n ≡ Some i
    → (i.opcode ≡ opcode.EXECUTION_MODE) ⊎ (i.opcode ≡ opcode.EXECUTION_MODE_ID) → ¬ (AreLong i.operands)
    → IsAnswer b (HasModeTooMany is n i) (AreModes is (n + 1) new.modes) → new.depths ≡ old.depths
    → new.variables ≡ old.variables → IsUpTo is n old → IsAnswer b (IsPast is n) (IsUpTo is (n + 1) new)
mode_step is n i true old new at op short told d v h = (i, at, mode_passes is n i told)
mode_step is n i false old new at op short told d v h = up_to is n i new at
    (none_alone is i short (mode_few i.opcode op) (no_other_mode i.opcode opcode.EXT_INST refl refl op))
    (same_depths is n i new.depths at (mode_few i.opcode op).struct
    (subst (λ (w : BTreeMap ℕ ℕ). AreDepths is n w) (sym d) h.depths)) told
    (other_answer is n i new.variables.are_local new.variables.count at
    (no_other_mode i.opcode opcode.VARIABLE refl refl op) (no_other_mode i.opcode opcode.FUNCTION refl refl op)
    (subst (λ (w : Variables). AreVariables is n w.are_local w.count) (sym v) h.variables))

-- an OpFunction or OpVariable
no_other_variable : (code m : ℕ) → nat_eq opcode.VARIABLE m ≡ false → nat_eq opcode.FUNCTION m ≡ false
    → (code ≡ opcode.FUNCTION) ⊎ (code ≡ opcode.VARIABLE) → code ≡ m → ⊥
no_other_variable code m a b (inl e) f = apart code opcode.FUNCTION m e b f
no_other_variable code m a b (inr e) f = apart code opcode.VARIABLE m e a f

pub variable_step : (is : List PlainInst) (n : ℕ) (i : PlainInst) (b : Bool) (old : Counts) (w : Variables)
    → slice_get is n ≡ Some i → (i.opcode ≡ opcode.FUNCTION) ⊎ (i.opcode ≡ opcode.VARIABLE) → ¬ (AreLong i.operands)
    → IsAnswer b (IsVariableTooMany is n i) (AreVariables is (n + 1) w.are_local w.count) → IsUpTo is n old
    → IsAnswer b (IsPast is n) (IsUpTo is (n + 1) record { depths = old.depths; modes = old.modes; variables = w })
variable_step is n i true old w at op short told h = (i, at, variable_passes is n i told)
variable_step is n i false old w at op short told h =
    up_to is n i (record { depths = old.depths; modes = old.modes; variables = w }) at
    (none_alone is i short (variable_few i.opcode op) (no_other_variable i.opcode opcode.EXT_INST refl refl op))
    (same_depths is n i old.depths at (variable_few i.opcode op).struct h.depths)
    (same_modes is n i old.modes at (no_other_variable i.opcode opcode.EXECUTION_MODE refl refl op)
    (no_other_variable i.opcode opcode.EXECUTION_MODE_ID refl refl op) h.modes) told

-- an OpExtInst
pub call_step : (is : List PlainInst) (n : ℕ) (i : PlainInst) (b : Bool) (counts : Counts) → slice_get is n ≡ Some i
    → i.opcode ≡ opcode.EXT_INST → ¬ (AreLong i.operands) → (IsTrue b ↔ HasTooManyArguments is i)
    → IsUpTo is n counts → IsAnswer b (IsPast is n) (IsUpTo is (n + 1) counts)
call_step is n i b counts at op short told h = uncounted_step is n i b counts at
    record {
      struct = never opcode.TYPE_STRUCT refl;
      mode = never opcode.EXECUTION_MODE refl;
      mode_id = never opcode.EXECUTION_MODE_ID refl;
      variable = never opcode.VARIABLE refl;
      function = never opcode.FUNCTION refl;
    } (arguments_alone is i b short (few_at i.opcode opcode.EXT_INST op refl refl refl refl) told) h
  where
    never : (m : ℕ) → nat_eq opcode.EXT_INST m ≡ false → i.opcode ≡ m → ⊥
    never m = apart i.opcode opcode.EXT_INST m op

pub too_many_arguments : (is : List PlainInst) (i : PlainInst) (os : List Plain) (b : Bool)
    → i.opcode ≡ opcode.EXT_INST → os ≡ i.operands → most limit.Arguments < argument_count os
    → (IsTrue b ↔ IsStdCall is os) → (IsTrue b ↔ HasTooManyArguments is i)
too_many_arguments is i os b op same many told = (
  λ t. (
    op,
    subst (λ (xs : List Plain). most limit.Arguments < argument_count xs) same many,
    subst (λ (xs : List Plain). IsStdCall is xs) same (told.0 t),
  ),
  λ h. told.1 (subst (λ (xs : List Plain). IsStdCall is xs) (sym same) h.2),
)

pub no_arguments : (is : List PlainInst) (i : PlainInst) (os : List Plain) (b : Bool) → os ≡ i.operands → b ≡ false
    → (IsTrue b ↔ (most limit.Arguments < argument_count os)) → (IsTrue b ↔ HasTooManyArguments is i)
no_arguments is i os b same e told = (
  λ t. absurd (false≢true (sym e ∙ t)),
  λ h. told.1 (subst (λ (xs : List Plain). most limit.Arguments < argument_count xs) (sym same) h.1),
)
