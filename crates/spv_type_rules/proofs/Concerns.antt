-- What the rules demand of an instruction that they do not speak of.
use Rattle.std.proofs.Common.{◌≡◌, ◌∙◌, sym, ◌↔◌, lit≤, if◌then◌else◌, ◌≤◌, ◌<◌, ◌+◌, ◌&&◌, ◌||◌, inl, inr, ℕ, List}
use Rattle.std.proofs.Common.{Option, Some, None, Bool, true, false, not, nat_eq, nat_le, refl, arith}
use Rattle.std.specs.Prelude.{IsTrue}
use Rattle.std.proofs.lemmas.Bool.{cases_lt, ne_eqb, lt-leb}
use Rattle.spv_module.specs.declared.opcode.TheConstants as opcode
use Rattle.spv_module.specs.Operand.{PlainInst}
use Rattle.spv_module.specs.declared.fault.Rule.{Rule}
use Rattle.spv_module.specs.declared.fault.Rule.TheVariants as rule
use Rattle.spv_type_forms.proofs.Opcodes.{both, all_from, one_from}
use Rattle.spv_type_rules.specs.declared.concern.Concern.{Concern}
use Rattle.spv_type_rules.specs.declared.concern.Concern.TheVariants as concern
use Rattle.spv_type_rules.specs.inner.Concern.{concern_of, is_between, is_operation, is_silent}
use Rattle.spv_type_rules.specs.Declaration.{declaration_of}
use Rattle.spv_type_rules.specs.inner.Declaration.{IsSoundDeclaration}
use Rattle.spv_type_rules.specs.Constant.{constant_of}
use Rattle.spv_type_rules.specs.inner.Constant.{IsSoundConstant}
use Rattle.spv_type_rules.specs.Repeat.{Repeats}
use Rattle.spv_type_rules.specs.inner.Repeat.{is_declared_once}
use Rattle.spv_type_rules.specs.Keeps.{Keeps, KeepsFunctions, KeepsReturns}
use Rattle.spv_type_rules.specs.inner.Keeps.{CallsAreSound}
use Rattle.spv_type_rules.specs.inner.Rules.{Unasked, IsFirstHere}
use Rattle.spv_type_rules.proofs.Firsts.{keeps_below, all_kept, first_y6, first_y7, first_y8}

-- Tests of opcodes.
abbrev is_nothing : {A : Type 0} → Option A → Bool
is_nothing None = true
is_nothing (Some a) = false

abbrev is_it : Concern → Concern → Bool
is_it concern.Declaration concern.Declaration = true
is_it concern.Constant concern.Constant = true
is_it concern.Function concern.Function = true
is_it concern.Call concern.Call = true
is_it concern.Return concern.Return = true
is_it concern.Nothing concern.Nothing = true
is_it _ _ = false

nothing : {A : Type 0} (o : Option A) → is_nothing o ≡ true → o ≡ None
nothing None h = refl
nothing (Some a) h = cc

no_concern : (c : Concern) → is_it concern.Nothing c ≡ true → c ≡ concern.Nothing
no_concern concern.Nothing h = refl
no_concern c h = cc

-- No rule but those of its concern speaks of an opcode.
abbrev of_declarations : ℕ → Bool
of_declarations n = is_it concern.Declaration (concern_of n)
    || (is_nothing (declaration_of n) && not (is_declared_once n))

abbrev of_constants : ℕ → Bool
of_constants n = is_it concern.Constant (concern_of n) || is_nothing (constant_of n)

abbrev of_operations : ℕ → Bool
of_operations n = not (is_operation n) || is_it concern.Nothing (concern_of n)

abbrev speaks_alone : ℕ → Bool
speaks_alone n = of_declarations n && (of_constants n && of_operations n)

-- an opcode from which on no rule of these speaks of one, and all are those of operations
abbrev limit : ℕ
limit = opcode.NAMED_BARRIER_INITIALIZE

some_alone : all_from speaks_alone 0 limit ≡ true
some_alone = refl

alone : (n : ℕ) → n < limit → speaks_alone n ≡ true
alone n h = one_from speaks_alone limit 0 n some_alone (omega arith) h

-- opcodes past those
differs : (n m : ℕ) → m < n → nat_eq n m ≡ false
differs n m h = ne_eqb n m (λ e. absurd (omega arith))

and_false : (b : Bool) → b && false ≡ false
and_false true = refl
and_false false = refl

past : (a b n : ℕ) → b < n → is_between a b n ≡ false
past a b n h = let e : nat_le n b ≡ false = lt-leb n b h in rw e (and_false (nat_le a n))

late_declaration : (n : ℕ) → limit ≤ n → declaration_of n ≡ None
late_declaration n h =
    rw (
      differs n opcode.TYPE_INT (omega arith),
      differs n opcode.TYPE_FLOAT (omega arith),
      differs n opcode.TYPE_VECTOR (omega arith),
      differs n opcode.TYPE_ARRAY (omega arith),
      differs n opcode.TYPE_STRUCT (omega arith),
      differs n opcode.TYPE_POINTER (omega arith),
      differs n opcode.TYPE_FUNCTION (omega arith),
      differs n opcode.TYPE_FORWARD_POINTER (omega arith),
      differs n opcode.TYPE_IMAGE (omega arith),
      differs n opcode.TYPE_SAMPLED_IMAGE (omega arith),
    ) refl

pub late_once : (n : ℕ) → limit ≤ n → is_declared_once n ≡ false
late_once n h = rw (
  past opcode.TYPE_VOID opcode.TYPE_SAMPLED_IMAGE n (omega arith),
  differs n opcode.TYPE_OPAQUE (omega arith),
  past opcode.TYPE_FUNCTION opcode.TYPE_PIPE n (omega arith),
  differs n opcode.TYPE_PIPE_STORAGE (omega arith),
  differs n opcode.TYPE_NAMED_BARRIER (omega arith),
) refl

late_constant : (n : ℕ) → limit ≤ n → constant_of n ≡ None
late_constant n h =
    rw (
      differs n opcode.CONSTANT_TRUE (omega arith),
      differs n opcode.CONSTANT_FALSE (omega arith),
      differs n opcode.SPEC_CONSTANT_TRUE (omega arith),
      differs n opcode.SPEC_CONSTANT_FALSE (omega arith),
      differs n opcode.CONSTANT (omega arith),
      differs n opcode.SPEC_CONSTANT (omega arith),
      differs n opcode.CONSTANT_COMPOSITE (omega arith),
      differs n opcode.SPEC_CONSTANT_COMPOSITE (omega arith),
      differs n opcode.CONSTANT_NULL (omega arith),
      differs n opcode.CONSTANT_SAMPLER (omega arith),
      differs n opcode.CONSTANT_PIPE_STORAGE (omega arith),
    ) refl

-- what is left of a test, where its first part fails
left_of : (a b : Bool) → a || b ≡ true → a ≡ false → b ≡ true
left_of true b h e = cc
left_of false b h e = h

not_yes : (b : Bool) → not b ≡ true → b ≡ false
not_yes true h = cc
not_yes false h = refl

no_declaration : (n : ℕ) → is_it concern.Declaration (concern_of n) ≡ false → declaration_of n ≡ None
no_declaration n e = elim (cases_lt n limit) [
  | inl h ↦
      let t = both (of_declarations n) (of_constants n && of_operations n) (alone n h) in
      let l = left_of (is_it concern.Declaration (concern_of n))
      (is_nothing (declaration_of n) && not (is_declared_once n)) t.0 e in
      nothing (declaration_of n) (both (is_nothing (declaration_of n)) (not (is_declared_once n)) l).0
  | inr h ↦ late_declaration n h
]

no_repeat : (n : ℕ) → is_it concern.Declaration (concern_of n) ≡ false → is_declared_once n ≡ false
no_repeat n e = elim (cases_lt n limit) [
  | inl h ↦
      let t = both (of_declarations n) (of_constants n && of_operations n) (alone n h) in
      let l = left_of (is_it concern.Declaration (concern_of n))
      (is_nothing (declaration_of n) && not (is_declared_once n)) t.0 e in
      not_yes (is_declared_once n) (both (is_nothing (declaration_of n)) (not (is_declared_once n)) l).1
  | inr h ↦ late_once n h
]

no_constant : (n : ℕ) → is_it concern.Constant (concern_of n) ≡ false → constant_of n ≡ None
no_constant n e = elim (cases_lt n limit) [
  | inl h ↦
      let t = both (of_constants n) (of_operations n)
      (both (of_declarations n) (of_constants n && of_operations n) (alone n h)).1 in
      nothing (constant_of n) (left_of (is_it concern.Constant (concern_of n)) (is_nothing (constant_of n)) t.0 e)
  | inr h ↦ late_constant n h
]

pub late_concern : (n : ℕ) → limit ≤ n → concern_of n ≡ concern.Nothing
late_concern n h =
    rw (
      past opcode.TYPE_VOID opcode.TYPE_FORWARD_POINTER n (omega arith),
      differs n opcode.TYPE_PIPE_STORAGE (omega arith),
      differs n opcode.TYPE_NAMED_BARRIER (omega arith),
      past opcode.CONSTANT_TRUE opcode.SPEC_CONSTANT_COMPOSITE n (omega arith),
      differs n opcode.CONSTANT_PIPE_STORAGE (omega arith),
      differs n opcode.FUNCTION (omega arith),
      differs n opcode.FUNCTION_PARAMETER (omega arith),
      differs n opcode.FUNCTION_CALL (omega arith),
      differs n opcode.RETURN (omega arith),
      differs n opcode.RETURN_VALUE (omega arith),
    ) refl

no_operation : (b : Bool) → b ≡ true → not b ≡ false
no_operation true h = refl
no_operation false h = cc

unconcerned : (n : ℕ) → is_operation n ≡ true → concern_of n ≡ concern.Nothing
unconcerned n e = elim (cases_lt n limit) [
  | inl h ↦
      let t = both (of_constants n) (of_operations n)
      (both (of_declarations n) (of_constants n && of_operations n) (alone n h)).1 in
      no_concern (concern_of n) (left_of (not (is_operation n)) (is_it concern.Nothing (concern_of n)) t.1
      (no_operation (is_operation n) e))
  | inr h ↦ late_concern n h
]

-- What a rule demands of an instruction of another concern.

unasked_y2 : (is : List PlainInst) (n : ℕ) (i : PlainInst) → is_it concern.Declaration (concern_of i.opcode) ≡ false
    → IsSoundDeclaration is n i
unasked_y2 is n i e = rw (no_declaration i.opcode e) tt

unasked_y3 : (is : List PlainInst) (n : ℕ) (i : PlainInst) → is_it concern.Declaration (concern_of i.opcode) ≡ false
    → Repeats is n i → ⊥
unasked_y3 is n i e r = let no : false ≡ true = sym (no_repeat i.opcode e) ∙ r.once in cc

unasked_y4 : (is : List PlainInst) (i : PlainInst) → is_it concern.Constant (concern_of i.opcode) ≡ false
    → IsSoundConstant is i
unasked_y4 is i e = rw (no_constant i.opcode e) tt

no_opcode : (c : Concern) (n m : ℕ) → is_it c (concern_of n) ≡ false → is_it c (concern_of m) ≡ true → n ≡ m → ⊥
no_opcode c n m e h same = let f : is_it c (concern_of m) ≡ false = rw (← same) e in
    let no : true ≡ false = sym h ∙ f in cc

unasked_y6 : (is : List PlainInst) (n : ℕ) (i : PlainInst) → is_it concern.Function (concern_of i.opcode) ≡ false
    → KeepsFunctions is n i
unasked_y6 is n i e = record {
  function = λ h. absurd (no_opcode concern.Function i.opcode opcode.FUNCTION e refl h);
  parameter = λ h. absurd (no_opcode concern.Function i.opcode opcode.FUNCTION_PARAMETER e refl h);
}

unasked_y7 : (is : List PlainInst) (n : ℕ) (i : PlainInst) → is_it concern.Return (concern_of i.opcode) ≡ false
    → KeepsReturns is n i
unasked_y7 is n i e = record {
  nothing = λ h. absurd (no_opcode concern.Return i.opcode opcode.RETURN e refl h);
  value = λ h. absurd (no_opcode concern.Return i.opcode opcode.RETURN_VALUE e refl h);
}

unasked_y8 : (is : List PlainInst) (i : PlainInst) → is_it concern.Call (concern_of i.opcode) ≡ false
    → CallsAreSound is i
unasked_y8 is i e = λ h. absurd (no_opcode concern.Call i.opcode opcode.FUNCTION_CALL e refl h)

-- The answer by the one rule that speaks of the instruction.

abbrev pub unless : Bool → Rule → Option Rule
unless keeps r = if keeps then None else Some r

untrue : (P : Type 0) → (IsTrue false ↔ P) → P → ⊥
untrue P h p = let no : false ≡ true = h.1 p in cc

pub told_y3 : (is : List PlainInst) (n : ℕ) (i : PlainInst) (b : Bool) → concern_of i.opcode ≡ concern.Declaration
    → IsSoundDeclaration is n i → (IsTrue b ↔ Repeats is n i)
    → IsFirstHere is n i (if b then Some rule.Y3 else None)
told_y3 is n i true c y2 h = record {
  of_stage = refl;
  last = lit≤ tt;
  broken = λ keeps. keeps (h.0 refl);
  least = λ q l. keeps_below is n i 27 (λ _. y2) (λ k. absurd (omega arith)) (λ k. absurd (omega arith))
      (λ k. absurd (omega arith)) (λ k. absurd (omega arith)) (λ k. absurd (omega arith)) q l;
}
told_y3 is n i false c y2 h =
    all_kept is n i y2 (untrue (Repeats is n i) h) (unasked_y4 is i (rw c refl)) (unasked_y6 is n i (rw c refl))
    (unasked_y7 is n i (rw c refl)) (unasked_y8 is i (rw c refl))

pub told_y4 : (is : List PlainInst) (n : ℕ) (i : PlainInst) (b : Bool) → concern_of i.opcode ≡ concern.Constant
    → (IsTrue b ↔ IsSoundConstant is i)
    → IsFirstHere is n i (unless b rule.Y4)
told_y4 is n i false c h = record {
  of_stage = refl;
  last = lit≤ tt;
  broken = untrue (IsSoundConstant is i) h;
  least = λ q l. keeps_below is n i 28 (λ _. unasked_y2 is n i (rw c refl)) (λ _. unasked_y3 is n i (rw c refl))
      (λ k. absurd (omega arith)) (λ k. absurd (omega arith)) (λ k. absurd (omega arith))
      (λ k. absurd (omega arith)) q l;
}
told_y4 is n i true c h =
    all_kept is n i (unasked_y2 is n i (rw c refl)) (unasked_y3 is n i (rw c refl)) (h.0 refl)
    (unasked_y6 is n i (rw c refl)) (unasked_y7 is n i (rw c refl)) (unasked_y8 is i (rw c refl))

pub told_y6 : (is : List PlainInst) (n : ℕ) (i : PlainInst) (b : Bool) → concern_of i.opcode ≡ concern.Function
    → (IsTrue b ↔ KeepsFunctions is n i)
    → IsFirstHere is n i (unless b rule.Y6)
told_y6 is n i false c h =
    first_y6 is n i (unasked_y2 is n i (rw c refl)) (unasked_y3 is n i (rw c refl)) (unasked_y4 is i (rw c refl))
    (untrue (KeepsFunctions is n i) h)
told_y6 is n i true c h =
    all_kept is n i (unasked_y2 is n i (rw c refl)) (unasked_y3 is n i (rw c refl)) (unasked_y4 is i (rw c refl))
    (h.0 refl) (unasked_y7 is n i (rw c refl)) (unasked_y8 is i (rw c refl))

pub told_y7 : (is : List PlainInst) (n : ℕ) (i : PlainInst) (b : Bool) → concern_of i.opcode ≡ concern.Return
    → (IsTrue b ↔ KeepsReturns is n i)
    → IsFirstHere is n i (unless b rule.Y7)
told_y7 is n i false c h =
    first_y7 is n i (unasked_y2 is n i (rw c refl)) (unasked_y3 is n i (rw c refl)) (unasked_y4 is i (rw c refl))
    (unasked_y6 is n i (rw c refl)) (untrue (KeepsReturns is n i) h)
told_y7 is n i true c h =
    all_kept is n i (unasked_y2 is n i (rw c refl)) (unasked_y3 is n i (rw c refl)) (unasked_y4 is i (rw c refl))
    (unasked_y6 is n i (rw c refl)) (h.0 refl) (unasked_y8 is i (rw c refl))

pub told_y8 : (is : List PlainInst) (n : ℕ) (i : PlainInst) (b : Bool) → concern_of i.opcode ≡ concern.Call
    → (IsTrue b ↔ CallsAreSound is i)
    → IsFirstHere is n i (unless b rule.Y8)
told_y8 is n i false c h =
    first_y8 is n i (unasked_y2 is n i (rw c refl)) (unasked_y3 is n i (rw c refl)) (unasked_y4 is i (rw c refl))
    (unasked_y6 is n i (rw c refl)) (unasked_y7 is n i (rw c refl)) (untrue (CallsAreSound is i) h)
told_y8 is n i true c h =
    all_kept is n i (unasked_y2 is n i (rw c refl)) (unasked_y3 is n i (rw c refl)) (unasked_y4 is i (rw c refl))
    (unasked_y6 is n i (rw c refl)) (unasked_y7 is n i (rw c refl)) (h.0 refl)

pub told_nothing : (is : List PlainInst) (n : ℕ) (i : PlainInst) → concern_of i.opcode ≡ concern.Nothing
    → IsFirstHere is n i None
told_nothing is n i c =
    all_kept is n i (unasked_y2 is n i (rw c refl)) (unasked_y3 is n i (rw c refl)) (unasked_y4 is i (rw c refl))
    (unasked_y6 is n i (rw c refl)) (unasked_y7 is n i (rw c refl)) (unasked_y8 is i (rw c refl))

-- None of these rules speaks of an operation.
pub operation_kept : (is : List PlainInst) (n : ℕ) (i : PlainInst) → is_operation i.opcode ≡ true → (q : Rule)
    → Keeps Unasked is q n i
operation_kept is n i e = told_nothing is n i (unconcerned i.opcode e)

-- Nor of what is silent.
abbrev of_silent : ℕ → Bool
of_silent n = not (is_silent n) || is_it concern.Nothing (concern_of n)

all_silent : all_from of_silent 0 limit ≡ true
all_silent = refl

silent_unconcerned : (n : ℕ) → is_silent n ≡ true → concern_of n ≡ concern.Nothing
silent_unconcerned n e = elim (cases_lt n limit) [
  | inl h ↦
      no_concern (concern_of n) (left_of (not (is_silent n)) (is_it concern.Nothing (concern_of n))
      (one_from of_silent limit 0 n all_silent (omega arith) h) (no_operation (is_silent n) e))
  | inr h ↦ late_concern n h
]

pub silent_kept : (is : List PlainInst) (n : ℕ) (i : PlainInst) → is_silent i.opcode ≡ true → IsFirstHere is n i None
silent_kept is n i e = told_nothing is n i (silent_unconcerned i.opcode e)
