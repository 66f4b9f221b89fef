-- The numbers of the code's list say what the rules of types ask of an opcode.
use Rattle.std.proofs.Common.{◌≡◌, ◌≤◌, ◌<◌, ◌+◌, ◌&&◌, ◌||◌, ℕ, zero, suc, List, [], ◌∷◌, Bool, true, false, Some}
use Rattle.std.proofs.Common.{nat_eq, nat_le, length, refl, sym, ap, arith}
use Rattle.std.specs.Prelude.{slice_get}
use Rattle.std.proofs.lemmas.Bool.{le-leb, lt-leb, ne_eqb}
use Rattle.spv_module.specs.declared.opcode.TheConstants as opcode
use Rattle.spv_type_forms.proofs.Opcodes.{both}
use Rattle.spv_type_rules.specs.declared.concern.TheConstants.{TURNS}
use Rattle.spv_type_rules.specs.declared.concern.Concern.{Concern}
use Rattle.spv_type_rules.specs.declared.concern.Concern.TheVariants as concern
use Rattle.spv_type_rules.specs.inner.Concern.{concern_of, is_operation, is_silent}
use Rattle.spv_type_rules.specs.inner.Repeat.{is_declared_once}
use Rattle.spv_type_rules.specs.inner.Turn.{concern_by, IsTurn}
use Rattle.spv_type_rules.proofs.Concerns.{late_concern, late_once}

same_test : Bool → Bool → Bool
same_test true true = true
same_test false false = true
same_test _ _ = false

tests_agree : (a b : Bool) → same_test a b ≡ true → a ≡ b
unfolding same_test
tests_agree true true h = refl
tests_agree false false h = refl
tests_agree true false h = cc
tests_agree false true h = cc

same_concern : Concern → Concern → Bool
same_concern concern.Declaration concern.Declaration = true
same_concern concern.Constant concern.Constant = true
same_concern concern.Function concern.Function = true
same_concern concern.Return concern.Return = true
same_concern concern.Call concern.Call = true
same_concern concern.Nothing concern.Nothing = true
same_concern _ _ = false

concerns_agree : (a b : Concern) → same_concern a b ≡ true → a ≡ b
unfolding same_concern
concerns_agree concern.Declaration concern.Declaration h = refl
concerns_agree concern.Constant concern.Constant h = refl
concerns_agree concern.Function concern.Function h = refl
concerns_agree concern.Return concern.Return h = refl
concerns_agree concern.Call concern.Call h = refl
concerns_agree concern.Nothing concern.Nothing h = refl
concerns_agree a b h = cc

agrees : ℕ → ℕ → Bool
agrees turn n =
    same_test (nat_le 8 turn) (is_operation n) && (same_test (nat_eq turn 1 || nat_eq turn 9) (is_silent n)
    && (same_test (nat_eq turn 2) (is_declared_once n) && same_concern (concern_by turn) (concern_of n)))

agree_from : List ℕ → ℕ → Bool
agree_from [] n = true
agree_from (turn ∷ turns) n = agrees turn n && agree_from turns (n + 1)

all_agree : agree_from TURNS 0 ≡ true
unfolding agree_from agrees same_test same_concern
all_agree = refl

told : (turn n : ℕ) → agrees turn n ≡ true → IsTurn turn n
unfolding agrees
told turn n h =
    let p = both (same_test (nat_le 8 turn) (is_operation n))
    (same_test (nat_eq turn 1 || nat_eq turn 9) (is_silent n)
    && (same_test (nat_eq turn 2) (is_declared_once n) && same_concern (concern_by turn) (concern_of n))) h in
    let q = both (same_test (nat_eq turn 1 || nat_eq turn 9) (is_silent n))
    (same_test (nat_eq turn 2) (is_declared_once n) && same_concern (concern_by turn) (concern_of n)) p.1 in
    let r = both (same_test (nat_eq turn 2) (is_declared_once n)) (same_concern (concern_by turn) (concern_of n)) q.1 in
    record {
      operation = tests_agree (nat_le 8 turn) (is_operation n) p.0;
      silent = tests_agree (nat_eq turn 1 || nat_eq turn 9) (is_silent n) q.0;
      once = tests_agree (nat_eq turn 2) (is_declared_once n) r.0;
      concern = concerns_agree (concern_by turn) (concern_of n) r.1;
    }

moved : (turn n k : ℕ) → n ≡ k → IsTurn turn n → IsTurn turn k
moved turn n k e t = rw (← e) t

listed_from : (turns : List ℕ) (n k turn : ℕ) → agree_from turns n ≡ true → slice_get turns k ≡ Some turn
    → IsTurn turn (n + k)
unfolding agree_from
listed_from [] n k turn h e = cc
listed_from (t ∷ turns) n zero turn h e =
    let same : t ≡ turn = cc in
    moved turn n (n + 0) (omega arith) (rw same at (told t n (both (agrees t n) (agree_from turns (n + 1)) h).0))
listed_from (t ∷ turns) n (suc k) turn h e =
    moved turn ((n + 1) + k) (n + suc k) (omega arith)
    (listed_from turns (n + 1) k turn (both (agrees t n) (agree_from turns (n + 1)) h).1 e)

pub listed : (n turn : ℕ) → slice_get TURNS n ≡ Some turn → IsTurn turn n
listed n turn e = moved turn (0 + n) n (omega arith) (listed_from TURNS 0 n turn all_agree e)

-- opcodes past the list
differs : (n m : ℕ) → m < n → nat_eq n m ≡ false
differs n m h = ne_eqb n m (λ e. absurd (omega arith))

late_operation : (n : ℕ) → opcode.NAMED_BARRIER_INITIALIZE ≤ n → is_operation n ≡ true
late_operation n l =
    let a : nat_le opcode.VARIABLE n ≡ true = le-leb opcode.VARIABLE n (omega arith) in
    let b : nat_le n opcode.SELECTION_MERGE ≡ false = lt-leb n opcode.SELECTION_MERGE (omega arith) in
    let c : nat_le opcode.LIFETIME_START n ≡ true = le-leb opcode.LIFETIME_START n (omega arith) in
    let d : nat_le n opcode.SIZE_OF ≡ false = lt-leb n opcode.SIZE_OF (omega arith) in
    let e : nat_le opcode.CREATE_PIPE_FROM_PIPE_STORAGE n ≡ true =
    le-leb opcode.CREATE_PIPE_FROM_PIPE_STORAGE n (omega arith) in
    let f : nat_le n opcode.GET_KERNEL_MAX_NUM_SUBGROUPS ≡ false =
    lt-leb n opcode.GET_KERNEL_MAX_NUM_SUBGROUPS (omega arith) in
    rw (
      a,
      b,
      differs n opcode.UNDEF (omega arith),
      differs n opcode.EXT_INST (omega arith),
      differs n opcode.BRANCH_CONDITIONAL (omega arith),
      differs n opcode.SWITCH (omega arith),
      c,
      d,
      e,
      f,
      le-leb opcode.NAMED_BARRIER_INITIALIZE n l,
    ) refl

late_silent : (n : ℕ) → opcode.NAMED_BARRIER_INITIALIZE ≤ n → is_silent n ≡ false
late_silent n l =
    let a : nat_le n opcode.CAPABILITY ≡ false = lt-leb n opcode.CAPABILITY (omega arith) in
    let b : nat_le opcode.LABEL n ≡ true = le-leb opcode.LABEL n (omega arith) in
    let c : nat_le n opcode.BRANCH ≡ false = lt-leb n opcode.BRANCH (omega arith) in
    rw (a, b, c, differs n opcode.FUNCTION_END (omega arith)) refl

pub late : (n : ℕ) → length TURNS ≤ n → IsTurn 8 n
late n l =
    let m : opcode.NAMED_BARRIER_INITIALIZE ≤ n = omega (arith, l) in
    record {
      operation = sym (late_operation n m);
      silent = sym (late_silent n m);
      once = sym (late_once n m);
      concern = sym (late_concern n m);
    }
