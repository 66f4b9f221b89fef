-- Y5 at an instruction, beside the other rules of types.
use Rattle.std.proofs.Common.{◌≡◌, ◌∙◌, sym, subst, ◌↔◌, if◌then◌else◌, ◌<◌, ◌≤◌, ◌+◌, ◌&&◌, ◌||◌, inl, inr, ℕ, List}
use Rattle.std.proofs.Common.{Option, Some, None, Bool, true, false, not, nat_eq, nat_le, refl, ap, arith}
use Rattle.std.specs.Prelude.{IsTrue, slice_get}
use Rattle.std.proofs.lemmas.Bool.{cases_lt, ne_eqb, lt-leb, le-leb}
use Rattle.spv_table.specs.Table.{Table}
use Rattle.spv_module.specs.Operand.{PlainInst}
use Rattle.spv_module.specs.declared.opcode.TheConstants as opcode
use Rattle.spv_module.specs.declared.fault.Rule.{Rule}
use Rattle.spv_module.specs.declared.fault.Rule.TheVariants as rule
use Rattle.spv_layout.specs.First.{rank_of}
use Rattle.spv_layout.specs.Shape.{FitsShape}
use Rattle.spv_type_forms.proofs.Opcodes.{both, all_from, one_from}
use Rattle.spv_ops.specs.declared.table.Places.{Places}
use Rattle.spv_ops.specs.declared.table.Places.TheVariants as places
use Rattle.spv_ops.specs.Table.{lines, places_of}
use Rattle.spv_ops.specs.Typed.{IsTyped, IsTypedAt}
use Rattle.spv_ops.specs.inner.Typed.{IsTypedIn}
use Rattle.spv_ops.proofs.Judged.{told}
use Rattle.spv_type_rules.specs.declared.repeat.Seen.{Seen}
use Rattle.spv_type_rules.specs.inner.Concern.{is_operation, is_silent}
use Rattle.spv_type_rules.specs.inner.Counted.{AreCounted}
use Rattle.spv_type_rules.specs.inner.Repeat.{is_declared_once}
use Rattle.spv_type_rules.specs.inner.Seen.{AreSeen}
use Rattle.spv_type_rules.specs.Keeps.{Keeps, KeepsFunctions, KeepsReturns}
use Rattle.spv_type_rules.specs.inner.Keeps.{CallsAreSound}
use Rattle.spv_type_rules.specs.inner.Rules.{Unasked, IsFirstHere}
use Rattle.spv_type_rules.proofs.Concerns.{operation_kept, silent_kept}
use Rattle.spv_type_rules.proofs.Counting.{counted_next}
use Rattle.spv_type_rules.proofs.Firsts.{all_kept}
use Rattle.spv_type_rules.proofs.Repeating.{not_once}
use Rattle.spv_check.specs.inner.Pass.{IsFirstTypeHere}

-- No line of the table of types speaks of an opcode that is not that of an operation.

abbrev is_free : Places → Bool
is_free places.Free = true
is_free _ = false

free : (r : Places) → is_free r ≡ true → r ≡ places.Free
free places.Free h = refl
free r h = cc

abbrev is_known : ℕ → Bool
is_known n = is_operation n || is_free (places_of n)

-- an opcode from which on all are those of operations
abbrev limit : ℕ
limit = opcode.NAMED_BARRIER_INITIALIZE

all_known : all_from is_known 0 limit ≡ true
unfolding lines
all_known = refl

left_of : (a b : Bool) → a || b ≡ true → a ≡ false → b ≡ true
left_of true b h e = cc
left_of false b h e = h

differs : (n m : ℕ) → m < n → nat_eq n m ≡ false
differs n m h = ne_eqb n m (λ e. absurd (omega arith))

late_operation : (n : ℕ) → limit ≤ n → is_operation n ≡ true
late_operation n l =
    let a : nat_le opcode.VARIABLE n ≡ true = le-leb opcode.VARIABLE n (omega arith) in
    let b : nat_le n opcode.SELECTION_MERGE ≡ false = lt-leb n opcode.SELECTION_MERGE (omega arith) in
    let c : nat_le opcode.LIFETIME_START n ≡ true = le-leb opcode.LIFETIME_START n (omega arith) in
    let d : nat_le n opcode.SIZE_OF ≡ false = lt-leb n opcode.SIZE_OF (omega arith) in
    let e : nat_le opcode.CREATE_PIPE_FROM_PIPE_STORAGE n ≡ true =
    le-leb opcode.CREATE_PIPE_FROM_PIPE_STORAGE n (omega arith) in
    let f : nat_le n opcode.GET_KERNEL_MAX_NUM_SUBGROUPS ≡ false =
    lt-leb n opcode.GET_KERNEL_MAX_NUM_SUBGROUPS (omega arith) in
    rw (
      a,
      b,
      differs n opcode.UNDEF (omega arith),
      differs n opcode.EXT_INST (omega arith),
      differs n opcode.BRANCH_CONDITIONAL (omega arith),
      differs n opcode.SWITCH (omega arith),
      c,
      d,
      e,
      f,
      le-leb limit n l,
    ) refl

no_line : (n : ℕ) → is_operation n ≡ false → places_of n ≡ places.Free
no_line n e = elim (cases_lt n limit) [
  | inl h ↦ free (places_of n) (left_of (is_operation n) (is_free (places_of n))
      (one_from is_known limit 0 n all_known (omega arith) h) e)
  | inr h ↦ (let both_ways : true ≡ false = sym (late_operation n h) ∙ e in cc)
]

untyped_kept : (G : Table) (is : List PlainInst) (n : ℕ) (i : PlainInst) → is_operation i.opcode ≡ false
    → IsTyped G is n i
untyped_kept G is n i e = inl (no_line i.opcode e)

-- What the code looks at is Y5.

typed_told : (G : Table) (is : List PlainInst) (n : ℕ) (i : PlainInst) → slice_get is n ≡ Some i
    → IsTypedAt G is n ↔ IsTyped G is n i
typed_told G is n i at = (
  λ t. let same : t.inst ≡ i = let e : Some t.inst ≡ Some i = sym t.there ∙ at in cc in
      subst (λ j. IsTyped G is n j) same t.typed,
  λ t. record { inst = i; there = at; typed = t },
)

pub op_told : (G : Table) (is js : List PlainInst) (n : ℕ) (i : PlainInst) (b : Bool) → js ≡ is
    → slice_get is n ≡ Some i → FitsShape G i → (IsTrue b ↔ IsTypedIn js n i) → IsTrue b ↔ IsTyped G is n i
op_told G is js n i b e at fits h =
    let k : IsTrue b ↔ IsTypedIn is n i = subst (λ ks. IsTrue b ↔ IsTypedIn ks n i) e h in
    let t = told G is n i at fits in
    let d = typed_told G is n i at in
    (λ y. d.0 (t.0 (k.0 y)), λ x. k.1 (t.1 (d.1 x)))

-- What the other rules demand, with Y5.

with_typed : (G : Table) (is : List PlainInst) (n : ℕ) (i : PlainInst) (q : Rule) → (q ≡ rule.Y5 → IsTyped G is n i)
    → Keeps Unasked is q n i → Keeps (IsTyped G is) is q n i
with_typed G is n i rule.Y2 y k = k
with_typed G is n i rule.Y3 y k = k
with_typed G is n i rule.Y4 y k = k
with_typed G is n i rule.Y5 y k = y refl
with_typed G is n i rule.Y6 y k = k
with_typed G is n i rule.Y7 y k = k
with_typed G is n i rule.Y8 y k = k
with_typed G is n i _ y k = tt

without : (G : Table) (is : List PlainInst) (n : ℕ) (i : PlainInst) (q : Rule) → Keeps (IsTyped G is) is q n i
    → Keeps Unasked is q n i
without G is n i rule.Y2 k = k
without G is n i rule.Y3 k = k
without G is n i rule.Y4 k = k
without G is n i rule.Y6 k = k
without G is n i rule.Y7 k = k
without G is n i rule.Y8 k = k
without G is n i _ k = tt

pub all_typed : (G : Table) (is : List PlainInst) (n : ℕ) (i : PlainInst) → Keeps Unasked is rule.Y2 n i
    → Keeps Unasked is rule.Y3 n i → Keeps Unasked is rule.Y4 n i → IsTyped G is n i
    → KeepsFunctions is n i → KeepsReturns is n i → CallsAreSound is i → (q : Rule) → Keeps (IsTyped G is) is q n i
all_typed G is n i y2 y3 y4 y5 y6 y7 y8 q = with_typed G is n i q (λ e. y5) (all_kept is n i y2 y3 y4 y6 y7 y8 q)

-- The first of the rules Y2 to Y8 that is broken at an instruction.

pub others_told : (G : Table) (is : List PlainInst) (n : ℕ) (i : PlainInst) (o : Option Rule)
    → is_operation i.opcode ≡ false → IsFirstHere is n i o → IsFirstTypeHere G is n i o
others_told G is n i None e kept = λ q. with_typed G is n i q (λ y. untyped_kept G is n i e) (kept q)
others_told G is n i (Some r) e f = record {
  of_stage = f.of_stage;
  broken = λ k. f.broken (without G is n i r k);
  least = λ q l. with_typed G is n i q (λ y. untyped_kept G is n i e) (f.least q l);
}

pub silent_told : (G : Table) (is : List PlainInst) (n : ℕ) (i : PlainInst) → is_operation i.opcode ≡ false
    → is_silent i.opcode ≡ true → IsFirstTypeHere G is n i None
silent_told G is n i e s = others_told G is n i None e (silent_kept is n i s)

later : (q : Rule) → q ≡ rule.Y5 → rank_of q < 29 → ⊥
later q e l = let k : rank_of q ≡ 29 = ap rank_of e in omega arith

pub operation_told : (G : Table) (is : List PlainInst) (n : ℕ) (i : PlainInst) (b : Bool) → is_operation i.opcode ≡ true
    → (IsTrue b ↔ IsTyped G is n i)
    → IsFirstTypeHere G is n i (if b then None else Some rule.Y5)
operation_told G is n i true e h = λ q. with_typed G is n i q (λ y. h.0 refl) (operation_kept is n i e q)
operation_told G is n i false e h = record {
  of_stage = refl;
  broken = λ t. let no : false ≡ true = h.1 t in cc;
  least = λ q l. with_typed G is n i q (λ y. absurd (later q y l)) (operation_kept is n i e q);
}

-- An operation declares no type, and is neither an OpFunction nor an OpFunctionParameter.

record IsOther (n : ℕ) : Type 0 where
  pub once : is_declared_once n ≡ false
  pub function : nat_eq n opcode.FUNCTION ≡ false
  pub parameter : nat_eq n opcode.FUNCTION_PARAMETER ≡ false

abbrev is_other : ℕ → Bool
is_other n = not (is_declared_once n) && (not (nat_eq n opcode.FUNCTION) && not (nat_eq n opcode.FUNCTION_PARAMETER))

abbrev is_told : ℕ → Bool
is_told n = not (is_operation n) || is_other n

all_told : all_from is_told 0 limit ≡ true
all_told = refl

not_yes : (b : Bool) → not b ≡ true → b ≡ false
not_yes true h = cc
not_yes false h = refl

no_longer : (b : Bool) → b ≡ true → not b ≡ false
no_longer true h = refl
no_longer false h = cc

is_other_told : (n : ℕ) → is_other n ≡ true → IsOther n
is_other_told n t =
    let p = both (not (is_declared_once n))
    (not (nat_eq n opcode.FUNCTION) && not (nat_eq n opcode.FUNCTION_PARAMETER)) t in
    let q = both (not (nat_eq n opcode.FUNCTION)) (not (nat_eq n opcode.FUNCTION_PARAMETER)) p.1 in
    record {
      once = not_yes (is_declared_once n) p.0;
      function = not_yes (nat_eq n opcode.FUNCTION) q.0;
      parameter = not_yes (nat_eq n opcode.FUNCTION_PARAMETER) q.1;
    }

early_other : (n : ℕ) → n < limit → is_operation n ≡ true → IsOther n
early_other n h e =
    is_other_told n (left_of (not (is_operation n)) (is_other n)
    (one_from is_told limit 0 n all_told (omega arith) h) (no_longer (is_operation n) e))

late_once : (n : ℕ) → limit ≤ n → is_declared_once n ≡ false
late_once n l =
    let e : nat_le n opcode.TYPE_SAMPLED_IMAGE ≡ false = lt-leb n opcode.TYPE_SAMPLED_IMAGE (omega arith) in
    let f : nat_le opcode.TYPE_VOID n ≡ true = le-leb opcode.TYPE_VOID n (omega arith) in
    let g : nat_le n opcode.TYPE_PIPE ≡ false = lt-leb n opcode.TYPE_PIPE (omega arith) in
    let h : nat_le opcode.TYPE_FUNCTION n ≡ true = le-leb opcode.TYPE_FUNCTION n (omega arith) in
    rw (
      e,
      f,
      differs n opcode.TYPE_OPAQUE (omega arith),
      g,
      h,
      differs n opcode.TYPE_PIPE_STORAGE (omega arith),
      differs n opcode.TYPE_NAMED_BARRIER (omega arith),
    ) refl

other : (n : ℕ) → is_operation n ≡ true → IsOther n
other n e = elim (cases_lt n limit) [
  | inl h ↦ early_other n h e
  | inr h ↦ record {
    once = late_once n h;
    function = differs n opcode.FUNCTION (omega arith);
    parameter = differs n opcode.FUNCTION_PARAMETER (omega arith);
  }
]

-- Nor does what is silent.

abbrev is_hushed : ℕ → Bool
is_hushed n = not (is_silent n) || is_other n

all_hushed : all_from is_hushed 0 limit ≡ true
all_hushed = refl

silent : (n : ℕ) → is_silent n ≡ true → IsOther n
silent n e = elim (cases_lt n limit) [
  | inl h ↦
      is_other_told n (left_of (not (is_silent n)) (is_other n)
      (one_from is_hushed limit 0 n all_hushed (omega arith) h) (no_longer (is_silent n) e))
  | inr h ↦ record {
    once = late_once n h;
    function = differs n opcode.FUNCTION (omega arith);
    parameter = differs n opcode.FUNCTION_PARAMETER (omega arith);
  }
]

-- What is known of the instructions before an operation, or before what is silent, is known of it too.

other_counted : (is : List PlainInst) (n c : ℕ) (i : PlainInst) → slice_get is n ≡ Some i → IsOther i.opcode
    → AreCounted is n c → AreCounted is (n + 1) c
other_counted is n c i at o a =
    let s : (if nat_eq i.opcode opcode.FUNCTION then 0
    else (if nat_eq i.opcode opcode.FUNCTION_PARAMETER then c + 1 else c)) ≡ c = rw
    (o.function, o.parameter) refl in
    subst (λ k. AreCounted is (n + 1) k) s (counted_next is n c i at a)

pub operation_seen : (is : List PlainInst) (n : ℕ) (i : PlainInst) (s : Seen) → slice_get is n ≡ Some i
    → is_operation i.opcode ≡ true → AreSeen is n s → AreSeen is (n + 1) s
operation_seen is n i s at e a = not_once is n i s.slots.items s.others.keys at (other i.opcode e).once a

pub operation_counted : (is : List PlainInst) (n c : ℕ) (i : PlainInst) → slice_get is n ≡ Some i
    → is_operation i.opcode ≡ true → AreCounted is n c → AreCounted is (n + 1) c
operation_counted is n c i at e a = other_counted is n c i at (other i.opcode e) a

pub silent_seen : (is : List PlainInst) (n : ℕ) (i : PlainInst) (s : Seen) → slice_get is n ≡ Some i
    → is_silent i.opcode ≡ true → AreSeen is n s → AreSeen is (n + 1) s
silent_seen is n i s at e a = not_once is n i s.slots.items s.others.keys at (silent i.opcode e).once a

pub silent_counted : (is : List PlainInst) (n c : ℕ) (i : PlainInst) → slice_get is n ≡ Some i
    → is_silent i.opcode ≡ true → AreCounted is n c → AreCounted is (n + 1) c
silent_counted is n c i at e a = other_counted is n c i at (silent i.opcode e) a
