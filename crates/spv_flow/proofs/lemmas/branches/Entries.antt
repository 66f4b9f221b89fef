-- Labels of entry blocks, instruction by instruction.
use Rattle.std.proofs.Common.{◌≡◌, ◌≤◌, ◌<◌, ◌+◌, ◌⊎◌, ◌∙◌, inl, inr, ℕ, List, Bool, true, false, Some, length, set}
use Rattle.std.proofs.Common.{refl, sym, ap, subst, arith}
use Rattle.std.specs.Prelude.{slice_get}
use Rattle.std.proofs.lemmas.Bool.{cases_lt, cases_eq, eqb-true}
use Rattle.spv_module.specs.declared.opcode.TheConstants as opcode
use Rattle.spv_module.specs.Operand.{PlainInst}
use Rattle.spv_flow.specs.branches.Target.{is_label, IsOp, IsEntryLabel}
use Rattle.spv_flow.specs.branches.inner.Target.{is_function}
use Rattle.spv_flow.specs.branches.inner.Edges.{marked}
use Rattle.spv_flow.specs.branches.inner.Graph.{IsOpen, AreEntries}
use Rattle.spv_flow.proofs.lemmas.branches.Labelled.{op_tells, op_holds}
use Rattle.spv_flow.proofs.lemmas.branches.Marking.{marks_same, set_other}

-- What is known before instruction n.
pub record IsFollowing (is : List PlainInst) (marks : List Bool) (is_open : Bool) (n : ℕ) : Type 0 where
  pub entries : AreEntries is marks n
  pub later : (m : ℕ) → n ≤ m → marked marks m ≡ false
  pub opened : is_open ≡ true → IsOpen is n
  pub closed : is_open ≡ false → ¬ (IsOpen is n)

entry_open : (is : List PlainInst) (n : ℕ) → IsEntryLabel is n → IsOpen is n
entry_open is n e = record { function = e.function; there = e.there; after = e.after; first = e.first; same = e.same }

open_entry : (is : List PlainInst) (n : ℕ) → IsOp is n is_label → IsOpen is n → IsEntryLabel is n
open_entry is n l o =
    record { label = l; function = o.function; there = o.there; after = o.after; first = o.first; same = o.same }

-- what is is_open at the next instruction, is is_open here or begins here
open_before : (is : List PlainInst) (n : ℕ) → IsOpen is (n + 1) → (IsOp is n is_function) ⊎ IsOpen is n
open_before is n o = elim (cases_lt o.function n) [
  | inl less ↦ inr (record {
    function = o.function;
    there = o.there;
    after = less;
    first = λ k l h. o.first k l (omega (arith, h));
    same = λ k l h. o.same k l (omega (arith, h));
  })
  | inr more ↦ (let a = o.after in let e : o.function ≡ n = omega arith in
      inl (subst (λ (k : ℕ). IsOp is k is_function) e o.there))
]

open_after : (is : List PlainInst) (n : ℕ) → IsOpen is n → ¬ (IsOp is n is_label) → ¬ (IsOp is n is_function)
    → IsOpen is (n + 1)
open_after is n o no_label no_function = let a = o.after in record {
  function = o.function;
  there = o.there;
  after = omega arith;
  first = λ k l h. elim (cases_lt k n) [
    | inl less ↦ o.first k l less
    | inr more ↦
        (let e : k ≡ n = omega (arith, h, more) in subst (λ (j : ℕ). ¬ (IsOp is j is_label)) (sym e) no_label)
  ];
  same = λ k l h. elim (cases_lt k n) [
    | inl less ↦ o.same k l less
    | inr more ↦
        (let e : k ≡ n = omega (arith, h, more) in subst (λ (j : ℕ). ¬ (IsOp is j is_function)) (sym e) no_function)
  ];
}

begins_open : (is : List PlainInst) (n : ℕ) → IsOp is n is_function → IsOpen is (n + 1)
begins_open is n f = record {
  function = n;
  there = f;
  after = omega arith;
  first = λ k l h. absurd (omega (arith, l, h));
  same = λ k l h. absurd (omega (arith, l, h));
}

not_op : (is : List PlainInst) (n : ℕ) (i : PlainInst) (test : ℕ → Bool) → slice_get is n ≡ Some i
    → (test i.opcode ≡ true → ⊥) → ¬ (IsOp is n test)
not_op is n i test there isnt o = isnt (op_tells is n i test there o)

must : (b : Bool) (P : Type 0) → P → (b ≡ false → ¬ P) → b ≡ true
must true P h isnt = refl
must false P h isnt = absurd (isnt refl h)

-- an is_open function begins before an instruction that is none
lower : (is : List PlainInst) (n : ℕ) (o : IsOpen is (n + 1)) → ¬ (IsOp is n is_function) → o.function < n
lower is n o isnt = elim (cases_lt o.function n) [
  | inl less ↦ less
  | inr more ↦ (let a = o.after in let e : o.function ≡ n = omega arith in
      absurd (isnt (subst (λ (k : ℕ). IsOp is k is_function) e o.there)))
]

-- an OpFunction
pub follows_function : (is : List PlainInst) (marks : List Bool) (is_open : Bool) (n : ℕ) (i : PlainInst)
    → slice_get is n ≡ Some i → i.opcode ≡ opcode.FUNCTION → IsFollowing is marks is_open n
    → IsFollowing is marks true (n + 1)
follows_function is marks is_open n i there op before =
    let f : IsOp is n is_function = op_holds is n i is_function there (ap is_function op) in
    let isnt : ¬ (IsOp is n is_label) = not_op is n i is_label there
    (λ e. let g = eqb-true i.opcode opcode.LABEL e in absurd (omega arith)) in
    record {
      entries = record {
        sound = before.entries.sound;
        complete = λ m lt e. elim (cases_lt m n) [
          | inl less ↦ before.entries.complete m less e
          | inr more ↦ (let s : m ≡ n = omega (arith, lt, more) in
              absurd (isnt (subst (λ (k : ℕ). IsOp is k is_label) s e.label)))
        ];
      };
      later = λ m le. before.later m (omega (arith, le));
      opened = λ e. begins_open is n f;
      closed = λ e. cc;
    }

-- an OpLabel
pub follows_label : (is : List PlainInst) (marks : List Bool) (is_open : Bool) (n : ℕ) (i : PlainInst)
    → n < length marks → slice_get is n ≡ Some i → i.opcode ≡ opcode.LABEL → IsFollowing is marks is_open n
    → IsFollowing is (set marks n is_open) false (n + 1)
follows_label is marks is_open n i within there op before =
    let l : IsOp is n is_label = op_holds is n i is_label there (ap is_label op) in
    let isnt : ¬ (IsOp is n is_function) = not_op is n i is_function there
    (λ e. let g = eqb-true i.opcode opcode.FUNCTION e in absurd (omega arith)) in
    record {
      entries = record {
        sound = λ m e. elim (cases_eq m n) [
          | inl same ↦ (let o : is_open ≡ true = sym (marks_same marks n m is_open within same) ∙ e in
              subst (λ (k : ℕ). IsEntryLabel is k) (sym same) (open_entry is n l (before.opened o)))
          | inr apart ↦ before.entries.sound m (sym (set_other marks n m is_open apart) ∙ e)
        ];
        complete = λ m lt e. elim (cases_eq m n) [
          | inl same ↦ (let h : IsOpen is n = entry_open is n (subst (λ (k : ℕ). IsEntryLabel is k) same e) in
              marks_same marks n m is_open within same ∙ must is_open (IsOpen is n) h before.closed)
          | inr apart ↦ set_other marks n m is_open apart ∙ before.entries.complete m (omega (arith, lt, apart)) e
        ];
      };
      later = λ m le. set_other marks n m is_open (omega (arith, le)) ∙ before.later m (omega (arith, le));
      opened = λ e. cc;
      closed = λ e o. o.first n (lower is n o isnt) (omega arith) l;
    }

-- any other instruction
pub follows_other : (is : List PlainInst) (marks : List Bool) (is_open : Bool) (n : ℕ) (i : PlainInst)
    → slice_get is n ≡ Some i → (i.opcode ≡ opcode.FUNCTION → ⊥) → (i.opcode ≡ opcode.LABEL → ⊥)
    → IsFollowing is marks is_open n → IsFollowing is marks is_open (n + 1)
follows_other is marks is_open n i there not_f not_l before =
    let no_f : ¬ (IsOp is n is_function) = not_op is n i is_function there
    (λ e. not_f (eqb-true i.opcode opcode.FUNCTION e)) in
    let no_l : ¬ (IsOp is n is_label) = not_op is n i is_label there (λ e. not_l (eqb-true i.opcode opcode.LABEL e)) in
    record {
      entries = record {
        sound = before.entries.sound;
        complete = λ m lt e. elim (cases_lt m n) [
          | inl less ↦ before.entries.complete m less e
          | inr more ↦ (let s : m ≡ n = omega (arith, lt, more) in
              absurd (no_l (subst (λ (k : ℕ). IsOp is k is_label) s e.label)))
        ];
      };
      later = λ m le. before.later m (omega (arith, le));
      opened = λ e. open_after is n (before.opened e) no_l no_f;
      closed = λ e o. elim (open_before is n o) [ inl f ↦ no_f f | inr h ↦ before.closed e h ];
    }
