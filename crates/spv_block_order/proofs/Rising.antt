-- Walks that come to an instruction by lower ones alone.
use Rattle.std.proofs.Common.{◌≡◌, ◌≢◌, ◌∙◌, ◌<◌, ◌≤◌, ◌+◌, ◌⊎◌, ℕ, zero, suc, List, [], ◌∷◌, Bool, true, false, Some}
use Rattle.std.proofs.Common.{length, set, refl, sym, subst, inl, inr, eq-eqb, arith}
use Rattle.std.specs.Prelude.{Any, Contains, slice_get, slice_index}
use Rattle.std.proofs.lemmas.Bool.{cases_lt, cases_order, eqb-true}
use Rattle.std.proofs.lemmas.List.{get_or-set_same, get_or-set_other}
use Rattle.std.proofs.lemmas.Bool.Decides.{nat_tests}
use Rattle.std.proofs.lemmas.Option.{slice_get_within}
use Rattle.spv_module.specs.declared.opcode.TheConstants as opcode
use Rattle.spv_table.specs.Table.{Table}
use Rattle.spv_module.specs.Operand.{PlainInst}
use Rattle.spv_layout.specs.declared.class.Class.TheVariants.{Function, Label}
use Rattle.spv_layout.specs.Place.{IsAt, IsOfFunction, IsOfBlock}
use Rattle.spv_layout.proofs.Places.{function_same}
use Rattle.spv_ids.specs.Definition.{IsDefinedAt}
use Rattle.spv_flow.specs.branches.Target.{is_label, IsOp, IsTarget, IsLabelOf}
use Rattle.spv_flow.specs.branches.inner.Target.{is_function, is_terminator}
use Rattle.spv_flow.specs.branches.Walk.{Next, IsWalk}
use Rattle.spv_flow.specs.branches.Ready.{IsMissing}
use Rattle.spv_flow.specs.declared.walks.code.Code.{Code}
use Rattle.spv_flow.specs.walks.inner.Code.{insts_of, IsCode}
use Rattle.spv_flow.proofs.lemmas.branches.Firsts.{holds}
use Rattle.spv_flow.proofs.lemmas.branches.Labelled.{op_tells, op_holds}
use Rattle.spv_flow.proofs.lemmas.walks.Alone.{function_opcode}
use Rattle.spv_flow.proofs.lemmas.walks.Deciding.{walk_within}
use Rattle.spv_flow.proofs.lemmas.walks.Places.{function_at, terminator_at}
use Rattle.spv_flow.proofs.lemmas.walks.Starting.{IsOpenTo}
use Rattle.spv_block_order.specs.declared.rise.Rising.{Rising}
use Rattle.spv_block_order.specs.Early.{IsEarlyBlock, IsEarlyUse}
use Rattle.spv_block_order.specs.Broken.{Broken}
use Rattle.spv_block_order.specs.inner.Rising.{IsSound, IsLate, HasRise, WouldRise, IsShut, AreMarked, AreUpTo}
use Rattle.spv_block_order.specs.inner.Rising.{AreRisen}
use Rattle.spv_block_order.proofs.Standing.{label_opcode}

-- An instruction to which a walk comes by lower ones alone.

before_it : (G : Table) (is : List PlainInst) (f n : ℕ) → HasRise G is f n → ¬ (IsEarlyBlock G is n)
before_it G is f n h (g, e) =
    let same : g ≡ f = function_same is n g f (walk_within G is g e.way.past n e.way.walk)
    (walk_within G is f h.past n h.walk) in
    let on = e.way.each h.past (subst (λ (k : ℕ). IsWalk G is k h.past n) (sym same) h.walk) in
    let low = h.low e.block on in
    let high = e.higher in
    omega (arith, low, high)

lower_by : (is : List PlainInst) (x n : ℕ) (past : List ℕ) → ((k : ℕ) → Contains past k → k < n)
    → ((m : ℕ) → m < n → ¬ (IsDefinedAt is x m)) → ¬ (Any (λ m. IsDefinedAt is x m) past)
lower_by is x n past low none (k, m, lt, e, d) = none m (low m (k, lt, e)) d

defined_before : (G : Table) (is : List PlainInst) (f n : ℕ) → ¬ (IsMissing G is n) → HasRise G is f n
    → ¬ (IsEarlyUse G is n)
defined_before G is f n ready h e = ready (record {
  other = e.other;
  function = f;
  past = h.past;
  walk = h.walk;
  operand = e.operand;
  id = e.id;
  role = e.role;
  used = e.used;
  local = e.local;
  undefined = lower_by is e.id n h.past h.low e.undefined;
})

late_by : (G : Table) (is : List PlainInst) (n : ℕ) → ¬ (IsEarlyBlock G is n) → ¬ (IsEarlyUse G is n) → IsLate G is n
late_by G is _ block other _ (Broken.early_block n e) = block e
late_by G is _ block other _ (Broken.early_use n e) = other e

-- Where the rules on values hold, neither rule is broken there.
pub risen_late : (G : Table) (is : List PlainInst) (f n : ℕ) → ¬ (IsMissing G is n) → HasRise G is f n
    → IsLate G is n
risen_late G is f n ready h =
    late_by G is n (before_it G is f n h) (defined_before G is f n ready h)

-- An instruction that is of no block, and no OpLabel.

shut_block : (is : List PlainInst) (n b : ℕ) → IsShut is n → ¬ (IsAt is n (Label ∷ [])) → ¬ (IsOfBlock is n b)
shut_block is n b shut not of =
    let up = of.begun.up_to in
    let before = shut.before in
    elim (cases_lt shut.end b) [
      | inl after ↦ elim (cases_lt b n) [
        | inl less ↦ shut.none b after less of.begun.there
        | inr more ↦ (let same : b ≡ n = omega (arith, up, more) in
            not (subst (λ (k : ℕ). IsAt is k (Label ∷ [])) same of.begun.there))
      ]
      | inr first ↦ of.not_ended shut.end first before shut.there
    ]

shut_late : (G : Table) (is : List PlainInst) (n : ℕ) → IsShut is n → ¬ (IsAt is n (Label ∷ []))
    → ¬ (IsOp is n is_label) → IsLate G is n
shut_late G is n shut not isnt =
    late_by G is n (λ e. isnt e.1.label) (λ e. shut_block is n e.block shut not e.of)

-- On from an instruction.

in_cases : (n k : ℕ) (past : List ℕ) → Contains (n ∷ past) k → (n ≡ k) ⊎ Contains past k
in_cases n k past (zero, lt, e) = inl e
in_cases n k past (suc j, lt, e) = inr (j, omega (arith, lt), e)

goes_on : (G : Table) (is : List PlainInst) (f n m : ℕ) → HasRise G is f n → n < m → Next G is n m
    → WouldRise G is f m
goes_on G is f n m h lt next = λ of. record {
  past = n ∷ h.past;
  walk = IsWalk.goes h.past n m h.walk next of;
  low = λ k among. elim (in_cases n k h.past among) [
    | inl same ↦ omega (arith, same, lt)
    | inr old ↦ (let low = h.low k old in omega (arith, low, lt))
  ];
}

not_label : (is : List PlainInst) (n : ℕ) (i : PlainInst) → slice_get is n ≡ Some i → (i.opcode ≡ opcode.LABEL → ⊥)
    → ¬ (IsAt is n (Label ∷ []))
not_label is n i there isnt a = isnt (label_opcode is n i there a)

no_label : (is : List PlainInst) (n : ℕ) (i : PlainInst) → slice_get is n ≡ Some i → (i.opcode ≡ opcode.LABEL → ⊥)
    → ¬ (IsOp is n is_label)
no_label is n i there isnt op = isnt (eqb-true i.opcode opcode.LABEL (op_tells is n i is_label there op))

pub not_end : (is : List PlainInst) (n : ℕ) (i : PlainInst) → slice_get is n ≡ Some i → is_terminator i.opcode ≡ false
    → ¬ (IsOp is n is_terminator)
not_end is n i there e op = let t : is_terminator i.opcode ≡ true = op_tells is n i is_terminator there op in cc

-- The instruction itself, if it is no OpLabel: either a walk comes there, or it is of no block.
by_live : (b : Bool) (G : Table) (c : Code) (f n : ℕ) (r : Rising) (marks : List ℕ) (i : PlainInst)
    → slice_get (insts_of c) n ≡ Some i → (i.opcode ≡ opcode.LABEL → ⊥) → IsOfFunction (insts_of c) n f
    → AreRisen c f n r marks → r.live ≡ b → r.whole ≡ true → IsSound G c → IsLate G (insts_of c) n
by_live true G c f n r marks i there isnt of a live whole s =
    risen_late G (insts_of c) f n (s.ready n) (a.next live G s.code of)
by_live false G c f n r marks i there isnt of a live whole s =
    shut_late G (insts_of c) n (a.shut live whole) (not_label (insts_of c) n i there isnt)
    (no_label (insts_of c) n i there isnt)

more_late : (c : Code) (f n : ℕ) (P : ℕ → Type 0) → ((m : ℕ) → f ≤ m → m < n → P m) → P n → (m : ℕ) → f ≤ m
    → m < n + 1 → P m
more_late c f n P before here m from to = elim (cases_lt m n) [
  | inl less ↦ before m from less
  | inr more ↦ (let same : n ≡ m = omega (arith, to, more) in subst P same here)
]

-- what is known after it, of the last
pub late_to : (c : Code) (f n : ℕ) (r : Rising) (marks : List ℕ) (i : PlainInst) → slice_get (insts_of c) n ≡ Some i
    → (i.opcode ≡ opcode.LABEL → ⊥) → IsOfFunction (insts_of c) n f → AreRisen c f n r marks → r.whole ≡ true
    → (G : Table) → IsSound G c → (m : ℕ) → f ≤ m → m < n + 1 → IsLate G (insts_of c) m
late_to c f n r marks i there isnt of a whole G s =
    more_late c f n (λ m. IsLate G (insts_of c) m) (a.late whole G s)
    (by_live r.live G c f n r marks i there isnt of a refl whole s)

up_more : (marks : List ℕ) (n : ℕ) → AreUpTo marks n → AreUpTo marks (n + 1)
up_more marks n up m = let h = up m in omega (arith, h)

-- Past an instruction that is neither an OpLabel nor a terminator.
pub past_other : (c : Code) (f n : ℕ) (r : Rising) (marks : List ℕ) (i : PlainInst) → slice_get (insts_of c) n ≡ Some i
    → (i.opcode ≡ opcode.LABEL → ⊥) → ¬ (IsOp (insts_of c) n is_terminator) → IsOfFunction (insts_of c) n f
    → AreRisen c f n r marks → AreRisen c f (n + 1) r marks
past_other c f n r marks i there isnt not of a = record {
  up_to = up_more marks n a.up_to;
  marked = a.marked;
  next = λ live G is. goes_on G (insts_of c) f n (n + 1) (a.next live G is of) (omega arith) (Next.follows not);
  shut = λ live whole. (
      let s = a.shut live whole in
      let before = s.before in
      record {
        end = s.end;
        before = omega (arith, before);
        there = s.there;
        none = λ k from to. elim (cases_lt k n) [
          | inl less ↦ s.none k from less
          | inr more ↦ (let same : n ≡ k = omega (arith, to, more) in
              subst (λ (j : ℕ). ¬ (IsAt (insts_of c) j (Label ∷ []))) same
              (not_label (insts_of c) n i there isnt))
        ];
      });
  late = λ whole. late_to c f n r marks i there isnt of a whole;
}

-- Past an OpLabel to which a walk comes; and past one to which none does.

label_ends_not : (is : List PlainInst) (n : ℕ) → IsOp is n is_label → ¬ (IsOp is n is_terminator)
label_ends_not is n op =
    let h = holds is n is_label op in
    let e = eqb-true h.inst.opcode opcode.LABEL h.holds in
    not_end is n h.inst h.there (rw e refl)

pub past_label : (c : Code) (f n : ℕ) (old new : Rising) (marks : List ℕ) → IsOp (insts_of c) n is_label
    → IsOfFunction (insts_of c) n f → AreRisen c f n old marks
    → ((G : Table) → IsCode G c → WouldRise G (insts_of c) f n) → new.live ≡ true → (new.whole ≡ old.whole)
    → AreRisen c f (n + 1) new marks
past_label c f n old new marks op of a comes live same = record {
  up_to = up_more marks n a.up_to;
  marked = a.marked;
  next = λ l G is. goes_on G (insts_of c) f n (n + 1) (comes G is of) (omega arith)
      (Next.follows (label_ends_not (insts_of c) n op));
  shut = λ l. cc;
  late = λ whole G s. more_late c f n (λ m. IsLate G (insts_of c) m) (a.late (sym same ∙ whole) G s)
      (risen_late G (insts_of c) f n (s.ready n) (comes G s.code of));
}

pub past_dark : (c : Code) (f n : ℕ) (old new : Rising) (marks : List ℕ) → AreRisen c f n old marks
    → new.live ≡ false → new.whole ≡ false → AreRisen c f (n + 1) new marks
past_dark c f n old new marks a live whole = record {
  up_to = up_more marks n a.up_to;
  marked = a.marked;
  next = λ l. cc;
  shut = λ l w. cc;
  late = λ w. cc;
}

-- Past a terminator, where nothing was marked; and where its targets were.

shut_here : (is : List PlainInst) (n : ℕ) → IsOp is n is_terminator → IsShut is (n + 1)
shut_here is n op = record {
  end = n;
  before = omega arith;
  there = terminator_at is n op;
  none = λ k from to. absurd (omega (arith, from, to));
}

end_is_no_label : (is : List PlainInst) (n : ℕ) (i : PlainInst) → slice_get is n ≡ Some i → IsOp is n is_terminator
    → (i.opcode ≡ opcode.LABEL → ⊥)
end_is_no_label is n i there op e =
    let l : IsOp is n is_label = op_holds is n i is_label there (eq-eqb i.opcode opcode.LABEL e) in
    label_ends_not is n l op

pub past_end : (c : Code) (f n : ℕ) (old new : Rising) (marks : List ℕ) (i : PlainInst)
    → slice_get (insts_of c) n ≡ Some i → IsOp (insts_of c) n is_terminator → IsOfFunction (insts_of c) n f
    → AreRisen c f n old marks → new.live ≡ false → new.whole ≡ old.whole → AreRisen c f (n + 1) new marks
past_end c f n old new marks i there op of a live same = record {
  up_to = up_more marks n a.up_to;
  marked = a.marked;
  next = λ l. cc;
  shut = λ l w. shut_here (insts_of c) n op;
  late = λ whole. late_to c f n old marks i there (end_is_no_label (insts_of c) n i there op) of a (sym same ∙ whole);
}

pub past_branch : (c : Code) (f n : ℕ) (old new : Rising) (marks more : List ℕ) (i : PlainInst)
    → slice_get (insts_of c) n ≡ Some i → IsOp (insts_of c) n is_terminator → IsOfFunction (insts_of c) n f
    → AreRisen c f n old marks → old.live ≡ true → AreMarked c n marks more → new.live ≡ false
    → new.whole ≡ old.whole → AreRisen c f (n + 1) new more
past_branch c f n old new marks more i there op of a was marked live same = record {
  up_to = λ m. elim (marked m) [
    | inl e ↦ (let h = a.up_to m in omega (arith, e, h))
    | inr h ↦ (let e = h.0 in omega (arith, e))
  ];
  marked = λ m lt G is. elim (marked m) [
    | inl e ↦ a.marked m (omega (arith, e, lt)) G is
    | inr h ↦ goes_on G (insts_of c) f n m (a.next was G is of) h.1 (h.2 G is)
  ];
  next = λ l. cc;
  shut = λ l w. shut_here (insts_of c) n op;
  late = λ whole. late_to c f n old marks i there (end_is_no_label (insts_of c) n i there op) of a (sym same ∙ whole);
}

-- From the OpFunction on.

function_ends_not : (is : List PlainInst) (f : ℕ) → IsOp is f is_function → ¬ (IsOp is f is_terminator)
function_ends_not is f op =
    let h = holds is f is_function op in
    let e = eqb-true h.inst.opcode opcode.FUNCTION h.holds in
    not_end is f h.inst h.there (rw e refl)

at_function : (G : Table) (is : List PlainInst) (f : ℕ) → IsOp is f is_function → HasRise G is f f
at_function G is f op = record {
  past = [];
  walk = IsWalk.begins op;
  low = λ k among. (let lt = among.1 in absurd (omega (arith, lt)));
}

pub risen_first : (c : Code) (f : ℕ) (r : Rising) (marks : List ℕ) → IsOp (insts_of c) f is_function → AreUpTo marks f
    → r.live ≡ true → AreRisen c f (f + 1) r marks
risen_first c f r marks op up live = record {
  up_to = up_more marks f up;
  marked = λ m lt. (let h = up m in absurd (omega (arith, lt, h)));
  next = λ l G is. goes_on G (insts_of c) f f (f + 1) (at_function G (insts_of c) f op) (omega arith)
      (Next.follows (function_ends_not (insts_of c) f op));
  shut = λ l. cc;
  late = λ whole G s m from to. (
      let same : f ≡ m = omega (arith, from, to) in
      subst (λ (k : ℕ). IsLate G (insts_of c) k) same
      (risen_late G (insts_of c) f f (s.ready f) (at_function G (insts_of c) f op)));
}

-- what no OpFunction and no OpFunctionEnd comes up to is of the function
open_at : (is : List PlainInst) (f n : ℕ) → IsOp is f is_function → IsOpenTo is f n → n < length is → f < n
    → ¬ (IsAt is n (Function ∷ [])) → IsOfFunction is n f
open_at is f n op o within after not = record {
  begun = record {
    within = within;
    up_to = omega (arith, after);
    there = function_at is f op;
    last = λ k l u. elim (cases_lt k n) [
      | inl less ↦ o.alone k l less
      | inr more ↦ (let same : n ≡ k = omega (arith, u, more) in
          subst (λ (j : ℕ). ¬ (IsAt is j (Function ∷ []))) same not)
    ];
  };
  not_ended = o.unended;
}

pub open_by : (is : List PlainInst) (f n : ℕ) (i : PlainInst) → IsOp is f is_function → IsOpenTo is f n
    → slice_get is n ≡ Some i → f < n → (i.opcode ≡ opcode.FUNCTION → ⊥) → IsOfFunction is n f
open_by is f n i op o there after isnt =
    open_at is f n op o (slice_get_within is n i there) after (λ a. isnt (function_opcode is n i there a))

-- marks

pub marked_none : (c : Code) (at : ℕ) (marks : List ℕ) → AreMarked c at marks marks
marked_none c at marks = λ m. inl refl

pub marked_then : (c : Code) (at : ℕ) (old mid new : List ℕ) → AreMarked c at old mid → AreMarked c at mid new
    → AreMarked c at old new
marked_then c at old mid new first second = λ m. elim (second m) [
  | inl e ↦ elim (first m) [
    | inl d ↦ inl (e ∙ d)
    | inr h ↦ inr (e ∙ h.0, h.1, h.2)
  ]
  | inr h ↦ inr h
]

-- the label of a target, if it stands after the branch
pub marked_one : (c : Code) (at m id : ℕ) (marks : List ℕ)
    → ((G : Table) → IsCode G c → IsTarget G (insts_of c) at id)
    → ((G : Table) → IsCode G c → IsLabelOf (insts_of c) id m) → at < m → m < length marks
    → AreMarked c at marks (set marks m at)
marked_one c at m id marks target label lt within = λ k. elim (cases_order k m) [
  | inl same ↦ inr (
    subst (λ (j : ℕ). slice_index (set marks m at) j ≡ at) (sym same) (get_or-set_same marks m at 0 within),
    omega (arith, same, lt),
    λ G is. Next.jumps id k (target G is) (subst (λ (j : ℕ). IsLabelOf (insts_of c) id j) (sym same) (label G is)),
  )
  | inr apart ↦ (
      let other : k ≢ m = λ e. elim apart [ inl less ↦ omega (arith, e, less) | inr more ↦ omega (arith, e, more) ] in
      inl (get_or-set_other marks m k at 0 other))
]

-- a terminator is no lower than an OpLabel, by opcode
low_by : (x : ℕ) → x < opcode.LABEL → is_terminator x ≡ false
low_by x lt = grind (arith, nat_tests)

pub low_end : (is : List PlainInst) (n : ℕ) (i : PlainInst) → slice_get is n ≡ Some i → i.opcode < opcode.LABEL
    → ¬ (IsOp is n is_terminator)
low_end is n i there lt = not_end is n i there (low_by i.opcode lt)
