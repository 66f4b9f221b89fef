-- Where a function ends, and where its blocks begin.
use Rattle.std.proofs.Common.{◌≡◌, ◌≢◌, ◌≤◌, ◌<◌, ◌+◌, ◌-◌, ◌++◌, ◌∙◌, inl, inr, ℕ, zero, suc, List, [], ◌∷◌, Bool}
use Rattle.std.proofs.Common.{true, false, Some, length, set, refl, sym, ap, subst, arith}
use Rattle.std.specs.Prelude.{slice_get, slice_index, MatchBool}
use Rattle.std.proofs.lemmas.Bool.{cases_lt, cases_order, eqb-true}
use Rattle.std.proofs.lemmas.List.{get_or-set_same, get_or-set_other, length-append, get_or_append_left, length-map}
use Rattle.spv_module.specs.declared.opcode.TheConstants as opcode
use Rattle.spv_module.specs.Operand.{PlainInst}
use Rattle.spv_layout.specs.declared.class.Class.TheVariants.{Function, FunctionEnd}
use Rattle.spv_layout.specs.Place.{IsAt, IsOfFunction}
use Rattle.spv_flow.specs.branches.Target.{is_phi, is_label, IsOp}
use Rattle.spv_flow.specs.branches.inner.Target.{is_function, is_terminator}
use Rattle.spv_flow.proofs.lemmas.branches.Firsts.{holds}
use Rattle.spv_flow.proofs.lemmas.branches.Labelled.{op_tells, op_holds}
use Rattle.std.proofs.lemmas.Option.{slice_get_within}
use Rattle.spv_module.specs.Module.{plain_inst}
use Rattle.spv_flow.specs.declared.walks.code.Code.{Code}
use Rattle.spv_flow.specs.declared.walks.edges.Blocks.{Blocks}
use Rattle.spv_flow.specs.walks.inner.Code.{insts_of}
use Rattle.spv_flow.specs.walks.inner.Divided.{IsIn, IsBegin}
use Rattle.spv_flow.specs.walks.inner.Starts.{IsExtent, IsRising, AreStarts, IsLaid}
use Rattle.spv_flow.specs.walks.inner.Leading.{AreBlocks}
use Rattle.spv_flow.proofs.lemmas.walks.Alone.{function_opcode, end_opcode}
use Rattle.spv_flow.proofs.lemmas.walks.Places.{function_at, end_at, of_before}
use Rattle.spv_flow.proofs.lemmas.walks.Walking.{begin_first}

-- From an OpFunction to before instruction n there is no other one, and no OpFunctionEnd.
pub record IsOpenTo (is : List PlainInst) (f n : ℕ) : Type 0 where
  pub alone : (k : ℕ) → f < k → k < n → ¬ (IsAt is k (Function ∷ []))
  pub unended : (k : ℕ) → f ≤ k → k < n → ¬ (IsAt is k (FunctionEnd ∷ []))

pub open_start : (is : List PlainInst) (f : ℕ) → IsOp is f is_function → IsOpenTo is f (f + 1)
open_start is f op = record {
  alone = λ k l u. absurd (omega (arith, l, u));
  unended = λ k l u a. (
      let h = holds is f is_function op in
      let e : k ≡ f = omega (arith, l, u) in
      let x = end_opcode is f h.inst h.there (subst (λ (n : ℕ). IsAt is n (FunctionEnd ∷ [])) e a) in
      let y = eqb-true h.inst.opcode opcode.FUNCTION h.holds in
      omega (arith, x, y));
}

pub open_more : (is : List PlainInst) (f n : ℕ) (i : PlainInst) → slice_get is n ≡ Some i
    → (i.opcode ≡ opcode.FUNCTION → ⊥) → (i.opcode ≡ opcode.FUNCTION_END → ⊥) → IsOpenTo is f n → IsOpenTo is f (n + 1)
open_more is f n i there isnt unended before = record {
  alone = λ k l u a. elim (cases_lt k n) [
    | inl less ↦ before.alone k l less a
    | inr more ↦ (let e : k ≡ n = omega (arith, u, more) in
        isnt (function_opcode is n i there (subst (λ (j : ℕ). IsAt is j (Function ∷ [])) e a)))
  ];
  unended = λ k l u a. elim (cases_lt k n) [
    | inl less ↦ before.unended k l less a
    | inr more ↦ (let e : k ≡ n = omega (arith, u, more) in
        unended (end_opcode is n i there (subst (λ (j : ℕ). IsAt is j (FunctionEnd ∷ [])) e a)))
  ];
}

open_of : (is : List PlainInst) (f at n : ℕ) → IsOp is f is_function → IsOpenTo is f at → at ≤ length is → f ≤ n
    → n < at → IsOfFunction is n f
open_of is f at n op o within from to = record {
  begun = record {
    within = omega (arith, within, to);
    up_to = from;
    there = function_at is f op;
    last = λ k l u. o.alone k l (omega (arith, u, to));
  };
  not_ended = λ k l u. o.unended k l (omega (arith, u, to));
}

pub extent_to : (is : List PlainInst) (f at : ℕ) → IsOp is f is_function → f < at → at ≤ length is
    → ((n : ℕ) → f ≤ n → n < at → IsOfFunction is n f) → (at < length is → ¬ (IsOfFunction is at f)) → IsExtent is f at
extent_to is f at op some within before not = record {
  function = op;
  some = some;
  within = within;
  of = before;
  all = λ n of. (
    of.begun.up_to,
    elim (cases_lt n at) [
      | inl less ↦ less
      | inr more ↦ (let w = of.begun.within in
          absurd (not (omega (arith, w, more)) (of_before is f n at of (omega (arith, some)) more)))
    ],
  );
}

-- a function that ends with its OpFunctionEnd, before another OpFunction, and with the module
pub extent_ended : (is : List PlainInst) (f n : ℕ) (i : PlainInst) → IsOp is f is_function → f < n
    → slice_get is n ≡ Some i → i.opcode ≡ opcode.FUNCTION_END → IsOpenTo is f n → IsExtent is f (n + 1)
extent_ended is f n i op some there e o =
    let w = slice_get_within is n i there in
    let last : IsOfFunction is n f = record {
      begun = record {
        within = w;
        up_to = omega (arith, some);
        there = function_at is f op;
        last = λ k l u a. elim (cases_lt k n) [
          | inl less ↦ o.alone k l less a
          | inr more ↦ (let s : k ≡ n = omega (arith, u, more) in
              let x = function_opcode is n i there (subst (λ (j : ℕ). IsAt is j (Function ∷ [])) s a) in
              omega (arith, x, e))
        ];
      };
      not_ended = o.unended;
    } in
    extent_to is f (n + 1) op (omega (arith, some)) (omega (arith, w))
    (λ m from to. elim (cases_lt m n) [
      | inl less ↦ open_of is f n m op o (omega (arith, w)) from less
      | inr more ↦ (let s : n ≡ m = omega (arith, to, more) in subst (λ (k : ℕ). IsOfFunction is k f) s last)
    ])
    (λ lt of. of.not_ended n (omega (arith, some)) (omega arith) (end_at is n i there e))

pub extent_before : (is : List PlainInst) (f n : ℕ) → IsOp is f is_function → f < n → IsOp is n is_function
    → IsOpenTo is f n → IsExtent is f n
extent_before is f n op some next o =
    let h = holds is n is_function next in
    let w = slice_get_within is n h.inst h.there in
    extent_to is f n op some (omega (arith, w)) (λ m from to. open_of is f n m op o (omega (arith, w)) from to)
    (λ lt of. of.begun.last n some (omega arith) (function_at is n next))

pub extent_last : (is : List PlainInst) (f n at : ℕ) → IsOp is f is_function → n ≡ length is → n ≤ at → IsOpenTo is f at
    → IsExtent is f n
extent_last is f n at op e all o =
    let h = holds is f is_function op in
    let w = slice_get_within is f h.inst h.there in
    let less : IsOpenTo is f n = record {
      alone = λ k l u. o.alone k l (omega (arith, u, all));
      unended = λ k l u. o.unended k l (omega (arith, u, all));
    } in
    extent_to is f n op (omega (arith, w, e)) (omega (arith, e))
    (λ m from to. open_of is f n m op less (omega (arith, e)) from to) (λ lt. absurd (omega (arith, lt, e)))

-- no OpPhi as far as instruction n
pub unmarked_start : (is : List PlainInst) (f : ℕ) → IsOp is f is_function → (n : ℕ) → f ≤ n → n < f + 1
    → ¬ (IsOp is n is_phi)
unmarked_start is f op n from to phi =
    let h = holds is f is_function op in
    let e : n ≡ f = omega (arith, from, to) in
    let x = eqb-true h.inst.opcode opcode.PHI
    (op_tells is f h.inst is_phi h.there (subst (λ (k : ℕ). IsOp is k is_phi) e phi)) in
    let y = eqb-true h.inst.opcode opcode.FUNCTION h.holds in
    omega (arith, x, y)

pub unmarked_more : (is : List PlainInst) (f at : ℕ) (i : PlainInst) → slice_get is at ≡ Some i
    → (i.opcode ≡ opcode.PHI → ⊥) → ((n : ℕ) → f ≤ n → n < at → ¬ (IsOp is n is_phi)) → (n : ℕ) → f ≤ n → n < at + 1
    → ¬ (IsOp is n is_phi)
unmarked_more is f at i there isnt before n from to phi = elim (cases_lt n at) [
  | inl less ↦ before n from less phi
  | inr more ↦ (let e : n ≡ at = omega (arith, to, more) in
      isnt (eqb-true i.opcode opcode.PHI (op_tells is at i is_phi there (subst (λ (k : ℕ). IsOp is k is_phi) e phi))))
]

-- whether an instruction that is no OpLabel begins a block
pub begins_by : (is : List PlainInst) (n m : ℕ) (i j : PlainInst) (b : Bool) → slice_get is n ≡ Some i
    → (i.opcode ≡ opcode.LABEL → ⊥) → m + 1 ≡ n → slice_get is m ≡ Some j → b ≡ is_terminator j.opcode
    → MatchBool b (IsBegin is n) (¬ (IsBegin is n))
begins_by is n m i j true there isnt e before t = inr (m, e, op_holds is m j is_terminator before (sym t))
begins_by is n m i j false there isnt e before t = λ begin. elim begin [
  | inl label ↦ isnt (eqb-true i.opcode opcode.LABEL (op_tells is n i is_label there label))
  | inr ended ↦ (
      let s : ended.0 ≡ m = (let h = ended.1 in omega (arith, h, e)) in
      let h : is_terminator j.opcode ≡ true = op_tells is m j is_terminator before
      (subst (λ (k : ℕ). IsOp is k is_terminator) s ended.2) in
      cc)
]

-- the first instructions of blocks

pushed_index : (xs : List ℕ) (y : ℕ) → slice_index (xs ++ y ∷ []) (length xs) ≡ y
pushed_index [] y = refl
pushed_index (x ∷ xs) y = pushed_index xs y

kept_index : (xs : List ℕ) (y k : ℕ) → k < length xs → slice_index (xs ++ y ∷ []) k ≡ slice_index xs k
kept_index xs y k lt = get_or_append_left xs (y ∷ []) 0 k lt

pushed_length : (xs : List ℕ) (y : ℕ) → length (xs ++ y ∷ []) ≡ length xs + 1
pushed_length xs y = length-append xs (y ∷ [])

pub rising_more : (xs : List ℕ) (y : ℕ) → IsRising xs → ((k : ℕ) → k < length xs → slice_index xs k < y)
    → IsRising (xs ++ y ∷ [])
rising_more xs y rising below j k lt within =
    let l = pushed_length xs y in
    let a = kept_index xs y j (omega (arith, l, within, lt)) in
    elim (cases_lt k (length xs)) [
      | inl less ↦ (let b = kept_index xs y k less in let h = rising j k lt less in omega (arith, a, b, h))
      | inr more ↦ (
          let e : length xs ≡ k = omega (arith, more, l, within) in
          let b : slice_index (xs ++ y ∷ []) k ≡ y = subst (λ (n : ℕ). slice_index (xs ++ y ∷ []) n ≡ y) e
          (pushed_index xs y) in
          let h = below j (omega (arith, l, within, lt)) in
          omega (arith, a, b, h))
    ]

-- the first block alone
one_index : (f k : ℕ) → k < 1 → slice_index (f ∷ []) k ≡ f
one_index f zero lt = refl
one_index f (suc k) lt = absurd (omega (arith, lt))

pub starts_first : (is : List PlainInst) (f : ℕ) (numbers : List ℕ) → f < length numbers
    → AreStarts is f (f + 1) (f ∷ []) (set numbers f 0)
starts_first is f numbers within = record {
  some = omega arith;
  first = refl;
  rising = λ j k lt to. absurd (omega (arith, lt, to));
  below = λ k lt. (let e = one_index f k lt in omega (arith, e));
  begun = λ k pos lt. absurd (omega (arith, pos, lt));
  found = λ m after before begin. absurd (omega (arith, after, before));
  numbered = λ k lt. ap (slice_index (set numbers f 0)) (one_index f k lt) ∙ get_or-set_same numbers f 0 0 within
      ∙ omega (arith, lt);
}

-- an instruction that begins no block
pub starts_other : (is : List PlainInst) (f n : ℕ) (starts numbers : List ℕ) → AreStarts is f n starts numbers
    → ¬ (IsBegin is n) → AreStarts is f (n + 1) starts numbers
starts_other is f n starts numbers s not = record {
  some = s.some;
  first = s.first;
  rising = s.rising;
  below = λ k lt. (let h = s.below k lt in omega (arith, h));
  begun = s.begun;
  found = λ m after before begin. elim (cases_lt m n) [
    | inl less ↦ s.found m after less begin
    | inr more ↦ (let e : m ≡ n = omega (arith, before, more) in absurd (not (subst (λ (k : ℕ). IsBegin is k) e begin)))
  ];
  numbered = s.numbered;
}

-- one that begins a block
pub starts_more : (is : List PlainInst) (f n : ℕ) (starts numbers : List ℕ) → AreStarts is f n starts numbers
    → n < length numbers → IsBegin is n → AreStarts is f (n + 1) (starts ++ n ∷ []) (set numbers n (length starts))
starts_more is f n starts numbers s within here =
    let l = pushed_length starts n in
    record {
      some = omega (arith, l);
      first = kept_index starts n 0 s.some ∙ s.first;
      rising = rising_more starts n s.rising s.below;
      below = λ k lt. elim (cases_lt k (length starts)) [
        | inl less ↦ (let h = s.below k less in let a = kept_index starts n k less in omega (arith, h, a))
        | inr more ↦ (
            let e : length starts ≡ k = omega (arith, more, l, lt) in
            let b : slice_index (starts ++ n ∷ []) k ≡ n = subst (λ (j : ℕ). slice_index (starts ++ n ∷ []) j ≡ n) e
            (pushed_index starts n) in
            omega (arith, b))
      ];
      begun = λ k pos lt. elim (cases_lt k (length starts)) [
        | inl less ↦ (let a = kept_index starts n k less in
            subst (λ (j : ℕ). IsBegin is j) (sym a) (s.begun k pos less))
        | inr more ↦ (
            let e : length starts ≡ k = omega (arith, more, l, lt) in
            let b : slice_index (starts ++ n ∷ []) k ≡ n = subst (λ (j : ℕ). slice_index (starts ++ n ∷ []) j ≡ n) e
            (pushed_index starts n) in
            subst (λ (j : ℕ). IsBegin is j) (sym b) here)
      ];
      found = λ m after before begin. elim (cases_lt m n) [
        | inl less ↦ (
            let r = s.found m after less begin in
            let lt = r.1 in
            (r.0, omega (arith, lt, l), kept_index starts n r.0 lt ∙ r.2))
        | inr more ↦ (let e : n ≡ m = omega (arith, before, more) in
            (length starts, omega (arith, l), pushed_index starts n ∙ e))
      ];
      numbered = λ k lt. elim (cases_lt k (length starts)) [
        | inl less ↦ (
            let a = kept_index starts n k less in
            let h = s.below k less in
            let apart : slice_index starts k ≢ n = λ e. omega (arith, h, e) in
            ap (slice_index (set numbers n (length starts))) a
            ∙ get_or-set_other numbers n (slice_index starts k) (length starts) 0 apart ∙ s.numbered k less)
        | inr more ↦ (
            let e : length starts ≡ k = omega (arith, more, l, lt) in
            let b : slice_index (starts ++ n ∷ []) k ≡ n = subst (λ (j : ℕ). slice_index (starts ++ n ∷ []) j ≡ n) e
            (pushed_index starts n) in
            ap (slice_index (set numbers n (length starts))) b ∙ get_or-set_same numbers n (length starts) 0 within ∙ e)
      ];
    }

-- the block of an instruction
in_front : (is : List PlainInst) (f n : ℕ) (starts : List ℕ) → IsRising starts → slice_index starts 0 ≤ n → (b : ℕ)
    → b + 1 < length starts → n < slice_index starts (b + 1) → (c : ℕ) × IsIn starts c n
in_front is f n starts rising from zero within lt = (0, record { block = within; from = from; to = lt })
in_front is f n starts rising from (suc b) within lt = elim (cases_lt n (slice_index starts (suc b))) [
  | inr above ↦ (suc b, record { block = within; from = above; to = lt })
  | inl below ↦ (
      let e : suc b ≡ b + 1 = omega arith in
      in_front is f n starts rising from b (omega (arith, within))
      (subst (λ (k : ℕ). n < slice_index starts k) e below))
]

-- all of a function, and at last the instruction after it
pub starts_all : (is : List PlainInst) (f end : ℕ) (starts numbers : List ℕ) → IsExtent is f end
    → AreStarts is f end starts numbers → IsLaid is f end (starts ++ end ∷ []) numbers
starts_all is f end starts numbers x s =
    let l = pushed_length starts end in
    let some = s.some in
    let all : List ℕ = starts ++ end ∷ [] in
    let rising : IsRising all = rising_more starts end s.rising s.below in
    let last : slice_index all (length starts) ≡ end = pushed_index starts end in
    let first : slice_index all 0 ≡ f = kept_index starts end 0 s.some ∙ s.first in
    record {
      extent = x;
      divided = record {
        function = x.function;
        some = omega (arith, l, some);
        first = first;
        order = rising;
        of = λ b n i.
            let from = i.from in
            let to = i.to in
            let w = i.block in
            let low : slice_index all 0 ≤ slice_index all b = elim (cases_lt 0 b) [
              | inl pos ↦ (let h = rising 0 b pos (omega (arith, w)) in omega (arith, h))
              | inr none ↦ (let e : b ≡ 0 = omega (arith, none) in rw e (omega arith))
            ] in
            let high : slice_index all (b + 1) ≤ slice_index all (length starts) = elim
            (cases_lt (b + 1) (length starts)) [
              | inl less ↦ (let h = rising (b + 1) (length starts) less (omega (arith, l)) in omega (arith, h))
              | inr more ↦ (let e : b + 1 ≡ length starts = omega (arith, more, w, l) in rw e (omega arith))
            ] in
            x.of n (omega (arith, from, low, first)) (omega (arith, to, high, last));
        all = λ n of.
            let r = x.all n of in
            let b : ℕ = length starts - 1 in
            let e : b + 1 ≡ length starts = omega (arith, some) in
            let t : slice_index all (b + 1) ≡ end = subst (λ (k : ℕ). slice_index all k ≡ end) (sym e) last in
            in_front is f n all rising (omega (arith, r.0, first)) b (omega (arith, e, l)) (omega (arith, r.1, t));
        begun = λ b pos within.
            let a = kept_index starts end b (omega (arith, within, l)) in
            subst (λ (j : ℕ). IsBegin is j) (sym a) (s.begun b pos (omega (arith, within, l)));
        inner = λ b n i j begin.
            let from = i.from in
            let to = j.to in
            let w = i.block in
            let low : slice_index all 0 ≤ slice_index all b = elim (cases_lt 0 b) [
              | inl pos ↦ (let h = rising 0 b pos (omega (arith, w)) in omega (arith, h))
              | inr none ↦ (let e : b ≡ 0 = omega (arith, none) in rw e (omega arith))
            ] in
            let high : slice_index all (b + 1) ≤ slice_index all (length starts) = elim
            (cases_lt (b + 1) (length starts)) [
              | inl less ↦ (let h = rising (b + 1) (length starts) less (omega (arith, l)) in omega (arith, h))
              | inr more ↦ (let e : b + 1 ≡ length starts = omega (arith, more, w, l) in rw e (omega arith))
            ] in
            let r = s.found (n + 1) (omega (arith, from, low, first)) (omega (arith, to, high, last)) begin in
            let in_list = r.1 in
            let at : slice_index all r.0 ≡ n + 1 = kept_index starts end r.0 in_list ∙ r.2 in
            elim (cases_order r.0 b) [
              | inl same ↦ (let e = ap (slice_index all) same in omega (arith, e, at, from))
              | inr apart ↦ elim apart [
                | inl less ↦ (let h = rising r.0 b less (omega (arith, w)) in omega (arith, h, at, from))
                | inr more ↦ elim (cases_order (b + 1) r.0) [
                  | inl same ↦ (let e = ap (slice_index all) same in omega (arith, e, at, to))
                  | inr other ↦ elim other [
                    | inl lower ↦ (let h = rising (b + 1) r.0 lower (omega (arith, in_list, l)) in
                        omega (arith, h, at, to))
                    | inr higher ↦ omega (arith, higher, more)
                  ]
                ]
              ]
            ];
      };
      numbered = λ k lt. (let a = kept_index starts end k (omega (arith, lt, l)) in
          ap (slice_index numbers) a ∙ s.numbered k (omega (arith, lt, l)));
      last = (let e : length starts ≡ length all - 1 = omega (arith, l) in
          subst (λ (k : ℕ). slice_index all k ≡ end) e last);
    }

-- the block that a label of the function begins
pub label_block : (is : List PlainInst) (b : Blocks) (label : ℕ) → AreBlocks is b → IsOp is label is_label
    → b.function ≤ label → label < b.end
    → (slice_index b.numbers.now label + 1 < length b.starts.now)
    × (slice_index b.starts.now (slice_index b.numbers.now label) ≡ label)
label_block is b label are op from to =
    let d = are.laid.divided in
    let r = d.all label (are.laid.extent.of label from to) in
    let w = r.1.block in
    let first : slice_index b.starts.now r.0 ≡ label = begin_first is b.function b.starts.now d r.0 label r.1
    (inl op) in
    let n : slice_index b.numbers.now (slice_index b.starts.now r.0) ≡ r.0 = are.laid.numbered r.0 (omega (arith, w)) in
    let k : slice_index b.numbers.now label ≡ r.0 = subst (λ (j : ℕ). slice_index b.numbers.now j ≡ r.0) first n in
    (omega (arith, k, w), ap (slice_index b.starts.now) k ∙ first)

-- there are no more blocks than instructions
rises : (starts : List ℕ) → IsRising starts → (k : ℕ) → k < length starts → k ≤ slice_index starts k
rises starts rising zero lt = omega arith
rises starts rising (suc k) lt =
    let h = rises starts rising k (omega (arith, lt)) in
    let r = rising k (suc k) (omega arith) lt in
    omega (arith, h, r)

pub few_starts : (is : List PlainInst) (f n : ℕ) (starts numbers : List ℕ) → AreStarts is f n starts numbers
    → length starts ≤ n
few_starts is f n starts numbers s =
    let some = s.some in
    let k : ℕ = length starts - 1 in
    let h = rises starts s.rising k (omega (arith, some)) in
    let b = s.below k (omega (arith, some)) in
    omega (arith, h, b, some)

pub few_blocks : (is : List PlainInst) (f end : ℕ) (starts numbers : List ℕ) → IsLaid is f end starts numbers
    → length starts ≤ end + 1
few_blocks is f end starts numbers l =
    let some = l.divided.some in
    let k : ℕ = length starts - 1 in
    let h = rises starts l.divided.order k (omega (arith, some)) in
    let e = l.last in
    omega (arith, h, e, some)

-- blocks stand within the instructions
pub end_within : (c : Code) (b : Blocks) → AreBlocks (insts_of c) b → (k : ℕ) → k < length b.starts.now
    → slice_index b.starts.now k ≤ length c.insts.now
end_within c b are k lt =
    let some = are.laid.divided.some in
    let last = are.laid.last in
    let within = are.laid.extent.within in
    let l = length-map c.insts.now plain_inst in
    elim (cases_lt k (length b.starts.now - 1)) [
      | inl less ↦ (let h = are.laid.divided.order k (length b.starts.now - 1) less (omega (arith, some)) in
          omega (arith, h, last, within, l))
      | inr more ↦ (let e : k ≡ length b.starts.now - 1 = omega (arith, lt, more, some) in
          let f = ap (slice_index b.starts.now) e in omega (arith, f, last, within, l))
    ]

pub start_within : (c : Code) (b : Blocks) → AreBlocks (insts_of c) b → (k : ℕ) → k + 1 < length b.starts.now
    → slice_index b.starts.now k < length c.insts.now
start_within c b are k lt =
    let h = end_within c b are (k + 1) lt in
    let r = are.laid.divided.order k (k + 1) (omega arith) lt in
    omega (arith, h, r)

-- the last instruction of a block
pub block_last : (c : Code) (b : Blocks) → AreBlocks (insts_of c) b → (k : ℕ) → k + 1 < length b.starts.now
    → (1 ≤ slice_index b.starts.now (k + 1))
    × (slice_index b.starts.now (k + 1) - 1 + 1 ≡ slice_index b.starts.now (k + 1))
    × (slice_index b.starts.now (k + 1) - 1 < length c.insts.now)
block_last c b are k lt =
    let h = end_within c b are (k + 1) lt in
    let r = are.laid.divided.order k (k + 1) (omega arith) lt in
    (omega (arith, r), omega (arith, r), omega (arith, r, h))
