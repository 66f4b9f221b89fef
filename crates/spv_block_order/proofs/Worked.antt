-- The small functions, worked out.
use Rattle.std.proofs.Common.{◌≡◌, ◌<◌, ◌⊎◌, ℕ, zero, suc, List, [], ◌∷◌, Some, None, refl, sym, subst, inl, inr, arith}
use Rattle.std.specs.Prelude.{Contains, slice_get}
use Rattle.std.proofs.lemmas.Option.{same_Some}
use Rattle.spv_module.specs.declared.opcode.TheConstants as opcode
use Rattle.spv_table.specs.Table.{Table}
use Rattle.spv_module.specs.Operand.{Id, OfType, Result, PlainInst, result_in}
use Rattle.spv_layout.specs.declared.class.Class.{Class}
use Rattle.spv_layout.specs.declared.class.Class.TheVariants.{Function, FunctionEnd, Label, Branch, Return, Body}
use Rattle.spv_layout.specs.declared.form.Role.{Role}
use Rattle.spv_layout.specs.declared.form.Role.TheVariants as role
use Rattle.spv_layout.specs.Row.{closed}
use Rattle.spv_layout.specs.inner.Row.{row, v, l, T, R}
use Rattle.spv_layout.specs.Rows.{rows}
use Rattle.spv_layout.specs.Shape.{AreOf, Ends, HasForms, FitsShape, IsUse}
use Rattle.spv_layout.specs.Layout.{classes}
use Rattle.spv_layout.specs.Place.{IsOfFunction, terminators}
use Rattle.spv_layout.proofs.Shapes.{use_same}
use Rattle.spv_ids.specs.Definition.{IsDefinedAt, IsUsedAt}
use Rattle.spv_flow.specs.branches.Target.{is_branch, is_label, IsOp, IsLabelOf, IsTarget}
use Rattle.spv_flow.specs.branches.inner.Target.{is_function, is_terminator}
use Rattle.spv_flow.specs.branches.Walk.{Next, IsWalk}
use Rattle.spv_flow.specs.branches.Ready.{IsLocalValue}
use Rattle.spv_flow.specs.branches.Example.{function, label, branch, return_void, negation}
use Rattle.spv_flow.proofs.lemmas.branches.Labelled.{use_in, use_within}
use Rattle.spv_flow.proofs.lemmas.branches.Laid.{not_at, within_by}
use Rattle.spv_flow.proofs.lemmas.walks.Used.{used_all, one_used}
use Rattle.spv_block_order.specs.Early.{IsEarlyBlock, IsEarlyUse}
use Rattle.spv_block_order.specs.Example.{turned, in_order, unreached}
use Rattle.spv_block_order.proofs.Bridging.{in_none, in_first, in_later, in_cases, walk_function}

-- OpBranch %x uses %x.

branch_forms : (G : Table) (x : ℕ) → HasForms G (branch x) (l ∷ [])
unfolding rows
branch_forms G x = record {
  row = row opcode.BRANCH opcode.BRANCH Branch (l ∷ []) closed;
  rest = [];
  known = refl;
  forms = refl;
  ending = Ends.nothing;
  each = AreOf.more l (Id x) [] [] refl AreOf.none;
}

branch_used : (G : Table) (x : ℕ) → IsUse G (branch x) 0 x role.Label
branch_used G x = record {
  forms = l ∷ [];
  has = branch_forms G x;
  form = l;
  operand = Id x;
  form_at = refl;
  operand_at = refl;
  role = refl;
  id = refl;
}

branch_only : (G : Table) (x k y : ℕ) (r : Role) → IsUse G (branch x) k y r → y ≡ x
branch_only G x k y r u =
    let w = use_within G (branch x) k y r u in
    let zero_at : k ≡ 0 = omega (arith, w) in
    (use_same G (branch x) 0 y x r role.Label (subst (λ (j : ℕ). IsUse G (branch x) j y r) zero_at u)
    (branch_used G x)).id

-- a target of it is the label of %x
target_only : (G : Table) (is : List PlainInst) (n x y : ℕ) → slice_get is n ≡ Some (branch x) → IsTarget G is n y
    → y ≡ x
target_only G is n x y there t =
    branch_only G x t.operand y role.Label (use_in G is n t.operand y role.Label (branch x) there t.used)

target_of : (G : Table) (is : List PlainInst) (n x : ℕ) → slice_get is n ≡ Some (branch x) → IsOp is n is_branch
    → IsTarget G is n x
target_of G is n x there op = record {
  branch = op;
  operand = 0;
  used = record { inst = branch x; there = there; used = branch_used G x };
}

label_of : (is : List PlainInst) (m x y : ℕ) → slice_get is m ≡ Some (label y) → IsLabelOf is x m → y ≡ x
label_of is m x y there k =
    let t = k.defined.there in
    let e : label y ≡ k.defined.inst = cc in
    let r = rw (← e) at k.defined.result in
    same_Some y x r

-- In `turned` the block of %2 stands before that of %3.

abbrev turned_laid : List Class
turned_laid = Function ∷ Label ∷ Branch ∷ Label ∷ Return ∷ Label ∷ Branch ∷ []

turned_classes : classes turned ≡ turned_laid
unfolding rows
turned_classes = refl

of_turned : (n : ℕ) → n < 7 → IsOfFunction turned n 0
of_turned n lt = within_by turned turned_laid Function (FunctionEnd ∷ []) n 0 7 7 turned_classes (omega (arith, lt))
    (omega arith) (omega (arith, lt)) (omega arith) refl refl refl

turned_2 : IsLabelOf turned 2 3
turned_2 = record { defined = record { inst = label 2; there = refl; result = refl }; label = refl }

turned_3 : IsLabelOf turned 3 5
turned_3 = record { defined = record { inst = label 3; there = refl; result = refl }; label = refl }

turned_walk : (G : Table) → IsWalk G turned 0 (6 ∷ 5 ∷ 2 ∷ 1 ∷ 0 ∷ []) 3
turned_walk G =
    let w0 : IsWalk G turned 0 [] 0 = IsWalk.begins refl in
    let w1 : IsWalk G turned 0 (0 ∷ []) 1 = IsWalk.goes [] 0 1 w0 (Next.follows (λ t. let e = t in cc))
    (of_turned 1 (omega arith)) in
    let w2 : IsWalk G turned 0 (1 ∷ 0 ∷ []) 2 = IsWalk.goes (0 ∷ []) 1 2 w1 (Next.follows (λ t. let e = t in cc))
    (of_turned 2 (omega arith)) in
    let w5 : IsWalk G turned 0 (2 ∷ 1 ∷ 0 ∷ []) 5 = IsWalk.goes (1 ∷ 0 ∷ []) 2 5 w2
    (Next.jumps 3 5 (target_of G turned 2 3 refl refl) turned_3) (of_turned 5 (omega arith)) in
    let w6 : IsWalk G turned 0 (5 ∷ 2 ∷ 1 ∷ 0 ∷ []) 6 = IsWalk.goes (2 ∷ 1 ∷ 0 ∷ []) 5 6 w5
    (Next.follows (λ t. let e = t in cc)) (of_turned 6 (omega arith)) in
    IsWalk.goes (5 ∷ 2 ∷ 1 ∷ 0 ∷ []) 6 3 w6 (Next.jumps 2 3 (target_of G turned 6 2 refl refl) turned_2)
    (of_turned 3 (omega arith))

branch_place : (n : ℕ) → IsOp turned n is_branch → (n ≡ 2) ⊎ (n ≡ 6)
branch_place zero op = (let e = op in cc)
branch_place (suc zero) op = (let e = op in cc)
branch_place (suc (suc zero)) op = inl refl
branch_place (suc (suc (suc zero))) op = (let e = op in cc)
branch_place (suc (suc (suc (suc zero)))) op = (let e = op in cc)
branch_place (suc (suc (suc (suc (suc zero))))) op = (let e = op in cc)
branch_place (suc (suc (suc (suc (suc (suc zero)))))) op = inr refl
branch_place (suc (suc (suc (suc (suc (suc (suc n))))))) op = absurd op

not_to_3 : (G : Table) (x : ℕ) → IsTarget G turned 2 x → ¬ (IsLabelOf turned x 3)
not_to_3 G x t k =
    let e = target_only G turned 2 3 x refl t in
    let f = label_of turned 3 x 2 refl k in
    absurd (omega (arith, e, f))

before_3 : (G : Table) (n m : ℕ) → Next G turned n m → m ≡ 3 → n ≡ 6
before_3 G n _ (Next.jumps x m t k) e = elim (branch_place n t.branch) [
  | inl two ↦ absurd (not_to_3 G x (subst (λ (j : ℕ). IsTarget G turned j x) two t)
      (subst (λ (j : ℕ). IsLabelOf turned x j) e k))
  | inr six ↦ six
]
before_3 G n _ (Next.follows not) e =
    let two : 2 ≡ n = omega (arith, e) in
    absurd (not (subst (λ (j : ℕ). IsOp turned j is_terminator) two refl))

before_6 : (G : Table) (n m : ℕ) → Next G turned n m → m ≡ 6 → n ≡ 5
before_6 G n _ (Next.jumps x m t k) e =
    (let o : IsOp turned 6 is_label = subst (λ (j : ℕ). IsOp turned j is_label) e k.label in cc)
before_6 G n _ (Next.follows not) e = omega (arith, e)

past_6 : (G : Table) (f : ℕ) (past : List ℕ) (n : ℕ) → IsWalk G turned f past n → n ≡ 6 → Contains past 5
past_6 G f _ _ (IsWalk.begins op) e =
    (let o : IsOp turned 6 is_function = subst (λ (j : ℕ). IsOp turned j is_function) e op in cc)
past_6 G f _ _ (IsWalk.goes past n m walk next of) e =
    subst (λ (j : ℕ). Contains (n ∷ past) j) (before_6 G n m next e) (in_first n past)

past_3 : (G : Table) (f : ℕ) (past : List ℕ) (n : ℕ) → IsWalk G turned f past n → n ≡ 3 → Contains past 5
past_3 G f _ _ (IsWalk.begins op) e =
    (let o : IsOp turned 3 is_function = subst (λ (j : ℕ). IsOp turned j is_function) e op in cc)
past_3 G f _ _ (IsWalk.goes past n m walk next of) e =
    in_later n 5 past (past_6 G f past n walk (before_3 G n m next e))

pub turned_early : (G : Table) → IsEarlyBlock G turned 3
turned_early G = (
  0,
  record {
    label = refl;
    block = 5;
    named = refl;
    higher = omega arith;
    way = record {
      past = 6 ∷ 5 ∷ 2 ∷ 1 ∷ 0 ∷ [];
      walk = turned_walk G;
      each = λ past walk. past_3 G 0 past 3 walk refl;
    };
  },
)

-- In `in_order` the block of %3 stands before that of %2.

abbrev ordered_laid : List Class
ordered_laid = Function ∷ Label ∷ Branch ∷ Label ∷ Branch ∷ Label ∷ Return ∷ []

ordered_classes : classes in_order ≡ ordered_laid
unfolding rows
ordered_classes = refl

of_ordered : (n : ℕ) → n < 7 → IsOfFunction in_order n 0
of_ordered n lt = within_by in_order ordered_laid Function (FunctionEnd ∷ []) n 0 7 7 ordered_classes
    (omega (arith, lt)) (omega arith) (omega (arith, lt)) (omega arith) refl refl refl

ordered_3 : IsLabelOf in_order 3 3
ordered_3 = record { defined = record { inst = label 3; there = refl; result = refl }; label = refl }

ordered_walk : (G : Table) → IsWalk G in_order 0 (2 ∷ 1 ∷ 0 ∷ []) 3
ordered_walk G =
    let w0 : IsWalk G in_order 0 [] 0 = IsWalk.begins refl in
    let w1 : IsWalk G in_order 0 (0 ∷ []) 1 = IsWalk.goes [] 0 1 w0 (Next.follows (λ t. let e = t in cc))
    (of_ordered 1 (omega arith)) in
    let w2 : IsWalk G in_order 0 (1 ∷ 0 ∷ []) 2 = IsWalk.goes (0 ∷ []) 1 2 w1 (Next.follows (λ t. let e = t in cc))
    (of_ordered 2 (omega arith)) in
    IsWalk.goes (1 ∷ 0 ∷ []) 2 3 w2 (Next.jumps 3 3 (target_of G in_order 2 3 refl refl) ordered_3)
    (of_ordered 3 (omega arith))

ordered_function : (f : ℕ) → IsOp in_order f is_function → f ≡ 0
ordered_function zero op = refl
ordered_function (suc zero) op = (let e = op in cc)
ordered_function (suc (suc zero)) op = (let e = op in cc)
ordered_function (suc (suc (suc zero))) op = (let e = op in cc)
ordered_function (suc (suc (suc (suc zero)))) op = (let e = op in cc)
ordered_function (suc (suc (suc (suc (suc zero))))) op = (let e = op in cc)
ordered_function (suc (suc (suc (suc (suc (suc zero)))))) op = (let e = op in cc)
ordered_function (suc (suc (suc (suc (suc (suc (suc f))))))) op = absurd op

among_three : (x : ℕ) → Contains (2 ∷ 1 ∷ 0 ∷ []) x → x < 3
among_three x h = elim (in_cases 2 x (1 ∷ 0 ∷ []) h) [
  | inl two ↦ omega (arith, two)
  | inr lower ↦ elim (in_cases 1 x (0 ∷ []) lower) [
    | inl one ↦ omega (arith, one)
    | inr least ↦ elim (in_cases 0 x [] least) [
      | inl none ↦ omega (arith, none)
      | inr never ↦ absurd (in_none x never)
    ]
  ]
]

pub in_order_late : (G : Table) → ¬ (IsEarlyBlock G in_order 3)
in_order_late G (f, early) =
    let first : f ≡ 0 = ordered_function f (walk_function G in_order f early.way.past 3 early.way.walk) in
    let walk = subst (λ (g : ℕ). IsWalk G in_order g (2 ∷ 1 ∷ 0 ∷ []) 3) (sym first) (ordered_walk G) in
    let low = among_three early.block (early.way.each (2 ∷ 1 ∷ 0 ∷ []) walk) in
    let higher = early.higher in
    absurd (omega (arith, low, higher))

-- In `unreached` %7 is used before it is defined, and %6 after that.

abbrev unreached_laid : List Class
unreached_laid = Function ∷ Label ∷ Return ∷ Label ∷ Body ∷ Body ∷ Return ∷ []

unreached_classes : classes unreached ≡ unreached_laid
unfolding rows
unreached_classes = refl

negation_forms : (G : Table) (r x : ℕ) → HasForms G (negation r x) (T ∷ R ∷ v ∷ [])
unfolding rows
negation_forms G r x = record {
  row = row 200 200 Body (T ∷ R ∷ v ∷ []) closed;
  rest = [];
  known = refl;
  forms = refl;
  ending = Ends.nothing;
  each = AreOf.more T (OfType 20) (R ∷ v ∷ []) (Result r ∷ Id x ∷ []) refl
      (AreOf.more R (Result r) (v ∷ []) (Id x ∷ []) refl (AreOf.more v (Id x) [] [] refl AreOf.none));
}

value_used : (G : Table) (r x : ℕ) → IsUse G (negation r x) 2 x role.Value
value_used G r x = record {
  forms = T ∷ R ∷ v ∷ [];
  has = negation_forms G r x;
  form = v;
  operand = Id x;
  form_at = refl;
  operand_at = refl;
  role = refl;
  id = refl;
}

of_unreached : (n : ℕ) → n < 7 → IsOfFunction unreached n 0
of_unreached n lt = within_by unreached unreached_laid Function (FunctionEnd ∷ []) n 0 7 7 unreached_classes
    (omega (arith, lt)) (omega arith) (omega (arith, lt)) (omega arith) refl refl refl

local_7 : IsLocalValue unreached 7
local_7 = record {
  local = (
    0,
    record {
      place = 5;
      defined = record { inst = negation 7 6; there = refl; result = refl };
      of = of_unreached 5 (omega arith);
      after = omega arith;
      before = not_at unreached unreached_laid (FunctionEnd ∷ []) 0 7 5 unreached_classes refl (omega arith)
          (omega arith);
    },
  );
  place = 5;
  defined = record { inst = negation 7 6; there = refl; result = refl };
  inst = negation 7 6;
  there = refl;
  of_type = 20;
  typed = refl;
}

-- the result of an instruction that is known
result_of : (is : List PlainInst) (m x : ℕ) (i : PlainInst) → slice_get is m ≡ Some i → IsDefinedAt is x m
    → result_in i.operands ≡ Some x
result_of is m x i there d =
    let t = d.there in
    let e : d.inst ≡ i = cc in
    subst (λ (j : PlainInst). result_in j.operands ≡ Some x) e d.result

not_below : (m : ℕ) → m < 4 → ¬ (IsDefinedAt unreached 7 m)
not_below zero lt d = (let e = result_of unreached 0 7 function refl d in cc)
not_below (suc zero) lt d =
    (let e = result_of unreached 1 7 (label 1) refl d in absurd (omega (arith, same_Some 1 7 e)))
not_below (suc (suc zero)) lt d = (let e = result_of unreached 2 7 return_void refl d in cc)
not_below (suc (suc (suc zero))) lt d =
    (let e = result_of unreached 3 7 (label 2) refl d in absurd (omega (arith, same_Some 2 7 e)))
not_below (suc (suc (suc (suc m)))) lt d = absurd (omega (arith, lt))

pub unreached_early : (G : Table) → IsEarlyUse G unreached 4
unreached_early G = record {
  block = 3;
  of = within_by unreached unreached_laid Label terminators 4 3 5 4 unreached_classes (omega arith) (omega arith)
      (omega arith) (omega arith) refl refl refl;
  other = λ t. let e = t in cc;
  operand = 2;
  id = 7;
  role = role.Value;
  used = record { inst = negation 6 7; there = refl; used = value_used G 6 7 };
  local = local_7;
  undefined = not_below;
}

fits_negation : (G : Table) (r x : ℕ) → FitsShape G (negation r x)
fits_negation G r x = record { forms = T ∷ R ∷ v ∷ []; has = negation_forms G r x }

none_20 : (m : ℕ) → ¬ (IsDefinedAt unreached 20 m)
none_20 zero d = (let e = result_of unreached 0 20 function refl d in cc)
none_20 (suc zero) d =
    (let e = result_of unreached 1 20 (label 1) refl d in absurd (omega (arith, same_Some 1 20 e)))
none_20 (suc (suc zero)) d = (let e = result_of unreached 2 20 return_void refl d in cc)
none_20 (suc (suc (suc zero))) d =
    (let e = result_of unreached 3 20 (label 2) refl d in absurd (omega (arith, same_Some 2 20 e)))
none_20 (suc (suc (suc (suc zero)))) d =
    (let e = result_of unreached 4 20 (negation 6 7) refl d in absurd (omega (arith, same_Some 6 20 e)))
none_20 (suc (suc (suc (suc (suc zero))))) d =
    (let e = result_of unreached 5 20 (negation 7 6) refl d in absurd (omega (arith, same_Some 7 20 e)))
none_20 (suc (suc (suc (suc (suc (suc zero)))))) d = (let e = result_of unreached 6 20 return_void refl d in cc)
none_20 (suc (suc (suc (suc (suc (suc (suc m))))))) d = (let t = d.there in cc)

-- neither the type nor %6 is such a value
not_late : (G : Table) (k x : ℕ) (r : Role) → IsUsedAt G unreached 5 k x r → IsLocalValue unreached x
    → ((m : ℕ) → m < 5 → ¬ (IsDefinedAt unreached x m)) → ⊥
not_late G zero x r u local none =
    let e = one_used G unreached 5 0 20 x r (negation 7 6) refl refl u in
    none_20 local.place (subst (λ (y : ℕ). IsDefinedAt unreached y local.place) e local.defined)
not_late G (suc zero) x r u local none =
    used_all G (negation 7 6) 1 None (fits_negation G 7 6) (λ e. absurd (omega (arith, e))) refl x r
    (use_in G unreached 5 1 x r (negation 7 6) refl u)
not_late G (suc (suc zero)) x r u local none =
    let e = one_used G unreached 5 2 6 x r (negation 7 6) refl refl u in
    none 4 (omega arith) (subst (λ (y : ℕ). IsDefinedAt unreached y 4) (sym e)
    (record { inst = negation 6 7; there = refl; result = refl }))
not_late G (suc (suc (suc k))) x r u local none =
    let w = use_within G (negation 7 6) (suc (suc (suc k))) x r
    (use_in G unreached 5 (suc (suc (suc k))) x r (negation 7 6) refl u) in
    absurd (omega (arith, w))

pub defined_late : (G : Table) → ¬ (IsEarlyUse G unreached 5)
defined_late G early = not_late G early.operand early.id early.role early.used early.local early.undefined
