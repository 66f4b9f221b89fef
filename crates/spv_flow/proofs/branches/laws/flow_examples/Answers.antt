use Rattle.std.proofs.Common.{◌≡◌, ◌<◌, ℕ, zero, suc, List, [], ◌∷◌, refl, subst, arith, inl, inr}
use Rattle.std.proofs.lemmas.Option.{same_Some}
use Rattle.spv_module.specs.declared.opcode.TheConstants as opcode
use Rattle.spv_module.specs.Example.{small}
use Rattle.spv_module.specs.Operand.{Id}
use Rattle.spv_module.specs.declared.fault.Rule.{Rule}
use Rattle.spv_module.specs.declared.fault.Rule.TheVariants.{F2, F4}
use Rattle.spv_layout.specs.declared.class.Class.{Class}
use Rattle.spv_layout.specs.declared.class.Class.TheVariants.{Function, FunctionEnd, Label, Branch, BranchConditional}
use Rattle.spv_layout.specs.declared.class.Class.TheVariants.{Return}
use Rattle.spv_layout.specs.Layout.{classes}
use Rattle.spv_layout.specs.Place.{IsOfFunction, IsOfBlock, terminators}
use Rattle.spv_layout.specs.declared.form.Role.TheVariants as role
use Rattle.spv_layout.specs.Row.{closed, repeated}
use Rattle.spv_layout.specs.inner.Row.{row, v, l, W}
use Rattle.spv_layout.specs.Rows.{rows}
use Rattle.spv_layout.specs.Shape.{AreOf, Ends, HasForms, IsUse}
use Rattle.spv_ids.specs.Definition.{IsDefinedAt, IsUsedAt}
use Rattle.spv_flow.specs.branches.Target.{IsOp, IsLabelOf, IsTarget, LeadsToBlock, IsEntryLabel}
use Rattle.spv_flow.specs.branches.inner.Target.{is_function}
use Rattle.spv_flow.specs.branches.Walk.{Next, IsWalk, IsResultAmong, IsLastLabel}
use Rattle.spv_flow.specs.declared.branches.fork.Fork.TheVariants.{Distinct, Free}
use Rattle.spv_flow.specs.branches.Broken.{Broken}
use Rattle.spv_flow.specs.branches.Example.{branch, conditional, label, function, return_void, two_blocks, loop_merge}
use Rattle.spv_flow.proofs.lemmas.branches.Labelled.{one_id}
use Rattle.spv_flow.proofs.lemmas.branches.Direct.{jump_only}
use Rattle.spv_flow.proofs.lemmas.branches.Laid.{within_by}
use Rattle.spv_flow.proofs.lemmas.branches.Worked.{loop_used}
use Rattle.spv_flow.proofs.branches.laws.flow_examples.Goals as goal

branch_forms : (x : ℕ) → HasForms small (branch x) (l ∷ [])
unfolding rows
branch_forms x = record {
  row = row opcode.BRANCH opcode.BRANCH Branch (l ∷ []) closed;
  rest = [];
  known = refl;
  forms = refl;
  ending = Ends.nothing;
  each = AreOf.more l (Id x) [] [] refl AreOf.none;
}

branch_used : (x : ℕ) → IsUse small (branch x) 0 x role.Label
branch_used x = record {
  forms = l ∷ [];
  has = branch_forms x;
  form = l;
  operand = Id x;
  form_at = refl;
  operand_at = refl;
  role = refl;
  id = refl;
}

conditional_forms : (c x y : ℕ) → HasForms small (conditional c x y) (v ∷ l ∷ l ∷ [])
unfolding rows
conditional_forms c x y = record {
  row = row opcode.BRANCH_CONDITIONAL opcode.BRANCH_CONDITIONAL BranchConditional (v ∷ l ∷ l ∷ []) (repeated (W ∷ []));
  rest = [];
  known = refl;
  forms = refl;
  ending = Ends.done (W ∷ []);
  each = AreOf.more v (Id c) (l ∷ l ∷ []) (Id x ∷ Id y ∷ []) refl
      (AreOf.more l (Id x) (l ∷ []) (Id y ∷ []) refl (AreOf.more l (Id y) [] [] refl AreOf.none));
}

one_used : (c x y : ℕ) → IsUse small (conditional c x y) 1 x role.Label
one_used c x y = record {
  forms = v ∷ l ∷ l ∷ [];
  has = conditional_forms c x y;
  form = l;
  operand = Id x;
  form_at = refl;
  operand_at = refl;
  role = refl;
  id = refl;
}

two_used : (c x y : ℕ) → IsUse small (conditional c x y) 2 y role.Label
two_used c x y = record {
  forms = v ∷ l ∷ l ∷ [];
  has = conditional_forms c x y;
  form = l;
  operand = Id y;
  form_at = refl;
  operand_at = refl;
  role = refl;
  id = refl;
}

none_merged : (m : ℕ) → ¬ (IsLabelOf (loop_merge 1 2 ∷ []) 1 m)
none_merged zero k = let e = k.label in cc
none_merged (suc m) k = k.label

none_labelled : (m : ℕ) → ¬ (IsLabelOf (branch 1 ∷ []) 1 m)
none_labelled zero k = let e = k.label in cc
none_labelled (suc m) k = k.label

labelled : IsLabelOf two_blocks 2 3
labelled = record { defined = record { inst = label 2; there = refl; result = refl }; label = refl }

leads : IsTarget small two_blocks 2 2
leads = record { branch = refl; operand = 0; used = record { inst = branch 2; there = refl; used = branch_used 2 } }

ends : (m : ℕ) → Next small two_blocks 4 m → ⊥
ends _ (Next.jumps x m t k) = let e = t.branch in cc
ends _ (Next.follows not) = not refl

-- two labels are not the same
two_labels : (q : Rule) (n : ℕ) → Broken Distinct small (conditional 9 2 3 ∷ []) q n → q ≡ F4 → ⊥
two_labels _ _ (Broken.same_labels zero x e op u w) s =
    let first = one_id small (conditional 9 2 3 ∷ []) 0 1 x 2 role.Label role.Label u
    (record { inst = conditional 9 2 3; there = refl; used = one_used 9 2 3 }) in
    let second = one_id small (conditional 9 2 3 ∷ []) 0 2 x 3 role.Label role.Label w
    (record { inst = conditional 9 2 3; there = refl; used = two_used 9 2 3 }) in
    omega (arith, first, second)
two_labels _ _ (Broken.same_labels (suc n) x e op u w) s = op
two_labels _ _ _ s = cc

-- nor are they asked where nothing is asked of them
not_free : (q : Rule) (n : ℕ) → Broken Free small (conditional 9 2 2 ∷ []) q n → q ≡ F4 → ⊥
not_free _ _ (Broken.same_labels n x e op u w) s = cc
not_free _ _ _ s = cc

function_first : (f : ℕ) → f < 3 → IsOp two_blocks f is_function → f ≡ 0
function_first zero lt o = refl
function_first (suc zero) lt o = let e = o in cc
function_first (suc (suc zero)) lt o = let e = o in cc
function_first (suc (suc (suc f))) lt o = absurd (omega arith)

later : ¬ (IsEntryLabel two_blocks 3)
later e = let f = function_first e.function e.after e.there in e.first 1 (omega arith) (omega arith) refl

none_2 : ¬ (IsDefinedAt two_blocks 2 2)
none_2 d = let t = d.there in let e : branch 2 ≡ d.inst = cc in let r = rw (← e) at d.result in cc

none_1 : ¬ (IsDefinedAt two_blocks 2 1)
none_1 d = let t = d.there in let e : label 1 ≡ d.inst = cc in let r = rw (← e) at d.result in
    absurd (omega (arith, same_Some 1 2 r))

none_0 : ¬ (IsDefinedAt two_blocks 2 0)
none_0 d = let t = d.there in let e : function ≡ d.inst = cc in let r = rw (← e) at d.result in cc

at_2 : (n : ℕ) → n ≡ 2 → ¬ (IsDefinedAt two_blocks 2 n)
at_2 n f d = none_2 (subst (λ (k : ℕ). IsDefinedAt two_blocks 2 k) f d)

at_1 : (n : ℕ) → n ≡ 1 → ¬ (IsDefinedAt two_blocks 2 n)
at_1 n f d = none_1 (subst (λ (k : ℕ). IsDefinedAt two_blocks 2 k) f d)

at_0 : (n : ℕ) → n ≡ 0 → ¬ (IsDefinedAt two_blocks 2 n)
at_0 n f d = none_0 (subst (λ (k : ℕ). IsDefinedAt two_blocks 2 k) f d)

not_last : ¬ (IsLastLabel two_blocks (2 ∷ 1 ∷ 0 ∷ []) 2 (1 ∷ 0 ∷ []))
not_last h = let e = h.label in cc

undefined : ¬ (IsResultAmong two_blocks (2 ∷ 1 ∷ 0 ∷ []) 2)
undefined (zero, n, lt, e, d) = let f : n ≡ 2 = cc in at_2 n f d
undefined (suc zero, n, lt, e, d) = let f : n ≡ 1 = cc in at_1 n f d
undefined (suc (suc zero), n, lt, e, d) = let f : n ≡ 0 = cc in at_0 n f d
undefined (suc (suc (suc k)), n, lt, e, d) = absurd (omega (arith, lt))

-- all instructions are of the function
abbrev laid : List Class
laid = Function ∷ Label ∷ Branch ∷ Label ∷ Return ∷ []

two_blocks_classes : classes two_blocks ≡ laid
unfolding rows
two_blocks_classes = refl

of_function : (n : ℕ) → n < 5 → IsOfFunction two_blocks n 0
of_function n lt = within_by two_blocks laid Function (FunctionEnd ∷ []) n 0 5 5 two_blocks_classes (omega (arith, lt))
    (omega arith) (omega (arith, lt)) (omega arith) refl refl refl

walked : IsWalk small two_blocks 0 (3 ∷ 2 ∷ 1 ∷ 0 ∷ []) 4
walked =
    let w0 : IsWalk small two_blocks 0 [] 0 = IsWalk.begins refl in
    let w1 : IsWalk small two_blocks 0 (0 ∷ []) 1 = IsWalk.goes [] 0 1 w0 (Next.follows (λ t. let e = t in cc))
    (of_function 1 (omega arith)) in
    let w2 : IsWalk small two_blocks 0 (1 ∷ 0 ∷ []) 2 = IsWalk.goes (0 ∷ []) 1 2 w1
    (Next.follows (λ t. let e = t in cc)) (of_function 2 (omega arith)) in
    let w3 : IsWalk small two_blocks 0 (2 ∷ 1 ∷ 0 ∷ []) 3 = IsWalk.goes (1 ∷ 0 ∷ []) 2 3 w2
    (Next.jumps 2 3 leads labelled) (of_function 3 (omega arith)) in
    IsWalk.goes (2 ∷ 1 ∷ 0 ∷ []) 3 4 w3 (Next.follows (λ t. let e = t in cc)) (of_function 4 (omega arith))

last_step : (q : List ℕ) (m h : ℕ) (past : List ℕ) → IsWalk small two_blocks 0 q m → q ≡ h ∷ past
    → Next small two_blocks h m
last_step _ _ h past (IsWalk.begins op) e = cc
last_step _ _ h past (IsWalk.goes p n m walk next of) e =
    (let s : n ≡ h = cc in subst (λ (k : ℕ). Next small two_blocks k m) s next)

after_label : (m : ℕ) → Next small two_blocks 1 m → m ≡ 2
after_label _ (Next.jumps x m t k) = absurd (let e = t.branch in cc)
after_label _ (Next.follows not) = refl

no_walk : ¬ (IsWalk small two_blocks 0 (1 ∷ 0 ∷ []) 3)
no_walk w = let e = after_label 3 (last_step (1 ∷ 0 ∷ []) 3 1 (0 ∷ []) w refl) in omega (arith, e)

-- the first block
of_block : IsOfBlock two_blocks 2 1
of_block = within_by two_blocks laid Label terminators 2 1 3 2 two_blocks_classes (omega arith) (omega arith)
    (omega arith) (omega arith) refl refl refl

branch_id : (n x : ℕ) → IsUsedAt small two_blocks 2 n x role.Label → x ≡ 2
branch_id n x u = elim (jump_only small two_blocks 2 2 (branch 2) refl refl
    (record { forms = l ∷ []; has = branch_forms 2 })
    (record { inst = branch 2; there = refl; used = branch_used 2 }) n x u) [ inl e ↦ e | inr e ↦ e ]

not_back : ¬ (LeadsToBlock small two_blocks 2 1 1)
not_back h = let e = branch_id h.target.operand h.id h.target.used in
    none_1 (subst (λ (x : ℕ). IsDefinedAt two_blocks x 1) e h.label.defined)

-- %2 is the result of instruction 3
defined_by_2 : (m : ℕ) → IsDefinedAt two_blocks 2 m → m ≡ 3
defined_by_2 zero d = absurd (none_0 d)
defined_by_2 (suc zero) d = absurd (none_1 d)
defined_by_2 (suc (suc zero)) d = absurd (none_2 d)
defined_by_2 (suc (suc (suc zero))) d = refl
defined_by_2 (suc (suc (suc (suc zero)))) d = let t = d.there in let e : return_void ≡ d.inst = cc in
    let r = rw (← e) at d.result in cc
defined_by_2 (suc (suc (suc (suc (suc k))))) d = let t = d.there in cc

not_entered : (q : Rule) (n : ℕ) → Broken Distinct small two_blocks q n → q ≡ F2 → n ≡ 2 → ⊥
not_entered _ _ (Broken.to_entry n x m target d entry) s e =
    let u : IsUsedAt small two_blocks 2 target.operand x role.Label = subst
    (λ (k : ℕ). IsUsedAt small two_blocks k target.operand x role.Label) e target.used in
    let f = branch_id target.operand x u in
    let g = defined_by_2 m (subst (λ (y : ℕ). IsDefinedAt two_blocks y m) f d) in
    later (subst (λ (k : ℕ). IsEntryLabel two_blocks k) g entry)
not_entered _ _ _ s e = cc

to_entry : Broken Distinct small (function ∷ label 1 ∷ branch 1 ∷ []) F2 2
to_entry =
    Broken.to_entry 2 1 1 (record {
      branch = refl;
      operand = 0;
      used = record { inst = branch 1; there = refl; used = branch_used 1 };
    })
    (record { inst = label 1; there = refl; result = refl })
    (record {
      label = refl;
      function = 0;
      there = refl;
      after = omega arith;
      first = λ k a b. absurd (omega (arith, a, b));
      same = λ k a b. absurd (omega (arith, a, b));
    })

pub returns : goal.returns
returns c = record {
  no_label = Broken.no_label 0 0 1 (inl refl)
      (record { inst = branch 1; there = refl; used = branch_used 1 }) none_labelled;
  no_merge_label = Broken.no_label 0 0 1 (inr refl)
      (record { inst = loop_merge 1 2; there = refl; used = (loop_used 1 2).0 }) none_merged;
  label = labelled;
  target = leads;
  other = λ t. let e = t.branch in cc;
  same = Broken.same_labels 0 2 refl refl (record { inst = conditional 9 2 2; there = refl; used = one_used 9 2 2 })
      (record { inst = conditional 9 2 2; there = refl; used = two_used 9 2 2 });
  two = λ b. two_labels F4 0 b refl;
  free = λ b. not_free F4 0 b refl;
  entry = record {
    label = refl;
    function = 0;
    there = refl;
    after = omega arith;
    first = λ k a b. absurd (omega (arith, a, b));
    same = λ k a b. absurd (omega (arith, a, b));
  };
  later = later;
  jumps = Next.jumps 2 3 leads labelled;
  follows = Next.follows (λ t. let e = t in cc);
  ends = ends 5;
  last = record { later = []; divided = refl; label = refl; last = λ k d lt. absurd (omega (arith, lt)) };
  not_last = not_last;
  defined = (1, 1, omega arith, refl, record { inst = label 1; there = refl; result = refl });
  undefined = undefined;
  walk = walked;
  no_walk = no_walk;
  leads = record { of = of_block; id = 2; target = leads; label = labelled };
  not_back = not_back;
  to_entry = to_entry;
  to_other = λ b. not_entered F2 2 b refl refl;
}
