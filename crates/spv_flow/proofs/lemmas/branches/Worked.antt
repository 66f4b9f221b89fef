-- What the small functions of the worked examples have.
use Rattle.std.proofs.Common.{◌≡◌, ◌≤◌, ◌∙◌, ℕ, zero, suc, List, [], ◌∷◌, refl, sym, subst, true, arith}
use Rattle.std.proofs.lemmas.Option.{same_Some}
use Rattle.spv_module.specs.declared.opcode.TheConstants as opcode
use Rattle.spv_module.specs.Example.{small}
use Rattle.spv_module.specs.Operand.{Id, Mask, OfType, Result, PlainInst}
use Rattle.spv_layout.specs.declared.class.Class.{Class}
use Rattle.spv_layout.specs.declared.class.Class.TheVariants.{Function, FunctionEnd, Label, LoopMerge, Phi, Body}
use Rattle.spv_layout.specs.declared.class.Class.TheVariants.{Branch}
use Rattle.spv_layout.specs.declared.form.Form.{Form}
use Rattle.spv_layout.specs.declared.form.Named.TheVariants as kind_of
use Rattle.spv_layout.specs.declared.form.Role.{Role}
use Rattle.spv_layout.specs.declared.form.Role.TheVariants as role
use Rattle.spv_layout.specs.Row.{closed, repeated, others}
use Rattle.spv_layout.specs.inner.Row.{row, v, l, T, R, kind}
use Rattle.spv_layout.specs.Rows.{rows}
use Rattle.spv_layout.specs.Shape.{AreOf, Ends, HasForms, IsUse}
use Rattle.spv_layout.specs.Layout.{classes}
use Rattle.spv_layout.specs.Place.{IsOfFunction, IsOfBlock, terminators}
use Rattle.spv_layout.proofs.Places.{block_same}
use Rattle.spv_layout.proofs.Shapes.{use_same}
use Rattle.spv_ids.specs.Definition.{IsDefinedAt, IsUsedAt}
use Rattle.spv_flow.specs.branches.Target.{is_branch, is_opcode, IsOp, IsLabelOf, IsTarget, LeadsToBlock, IsParentAt}
use Rattle.spv_flow.specs.branches.Target.{HasParents}
use Rattle.spv_flow.specs.branches.Walk.{Next, IsWalk, IsResultAmong}
use Rattle.spv_flow.specs.branches.Ready.{IsLocalValue, IsMissing}
use Rattle.spv_flow.specs.branches.Example.{branch, label, function, return_void, two_blocks, phi, valued, bare_phi}
use Rattle.spv_flow.specs.branches.Example.{paired, unpaired, negation, before_7, early, loop_merge, looped}
use Rattle.spv_flow.proofs.lemmas.branches.Labelled.{use_in, use_within, one_id}
use Rattle.spv_flow.proofs.lemmas.branches.Direct.{placed_at}
use Rattle.spv_flow.proofs.lemmas.branches.Laid.{lacks, not_at, within_by}

-- the branch to %2

branch_forms : (x : ℕ) → HasForms small (branch x) (l ∷ [])
unfolding rows
branch_forms x = record {
  row = row opcode.BRANCH opcode.BRANCH Branch (l ∷ []) closed;
  rest = [];
  known = refl;
  forms = refl;
  ending = Ends.nothing;
  each = AreOf.more l (Id x) [] [] refl AreOf.none;
}

pub branch_used : (x : ℕ) → IsUse small (branch x) 0 x role.Label
branch_used x = record {
  forms = l ∷ [];
  has = branch_forms x;
  form = l;
  operand = Id x;
  form_at = refl;
  operand_at = refl;
  role = refl;
  id = refl;
}

at_zero : (k x y : ℕ) (r : Role) → k ≡ 0 → IsUse small (branch x) k y r → (y ≡ x) × (r ≡ role.Label)
at_zero k x y r e u =
    (let s = use_same small (branch x) 0 y x r role.Label (subst (λ (j : ℕ). IsUse small (branch x) j y r) e u)
    (branch_used x) in (s.id, s.role))

pub branch_only : (k x y : ℕ) (r : Role) → IsUse small (branch x) k y r → (y ≡ x) × (r ≡ role.Label)
branch_only k x y r u = (let w = use_within small (branch x) k y r u in at_zero k x y r (omega (arith, w)) u)

-- the labels of an OpLoopMerge

abbrev loop_forms : List Form
loop_forms = l ∷ l ∷ kind kind_of.LoopControl ∷ []

has_loop_forms : (x y : ℕ) → HasForms looped (loop_merge x y) loop_forms
unfolding rows
has_loop_forms x y = record {
  row = row opcode.LOOP_MERGE opcode.LOOP_MERGE LoopMerge loop_forms others;
  rest = [];
  known = refl;
  forms = refl;
  ending = Ends.no_other;
  each = AreOf.more l (Id x) (l ∷ kind kind_of.LoopControl ∷ []) (Id y ∷ Mask 0 0 ∷ []) refl
      (AreOf.more l (Id y) (kind kind_of.LoopControl ∷ []) (Mask 0 0 ∷ []) refl
      (AreOf.more (kind kind_of.LoopControl) (Mask 0 0) [] [] refl AreOf.none));
}

pub loop_used : (x y : ℕ) → IsUse looped (loop_merge x y) 0 x role.Label × IsUse looped (loop_merge x y) 1 y role.Label
loop_used x y = (
  record {
    forms = loop_forms;
    has = has_loop_forms x y;
    form = l;
    operand = Id x;
    form_at = refl;
    operand_at = refl;
    role = refl;
    id = refl;
  },
  record {
    forms = loop_forms;
    has = has_loop_forms x y;
    form = l;
    operand = Id y;
    form_at = refl;
    operand_at = refl;
    role = refl;
    id = refl;
  },
)

-- the only branch of the two lists is instruction 2
pub branch_at : (t : ℕ) → IsOp (paired 1) t is_branch → t ≡ 2
branch_at zero o = let e = o in cc
branch_at (suc zero) o = let e = o in cc
branch_at (suc (suc zero)) o = refl
branch_at (suc (suc (suc zero))) o = let e = o in cc
branch_at (suc (suc (suc (suc zero)))) o = let e = o in cc
branch_at (suc (suc (suc (suc (suc t))))) o = absurd o

-- blocks
abbrev pub laid : List Class
laid = Function ∷ Label ∷ Branch ∷ Label ∷ Phi ∷ []

pub valued_classes : (x : ℕ) → classes (valued x 1) ≡ laid
unfolding rows
valued_classes x = refl

pub first_block : IsOfBlock (paired 1) 2 1
first_block = within_by (paired 1) laid Label terminators 2 1 3 2 (valued_classes 5) (omega arith) (omega arith)
    (omega arith) (omega arith) refl refl refl

second_block : IsOfBlock (paired 1) 4 3
second_block = within_by (paired 1) laid Label terminators 4 3 5 4 (valued_classes 5) (omega arith) (omega arith)
    (omega arith) (omega arith) refl refl refl

-- all instructions are of the function
pub of_function : (x n : ℕ) → n ≤ 4 → IsOfFunction (valued x 1) n 0
of_function x n lt = within_by (valued x 1) laid Function (FunctionEnd ∷ []) n 0 5 5 (valued_classes x)
    (omega (arith, lt)) (omega arith) (omega (arith, lt)) (omega arith) refl refl refl

-- predecessors
target : IsTarget small (paired 1) 2 2
target = record { branch = refl; operand = 0; used = record { inst = branch 2; there = refl; used = branch_used 2 } }

pub leads : LeadsToBlock small (paired 1) 2 1 3
leads = record {
  of = first_block;
  id = 2;
  target = target;
  label = record { defined = record { inst = label 2; there = refl; result = refl }; label = refl };
}

first_only : (t p : ℕ) → LeadsToBlock small (paired 1) t p 3 → p ≡ 1
first_only t p h =
    let e = branch_at t h.target.branch in
    block_same (paired 1) 2 p 1 (subst (λ (k : ℕ). IsOfBlock (paired 1) k p) e h.of) first_block

-- parents
phi_forms : HasForms small (phi 1) (T ∷ R ∷ v ∷ l ∷ [])
unfolding rows
phi_forms = record {
  row = row opcode.PHI opcode.PHI Phi (T ∷ R ∷ []) (repeated (v ∷ l ∷ []));
  rest = v ∷ l ∷ [];
  known = refl;
  forms = refl;
  ending = Ends.again (v ∷ l ∷ []) [] (Ends.done (v ∷ l ∷ []));
  each = AreOf.more T (OfType 20) (R ∷ v ∷ l ∷ []) (Result 9 ∷ Id 5 ∷ Id 1 ∷ []) refl
      (AreOf.more R (Result 9) (v ∷ l ∷ []) (Id 5 ∷ Id 1 ∷ []) refl
      (AreOf.more v (Id 5) (l ∷ []) (Id 1 ∷ []) refl (AreOf.more l (Id 1) [] [] refl AreOf.none)));
}

phi_used : IsUse small (phi 1) 3 1 role.Label
phi_used = record {
  forms = T ∷ R ∷ v ∷ l ∷ [];
  has = phi_forms;
  form = l;
  operand = Id 1;
  form_at = refl;
  operand_at = refl;
  role = refl;
  id = refl;
}

named : IsUsedAt small (paired 1) 4 3 1 role.Label
named = record { inst = phi 1; there = refl; used = phi_used }

pub label_place : (k x : ℕ) → IsUsedAt small (paired 1) 4 k x role.Label → k ≡ 3
label_place zero x u =
    (let t = placed_at small (paired 1) 4 0 x opcode.PHI (phi 1) refl refl refl
    (record { forms = T ∷ R ∷ v ∷ l ∷ []; has = phi_forms }) u in cc)
label_place (suc zero) x u =
    (let t = placed_at small (paired 1) 4 1 x opcode.PHI (phi 1) refl refl refl
    (record { forms = T ∷ R ∷ v ∷ l ∷ []; has = phi_forms }) u in cc)
label_place (suc (suc zero)) x u =
    (let t = placed_at small (paired 1) 4 2 x opcode.PHI (phi 1) refl refl refl
    (record { forms = T ∷ R ∷ v ∷ l ∷ []; has = phi_forms }) u in cc)
label_place (suc (suc (suc zero))) x u = refl
label_place (suc (suc (suc (suc k)))) x u =
    (let w = use_within small (phi 1) (suc (suc (suc (suc k)))) x role.Label
    (use_in small (paired 1) 4 (suc (suc (suc (suc k)))) x role.Label (phi 1) refl u) in absurd (omega (arith, w)))

pub label_name : (k x : ℕ) → IsUsedAt small (paired 1) 4 k x role.Label → x ≡ 1
label_name k x u = one_id small (paired 1) 4 3 x 1 role.Label role.Label
    (subst (λ (j : ℕ). IsUsedAt small (paired 1) 4 j x role.Label) (label_place k x u) u) named

of_1 : IsLabelOf (paired 1) 1 1
of_1 = record { defined = record { inst = label 1; there = refl; result = refl }; label = refl }

parent : (p : ℕ) → p ≡ 1 → IsParentAt small (paired 1) 4 3 p
parent p e = record { id = 1; used = named; label = subst (λ (q : ℕ). IsLabelOf (paired 1) 1 q) (sym e) of_1 }

pub has_parents : HasParents small (paired 1) 4
has_parents = record {
  block = 3;
  of = second_block;
  each = λ k x u. (1, subst (λ (y : ℕ). IsLabelOf (paired 1) y 1) (sym (label_name k x u)) of_1, (2, leads));
  once = λ j k p a b. label_place j a.id a.used ∙ sym (label_place k b.id b.used);
  all = λ p (t, h). (3, parent p (first_only t p h));
}

-- an OpPhi with no pair
bare_forms : HasForms small bare_phi (T ∷ R ∷ [])
unfolding rows
bare_forms = record {
  row = row opcode.PHI opcode.PHI Phi (T ∷ R ∷ []) (repeated (v ∷ l ∷ []));
  rest = [];
  known = refl;
  forms = refl;
  ending = Ends.done (v ∷ l ∷ []);
  each = AreOf.more T (OfType 20) (R ∷ []) (Result 9 ∷ []) refl (AreOf.more R (Result 9) [] [] refl AreOf.none);
}

pub bare_label : (k x : ℕ) → ¬ (IsUsedAt small unpaired 4 k x role.Label)
bare_label zero x u =
    (let t = placed_at small unpaired 4 0 x opcode.PHI bare_phi refl refl refl
    (record { forms = T ∷ R ∷ []; has = bare_forms }) u in cc)
bare_label (suc zero) x u =
    (let t = placed_at small unpaired 4 1 x opcode.PHI bare_phi refl refl refl
    (record { forms = T ∷ R ∷ []; has = bare_forms }) u in cc)
bare_label (suc (suc k)) x u =
    (let w = use_within small bare_phi (suc (suc k)) x role.Label
    (use_in small unpaired 4 (suc (suc k)) x role.Label bare_phi refl u) in omega (arith, w))

unpaired_classes : classes unpaired ≡ laid
unfolding rows
unpaired_classes = refl

pub u_block : IsOfBlock unpaired 2 1
u_block = within_by unpaired laid Label terminators 2 1 3 2 unpaired_classes (omega arith) (omega arith) (omega arith)
    (omega arith) refl refl refl

pub phi_block : IsOfBlock unpaired 4 3
phi_block = within_by unpaired laid Label terminators 4 3 5 4 unpaired_classes (omega arith) (omega arith) (omega arith)
    (omega arith) refl refl refl

pub u_leads : LeadsToBlock small unpaired 2 1 3
u_leads = record {
  of = u_block;
  id = 2;
  target = record { branch = refl; operand = 0; used = record { inst = branch 2; there = refl; used = branch_used 2 } };
  label = record { defined = record { inst = label 2; there = refl; result = refl }; label = refl };
}

pub no_parents : ¬ (HasParents small unpaired 4)
no_parents h =
    let e : h.block ≡ 3 = block_same unpaired 4 h.block 3 h.of phi_block in
    let a = h.all 1 (2, subst (λ (b : ℕ). LeadsToBlock small unpaired 2 1 b) (sym e) u_leads) in
    bare_label a.0 a.1.id a.1.used

-- a use before the definition
pub negation_forms : (r x : ℕ) → HasForms small (negation r x) (T ∷ R ∷ v ∷ [])
unfolding rows
negation_forms r x = record {
  row = row 200 200 Body (T ∷ R ∷ v ∷ []) closed;
  rest = [];
  known = refl;
  forms = refl;
  ending = Ends.nothing;
  each = AreOf.more T (OfType 20) (R ∷ v ∷ []) (Result r ∷ Id x ∷ []) refl
      (AreOf.more R (Result r) (v ∷ []) (Id x ∷ []) refl (AreOf.more v (Id x) [] [] refl AreOf.none));
}

abbrev pub laid_early : Class → List Class
laid_early c = Function ∷ Label ∷ c ∷ Body ∷ []

-- an instruction of the class neither begins a function nor ends one
pub record IsInside (c : Class) : Type 0 where
  pub begun : lacks (laid_early c) (Function ∷ []) 1 4 ≡ true
  pub ended : lacks (laid_early c) (FunctionEnd ∷ []) 0 4 ≡ true

body_inside : IsInside Body
body_inside = record { begun = refl; ended = refl }

early_classes : classes early ≡ laid_early Body
unfolding rows
early_classes = refl

of_early : (i : PlainInst) (c : Class) (n : ℕ) → IsInside c → classes (before_7 i) ≡ laid_early c → n ≤ 3
    → IsOfFunction (before_7 i) n 0
of_early i c n m e lt =
    within_by (before_7 i) (laid_early c) Function (FunctionEnd ∷ []) n 0 4 4 e (omega (arith, lt))
    (omega arith) (omega (arith, lt)) (omega arith) refl m.begun m.ended

local_by : (i : PlainInst) (c : Class) → IsInside c → classes (before_7 i) ≡ laid_early c → IsLocalValue (before_7 i) 7
local_by i c m e = record {
  local = (
    0,
    record {
      place = 3;
      defined = record { inst = negation 7 6; there = refl; result = refl };
      of = of_early i c 3 m e (omega arith);
      after = omega arith;
      before =
          not_at (before_7 i) (laid_early c) (FunctionEnd ∷ []) 0 4 3 e m.ended (omega arith) (omega arith);
    },
  );
  place = 3;
  defined = record { inst = negation 7 6; there = refl; result = refl };
  inst = negation 7 6;
  there = refl;
  of_type = 20;
  typed = refl;
}

pub local_7 : IsLocalValue early 7
local_7 = local_by (negation 6 7) Body body_inside early_classes

none_at_1 : (i : PlainInst) → ¬ (IsDefinedAt (before_7 i) 7 1)
none_at_1 i d = let t = d.there in let e : label 1 ≡ d.inst = cc in let r = rw (← e) at d.result in
    absurd (omega (arith, same_Some 1 7 r))

none_at_0 : (i : PlainInst) → ¬ (IsDefinedAt (before_7 i) 7 0)
none_at_0 i d = let t = d.there in let e : function ≡ d.inst = cc in let r = rw (← e) at d.result in cc

at_1 : (i : PlainInst) (n : ℕ) → n ≡ 1 → ¬ (IsDefinedAt (before_7 i) 7 n)
at_1 i n f d = none_at_1 i (subst (λ (k : ℕ). IsDefinedAt (before_7 i) 7 k) f d)

at_0 : (i : PlainInst) (n : ℕ) → n ≡ 0 → ¬ (IsDefinedAt (before_7 i) 7 n)
at_0 i n f d = none_at_0 i (subst (λ (k : ℕ). IsDefinedAt (before_7 i) 7 k) f d)

undefined : (i : PlainInst) → ¬ (IsResultAmong (before_7 i) (1 ∷ 0 ∷ []) 7)
undefined i (zero, n, lt, e, d) = let f : n ≡ 1 = cc in at_1 i n f d
undefined i (suc zero, n, lt, e, d) = let f : n ≡ 0 = cc in at_0 i n f d
undefined i (suc (suc k), n, lt, e, d) = absurd (omega (arith, lt))

walked : (i : PlainInst) (c : Class) → IsInside c → classes (before_7 i) ≡ laid_early c
    → IsWalk small (before_7 i) 0 (1 ∷ 0 ∷ []) 2
walked i c m e =
    let w0 : IsWalk small (before_7 i) 0 [] 0 = IsWalk.begins refl in
    let w1 : IsWalk small (before_7 i) 0 (0 ∷ []) 1 = IsWalk.goes [] 0 1 w0 (Next.follows (λ t. let e = t in cc))
    (of_early i c 1 m e (omega arith)) in
    IsWalk.goes (0 ∷ []) 1 2 w1 (Next.follows (λ t. let e = t in cc)) (of_early i c 2 m e (omega arith))

-- that instruction misses %7 where it uses it
pub missed_by : (i : PlainInst) (c : Class) (k : ℕ) → IsInside c → classes (before_7 i) ≡ laid_early c
    → ¬ (IsOp (before_7 i) 2 (is_opcode opcode.PHI)) → IsUse small i k 7 role.Value → IsMissing small (before_7 i) 2
missed_by i c k m e other u = record {
  other = other;
  function = 0;
  past = 1 ∷ 0 ∷ [];
  walk = walked i c m e;
  operand = k;
  id = 7;
  role = role.Value;
  used = record { inst = i; there = refl; used = u };
  local = local_by i c m e;
  undefined = undefined i;
}

negation_used : IsUse small (negation 6 7) 2 7 role.Value
negation_used = record {
  forms = T ∷ R ∷ v ∷ [];
  has = negation_forms 6 7;
  form = v;
  operand = Id 7;
  form_at = refl;
  operand_at = refl;
  role = refl;
  id = refl;
}

pub missed : IsMissing small early 2
missed = missed_by (negation 6 7) Body 2 body_inside early_classes (λ t. let e = t in cc) negation_used

-- a label has no type
label_2 : (m : ℕ) → IsDefinedAt two_blocks 2 m → m ≡ 3
label_2 zero d = let t = d.there in let e : function ≡ d.inst = cc in let r = rw (← e) at d.result in cc
label_2 (suc zero) d = let t = d.there in let e : label 1 ≡ d.inst = cc in let r = rw (← e) at d.result in
    absurd (omega (arith, same_Some 1 2 r))
label_2 (suc (suc zero)) d = let t = d.there in let e : branch 2 ≡ d.inst = cc in let r = rw (← e) at d.result in cc
label_2 (suc (suc (suc zero))) d = refl
label_2 (suc (suc (suc (suc zero)))) d = let t = d.there in let e : return_void ≡ d.inst = cc in
    let r = rw (← e) at d.result in cc
label_2 (suc (suc (suc (suc (suc k))))) d = let t = d.there in cc

pub not_local : ¬ (IsLocalValue two_blocks 2)
not_local h =
    let e = label_2 h.place h.defined in
    let t = rw e at h.there in
    let s : label 2 ≡ h.inst = cc in
    let y = rw (← s) at h.typed in
    cc

pub not_missing : ¬ (IsMissing small two_blocks 2)
not_missing h =
    let u = use_in small two_blocks 2 h.operand h.id h.role (branch 2) refl h.used in
    let e = (branch_only h.operand 2 h.id h.role u).0 in
    not_local (subst (λ (x : ℕ). IsLocalValue two_blocks x) e h.local)
