-- What is said anew of each of the rules F: what a broken one tells, that evidence suffices, and the worked examples.
use Rattle.std.proofs.Common.{◌≡◌, ◌<◌, ◌⊎◌, inl, ℕ, zero, suc, List, [], ◌∷◌, refl, sym, subst, arith}
use Rattle.std.specs.List.{Contains}
use Rattle.spv_table.specs.Table.{Table}
use Rattle.spv_module.specs.Example.{small}
use Rattle.spv_module.specs.Operand.{Id, PlainInst}
use Rattle.spv_module.specs.declared.fault.Rule.{Rule}
use Rattle.spv_module.specs.declared.fault.Rule.TheVariants.{F1, F2, F3, F4}
use Rattle.spv_module.specs.declared.opcode.TheConstants as opcode
use Rattle.spv_layout.specs.First.{IsFirst}
use Rattle.spv_layout.specs.Stage.{of_branches}
use Rattle.spv_layout.specs.declared.class.Class.TheVariants.{BranchConditional}
use Rattle.spv_layout.specs.declared.form.Role.TheVariants as role
use Rattle.spv_layout.specs.Row.{repeated}
use Rattle.spv_layout.specs.inner.Row.{row, v, l, W}
use Rattle.spv_layout.specs.Rows.{rows}
use Rattle.spv_layout.specs.Shape.{AreOf, Ends, HasForms}
use Rattle.spv_layout.specs.Place.{IsOfBlock}
use Rattle.spv_layout.proofs.Places.{block_same}
use Rattle.spv_ids.specs.Definition.{IsUsedAt}
use Rattle.spv_flow.specs.declared.branches.fork.Fork.{Fork}
use Rattle.spv_flow.specs.declared.branches.fork.Fork.TheVariants.{Distinct, Free}
use Rattle.spv_flow.specs.branches.Broken.{Broken}
use Rattle.spv_flow.specs.branches.inner.Graph.{LacksLabel, LeadsToEntry}
use Rattle.spv_flow.specs.branches.Target.{is_phi, is_merge, is_branch, IsOp, IsLabelOf, IsPredecessor, IsParentAt}
use Rattle.spv_flow.specs.branches.Target.{HasParents}
use Rattle.spv_flow.specs.branches.Example.{branch, conditional, function, label, negation, paired, unpaired}
use Rattle.spv_flow.proofs.lemmas.branches.Firsts.{at_phi}
use Rattle.spv_flow.proofs.lemmas.branches.Worked.{branch_used, has_parents, bare_label, u_block, phi_block, u_leads}
use Rattle.spv_evidence.specs.declared.evidence.Evidence.{Evidence}
use Rattle.spv_evidence.specs.declared.evidence.Evidence.TheVariants.{Operand, Defined, MissingParent}
use Rattle.spv_flow_evidence.specs.branches.Evidence.{ArePredecessors, IsEvidence}
use Rattle.spv_flow_evidence.proofs.lemmas.Small.{no_result}

-- What a broken rule tells.

pub lacking : (fork : Fork) (G : Table) (is : List PlainInst) (q : Rule) (n : ℕ) → Broken fork G is q n → q ≡ F1
    → (IsOp is n is_branch ⊎ IsOp is n is_merge) × LacksLabel G is n
lacking fork G is _ _ (Broken.no_label n k x op used none) e =
    (op, record { operand = k; id = x; used = used; none = none })
lacking fork G is _ _ _ e = cc

pub entering : (fork : Fork) (G : Table) (is : List PlainInst) (q : Rule) (n : ℕ) → Broken fork G is q n → q ≡ F2
    → IsOp is n is_branch × LeadsToEntry G is n
entering fork G is _ _ (Broken.to_entry n x m target d entry) e = (
  target.branch,
  record {
    operand = target.operand;
    id = x;
    used = target.used;
    place = m;
    defined = d;
    entry = entry;
  },
)
entering fork G is _ _ _ e = cc

pub parentless : (fork : Fork) (G : Table) (is : List PlainInst) (q : Rule) (n : ℕ) → Broken fork G is q n → q ≡ F3
    → IsOp is n is_phi × (¬ (HasParents G is n))
parentless fork G is _ _ (Broken.parents n phi not) e = (phi, not)
parentless fork G is _ _ _ e = cc

pub doubled : (fork : Fork) (G : Table) (is : List PlainInst) (q : Rule) (n : ℕ) → q ≡ F4
    → IsFirst (Broken fork G is) of_branches q n
    → IsEvidence fork G is q n (Operand 2)
doubled fork G is q n e first = shown q n first.broken e
  where
    shown : (r : Rule) (m : ℕ) → Broken fork G is r m → r ≡ F4 → IsEvidence fork G is r m (Operand 2)
    shown _ _ (Broken.same_labels m x distinct op one two) e = IsEvidence.same_labels m x distinct op one two
    shown _ _ _ e = cc

-- of the rules whose evidence is one operand
pub ruleset told = (doubled)

-- What refutes that the parents are the predecessors.
none_missing : (G : Table) (is : List PlainInst) (n b p : ℕ) → IsOfBlock is n b → IsPredecessor G is b p
    → ((k : ℕ) → ¬ (IsParentAt G is n k p)) → ¬ (HasParents G is n)
none_missing G is n b p of leads none h =
    let e : b ≡ h.block = block_same is n b h.block of h.of in
    let named = h.all p (subst (λ (c : ℕ). IsPredecessor G is c p) e leads) in
    none named.0 named.1

all_lead : (G : Table) (is : List PlainInst) (n b k x : ℕ) → IsOfBlock is n b → IsUsedAt G is n k x role.Label
    → ((p : ℕ) → IsLabelOf is x p → ¬ (IsPredecessor G is b p)) → ¬ (HasParents G is n)
all_lead G is n b k x of used none h =
    let e : h.block ≡ b = block_same is n h.block b h.of of in
    let named = h.each k x used in
    none named.0 named.1 (subst (λ (c : ℕ). IsPredecessor G is c named.0) e named.2)

named_once : (G : Table) (is : List PlainInst) (n j k p : ℕ) → j < k → IsParentAt G is n j p → IsParentAt G is n k p
    → ¬ (HasParents G is n)
named_once G is n j k p lt one two h = let e = h.once j k p one two in absurd (omega (arith, e, lt))

pub suffices : (fork : Fork) (G : Table) (is : List PlainInst) (r : Rule) (n : ℕ) (e : Evidence)
    → IsEvidence fork G is r n e
    → Broken fork G is r n
suffices fork G is _ _ _ (IsEvidence.no_label n k x m op used defined none) = Broken.no_label n k x op used none
suffices fork G is _ _ _ (IsEvidence.to_entry n k x m op used defined entry) =
    Broken.to_entry n x m (record { branch = op; operand = k; used = used }) defined entry
suffices fork G is _ _ _ (IsEvidence.missing_parent n b p ps phi of leads none all) =
    Broken.parents n phi (none_missing G is n b p of leads none)
suffices fork G is _ _ _ (IsEvidence.no_predecessor n b k x ps phi of used none all) =
    Broken.parents n phi (all_lead G is n b k x of used none)
suffices fork G is _ _ _ (IsEvidence.twice n b j k p ps phi of lt one two all) =
    Broken.parents n phi (named_once G is n j k p lt one two)
suffices fork G is _ _ _ (IsEvidence.same_labels n x distinct op one two) =
    Broken.same_labels n x distinct op one two

-- The worked examples.

-- the branch to a result that is no label
abbrev strayed : List PlainInst
strayed = negation 1 5 ∷ branch 1 ∷ []

no_label_of : (m : ℕ) → ¬ (IsLabelOf strayed 1 m)
no_label_of zero h = let e = h.label in cc
no_label_of (suc zero) h = let e = h.label in cc
no_label_of (suc (suc m)) h = h.label

pub no_label : IsEvidence Distinct small strayed F1 1 (Defined 0 0)
no_label = IsEvidence.no_label 1 0 1 0 (inl refl) (record { inst = branch 1; there = refl; used = branch_used 1 })
    (record { inst = negation 1 5; there = refl; result = refl }) no_label_of

pub not_itself : ¬ (IsEvidence Distinct small strayed F1 1 (Defined 0 1))
not_itself h = itself F1 1 (Defined 0 1) h refl
  where
    itself : (r : Rule) (n : ℕ) (e : Evidence) → IsEvidence Distinct small strayed r n e → e ≡ Defined 0 1 → ⊥
    itself _ _ _ (IsEvidence.no_label n k x m op used defined none) g = let f : m ≡ 1 = cc in
        no_result strayed 1 m x (branch 1) f refl (λ r. cc) defined
    itself _ _ _ _ g = cc

-- the branch to the entry block
pub to_entry : IsEvidence Distinct small (function ∷ label 1 ∷ branch 1 ∷ []) F2 2 (Operand 0)
to_entry =
    IsEvidence.to_entry 2 0 1 1 refl (record { inst = branch 1; there = refl; used = branch_used 1 })
    (record { inst = label 1; there = refl; result = refl })
    (record {
      label = refl;
      function = 0;
      there = refl;
      after = omega arith;
      first = λ k a b. absurd (omega (arith, a, b));
      same = λ k a b. absurd (omega (arith, a, b));
    })

-- the OpPhi that names no block, of which the predecessor is the first block
branch_at : (t : ℕ) → IsOp unpaired t is_branch → t ≡ 2
branch_at zero o = let e = o in cc
branch_at (suc zero) o = let e = o in cc
branch_at (suc (suc zero)) o = refl
branch_at (suc (suc (suc zero))) o = let e = o in cc
branch_at (suc (suc (suc (suc zero)))) o = let e = o in cc
branch_at (suc (suc (suc (suc (suc t))))) o = absurd o

only_first : (b p : ℕ) → IsPredecessor small unpaired b p → p ≡ 1
only_first b p (t, h) =
    let e = branch_at t h.target.branch in
    block_same unpaired 2 p 1 (subst (λ (k : ℕ). IsOfBlock unpaired k p) e h.of) u_block

one_in : (p : ℕ) → Contains (1 ∷ []) p → 1 ≡ p
one_in p (zero, lt, e) = e
one_in p (suc k, lt, e) = absurd (omega (arith, lt))

alone : ArePredecessors small unpaired 3 (1 ∷ [])
alone = record {
  order = λ k lt. absurd (omega (arith, lt));
  each = λ p. (
    λ h. subst (λ (q : ℕ). IsPredecessor small unpaired 3 q) (one_in p h) (2, u_leads),
    λ before. (0, omega arith, sym (only_first 3 p before)),
  );
}

pub missing : IsEvidence Distinct small unpaired F3 4 (MissingParent 1 (1 ∷ []))
missing = IsEvidence.missing_parent 4 3 1 (1 ∷ []) refl phi_block (2, u_leads) (λ k a. bare_label k a.id a.used) alone

own : (qs : List ℕ) (r : Rule) (n : ℕ) (e : Evidence) → IsEvidence Distinct small unpaired r n e
    → e ≡ MissingParent 3 qs → ⊥
own qs _ _ _ (IsEvidence.missing_parent n b p ps phi of before none all) g = let f : p ≡ 3 = cc in
    let one = only_first b p before in omega (arith, f, one)
own qs _ _ _ _ g = cc

pub not_missing : (ps : List ℕ) → ¬ (IsEvidence Distinct small unpaired F3 4 (MissingParent 3 ps))
not_missing ps h = own ps F3 4 (MissingParent 3 ps) h refl

-- what is told of it are the predecessors of its block
told_of : (qs : List ℕ) (r : Rule) (n : ℕ) (e : Evidence) → IsEvidence Distinct small unpaired r n e → n ≡ 4
    → e ≡ MissingParent 1 qs → ArePredecessors small unpaired 3 qs
told_of qs _ _ _ (IsEvidence.missing_parent n b p ps phi of before none all) f g =
    let s : ps ≡ qs = cc in
    let same : b ≡ 3 = block_same unpaired 4 b 3 (subst (λ (k : ℕ). IsOfBlock unpaired k b) f of) phi_block in
    subst (λ (xs : List ℕ). ArePredecessors small unpaired 3 xs) s
    (subst (λ (c : ℕ). ArePredecessors small unpaired c ps) same all)
told_of qs _ _ _ _ f g = cc

pub untold : ¬ (IsEvidence Distinct small unpaired F3 4 (MissingParent 1 []))
untold h =
    let all = told_of [] F3 4 (MissingParent 1 []) h refl refl in
    let has = (all.each 1).1 (2, u_leads) in
    absurd (omega (arith, has.1))

pub stranger : ¬ (IsEvidence Distinct small unpaired F3 4 (MissingParent 1 (1 ∷ 3 ∷ [])))
stranger h =
    let all = told_of (1 ∷ 3 ∷ []) F3 4 (MissingParent 1 (1 ∷ 3 ∷ [])) h refl refl in
    let one = only_first 3 3 ((all.each 3).0 (1, omega arith, refl)) in
    absurd (omega (arith, one))

-- the OpBranchConditional with the same label twice
abbrev twin : List PlainInst
twin = conditional 9 2 2 ∷ []

double_forms : HasForms small (conditional 9 2 2) (v ∷ l ∷ l ∷ [])
unfolding rows
double_forms = record {
  row = row opcode.BRANCH_CONDITIONAL opcode.BRANCH_CONDITIONAL BranchConditional (v ∷ l ∷ l ∷ []) (repeated (W ∷ []));
  rest = [];
  known = refl;
  forms = refl;
  ending = Ends.done (W ∷ []);
  each = AreOf.more v (Id 9) (l ∷ l ∷ []) (Id 2 ∷ Id 2 ∷ []) refl
      (AreOf.more l (Id 2) (l ∷ []) (Id 2 ∷ []) refl (AreOf.more l (Id 2) [] [] refl AreOf.none));
}

one_used : IsUsedAt small twin 0 1 2 role.Label
one_used = record {
  inst = conditional 9 2 2;
  there = refl;
  used = record {
    forms = v ∷ l ∷ l ∷ [];
    has = double_forms;
    form = l;
    operand = Id 2;
    form_at = refl;
    operand_at = refl;
    role = refl;
    id = refl;
  };
}

two_used : IsUsedAt small twin 0 2 2 role.Label
two_used = record {
  inst = conditional 9 2 2;
  there = refl;
  used = record {
    forms = v ∷ l ∷ l ∷ [];
    has = double_forms;
    form = l;
    operand = Id 2;
    form_at = refl;
    operand_at = refl;
    role = refl;
    id = refl;
  };
}

pub same_labels : IsEvidence Distinct small twin F4 0 (Operand 2)
same_labels = IsEvidence.same_labels 0 2 refl refl one_used two_used

pub not_first : ¬ (IsEvidence Distinct small twin F4 0 (Operand 1))
not_first h = no_first F4 0 (Operand 1) h refl refl
  where
    no_first : (r : Rule) (n : ℕ) (e : Evidence) → IsEvidence Distinct small twin r n e → r ≡ F4 → e ≡ Operand 1 → ⊥
    no_first _ _ _ (IsEvidence.no_label n k x m op used defined none) f g = cc
    no_first _ _ _ _ f g = cc

pub not_asked : (e : Evidence) → ¬ (IsEvidence Free small twin F4 0 e)
not_asked e h = none F4 0 e h refl
  where
    none : (r : Rule) (n : ℕ) (e : Evidence) → IsEvidence Free small twin r n e → r ≡ F4 → ⊥
    none _ _ _ (IsEvidence.same_labels n x distinct op one two) f = cc
    none _ _ _ _ f = cc

-- the OpPhi that names its predecessor
pub sound_parents : (e : Evidence) → ¬ (IsEvidence Distinct small (paired 1) F3 4 e)
sound_parents e h = (at_phi Distinct small (paired 1) F3 4 refl refl (suffices Distinct small (paired 1) F3 4 e h)).1
    has_parents

-- all of them
pub ruleset examples = (
  no_label,
  not_itself,
  to_entry,
  missing,
  not_missing,
  untold,
  stranger,
  same_labels,
  not_first,
  not_asked,
  sound_parents,
)
