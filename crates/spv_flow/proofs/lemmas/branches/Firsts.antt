-- Which of the rules F can be broken at an instruction, by its opcode.
use Rattle.std.proofs.Common.{◌≡◌, ◌≤◌, ◌<◌, ◌+◌, ◌∙◌, inl, inr, ℕ, List, Bool, true, Option, Some, None, map, length}
use Rattle.std.proofs.Common.{nat_eq, refl, sym, ap, subst, arith}
use Rattle.std.specs.Prelude.{slice_get, IsSomeAnd, IsTrue}
use Rattle.std.proofs.lemmas.Bool.{eqb-true, cases_lt, cases_order}
use Rattle.std.proofs.lemmas.Bool.Decides.{nat_tests}
use Rattle.std.proofs.lemmas.Option.{slice_get_within}
use Rattle.std.proofs.lemmas.List.{length-map}
use Rattle.spv_module.specs.declared.opcode.TheConstants as opcode
use Rattle.spv_table.specs.Table.{Table}
use Rattle.spv_module.specs.Operand.{PlainInst}
use Rattle.spv_module.specs.Module.{plain_inst}
use Rattle.spv_module.specs.declared.module.Inst.{Inst}
use Rattle.spv_module.specs.declared.fault.Rule.{Rule}
use Rattle.spv_module.specs.declared.fault.Rule.TheVariants.{F1, F2, F3, F4}
use Rattle.spv_layout.specs.Stage.{of_branches}
use Rattle.spv_layout.specs.First.{stage_of, rank_of, IsFirst}
use Rattle.spv_module.specs.declared.fault.Stop.{Stop}
use Rattle.spv_module.specs.declared.fault.Stop.TheVariants.{Fault, Memory}
use Rattle.spv_layout.specs.Place.{first_word_of, IsShort, AreFew}
use Rattle.spv_layout.proofs.Misfits.{short_list}
use Rattle.spv_ids.specs.inner.Outcome.{IsStopAt}
use Rattle.spv_flow.specs.declared.branches.fork.Fork.{Fork}
use Rattle.spv_flow.specs.declared.branches.fork.Fork.TheVariants.{Distinct, Free}
use Rattle.spv_flow.specs.branches.Found.{IsRefusal}
use Rattle.spv_flow.specs.branches.Target.{is_phi, is_merge, is_branch, is_conditional, IsOp, HasParents}
use Rattle.spv_flow.specs.branches.Broken.{Broken}
use Rattle.spv_flow.specs.branches.inner.Graph.{HasLabels, LacksLabel, LeadsToEntry, HasSameLabels, IsFirstAt}
use Rattle.spv_flow.proofs.lemmas.branches.Labelled.{op_tells, op_holds}

-- an instruction with an opcode is there
pub record Holds (is : List PlainInst) (n : ℕ) (test : ℕ → Bool) : Type 0 where
  pub inst : PlainInst
  pub there : slice_get is n ≡ Some inst
  pub holds : test inst.opcode ≡ true

holds_by : (is : List PlainInst) (n : ℕ) (test : ℕ → Bool) (p : Option PlainInst) → slice_get is n ≡ p
    → IsSomeAnd p (λ i. IsTrue (test i.opcode)) → Holds is n test
holds_by is n test None e h = absurd h
holds_by is n test (Some i) e h = record { inst = i; there = e; holds = h }

pub holds : (is : List PlainInst) (n : ℕ) (test : ℕ → Bool) → IsOp is n test → Holds is n test
holds is n test o = holds_by is n test (slice_get is n) refl o

-- a test that another one implies
pub op_moved : (is : List PlainInst) (n : ℕ) (one two : ℕ → Bool) → ((x : ℕ) → one x ≡ true → two x ≡ true)
    → IsOp is n one → IsOp is n two
op_moved is n one two t o = let h = holds is n one o in op_holds is n h.inst two h.there (t h.inst.opcode h.holds)

-- two tests of one opcode
pub both_hold : (is : List PlainInst) (n : ℕ) (one two : ℕ → Bool) → IsOp is n one → IsOp is n two
    → (x : ℕ) × (one x ≡ true) × (two x ≡ true)
both_hold is n one two o p = let h = holds is n one o in (h.inst.opcode, h.holds, op_tells is n h.inst two h.there p)

-- a test of a known opcode
pub known : (is : List PlainInst) (n k : ℕ) (test : ℕ → Bool) → IsOp is n (λ x. nat_eq x k) → IsOp is n test
    → test k ≡ true
known is n k test o p =
    let h = both_hold is n (λ x. nat_eq x k) test o p in
    subst (λ (x : ℕ). test x ≡ true) (eqb-true h.0 k h.1) h.2

branch_no_merge : (x : ℕ) → is_merge x ≡ true → is_branch x ≡ true → ⊥
branch_no_merge x m b = grind (arith, nat_tests)

pub merge_apart : (is : List PlainInst) (n : ℕ) → IsOp is n is_merge → IsOp is n is_branch → ⊥
merge_apart is n m b = let h = both_hold is n is_merge is_branch m b in branch_no_merge h.0 h.1 h.2

-- opcodes before that of OpPhi
pub low_phi : (x : ℕ) → x < opcode.PHI → is_phi x ≡ true → ⊥
low_phi x h t = grind (arith, nat_tests)

pub low_merge : (x : ℕ) → x < opcode.PHI → is_merge x ≡ true → ⊥
low_merge x h t = grind (arith, nat_tests)

pub low_branch : (x : ℕ) → x < opcode.PHI → is_branch x ≡ true → ⊥
low_branch x h t = grind (arith, nat_tests)

conditional_branches : (is : List PlainInst) (n : ℕ) → IsOp is n is_conditional → IsOp is n is_branch
conditional_branches is n op =
    let h = holds is n is_conditional op in
    let e : h.inst.opcode ≡ opcode.BRANCH_CONDITIONAL = eqb-true h.inst.opcode opcode.BRANCH_CONDITIONAL h.holds in
    op_holds is n h.inst is_branch h.there (ap is_branch e)

-- What can be broken at a merge.
pub data AtMerge (G : Table) (is : List PlainInst) (n : ℕ) : Rule → Type 0 where
  lacks : LacksLabel G is n → AtMerge G is n F1

-- What can be broken at a branch.
pub data AtBranch (fork : Fork) (G : Table) (is : List PlainInst) (n : ℕ) : Rule → Type 0 where
  lacks : LacksLabel G is n → AtBranch fork G is n F1
  entry : LeadsToEntry G is n → AtBranch fork G is n F2
  same : fork ≡ Distinct → IsOp is n is_conditional → HasSameLabels G is n 1 2 → AtBranch fork G is n F4

-- At which opcodes a rule F can be broken: the one place that goes through them all.
data IsPlaced (fork : Fork) (G : Table) (is : List PlainInst) (q : Rule) (n : ℕ) : Type 0 where
  of_phi : IsOp is n is_phi → q ≡ F3 → ¬ (HasParents G is n) → IsPlaced fork G is q n
  of_merge : IsOp is n is_merge → AtMerge G is n q → IsPlaced fork G is q n
  of_branch : IsOp is n is_branch → AtBranch fork G is n q → IsPlaced fork G is q n

placed : (fork : Fork) (G : Table) (is : List PlainInst) (q : Rule) (n : ℕ) → stage_of q ≡ of_branches
    → Broken fork G is q n
    → IsPlaced fork G is q n
placed fork G is _ _ s (Broken.no_label n k x (inl b) used none) =
    of_branch b (AtBranch.lacks (record { operand = k; id = x; used = used; none = none }))
placed fork G is _ _ s (Broken.no_label n k x (inr m) used none) =
    of_merge m (AtMerge.lacks (record { operand = k; id = x; used = used; none = none }))
placed fork G is _ _ s (Broken.to_entry n x m target d e) =
    of_branch target.branch (AtBranch.entry
    (record { operand = target.operand; id = x; used = target.used; place = m; defined = d; entry = e }))
placed fork G is _ _ s (Broken.parents n phi not) = of_phi phi refl not
placed fork G is _ _ s (Broken.same_labels n x e op u w) =
    of_branch (conditional_branches is n op) (AtBranch.same e op (record { id = x; one = u; two = w }))
placed fork G is _ _ s _ = absurd (cc)

-- an instruction at which a rule is broken is there
op_within : (is : List PlainInst) (n : ℕ) (test : ℕ → Bool) → IsOp is n test → n < length is
op_within is n test op = let h = holds is n test op in slice_get_within is n h.inst h.there

within : (fork : Fork) (G : Table) (is : List PlainInst) (q : Rule) (n : ℕ) → IsPlaced fork G is q n → n < length is
within fork G is q n (of_phi op e not) = op_within is n is_phi op
within fork G is q n (of_merge op m) = op_within is n is_merge op
within fork G is q n (of_branch op b) = op_within is n is_branch op

pub broken_within : (fork : Fork) (G : Table) (is : List PlainInst) (q : Rule) (n : ℕ) → stage_of q ≡ of_branches
    → Broken fork G is q n
    → n < length is
broken_within fork G is q n s b = within fork G is q n (placed fork G is q n s b)

-- what is broken there, by the opcode
phi_apart : (is : List PlainInst) (n : ℕ) (test : ℕ → Bool) → (test opcode.PHI ≡ true → ⊥) → IsOp is n is_phi
    → IsOp is n test → ⊥
phi_apart is n test never phi op = never (known is n opcode.PHI test phi op)

phi_placed : (fork : Fork) (G : Table) (is : List PlainInst) (q : Rule) (n : ℕ) → IsOp is n is_phi
    → IsPlaced fork G is q n
    → (q ≡ F3) × ¬ (HasParents G is n)
phi_placed fork G is q n phi (of_phi op e not) = (e, not)
phi_placed fork G is q n phi (of_merge op m) = absurd (phi_apart is n is_merge (λ h. cc) phi op)
phi_placed fork G is q n phi (of_branch op b) = absurd (phi_apart is n is_branch (λ h. cc) phi op)

pub at_phi : (fork : Fork) (G : Table) (is : List PlainInst) (q : Rule) (n : ℕ) → IsOp is n is_phi
    → stage_of q ≡ of_branches
    → Broken fork G is q n → (q ≡ F3) × ¬ (HasParents G is n)
at_phi fork G is q n phi s b = phi_placed fork G is q n phi (placed fork G is q n s b)

merge_placed : (fork : Fork) (G : Table) (is : List PlainInst) (q : Rule) (n : ℕ) → IsOp is n is_merge
    → IsPlaced fork G is q n
    → AtMerge G is n q
merge_placed fork G is q n merge (of_phi op e not) = absurd (phi_apart is n is_merge (λ h. cc) op merge)
merge_placed fork G is q n merge (of_merge op m) = m
merge_placed fork G is q n merge (of_branch op b) = absurd (merge_apart is n merge op)

at_merge : (fork : Fork) (G : Table) (is : List PlainInst) (q : Rule) (n : ℕ) → IsOp is n is_merge
    → stage_of q ≡ of_branches
    → Broken fork G is q n → AtMerge G is n q
at_merge fork G is q n merge s b = merge_placed fork G is q n merge (placed fork G is q n s b)

branch_placed : (fork : Fork) (G : Table) (is : List PlainInst) (q : Rule) (n : ℕ) → IsOp is n is_branch
    → IsPlaced fork G is q n
    → AtBranch fork G is n q
branch_placed fork G is q n branch (of_phi op e not) = absurd (phi_apart is n is_branch (λ h. cc) op branch)
branch_placed fork G is q n branch (of_merge op m) = absurd (merge_apart is n op branch)
branch_placed fork G is q n branch (of_branch op b) = b

at_branch : (fork : Fork) (G : Table) (is : List PlainInst) (q : Rule) (n : ℕ) → IsOp is n is_branch
    → stage_of q ≡ of_branches
    → Broken fork G is q n → AtBranch fork G is n q
at_branch fork G is q n branch s b = branch_placed fork G is q n branch (placed fork G is q n s b)

other_placed : (fork : Fork) (G : Table) (is : List PlainInst) (q : Rule) (n : ℕ) → ¬ (IsOp is n is_phi)
    → ¬ (IsOp is n is_merge)
    → ¬ (IsOp is n is_branch) → ¬ (IsPlaced fork G is q n)
other_placed fork G is q n not_phi not_merge not_branch (of_phi op e not) = not_phi op
other_placed fork G is q n not_phi not_merge not_branch (of_merge op m) = not_merge op
other_placed fork G is q n not_phi not_merge not_branch (of_branch op b) = not_branch op

-- nothing is broken at an instruction that is no OpPhi, no merge and no branch
pub at_other : (fork : Fork) (G : Table) (is : List PlainInst) (q : Rule) (n : ℕ) → ¬ (IsOp is n is_phi)
    → ¬ (IsOp is n is_merge)
    → ¬ (IsOp is n is_branch) → stage_of q ≡ of_branches → ¬ (Broken fork G is q n)
at_other fork G is q n not_phi not_merge not_branch s b =
    other_placed fork G is q n not_phi not_merge not_branch (placed fork G is q n s b)

labelled : (G : Table) (is : List PlainInst) (n : ℕ) → HasLabels G is n → ¬ (LacksLabel G is n)
labelled G is n has l = let h = has l.operand l.id l.used in l.none h.0 h.1

-- The first rule, by what was found.
pub phi_broken : (fork : Fork) (G : Table) (is : List PlainInst) (n : ℕ) → IsOp is n is_phi → ¬ (HasParents G is n)
    → IsFirstAt fork G is n (Some F3)
phi_broken fork G is n phi not = (
  refl,
  Broken.parents n phi not,
  λ q s b. let e = (at_phi fork G is q n phi s b).0 in
      subst (λ (r : Rule). rank_of F3 ≤ rank_of r) (sym e) (omega arith),
)

pub phi_fine : (fork : Fork) (G : Table) (is : List PlainInst) (n : ℕ) → IsOp is n is_phi → HasParents G is n
    → IsFirstAt fork G is n None
phi_fine fork G is n phi has = λ q s b. (at_phi fork G is q n phi s b).1 has

first_of_merge : (G : Table) (is : List PlainInst) (n : ℕ) (q : Rule) → AtMerge G is n q → rank_of F1 ≤ rank_of q
first_of_merge G is n _ (AtMerge.lacks l) = omega arith

none_of_merge : (G : Table) (is : List PlainInst) (n : ℕ) (q : Rule) → HasLabels G is n → AtMerge G is n q → ⊥
none_of_merge G is n _ has (AtMerge.lacks l) = labelled G is n has l

pub merge_broken : (fork : Fork) (G : Table) (is : List PlainInst) (n : ℕ) → IsOp is n is_merge → LacksLabel G is n
    → IsFirstAt fork G is n (Some F1)
merge_broken fork G is n merge l = (
  refl,
  Broken.no_label n l.operand l.id (inr merge) l.used l.none,
  λ q s b. first_of_merge G is n q (at_merge fork G is q n merge s b),
)

pub merge_fine : (fork : Fork) (G : Table) (is : List PlainInst) (n : ℕ) → IsOp is n is_merge → HasLabels G is n
    → IsFirstAt fork G is n None
merge_fine fork G is n merge has = λ q s b. none_of_merge G is n q has (at_merge fork G is q n merge s b)

-- at a branch F1 comes first
first_of_branch : (fork : Fork) (G : Table) (is : List PlainInst) (n : ℕ) (q : Rule) → AtBranch fork G is n q
    → rank_of F1 ≤ rank_of q
first_of_branch fork G is n _ (AtBranch.lacks l) = omega arith
first_of_branch fork G is n _ (AtBranch.entry e) = omega arith
first_of_branch fork G is n _ (AtBranch.same e op h) = omega arith

second_of_branch : (fork : Fork) (G : Table) (is : List PlainInst) (n : ℕ) (q : Rule) → HasLabels G is n
    → AtBranch fork G is n q
    → rank_of F2 ≤ rank_of q
second_of_branch fork G is n _ has (AtBranch.lacks l) = absurd (labelled G is n has l)
second_of_branch fork G is n _ has (AtBranch.entry e) = omega arith
second_of_branch fork G is n _ has (AtBranch.same e op h) = omega arith

last_of_branch : (fork : Fork) (G : Table) (is : List PlainInst) (n : ℕ) (q : Rule) → HasLabels G is n
    → ¬ (LeadsToEntry G is n)
    → AtBranch fork G is n q → rank_of F4 ≤ rank_of q
last_of_branch fork G is n _ has free (AtBranch.lacks l) = absurd (labelled G is n has l)
last_of_branch fork G is n _ has free (AtBranch.entry e) = absurd (free e)
last_of_branch fork G is n _ has free (AtBranch.same e op h) = omega arith

none_of_branch : (fork : Fork) (G : Table) (is : List PlainInst) (n : ℕ) (q : Rule) → HasLabels G is n
    → ¬ (LeadsToEntry G is n)
    → (fork ≡ Distinct → IsOp is n is_conditional → ¬ (HasSameLabels G is n 1 2)) → AtBranch fork G is n q → ⊥
none_of_branch fork G is n _ has free apart (AtBranch.lacks l) = labelled G is n has l
none_of_branch fork G is n _ has free apart (AtBranch.entry e) = free e
none_of_branch fork G is n _ has free apart (AtBranch.same e op h) = apart e op h

pub branch_lacks : (fork : Fork) (G : Table) (is : List PlainInst) (n : ℕ) → IsOp is n is_branch → LacksLabel G is n
    → IsFirstAt fork G is n (Some F1)
branch_lacks fork G is n branch l = (
  refl,
  Broken.no_label n l.operand l.id (inl branch) l.used l.none,
  λ q s b. first_of_branch fork G is n q (at_branch fork G is q n branch s b),
)

pub branch_enters : (fork : Fork) (G : Table) (is : List PlainInst) (n : ℕ) → IsOp is n is_branch → HasLabels G is n
    → LeadsToEntry G is n → IsFirstAt fork G is n (Some F2)
branch_enters fork G is n branch has e = (
  refl,
  Broken.to_entry n e.id e.place (record { branch = branch; operand = e.operand; used = e.used }) e.defined e.entry,
  λ q s b. second_of_branch fork G is n q has (at_branch fork G is q n branch s b),
)

pub branch_same : (fork : Fork) (G : Table) (is : List PlainInst) (n : ℕ) → fork ≡ Distinct → IsOp is n is_branch
    → IsOp is n is_conditional → HasLabels G is n → ¬ (LeadsToEntry G is n) → HasSameLabels G is n 1 2
    → IsFirstAt fork G is n (Some F4)
branch_same fork G is n distinct branch op has free h = (
  refl,
  Broken.same_labels n h.id distinct op h.one h.two,
  λ q s b. last_of_branch fork G is n q has free (at_branch fork G is q n branch s b),
)

pub branch_fine : (fork : Fork) (G : Table) (is : List PlainInst) (n : ℕ) → IsOp is n is_branch → HasLabels G is n
    → ¬ (LeadsToEntry G is n) → (fork ≡ Distinct → IsOp is n is_conditional → ¬ (HasSameLabels G is n 1 2))
    → IsFirstAt fork G is n None
branch_fine fork G is n branch has free apart =
    λ q s b. none_of_branch fork G is n q has free apart (at_branch fork G is q n branch s b)

-- no rule is broken at one instruction more
pub unbroken_more : (fork : Fork) (G : Table) (is : List PlainInst) (n : ℕ)
    → ((q : Rule) (m : ℕ) → m < n → stage_of q ≡ of_branches → ¬ (Broken fork G is q m)) → IsFirstAt fork G is n None
    → (q : Rule) (m : ℕ) → m < n + 1 → stage_of q ≡ of_branches → ¬ (Broken fork G is q m)
unbroken_more fork G is n before here q m lt s b = elim (cases_lt m n) [
  | inl less ↦ before q m less s b
  | inr more ↦ (let e : m ≡ n = omega (arith, lt, more) in here q s (subst (λ (k : ℕ). Broken fork G is q k) e b))
]

-- nor at the instructions after those whose opcodes are lower than that of OpPhi
pub unbroken_passed : (fork : Fork) (G : Table) (is : List PlainInst) (from to : ℕ)
    → ((q : Rule) (m : ℕ) → m < from → stage_of q ≡ of_branches → ¬ (Broken fork G is q m))
    → ((m : ℕ) (i : PlainInst) → from ≤ m → m < to → slice_get is m ≡ Some i → i.opcode < opcode.PHI)
    → (q : Rule) (m : ℕ) → m < to → stage_of q ≡ of_branches → ¬ (Broken fork G is q m)
unbroken_passed fork G is from to before passed q m lt s b = elim (cases_lt m from) [
  | inl less ↦ before q m less s b
  | inr more ↦
      at_other fork G is q m
      (λ o. let h = holds is m is_phi o in low_phi h.inst.opcode (passed m h.inst more lt h.there) h.holds)
      (λ o. let h = holds is m is_merge o in low_merge h.inst.opcode (passed m h.inst more lt h.there) h.holds)
      (λ o. let h = holds is m is_branch o in low_branch h.inst.opcode (passed m h.inst more lt h.there) h.holds) s b
]

-- The first instruction at which a rule is broken.
pub first_found : (fork : Fork) (G : Table) (is : List PlainInst) (r : Rule) (n : ℕ)
    → ((q : Rule) (m : ℕ) → m < n → stage_of q ≡ of_branches → ¬ (Broken fork G is q m)) → stage_of r ≡ of_branches
    → Broken fork G is r n
    → ((q : Rule) → stage_of q ≡ of_branches → Broken fork G is q n → rank_of r ≤ rank_of q)
    → IsFirst (Broken fork G is) of_branches r n
first_found fork G is r n before stage broken least = record {
  of_stage = stage;
  broken = broken;
  least = λ q m s b. elim (cases_order n m) [
    | inl here ↦ inr (here, least q s (subst (λ (k : ℕ). Broken fork G is q k) (sym here) b))
    | inr apart ↦ elim apart [ inl less ↦ inl less | inr more ↦ absurd (before q m more s b) ]
  ];
}

-- the fault that is told
pub refusal_told : (fork : Fork) (G : Table) (is : List PlainInst) (r : Rule) (n : ℕ) (stop : Stop)
    → IsFirst (Broken fork G is) of_branches r n → IsStopAt is r n stop → IsRefusal fork G is stop
refusal_told fork G is r n Memory first h = absurd h
refusal_told fork G is r n (Fault f) first (e, at, word) =
    let one : IsFirst (Broken fork G is) of_branches f.rule n = subst
    (λ (q : Rule). IsFirst (Broken fork G is) of_branches q n)
    (sym e) first in (
      subst (λ (m : ℕ). IsFirst (Broken fork G is) of_branches f.rule m) (sym at) one,
      word ∙ ap (first_word_of is)
          (sym at),
    )

-- a module that has few words has few instructions
pub few_insts : (insts : List Inst) → IsShort (map plain_inst insts) → AreFew insts
few_insts insts h = let s = short_list (map plain_inst insts) in let l = length-map insts plain_inst in
    omega (arith, s, l, h)
