-- Which operand of an OpPhi names which block, operand by operand.
use Rattle.std.proofs.Common.{◌≡◌, ◌≢◌, ◌≤◌, ◌<◌, ◌+◌, ◌∙◌, ◌++◌, inl, inr, ℕ, List, Bool, true, false, Option, Some}
use Rattle.std.proofs.Common.{None, length, set, take, sym, ap, subst, arith}
use Rattle.std.specs.Prelude.{slice_get}
use Rattle.std.proofs.Math.Seq.{take-append_seam}
use Rattle.std.proofs.lemmas.Bool.{cases_lt, cases_eq, both_ways}
use Rattle.std.proofs.lemmas.List.{get_or-set_same, get_or-set_other}
use Rattle.std.proofs.lemmas.Option.{none-some, same_Some}
use Rattle.spv_table.specs.Table.{Table}
use Rattle.spv_module.specs.Operand.{PlainInst}
use Rattle.spv_module.specs.declared.fault.Rule.TheVariants.{F3}
use Rattle.spv_layout.specs.declared.form.Role.TheVariants.{Label}
use Rattle.spv_layout.specs.Place.{IsOfBlock}
use Rattle.spv_ids.specs.Definition.{IsUsedAt}
use Rattle.spv_flow.specs.declared.branches.code.Code.{Code}
use Rattle.spv_flow.specs.branches.inner.Code.{insts_of, IsCode}
use Rattle.spv_flow.specs.branches.inner.Edges.{marked}
use Rattle.spv_flow.specs.branches.Target.{is_phi, IsOp, IsLabelOf, IsParentAt, HasParents}
use Rattle.spv_flow.proofs.lemmas.branches.Labelled.{use_in, use_within, one_id, one_label, one_parent}
use Rattle.spv_evidence.specs.declared.evidence.Evidence.TheVariants.{MissingParent, NoPredecessor, Twice}
use Rattle.spv_flow.specs.declared.branches.fork.Fork.TheVariants.{Free}
use Rattle.spv_flow_evidence.specs.branches.Evidence.{ArePredecessors, IsEvidence}
use Rattle.spv_flow_evidence.specs.branches.inner.Known.{AreMarks, name_of, AreNames, HasNames}

-- what a list that was lent holds afterwards
pub written : {A : Type 0} → (k : ℕ) (xs ys : List A) → k ≡ length xs → take k (xs ++ ys) ≡ xs
written k xs ys e = ap (λ n. take n (xs ++ ys)) e ∙ take-append_seam xs ys

-- an operand that is no label
pub names_other : (G : Table) (is : List PlainInst) (at : ℕ) (marks : List Bool) (names : List (Option ℕ)) (n : ℕ)
    → ((x : ℕ) → ¬ (IsUsedAt G is at n x Label)) → AreNames G is at marks names n → AreNames G is at marks names (n + 1)
names_other G is at marks names n none before =
    let below : (k x : ℕ) → k < n + 1 → IsUsedAt G is at k x Label → k < n = λ k x lt u. elim (cases_lt k n) [
      | inl less ↦ less
      | inr more ↦ (let e : k ≡ n = omega (arith, lt, more) in
          absurd (none x (subst (λ (j : ℕ). IsUsedAt G is at j x Label) e u)))
    ] in
    record {
      each = λ k x lt u. before.each k x (below k x lt u) u;
      sound = λ k p e. (let h = before.sound k p e in let lt = h.0 in (omega arith, h.1));
      complete = λ k p lt a. before.complete k p (below k a.id lt a.used) a;
    }

set_same : (names : List (Option ℕ)) (p q n : ℕ) → p < length names → q ≡ p → name_of (set names p (Some n)) q ≡ Some n
set_same names p q n within e = ap (name_of (set names p (Some n))) e ∙ get_or-set_same names p (Some n) None within

set_other : (names : List (Option ℕ)) (p q n : ℕ) → q ≢ p → name_of (set names p (Some n)) q ≡ name_of names q
set_other names p q n apart = get_or-set_other names p q (Some n) None apart

-- a label of a marked block that no operand before names
pub names_more : (G : Table) (c : Code) (at : ℕ) (marks : List Bool) (names : List (Option ℕ)) (n x p : ℕ) → IsCode G c
    → p < length names → IsUsedAt G (insts_of c) at n x Label → IsLabelOf (insts_of c) x p → marked marks p ≡ true
    → name_of names p ≡ None
    → AreNames G (insts_of c) at marks names n → AreNames G (insts_of c) at marks (set names p (Some n)) (n + 1)
names_more G c at marks names n x p is within used label m free before =
    let L : List PlainInst = insts_of c in
    let here : (k q : ℕ) → k ≡ n → IsParentAt G L at k q
    → q ≡ p = λ k q e a. one_parent G c at n x p q is used label (subst (λ (j : ℕ). IsParentAt G L at j q) e a) in
    record {
      each = λ k y lt u. elim (cases_lt k n) [
        | inl less ↦ before.each k y less u
        | inr more ↦ (
            let e : k ≡ n = omega (arith, lt, more) in
            let f : x ≡ y = one_id G L at n x y Label Label used (subst (λ (j : ℕ). IsUsedAt G L at j y Label) e u) in
            (p, subst (λ (z : ℕ). IsLabelOf L z p) f label, m))
      ];
      sound = λ k q e. elim (cases_eq q p) [
        | inl same ↦ (
            let s : n ≡ k = same_Some n k (sym (set_same names p q n within same) ∙ e) in
            let a : IsParentAt G L at n q = record
            { id = x; used = used; label = subst (λ (r : ℕ). IsLabelOf L x r) (sym same) label } in
            (omega (arith, s), subst (λ (j : ℕ). IsParentAt G L at j q) s a))
        | inr apart ↦ (let h = before.sound k q (sym (set_other names p q n apart) ∙ e) in let lt = h.0 in
            (omega arith, h.1))
      ];
      complete = λ k q lt a. elim (cases_lt k n) [
        | inl less ↦ elim (cases_eq q p) [
          | inl same ↦ absurd (none-some k (sym free ∙ ap (name_of names) (sym same) ∙ before.complete k q less a))
          | inr apart ↦ set_other names p q n apart ∙ before.complete k q less a
        ]
        | inr more ↦ (let e : n ≡ k = omega (arith, lt, more) in
            set_same names p q n within (here k q (sym e) a) ∙ ap Some e)
      ];
    }

-- all operands
pub names_end : (G : Table) (is : List PlainInst) (at : ℕ) (marks : List Bool) (names : List (Option ℕ)) (n : ℕ)
    (i : PlainInst) → slice_get is at ≡ Some i → length i.operands ≤ n → AreNames G is at marks names n
    → HasNames G is at marks names
names_end G is at marks names n i there all before =
    let below : (k x : ℕ) → IsUsedAt G is at k x Label
    → k < n = λ k x u. (let w = use_within G i k x Label (use_in G is at k x Label i there u) in omega arith) in
    record {
      each = λ k x u. before.each k x (below k x u) u;
      sound = λ k p e. (before.sound k p e).1;
      complete = λ k p a. before.complete k p (below k a.id a.used) a;
    }

-- a label of no block
pub no_block : (G : Table) (is : List PlainInst) (at block k x : ℕ) → IsOp is at is_phi → IsOfBlock is at block
    → IsUsedAt G is at k x Label → ((m : ℕ) → ¬ (IsLabelOf is x m)) → (ps : List ℕ) → ArePredecessors G is block ps
    → IsEvidence Free G is F3 at (NoPredecessor k ps)
no_block G is at block k x phi of used none ps all =
    IsEvidence.no_predecessor at block k x ps phi of used (λ p label leads. none p label) all

-- a label of a block that is not marked
pub unmarked : (G : Table) (c : Code) (at block : ℕ) (marks : List Bool) (k x p : ℕ) → IsCode G c
    → IsOp (insts_of c) at is_phi → IsOfBlock (insts_of c) at block → AreMarks G (insts_of c) block marks
    → IsUsedAt G (insts_of c) at k x Label → IsLabelOf (insts_of c) x p → marked marks p ≡ false → (ps : List ℕ)
    → ArePredecessors G (insts_of c) block ps → IsEvidence Free G (insts_of c) F3 at (NoPredecessor k ps)
unmarked G c at block marks k x p is phi of are used label m ps all =
    IsEvidence.no_predecessor at block k x ps phi of used (λ q other leads.
    let e : p ≡ q = one_label G c x p q is label other in
    both_ways (marked marks q) (ap (marked marks) (sym e) ∙ m) (are.complete q leads)) all

-- a label of a block that is named already
pub again : (G : Table) (is : List PlainInst) (at block : ℕ) (marks : List Bool) (names : List (Option ℕ)) (j k x p : ℕ)
    → IsOp is at is_phi → IsOfBlock is at block → IsUsedAt G is at k x Label → IsLabelOf is x p
    → name_of names p ≡ Some j
    → AreNames G is at marks names k → (ps : List ℕ) → ArePredecessors G is block ps
    → IsEvidence Free G is F3 at (Twice j k ps)
again G is at block marks names j k x p phi of used label e before ps all = let h = before.sound j p e in
    IsEvidence.twice at block j k p ps phi of h.0 h.1 (record { id = x; used = used; label = label }) all

by_name : (o : Option ℕ) (Q : Type 0) → ¬ (o ≡ None) → ((k : ℕ) → o ≡ Some k → Q) → Q
by_name None Q some f = absurd (some (let e : ◌≡◌ {A = Option ℕ} None None = cc in e))
by_name (Some k) Q some f = f k (let e : ◌≡◌ {A = Option ℕ} (Some k) (Some k) = cc in e)

-- Where each operand names a predecessor, and each predecessor is named, the parents are as they have to be.
pub parents : (G : Table) (is : List PlainInst) (at block : ℕ) (marks : List Bool) (names : List (Option ℕ))
    → IsOfBlock is at block → AreMarks G is block marks → HasNames G is at marks names
    → ((p : ℕ) → marked marks p ≡ true → ¬ (name_of names p ≡ None)) → HasParents G is at
parents G is at block marks names of are has all = record {
  block = block;
  of = of;
  each = λ k x u. (let e = has.each k x u in (e.0, e.1, are.sound e.0 e.2));
  once = λ j k p a b. same_Some j k (sym (has.complete j p a) ∙ has.complete k p b);
  all = λ p leads. by_name (name_of names p) ((k : ℕ) × IsParentAt G is at k p) (all p (are.complete p leads))
      (λ k e. (k, has.sound k p e));
}

-- A predecessor that no operand names.
pub missing : (G : Table) (is : List PlainInst) (at block : ℕ) (marks : List Bool) (names : List (Option ℕ)) (p : ℕ)
    → IsOp is at is_phi → IsOfBlock is at block → AreMarks G is block marks → HasNames G is at marks names
    → marked marks p ≡ true → name_of names p ≡ None
    → (ps : List ℕ) → ArePredecessors G is block ps → IsEvidence Free G is F3 at (MissingParent p ps)
missing G is at block marks names p phi of are has m none ps all =
    IsEvidence.missing_parent at block p ps phi of (are.sound p m)
    (λ k a. none-some k (sym none ∙ has.complete k p a)) all
