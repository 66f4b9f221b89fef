-- The parents of an OpPhi, operand by operand.
use Rattle.std.proofs.Common.{◌≡◌, ◌≤◌, ◌<◌, ◌+◌, ◌⊎◌, ◌∙◌, inl, inr, ℕ, List, Bool, true, false, Some, length, set}
use Rattle.std.proofs.Common.{refl, sym, ap, subst, arith}
use Rattle.std.specs.Prelude.{slice_get}
use Rattle.std.proofs.lemmas.Bool.{cases_lt, cases_eq, both_ways}
use Rattle.std.proofs.lemmas.Option.{slice_get_within}
use Rattle.spv_table.specs.Table.{Table}
use Rattle.spv_module.specs.Operand.{PlainInst}
use Rattle.spv_layout.specs.declared.form.Role.TheVariants.{Label}
use Rattle.spv_layout.specs.Place.{IsOfBlock}
use Rattle.spv_layout.proofs.Places.{block_same}
use Rattle.spv_ids.specs.Definition.{IsUsedAt}
use Rattle.spv_flow.specs.declared.branches.code.Code.{Code}
use Rattle.spv_flow.specs.declared.branches.edges.Edges.{Edges}
use Rattle.spv_flow.specs.branches.inner.Code.{insts_of, IsCode}
use Rattle.spv_flow.specs.branches.inner.Edges.{HasEdge, marked}
use Rattle.spv_flow.specs.branches.inner.Graph.{AreGathered, CanTake, Takes}
use Rattle.spv_flow.specs.branches.Target.{IsLabelOf, IsParentAt, HasParents, LeadsToBlock}
use Rattle.spv_flow.proofs.lemmas.branches.Labelled.{use_in, use_within, one_id, one_label, one_parent}
use Rattle.spv_flow.proofs.lemmas.branches.Marking.{marks_same, set_other}

-- The marks of the blocks that the first operands name were taken.
pub record IsTaking (G : Table) (is : List PlainInst) (at : ℕ) (old now : List Bool) (n : ℕ) : Type 0 where
  pub each : (k x : ℕ) → k < n → IsUsedAt G is at k x Label → (p : ℕ) × IsLabelOf is x p × (marked old p ≡ true)
  pub once : (j k p : ℕ) → j < n → k < n → IsParentAt G is at j p → IsParentAt G is at k p → j ≡ k
  pub left : (p : ℕ) → marked now p ≡ true → marked old p ≡ true
  pub gone : (k p : ℕ) → k < n → IsParentAt G is at k p → marked now p ≡ false
  pub kept : (p : ℕ) → marked old p ≡ true → (marked now p ≡ true) ⊎ ((k : ℕ) × (k < n) × IsParentAt G is at k p)

-- an operand that is no label
pub taking_other : (G : Table) (is : List PlainInst) (at : ℕ) (old now : List Bool) (n : ℕ)
    → ((x : ℕ) → ¬ (IsUsedAt G is at n x Label)) → IsTaking G is at old now n → IsTaking G is at old now (n + 1)
taking_other G is at old now n none before =
    let below : (k x : ℕ) → k < n + 1 → IsUsedAt G is at k x Label → k < n = λ k x lt u. elim (cases_lt k n) [
      | inl less ↦ less
      | inr more ↦ (let e : k ≡ n = omega (arith, lt, more) in
          absurd (none x (subst (λ (j : ℕ). IsUsedAt G is at j x Label) e u)))
    ] in
    record {
      each = λ k x lt u. before.each k x (below k x lt u) u;
      once = λ j k p lj lk a b. before.once j k p (below j a.id lj a.used) (below k b.id lk b.used) a b;
      left = before.left;
      gone = λ k p lt a. before.gone k p (below k a.id lt a.used) a;
      kept = λ p m. elim (before.kept p m) [
        | inl still ↦ inl still
        | inr named ↦
            inr (named.0, omega (arith, named.1), named.2)
      ];
    }

-- a label of a marked block
pub taking_more : (G : Table) (c : Code) (at : ℕ) (old now : List Bool) (n x p : ℕ) → IsCode G c → p < length now
    → IsUsedAt G (insts_of c) at n x Label → IsLabelOf (insts_of c) x p → marked now p ≡ true
    → IsTaking G (insts_of c) at old now n → IsTaking G (insts_of c) at old (set now p false) (n + 1)
taking_more G c at old now n x p is within used label m before =
    let L : List PlainInst = insts_of c in
    let P : ℕ → ℕ → Type 0 = λ k q. IsParentAt G L at k q in
    -- the parent at the last operand
    let here : (k q : ℕ) → k ≡ n → IsParentAt G L at k q
    → q ≡ p = λ k q e a. one_parent G c at n x p q is used label (subst (λ (j : ℕ). P j q) e a) in
    let earlier : (k q : ℕ) → k < n → IsParentAt G L at k q → q ≡ p
    → ⊥ = λ k q lt a e. both_ways (marked now q) (before.gone k q lt a) (ap (marked now) e ∙ m) in
    record {
      each = λ k y lt u. elim (cases_lt k n) [
        | inl less ↦ before.each k y less u
        | inr more ↦ (
            let e : k ≡ n = omega (arith, lt, more) in
            let f : y ≡ x = one_id G L at n y x Label Label (subst (λ (j : ℕ). IsUsedAt G L at j y Label) e u) used in
            (p, subst (λ (z : ℕ). IsLabelOf L z p) (sym f) label, before.left p m))
      ];
      once = λ j k q lj lk a b. elim (cases_lt j n) [
        | inl less_j ↦ elim (cases_lt k n) [
          | inl less_k ↦ before.once j k q less_j less_k a b
          | inr more_k ↦ absurd (earlier j q less_j a (here k q (omega (arith, lk, more_k)) b))
        ]
        | inr more_j ↦ elim (cases_lt k n) [
          | inl less_k ↦ absurd (earlier k q less_k b (here j q (omega (arith, lj, more_j)) a))
          | inr more_k ↦ omega (arith, lj, lk, more_j, more_k)
        ]
      ];
      left = λ q t. elim (cases_eq q p) [
        | inl same ↦ absurd (both_ways (marked (set now p false) q) (marks_same now p q false within same) t)
        | inr apart ↦ before.left q (sym (set_other now p q false apart) ∙ t)
      ];
      gone = λ k q lt a. elim (cases_eq q p) [
        | inl same ↦ marks_same now p q false within same
        | inr apart ↦ elim (cases_lt k n) [
          | inl less ↦ set_other now p q false apart ∙ before.gone k q less a
          | inr more ↦ absurd (apart (here k q (omega (arith, lt, more)) a))
        ]
      ];
      kept = λ q t. elim (cases_eq q p) [
        | inl same ↦ inr (
          n,
          omega arith,
          subst (λ (z : ℕ). P n z) (sym same)
              (record { id = x; used = used; label = label }),
        )
        | inr apart ↦ elim (before.kept q t) [
          | inl still ↦ inl (set_other now p q false apart ∙ still)
          | inr named ↦ inr (named.0, omega (arith, named.1), named.2)
        ]
      ];
    }

-- all operands
pub taking_end : (G : Table) (is : List PlainInst) (at : ℕ) (old now : List Bool) (n : ℕ) (i : PlainInst)
    → slice_get is at ≡ Some i → length i.operands ≤ n → IsTaking G is at old now n → Takes G is at old now
taking_end G is at old now n i there all before =
    let below : (k x : ℕ) → IsUsedAt G is at k x Label
    → k < n = λ k x u. (let w = use_within G i k x Label (use_in G is at k x Label i there u) in omega arith) in
    record {
      can = record {
        each = λ k x u. before.each k x (below k x u) u;
        once = λ j k p a b. before.once j k p (below j a.id a.used) (below k b.id b.used) a b;
      };
      left = before.left;
      gone = λ k p a. before.gone k p (below k a.id a.used) a;
      kept = λ p m. elim (before.kept p m) [ inl still ↦ inl still | inr named ↦ inr (named.0, named.2) ];
    }

-- a label of no block
pub not_label : (G : Table) (is : List PlainInst) (at : ℕ) (marks : List Bool) (n x : ℕ) → IsUsedAt G is at n x Label
    → ((m : ℕ) → ¬ (IsLabelOf is x m)) → ¬ (CanTake G is at marks)
not_label G is at marks n x used none can = let e = can.each n x used in none e.0 e.1

-- a label of a block that is not marked, or not any more
pub not_marked : (G : Table) (c : Code) (at : ℕ) (old now : List Bool) (n x p : ℕ) → IsCode G c
    → IsUsedAt G (insts_of c) at n x Label → IsLabelOf (insts_of c) x p → marked now p ≡ false
    → IsTaking G (insts_of c) at old now n → ¬ (CanTake G (insts_of c) at old)
not_marked G c at old now n x p is used label m before can =
    let e = can.each n x used in
    let f : e.0 ≡ p = one_label G c x e.0 p is e.1 label in
    let was : marked old p ≡ true = ap (marked old) (sym f) ∙ e.2 in
    elim (before.kept p was) [
      | inl still ↦ both_ways (marked now p) m still
      | inr named ↦ (let g = can.once named.0 n p named.2 (record { id = x; used = used; label = label }) in
          let lt = named.1 in absurd (omega arith))
    ]

-- What is marked before the parents are taken: the sources of the edges to a block.
pub record AreSources (e : Edges) (block : ℕ) (marks : List Bool) : Type 0 where
  pub added : (p : ℕ) → HasEdge e p block → marked marks p ≡ true
  pub only : (p : ℕ) → marked marks p ≡ true → HasEdge e p block

pub sources : (e : Edges) (block : ℕ) (old marks : List Bool) → ((p : ℕ) → marked old p ≡ false)
    → ((p : ℕ) → HasEdge e p block → marked marks p ≡ true)
    → ((p : ℕ) → marked marks p ≡ true → (marked old p ≡ true) ⊎ HasEdge e p block) → AreSources e block marks
sources e block old marks clean added only = record {
  added = added;
  only = λ p m. elim (only p m) [ inl was ↦ absurd (both_ways (marked old p) (clean p) was) | inr h ↦ h ];
}

-- The parents that can be taken are predecessors, and if no mark is left, all of them.
pub parents : (G : Table) (is : List PlainInst) (count : ℕ) (e : Edges) (at block : ℕ) (marks left : List Bool)
    → ((t : ℕ) (p b : ℕ) → LeadsToBlock G is t p b → t < count) → AreGathered G is e count → IsOfBlock is at block
    → AreSources e block marks → Takes G is at marks left
    → ((p : ℕ) → HasEdge e p block → marked left p ≡ false) → HasParents G is at
parents G is count e at block marks left within gathered of from takes none = record {
  block = block;
  of = of;
  each = λ k x u. (let h = takes.can.each k x u in (h.0, h.1, gathered.sound h.0 block (from.only h.0 h.2)));
  once = takes.can.once;
  all = λ p (t, leads).
      let edge : HasEdge e p block = gathered.complete t p block (within t p block leads) leads in
      elim (takes.kept p (from.added p edge)) [
        | inl still ↦ absurd (both_ways (marked left p) (none p edge) still)
        | inr named ↦ named
      ];
}

unmarked : (b : Bool) → ¬ (b ≡ true) → b ≡ false
unmarked true h = absurd (h refl)
unmarked false h = refl

-- a terminator is one of the instructions
pub leads_within : (G : Table) (is : List PlainInst) (t p b : ℕ) → LeadsToBlock G is t p b → t < length is
leads_within G is t p b leads = slice_get_within is t leads.target.used.inst leads.target.used.there

-- Nothing is left marked.
pub clean_after : (G : Table) (is : List PlainInst) (e : Edges) (at block : ℕ) (marks left : List Bool)
    → AreSources e block marks → Takes G is at marks left → ((p : ℕ) → HasEdge e p block → marked left p ≡ false)
    → (p : ℕ) → marked left p ≡ false
clean_after G is e at block marks left from takes none p =
    unmarked (marked left p) (λ m. both_ways (marked left p) (none p (from.only p (takes.left p m))) m)

-- Parents that can't be taken are not the predecessors.
pub not_taken : (G : Table) (is : List PlainInst) (count : ℕ) (e : Edges) (at block : ℕ) (marks : List Bool)
    → ((t : ℕ) (p b : ℕ) → LeadsToBlock G is t p b → t < count) → AreGathered G is e count → IsOfBlock is at block
    → AreSources e block marks → ¬ (CanTake G is at marks) → ¬ (HasParents G is at)
not_taken G is count e at block marks within gathered of from cannot has =
    let same : has.block ≡ block = block_same is at has.block block has.of of in
    cannot (record {
      each = λ k x u.
          let h = has.each k x u in
          let t = h.2.0 in
          let leads : LeadsToBlock G is t h.0 block = subst (λ (b : ℕ). LeadsToBlock G is t h.0 b) same h.2.1 in
          (h.0, h.1, from.added h.0 (gathered.complete t h.0 block (within t h.0 block leads) leads));
      once = has.once;
    })

-- A predecessor that no parent names.
pub not_named : (G : Table) (is : List PlainInst) (count : ℕ) (e : Edges) (at block p : ℕ) (marks left : List Bool)
    → AreGathered G is e count → IsOfBlock is at block → Takes G is at marks left → HasEdge e p block
    → marked left p ≡ true → ¬ (HasParents G is at)
not_named G is count e at block p marks left gathered of takes edge m has =
    let same : has.block ≡ block = block_same is at has.block block has.of of in
    let sound = gathered.sound p block edge in
    let named = has.all p (sound.0, subst (λ (b : ℕ). LeadsToBlock G is sound.0 p b) (sym same) sound.1) in
    both_ways (marked left p) (takes.gone named.0 p named.1) m
