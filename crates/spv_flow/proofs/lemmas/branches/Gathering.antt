-- The edges of a branch, operand by operand, and those of a module, instruction by instruction.
use Rattle.std.proofs.Common.{◌≡◌, ◌≤◌, ◌<◌, ◌+◌, ◌⊎◌, ◌∙◌, inl, inr, ℕ, List, Some, length, sym, subst, arith}
use Rattle.std.specs.Prelude.{slice_get}
use Rattle.std.proofs.lemmas.Bool.{cases_lt}
use Rattle.spv_table.specs.Table.{Table}
use Rattle.spv_module.specs.Operand.{PlainInst}
use Rattle.spv_layout.specs.declared.form.Role.TheVariants.{Label}
use Rattle.spv_layout.specs.Place.{IsOfBlock}
use Rattle.spv_layout.specs.Shape.{FitsShape, IsUse}
use Rattle.spv_layout.proofs.Places.{block_same}
use Rattle.spv_ids.specs.Definition.{IsUsedAt}
use Rattle.spv_flow.specs.declared.branches.code.Code.{Code}
use Rattle.spv_flow.specs.declared.branches.edges.Edges.{Edges}
use Rattle.spv_flow.specs.branches.inner.Code.{insts_of, IsCode}
use Rattle.spv_flow.specs.branches.inner.Edges.{IsEdges, HasEdge, AddsEdge}
use Rattle.spv_flow.specs.branches.inner.Graph.{AddsTargets, AreGathered}
use Rattle.spv_flow.specs.branches.Target.{is_branch, IsOp, IsLabelOf, LeadsToBlock}
use Rattle.spv_flow.proofs.lemmas.branches.Labelled.{use_in, use_at, use_within, one_id, one_label}

-- The edges of the first operands of an instruction of a block were added.
pub record IsAdding (c : Code) (old now : Edges) (at block n : ℕ) : Type 0 where
  pub edges : IsEdges now
  pub count : length now.heads.items ≡ length c.insts.now
  pub kept : (p b : ℕ) → HasEdge old p b → HasEdge now p b
  pub only : (G : Table) → IsCode G c → IsOp (insts_of c) at is_branch → IsOfBlock (insts_of c) at block → (p b : ℕ)
      → HasEdge now p b → HasEdge old p b ⊎ LeadsToBlock G (insts_of c) at p b
  pub added : (G : Table) → IsCode G c → (k x b : ℕ) → k < n → IsUsedAt G (insts_of c) at k x Label
      → IsLabelOf (insts_of c) x b → HasEdge now block b

-- an operand that is no label
pub adding_other : (c : Code) (old now : Edges) (at block n : ℕ) (i : PlainInst) → slice_get (insts_of c) at ≡ Some i
    → ((G : Table) → FitsShape G i → (x : ℕ) → ¬ (IsUse G i n x Label))
    → IsAdding c old now at block n → IsAdding c old now at block (n + 1)
adding_other c old now at block n i there none before = record {
  edges = before.edges;
  count = before.count;
  kept = before.kept;
  only = before.only;
  added = λ G is k x b lt used label. elim (cases_lt k n) [
    | inl less ↦ before.added G is k x b less used label
    | inr more ↦ (
        let e : k ≡ n = omega (arith, lt, more) in
        let u : IsUse G i n x Label = subst (λ (j : ℕ). IsUse G i j x Label) e
        (use_in G (insts_of c) at k x Label i there used) in
        absurd (none G (is.plan.fits at i there) x u))
  ];
}

-- operands that are no label, or the same as operand n
pub adding_past : (c : Code) (old now : Edges) (at block n m : ℕ) (i : PlainInst) → slice_get (insts_of c) at ≡ Some i
    → ((G : Table) (k x : ℕ) → FitsShape G i → n < k → k < m → IsUse G i k x Label → IsUse G i n x Label)
    → IsAdding c old now at block (n + 1) → IsAdding c old now at block m
adding_past c old now at block n m i there past before = record {
  edges = before.edges;
  count = before.count;
  kept = before.kept;
  only = before.only;
  added = λ G is k x b lt used label. elim (cases_lt k (n + 1)) [
    | inl less ↦ before.added G is k x b less used label
    | inr more ↦ (
        let u = past G k x (is.plan.fits at i there) (omega (arith, more)) lt
        (use_in G (insts_of c) at k x Label i there used) in
        before.added G is n x b (omega arith) (use_at G (insts_of c) at n x Label i there u) label)
  ];
}

-- a label that is no OpLabel
pub adding_none : (c : Code) (old now : Edges) (at block n y : ℕ) (i : PlainInst) → slice_get (insts_of c) at ≡ Some i
    → ((G : Table) → FitsShape G i → IsUse G i n y Label)
    → ((G : Table) → IsCode G c → (m : ℕ) → ¬ (IsLabelOf (insts_of c) y m))
    → IsAdding c old now at block n → IsAdding c old now at block (n + 1)
adding_none c old now at block n y i there uses none before = record {
  edges = before.edges;
  count = before.count;
  kept = before.kept;
  only = before.only;
  added = λ G is k x b lt used label. elim (cases_lt k n) [
    | inl less ↦ before.added G is k x b less used label
    | inr more ↦ (
        let e : k ≡ n = omega (arith, lt, more) in
        let u : IsUsedAt G (insts_of c) at k y Label = subst (λ (j : ℕ). IsUsedAt G (insts_of c) at j y Label) (sym e)
        (use_at G (insts_of c) at n y Label i there (uses G (is.plan.fits at i there))) in
        let f : x ≡ y = one_id G (insts_of c) at k x y Label Label used u in
        absurd (none G is b (subst (λ (z : ℕ). IsLabelOf (insts_of c) z b) f label)))
  ];
}

-- a label of an OpLabel
pub adding_more : (c : Code) (old now new : Edges) (at block n y t : ℕ) (i : PlainInst)
    → slice_get (insts_of c) at ≡ Some i → ((G : Table) → FitsShape G i → IsUse G i n y Label)
    → ((G : Table) → IsCode G c → IsLabelOf (insts_of c) y t)
    → AddsEdge now new block t → IsAdding c old now at block n → IsAdding c old new at block (n + 1)
adding_more c old now new at block n y t i there uses label_y adds before = record {
  edges = adds.edges;
  count = adds.count ∙ before.count;
  kept = λ p b h. adds.kept p b (before.kept p b h);
  only = λ G is branch of p b h. elim (adds.only p b h) [
    | inl had ↦ before.only G is branch of p b had
    | inr here ↦ inr (record {
      of = subst (λ (q : ℕ). IsOfBlock (insts_of c) at q) (sym here.0) of;
      id = y;
      target = record {
        branch = branch;
        operand = n;
        used = use_at G (insts_of c) at n y Label i there (uses G (is.plan.fits at i there));
      };
      label = subst (λ (q : ℕ). IsLabelOf (insts_of c) y q) (sym here.1) (label_y G is);
    })
  ];
  added = λ G is k x b lt used label. elim (cases_lt k n) [
    | inl less ↦ adds.kept block b (before.added G is k x b less used label)
    | inr more ↦ (
        let e : k ≡ n = omega (arith, lt, more) in
        let u : IsUsedAt G (insts_of c) at k y Label = subst (λ (j : ℕ). IsUsedAt G (insts_of c) at j y Label) (sym e)
        (use_at G (insts_of c) at n y Label i there (uses G (is.plan.fits at i there))) in
        let f : x ≡ y = one_id G (insts_of c) at k x y Label Label used u in
        let g : t ≡ b = one_label G c y t b is (label_y G is) (subst (λ (z : ℕ). IsLabelOf (insts_of c) z b) f label) in
        subst (λ (q : ℕ). HasEdge new block q) g adds.added)
  ];
}

pub adding_end : (c : Code) (old now : Edges) (at block n : ℕ) (i : PlainInst) → slice_get (insts_of c) at ≡ Some i
    → length i.operands ≤ n → IsAdding c old now at block n
    → (G : Table) → IsCode G c → IsOp (insts_of c) at is_branch → IsOfBlock (insts_of c) at block
    → AddsTargets G (insts_of c) old now at
adding_end c old now at block n i there all before = λ G is branch of. record {
  kept = before.kept;
  added = λ p b leads.
      let lt = use_within G i leads.target.operand leads.id Label
      (use_in G (insts_of c) at leads.target.operand leads.id Label i there leads.target.used) in
      let e : block ≡ p = block_same (insts_of c) at block p of leads.of in
      subst (λ (q : ℕ). HasEdge now q b) e
      (before.added G is leads.target.operand leads.id b (omega (arith, lt, all)) leads.target.used leads.label);
  only = before.only G is branch of;
}

-- an instruction that is no branch, or of no block
pub none_added : (G : Table) (is : List PlainInst) (e : Edges) (n : ℕ) → ((p b : ℕ) → ¬ (LeadsToBlock G is n p b))
    → AddsTargets G is e e n
none_added G is e n none = record { kept = λ p b h. h; added = λ p b l. absurd (none p b l); only = λ p b h. inl h }

-- One instruction more.
pub gathered_more : (G : Table) (is : List PlainInst) (old new : Edges) (n : ℕ) → AreGathered G is old n
    → AddsTargets G is old new n → AreGathered G is new (n + 1)
gathered_more G is old new n before adds = record {
  complete = λ t p b lt leads. elim (cases_lt t n) [
    | inl less ↦ adds.kept p b (before.complete t p b less leads)
    | inr more ↦ (let e : t ≡ n = omega (arith, lt, more) in
        adds.added p b (subst (λ (u : ℕ). LeadsToBlock G is u p b) e leads))
  ];
  sound = λ p b h. elim (adds.only p b h) [ inl had ↦ before.sound p b had | inr here ↦ (n, here) ];
}
