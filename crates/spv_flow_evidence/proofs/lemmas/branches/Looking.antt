-- What holds of the labels of an instruction, operand by operand.
use Rattle.std.proofs.Common.{◌≡◌, ◌≤◌, ◌<◌, ◌+◌, inl, inr, ℕ, List, Option, Some, None, length, refl, sym, subst}
use Rattle.std.proofs.Common.{arith}
use Rattle.std.specs.Prelude.{slice_get, IsSome}
use Rattle.std.proofs.lemmas.Bool.{cases_lt}
use Rattle.spv_table.specs.Table.{Table}
use Rattle.spv_module.specs.Operand.{PlainInst}
use Rattle.spv_layout.specs.declared.form.Role.TheVariants.{Label}
use Rattle.spv_ids.specs.Definition.{IsUsedAt}
use Rattle.spv_ids.specs.Outcome.{definition_in}
use Rattle.spv_flow.specs.declared.branches.code.Code.{Code}
use Rattle.spv_flow.specs.branches.inner.Code.{insts_of, IsCode}
use Rattle.spv_flow.proofs.lemmas.branches.Labelled.{use_in, use_within, one_id, none_defined}
use Rattle.spv_flow_evidence.specs.branches.inner.Known.{KeepsDefinitions}

-- an operand that is no label
pub each_other : (G : Table) (is : List PlainInst) (at n : ℕ) (P : ℕ → Type 0)
    → ((x : ℕ) → ¬ (IsUsedAt G is at n x Label)) → ((k x : ℕ) → k < n → IsUsedAt G is at k x Label → P x) → (k x : ℕ)
    → k < n + 1 → IsUsedAt G is at k x Label → P x
each_other G is at n P none before k x lt u = elim (cases_lt k n) [
  | inl less ↦ before k x less u
  | inr more ↦ (let e : k ≡ n = omega (arith, lt, more) in
      absurd (none x (subst (λ (j : ℕ). IsUsedAt G is at j x Label) e u)))
]

-- a label of which it holds
pub each_more : (G : Table) (is : List PlainInst) (at n y : ℕ) (P : ℕ → Type 0) → IsUsedAt G is at n y Label → P y
    → ((k x : ℕ) → k < n → IsUsedAt G is at k x Label → P x) → (k x : ℕ) → k < n + 1 → IsUsedAt G is at k x Label → P x
each_more G is at n y P used holds before k x lt u = elim (cases_lt k n) [
  | inl less ↦ before k x less u
  | inr more ↦ (
      let e : k ≡ n = omega (arith, lt, more) in
      let f : y ≡ x = one_id G is at n y x Label Label used (subst (λ (j : ℕ). IsUsedAt G is at j x Label) e u) in
      subst P f holds)
]

-- all operands
pub each_all : (G : Table) (is : List PlainInst) (at n : ℕ) (i : PlainInst) (P : ℕ → Type 0) → slice_get is at ≡ Some i
    → length i.operands ≤ n → ((k x : ℕ) → k < n → IsUsedAt G is at k x Label → P x) → (k x : ℕ)
    → IsUsedAt G is at k x Label → P x
each_all G is at n i P there all before k x u =
    before k x (let w = use_within G i k x Label (use_in G is at k x Label i there u) in omega (arith, w, all)) u

-- a label has a definition
pub has_definition : (G : Table) (c : Code) (at k x : ℕ) (o : Option ℕ) → o ≡ definition_in c.ids.now x → IsCode G c
    → KeepsDefinitions G (insts_of c) at → IsUsedAt G (insts_of c) at k x Label → IsSome o
has_definition G c at k x None e is has used = absurd (has.each k x used (λ m d. none_defined G c x m is (sym e) d))
has_definition G c at k x (Some m) e is has used = refl
