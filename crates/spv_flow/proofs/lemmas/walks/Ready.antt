-- Where no walk misses a value, every instruction is ready.
use Rattle.std.proofs.Common.{◌≡◌, ◌⊎◌, ◌∙◌, ℕ, List, [], ◌∷◌, Option, Some, None, refl, sym, ap, inl, inr, arith}
use Rattle.std.specs.Prelude.{slice_get}
use Rattle.std.proofs.lemmas.Bool.{cases_eq}
use Rattle.std.proofs.lemmas.Option.{same_Some}
use Rattle.spv_table.specs.Table.{Table}
use Rattle.spv_module.specs.Operand.{PlainInst, result_in}
use Rattle.spv_module.specs.declared.fault.Rule.{Rule}
use Rattle.spv_module.specs.declared.fault.Rule.TheVariants.{A1, A2}
use Rattle.spv_layout.specs.Stage.{of_values}
use Rattle.spv_layout.specs.First.{stage_of, IsUnbroken}
use Rattle.spv_ids.specs.Definition.{IsDefinedAt}
use Rattle.spv_flow.specs.branches.Walk.{IsResultAmong}
use Rattle.spv_flow.specs.branches.Ready.{IsMissing, IsPairMissing, IsReady}
use Rattle.spv_flow.specs.declared.branches.fork.Fork.{Fork}
use Rattle.spv_flow.specs.branches.Broken.{Broken}
use Rattle.spv_flow.proofs.lemmas.walks.Staged.{IsStaged, staged}
use Rattle.spv_flow.proofs.lemmas.walks.Lists.{any_cons, any_head, any_tail, any_none}

-- An instruction defines an id, or does not.

by_result : (is : List PlainInst) (x n : ℕ) (i : PlainInst) (o : Option ℕ) → slice_get is n ≡ Some i
    → result_in i.operands ≡ o → IsDefinedAt is x n ⊎ ¬ (IsDefinedAt is x n)
by_result is x n i None there none = inr (λ d.
    let same : i ≡ d.inst = same_Some i d.inst (sym there ∙ d.there) in
    let e : result_in i.operands ≡ Some x = ap (λ (j : PlainInst). result_in j.operands) same ∙ d.result in
    let no : None ≡ Some x = sym none ∙ e in
    cc)
by_result is x n i (Some y) there some = elim (cases_eq y x) [
  | inl e ↦ inl (record { inst = i; there = there; result = some ∙ ap (λ (z : ℕ). Some z) e })
  | inr other ↦ inr (λ d.
      let same : i ≡ d.inst = same_Some i d.inst (sym there ∙ d.there) in
      let e : result_in i.operands ≡ Some x = ap (λ (j : PlainInst). result_in j.operands) same ∙ d.result in
      other (same_Some y x (sym some ∙ e)))
]

by_place : (is : List PlainInst) (x n : ℕ) (o : Option PlainInst) → slice_get is n ≡ o
    → IsDefinedAt is x n ⊎ ¬ (IsDefinedAt is x n)
by_place is x n None e = inr (λ d. let no : None ≡ Some d.inst = sym e ∙ d.there in cc)
by_place is x n (Some i) e = by_result is x n i (result_in i.operands) e refl

defined_or_not : (is : List PlainInst) (x n : ℕ) → IsDefinedAt is x n ⊎ ¬ (IsDefinedAt is x n)
defined_or_not is x n = by_place is x n (slice_get is n) refl

-- The id is the result of one of the instructions, or of none.
pub among_or_not : (is : List PlainInst) (past : List ℕ) (x : ℕ) → IsResultAmong is past x ⊎ ¬ (IsResultAmong is past x)
among_or_not is [] x = inr (any_none (λ (k : ℕ). IsDefinedAt is x k))
among_or_not is (n ∷ past) x = elim (defined_or_not is x n) [
  | inl d ↦ inl (any_head (λ (k : ℕ). IsDefinedAt is x k) n past d)
  | inr none ↦ elim (among_or_not is past x) [
    | inl a ↦ inl (any_tail (λ (k : ℕ). IsDefinedAt is x k) n past a)
    | inr nowhere ↦ inr (λ a. elim
        (any_cons (λ (k : ℕ). IsDefinedAt is x k) n past a) [ inl d ↦ none d | inr r ↦ nowhere r ])
  ]
]

pub ready : (fork : Fork) (G : Table) (is : List PlainInst) → IsUnbroken (Broken fork G is) of_values → (n : ℕ)
    → IsReady G is n
ready fork G is u n = record {
  uses = λ other f past k x r walk used local. elim (among_or_not is past x) [
    | inl a ↦ a
    | inr undefined ↦ (
        let m : IsMissing G is n = record {
          other = other;
          function = f;
          past = past;
          walk = walk;
          operand = k;
          id = x;
          role = r;
          used = used;
          local = local;
          undefined = undefined;
        } in
        absurd (u A1 n refl (Broken.missing n m)))
  ];
  pairs = λ phi value parent before pair comes local. elim (among_or_not is before value) [
    | inl a ↦ a
    | inr undefined ↦ (
        let m : IsPairMissing G is n = record {
          phi = phi;
          value = value;
          parent = parent;
          before = before;
          pair = pair;
          comes = comes;
          local = local;
          undefined = undefined;
        } in
        absurd (u A2 n refl (Broken.pair_missing n m)))
  ];
}

refuted : (G : Table) (is : List PlainInst) → ((n : ℕ) → IsReady G is n) → (r : Rule) (n : ℕ) → stage_of r ≡ of_values
    → ¬ (IsStaged G is r n)
refuted G is h _ _ s (IsStaged.branches r n e) = absurd (omega (arith, s, e))
refuted G is h _ _ s (IsStaged.missing n m) = m.undefined
    ((h n).uses m.other m.function m.past m.operand m.id m.role m.walk m.used m.local)
refuted G is h _ _ s (IsStaged.pair_missing n m) = m.undefined
    ((h n).pairs m.phi m.value m.parent m.before m.pair m.comes m.local)

pub unbroken : (fork : Fork) (G : Table) (is : List PlainInst) → ((n : ℕ) → IsReady G is n)
    → IsUnbroken (Broken fork G is) of_values
unbroken fork G is h r n s b = refuted G is h r n s (staged fork G is r n b)
