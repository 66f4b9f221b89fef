-- The sources of a chain are marked, or looked at, one after the other.
use Rattle.std.proofs.Common.{◌≡◌, ◌≢◌, ◌≤◌, ◌<◌, ◌-◌, ◌⊎◌, ◌∙◌, inl, inr, ℕ, List, Bool, true, false, Some, length}
use Rattle.std.proofs.Common.{set, sym, ap, subst, arith}
use Rattle.std.specs.Prelude.{slice_get}
use Rattle.std.proofs.lemmas.Bool.{cases_eq}
use Rattle.std.proofs.lemmas.List.{get_or-set_same, get_or-set_other}
use Rattle.spv_flow.specs.declared.branches.edges.Link.{Link}
use Rattle.spv_flow.specs.branches.inner.Edges.{InChain, AreEdges, Leading, marked}
use Rattle.spv_flow.proofs.lemmas.branches.Chains.{chain_head, chain_tail, chain_split}

pub set_marked : (marks : List Bool) (s : ℕ) (b : Bool) → s < length marks → marked (set marks s b) s ≡ b
set_marked marks s b within = get_or-set_same marks s b false within

pub set_other : (marks : List Bool) (s p : ℕ) (b : Bool) → p ≢ s → marked (set marks s b) p ≡ marked marks p
set_other marks s p b apart = get_or-set_other marks s p b false apart

pub marks_same : (marks : List Bool) (s p : ℕ) (b : Bool) → s < length marks → p ≡ s → marked (set marks s b) p ≡ b
marks_same marks s p b within e = ap (marked (set marks s b)) e ∙ set_marked marks s b within

-- The sources up to a place of the chain are marked.
pub record IsMarking (links : List Link) (heads : List ℕ) (t : ℕ) (old now : List Bool) (h : ℕ) : Type 0 where
  pub within : h ≤ length links
  pub kept : (p : ℕ) → marked old p ≡ true → marked now p ≡ true
  pub added : (p : ℕ) → Leading links heads p t → (marked now p ≡ true) ⊎ InChain links h p
  pub only : (p : ℕ) → marked now p ≡ true → (marked old p ≡ true) ⊎ Leading links heads p t
  pub chain : (p : ℕ) → InChain links h p → Leading links heads p t

pub marking_more : (links : List Link) (heads : List ℕ) (t : ℕ) (old now : List Bool) (h : ℕ) (l : Link)
    → AreEdges links heads → length heads ≡ length now → 0 < h → slice_get links (h - 1) ≡ Some l
    → IsMarking links heads t old now h → IsMarking links heads t old (set now l.source true) l.next
marking_more links heads t old now h l are long some at before =
    let s : ℕ = l.source in
    let in_s : s < length now = (let a = are.source (h - 1) l at in omega arith) in
    record {
      within = (let a = are.next (h - 1) l at in let b = before.within in omega arith);
      kept = λ p m. elim (cases_eq p s) [
        | inl same ↦ marks_same now s p true in_s same
        | inr apart ↦ set_other now s p true apart ∙ before.kept p m
      ];
      added = λ p leads. elim (cases_eq p s) [
        | inl same ↦ inl (marks_same now s p true in_s same)
        | inr apart ↦ elim (before.added p leads) [
          | inl m ↦ inl (set_other now s p true apart ∙ m)
          | inr c ↦ elim (chain_split links h p l at c) [
            | inl same ↦ absurd (apart same)
            | inr r ↦ inr r
          ]
        ]
      ];
      only = λ p m. elim (cases_eq p s) [
        | inl same ↦ inr (before.chain p (subst (λ (q : ℕ). InChain links h q) (sym same)
            (chain_head links h l some at)))
        | inr apart ↦ before.only p (sym (set_other now s p true apart) ∙ m)
      ];
      chain = λ p c. before.chain p (chain_tail links h p l some at c);
    }

-- No source up to a place of the chain is marked.
pub record IsSeeking (links : List Link) (heads : List ℕ) (t : ℕ) (marks : List Bool) (h : ℕ) : Type 0 where
  pub within : h ≤ length links
  pub left : (p : ℕ) → Leading links heads p t → (marked marks p ≡ false) ⊎ InChain links h p
  pub chain : (p : ℕ) → InChain links h p → Leading links heads p t

pub seeking_more : (links : List Link) (heads : List ℕ) (t : ℕ) (marks : List Bool) (h : ℕ) (l : Link)
    → AreEdges links heads → 0 < h → slice_get links (h - 1) ≡ Some l → marked marks l.source ≡ false
    → IsSeeking links heads t marks h → IsSeeking links heads t marks l.next
seeking_more links heads t marks h l are some at free before = record {
  within = (let a = are.next (h - 1) l at in let b = before.within in omega arith);
  left = λ p leads. elim (before.left p leads) [
    | inl m ↦ inl m
    | inr c ↦ elim (chain_split links h p l at c) [
      | inl same ↦ inl (ap (marked marks) same ∙ free)
      | inr r ↦ inr r
    ]
  ];
  chain = λ p c. before.chain p (chain_tail links h p l some at c);
}

pub seeking_found : (links : List Link) (heads : List ℕ) (t : ℕ) (marks : List Bool) (h : ℕ) (l : Link) → 0 < h
    → slice_get links (h - 1) ≡ Some l → marked marks l.source ≡ true → IsSeeking links heads t marks h
    → (p : ℕ) × Leading links heads p t × (marked marks p ≡ true)
seeking_found links heads t marks h l some at m before =
    (l.source, before.chain l.source (chain_head links h l some at), m)
