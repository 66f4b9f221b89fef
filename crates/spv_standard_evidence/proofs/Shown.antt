-- The worked example of interfaces.
use Rattle.std.proofs.Common.{◌≡◌, ◌≤◌, ℕ, List, [], ◌∷◌, length, refl, sym, subst, arith}
use Rattle.spv_table.specs.Table.{Table}
use Rattle.spv_module.specs.Operand.{Plain, PlainInst}
use Rattle.spv_module.specs.declared.fault.Rule.{Rule}
use Rattle.spv_module.specs.declared.fault.Rule.TheVariants.{O4}
use Rattle.spv_layout.specs.declared.form.Role.TheVariants as role
use Rattle.spv_layout.specs.Place.{IsOfFunction}
use Rattle.spv_layout.proofs.Places.{function_same}
use Rattle.spv_flow.specs.branches.Example.{negation}
use Rattle.spv_flow.specs.calls.Chain.{alone, more}
use Rattle.spv_flow.specs.calls.Example.{function}
use Rattle.spv_flow_evidence.specs.calls.Evidence.{IsCallChain, IsShortestOf}
use Rattle.spv_evidence.specs.declared.evidence.Evidence.{Evidence}
use Rattle.spv_evidence.specs.declared.evidence.Evidence.TheVariants.{NotInInterface}
use Rattle.spv_interfaces.specs.Example.{entry, faced}
use Rattle.spv_interfaces.specs.Interface.{IsInTree}
use Rattle.spv_interfaces.proofs.Worked.{called, global, none_named, of_second, only_at, second_definition, value_used}
use Rattle.spv_standard_evidence.specs.Interfaces.{IsEvidence, Shows}

-- chains have a function, and those from one function to another have two
chain_some : (is : List PlainInst) (g f : ℕ) (fs : List ℕ) → IsCallChain is g f fs → 1 ≤ length fs
chain_some is g _ _ IsCallChain.alone = omega arith
chain_some is g _ _ (IsCallChain.next f h rest k c) = omega arith

chain_two : (is : List PlainInst) (g f : ℕ) (fs : List ℕ) → (f ≡ g → ⊥) → IsCallChain is g f fs → 2 ≤ length fs
chain_two is g _ _ apart IsCallChain.alone = absurd (apart refl)
chain_two is g _ _ apart (IsCallChain.next f h rest k c) = let l = chain_some is g h rest c in omega (arith, l)

-- one of a single function is to that
chain_one : (is : List PlainInst) (g f h : ℕ) (fs : List ℕ) → IsCallChain is g f fs → fs ≡ h ∷ [] → g ≡ h
chain_one is g _ h _ IsCallChain.alone e = cc
chain_one is g _ h _ (IsCallChain.next f k rest c d) e =
    let q : rest ≡ [] = cc in
    let l = chain_some is g k rest d in
    let n : length rest ≡ 0 = subst (λ (r : List ℕ). length r ≡ 0) (sym q) refl in
    absurd (omega (arith, l, n))

-- the chain from the entry point's function to the one that uses the variable
to_user : IsShortestOf (IsCallChain (faced []) 7 2) (2 ∷ 7 ∷ [])
to_user = record {
  holds = IsCallChain.next 2 7 (7 ∷ []) (called []) IsCallChain.alone;
  least = λ other c. chain_two (faced []) 7 2 other (λ e. absurd (omega (arith, e))) c;
}

pub unnamed : (G : Table) → IsEvidence G 4 (faced []) O4 0 (NotInInterface 1 (2 ∷ 7 ∷ []) 9)
unnamed G =
    let g = global [] in
    let t : IsInTree G (faced []) 1 9 = record {
      root = 2;
      defined = record { inst = function 1; there = refl; result = refl };
      function = 7;
      chain = more 2 7 alone (called []);
      definition = second_definition [];
      inst = 9;
      of = of_second [] 9 (omega arith) (omega arith);
      operand = 2;
      role = role.Value;
      used = record { inst = negation 6 9; there = refl; used = value_used G 6 9 };
      variable = g;
    } in
    let place : g.place ≡ 1 = only_at [] g.place g.defined.inst g.defined.there g.variable in
    IsEvidence.misfaced 0 1 (entry []) [] (NotInInterface 1 (2 ∷ 7 ∷ []) 9) refl refl
    (subst (λ (p : ℕ). Shows G 4 (faced []) 1 [] (NotInInterface p (2 ∷ 7 ∷ []) 9)) place
    (Shows.unnamed 9 t (2 ∷ 7 ∷ []) (omega arith) (none_named 9) to_user))

-- the entry point's function alone does not
by_shown : (G : Table) (f : ℕ) (os : List Plain) (e : Evidence) (v : ℕ) → e ≡ NotInInterface v (2 ∷ []) 9
    → Shows G 4 (faced []) f os e → ⊥
by_shown G f os _ v same (Shows.twice x t l) = cc
by_shown G f os _ v same (Shows.inner x class n l of a b) = cc
by_shown G f os _ v same (Shows.unnamed x t calls l never s) =
    let q : calls ≡ 2 ∷ [] = cc in
    let i : t.inst ≡ 9 = cc in
    let g : t.function ≡ 2 = chain_one (faced []) t.function t.root 2 calls s.holds q in
    let of : IsOfFunction (faced []) 9 2 = subst (λ (k : ℕ). IsOfFunction (faced []) 9 k) g
    (subst (λ (k : ℕ). IsOfFunction (faced []) k t.function) i t.of) in
    let no : 2 ≡ 7 = function_same (faced []) 9 2 7 of (of_second [] 9 (omega arith) (omega arith)) in
    absurd (omega (arith, no))
by_shown G f os _ v same (Shows.unnamed_outside x t calls l out never s) = absurd (omega (arith, l))

by_evidence : (G : Table) (r : Rule) (n : ℕ) (e : Evidence) → e ≡ NotInInterface 1 (2 ∷ []) 9
    → IsEvidence G 4 (faced []) r n e → ⊥
by_evidence G _ _ _ same (IsEvidence.misfaced n f i os e there faced s) = by_shown G f os e 1 same s

pub elsewhere : (G : Table) → ¬ (IsEvidence G 4 (faced []) O4 0 (NotInInterface 1 (2 ∷ []) 9))
elsewhere G h = by_evidence G O4 0 (NotInInterface 1 (2 ∷ []) 9) refl h
