use Rattle.std.proofs.Common.{◌≡◌, ℕ, List, [], ◌∷◌, Option, Some, None, Contains, length, refl, ap, sym, subst, inl, inr, codes, arith}
use Rattle.spv_table.specs.declared.table.Enumerant.{Enumerant}
use Rattle.spv_table.specs.Table.{enumerant_of}
use Rattle.spv_table.specs.Lookups.{value_named}
use Rattle.spv_table.specs.Implied.{Lists, CapabilityChain, capabilities_in}
use Rattle.spv_table.specs.Example.{capability_table}
use Rattle.spv_table.proofs.Search.{in_cons}
use Rattle.spv_table.proofs.laws.capability_examples.Goals as goal

three : Lists capability_table 3 2
three = record { enumerant = _; is = refl; name = _; listed = (0, omega arith, refl); names = refl }

two : Lists capability_table 2 1
two = record { enumerant = _; is = refl; name = _; listed = (0, omega arith, refl); names = refl }

-- how many names an enumerant has
abbrev count : Option Enumerant → ℕ
count None = 0
count (Some e) = length e.capabilities

nothing_by_one : (a b : ℕ) → a ≡ 1 → Lists capability_table a b → ⊥
nothing_by_one a b e l =
    let P : ℕ → Type 0 = λ n. enumerant_of (capabilities_in capability_table) n ≡ Some l.enumerant in
    let none : 0 ≡ length l.enumerant.capabilities = ap count (subst P e l.is) in
    omega (arith, none, l.listed.1)

one_alone : (a c : ℕ) → CapabilityChain capability_table a c → a ≡ 1 → c ≡ 1
one_alone _ _ (CapabilityChain.here a) e = e
one_alone _ _ (CapabilityChain.step a b c l later) e = absurd (nothing_by_one a b e l)

-- the names that an enumerant lists
abbrev listed_by : Option Enumerant → List (List ℕ)
listed_by None = []
listed_by (Some e) = e.capabilities

one_of : {A : Type 0} (y x : A) → Contains (y ∷ []) x → y ≡ x
one_of y x h = elim (in_cons y [] x h) [ inl same ↦ same | inr later ↦ absurd (omega (arith, later.1)) ]

unknown : (c : ℕ) → Lists capability_table 4 c → ⊥
unknown c l =
    let P : List (List ℕ) → Type 0 = λ names. Contains names l.name in
    let names : l.enumerant.capabilities ≡ codes "X" ∷ [] = sym (ap listed_by l.is) in
    let same : codes "X" ≡ l.name = one_of (codes "X") l.name (subst P names l.listed) in
    let none : None ≡ value_named (capabilities_in capability_table) l.name = ap (value_named (capabilities_in capability_table)) same in
    let some = l.names in
    absurd (cc)

pub returns : goal.returns
returns c = record {
  listed = three;
  implied = record { first = 3; declares = (0, omega arith, refl); chain = CapabilityChain.step 3 2 1 three (CapabilityChain.step 2 1 1 two (CapabilityChain.here 1)) };
  not_backward = λ i. let e = one_alone i.first 3 i.chain (sym (one_of 1 i.first i.declares)) in omega (arith, e);
  declared = record { first = 9; declares = (0, omega arith, refl); chain = CapabilityChain.here 9 };
  unknown_name = unknown;
  no_kind = λ a c l. let none : None ≡ Some l.enumerant = l.is in absurd (cc);
}
