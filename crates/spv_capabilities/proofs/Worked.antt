-- What the small modules of the worked examples have.
use Rattle.std.proofs.Common.{◌≡◌, ◌≢◌, ◌∙◌, ◌⊎◌, ℕ, zero, suc, List, [], ◌∷◌, Option, Some, None, Contains, true}
use Rattle.std.proofs.Common.{false, refl, ap, sym, subst, inl, inr, codes, option_and_then, arith}
use Rattle.std.specs.Prelude.{slice_get}
use Rattle.spv_table.specs.declared.table.Enumerant.{Enumerant}
use Rattle.spv_table.specs.Table.{enumerant_of}
use Rattle.spv_table.specs.Lookups.{value_named, number_named}
use Rattle.spv_table.specs.Implied.{Lists, CapabilityChain, capabilities_in}
use Rattle.spv_table.proofs.Search.{in_cons}
use Rattle.spv_module.specs.Operand.{PlainInst}
use Rattle.spv_module.specs.declared.opcode.TheConstants as opcode
use Rattle.spv_layout.specs.declared.class.Class.TheVariants.{Function, FunctionEnd, Label}
use Rattle.spv_layout.specs.Rows.{rows}
use Rattle.spv_layout.specs.Place.{IsAt, IsDefinition}
use Rattle.spv_ids.specs.Definition.{IsDefinedAt}
use Rattle.spv_ids.specs.Order.{HasOpcode}
use Rattle.spv_capabilities.specs.Capable.{Has}
use Rattle.spv_capabilities.specs.Entry.{IsNamed, IsKernelFunction, called_by, entered_by, imported_by}
use Rattle.spv_capabilities.specs.Asked.{IsImported}
use Rattle.spv_capabilities.specs.inner.Entry.{IsCalled, IsEntered}
use Rattle.spv_capabilities.specs.Example.{small, vectors, images, linked, void_function, kernel, declaration}

-- the names that an enumerant lists
abbrev names_of : Option Enumerant → List (List ℕ)
names_of None = []
names_of (Some e) = e.capabilities

one_of : {A : Type 0} (y x : A) → Contains (y ∷ []) x → y ≡ x
one_of y x h = elim (in_cons y [] x h) [ inl same ↦ same | inr later ↦ absurd (omega (arith, later.1)) ]

none_of : {A : Type 0} (x : A) → ¬ (Contains [] x)
none_of x h = absurd (omega (arith, h.1))

-- Vector16 lists Kernel alone, and Kernel and Linkage list nothing
seven_lists : Lists small 7 6
seven_lists = record { enumerant = _; is = refl; name = _; listed = (0, omega arith, refl); names = refl }

by_seven : (a b : ℕ) → a ≡ 7 → Lists small a b → b ≡ 6
by_seven a b e l =
    let is : enumerant_of (capabilities_in small) 7 ≡ Some l.enumerant = subst
    (λ (n : ℕ). enumerant_of (capabilities_in small) n ≡ Some l.enumerant) e l.is in
    let names : l.enumerant.capabilities ≡ codes "Kernel" ∷ [] = sym (ap names_of is) in
    let same : codes "Kernel" ≡ l.name = one_of (codes "Kernel") l.name
    (subst (λ (ns : List (List ℕ)). Contains ns l.name) names l.listed) in
    let six : Some 6 ≡ value_named (capabilities_in small) l.name = ap (value_named (capabilities_in small)) same in
    let b' : Some 6 ≡ Some b = six ∙ l.names in
    cc

by_six : (a b : ℕ) → a ≡ 6 → Lists small a b → ⊥
by_six a b e l =
    let is : enumerant_of (capabilities_in small) 6 ≡ Some l.enumerant = subst
    (λ (n : ℕ). enumerant_of (capabilities_in small) n ≡ Some l.enumerant) e l.is in
    let names : l.enumerant.capabilities ≡ [] = sym (ap names_of is) in
    none_of l.name (subst (λ (ns : List (List ℕ)). Contains ns l.name) names l.listed)

by_five : (a b : ℕ) → a ≡ 5 → Lists small a b → ⊥
by_five a b e l =
    let is : enumerant_of (capabilities_in small) 5 ≡ Some l.enumerant = subst
    (λ (n : ℕ). enumerant_of (capabilities_in small) n ≡ Some l.enumerant) e l.is in
    let names : l.enumerant.capabilities ≡ [] = sym (ap names_of is) in
    none_of l.name (subst (λ (ns : List (List ℕ)). Contains ns l.name) names l.listed)

from_six : (a c : ℕ) → CapabilityChain small a c → a ≡ 6 → c ≡ 6
from_six _ _ (CapabilityChain.here a) e = e
from_six _ _ (CapabilityChain.step a b c l later) e = absurd (by_six a b e l)

from_seven : (a c : ℕ) → CapabilityChain small a c → a ≡ 7 → (c ≡ 7) ⊎ (c ≡ 6)
from_seven _ _ (CapabilityChain.here a) e = inl e
from_seven _ _ (CapabilityChain.step a b c l later) e = inr (from_six b c later (by_seven a b e l))

from_five : (a c : ℕ) → CapabilityChain small a c → a ≡ 5 → c ≡ 5
from_five _ _ (CapabilityChain.here a) e = e
from_five _ _ (CapabilityChain.step a b c l later) e = absurd (by_five a b e l)

-- there is no capability 13
by_thirteen : (a b : ℕ) → a ≡ 13 → Lists small a b → ⊥
by_thirteen a b e l =
    let is : enumerant_of (capabilities_in small) 13 ≡ Some l.enumerant = subst
    (λ (n : ℕ). enumerant_of (capabilities_in small) n ≡ Some l.enumerant) e l.is in
    let no : None ≡ Some l.enumerant = is in
    cc

from_thirteen : (a c : ℕ) → CapabilityChain small a c → a ≡ 13 → c ≡ 13
from_thirteen _ _ (CapabilityChain.here a) e = e
from_thirteen _ _ (CapabilityChain.step a b c l later) e = absurd (by_thirteen a b e l)

pub has_images : Has small images 13
has_images = record { first = 13; declares = (0, omega arith, refl); chain = CapabilityChain.here 13 }

pub no_read_write : ¬ (Has small images 14)
no_read_write h = let e = from_thirteen h.first 14 h.chain (sym (one_of 13 h.first h.declares)) in
    absurd (omega (arith, e))

pub has_kernel : Has small vectors 6
has_kernel = record {
  first = 7;
  declares = (0, omega arith, refl);
  chain = CapabilityChain.step 7 6 6 seven_lists (CapabilityChain.here 6);
}

pub has_vectors : Has small vectors 7
has_vectors = record { first = 7; declares = (0, omega arith, refl); chain = CapabilityChain.here 7 }

pub has_no_other : (c : ℕ) → c ≢ 7 → c ≢ 6 → ¬ (Has small vectors c)
has_no_other c a b h =
    elim (from_seven h.first c h.chain (sym (one_of 7 h.first h.declares))) [ inl e ↦ a e | inr e ↦ b e ]

pub has_linkage : Has small linked 5
has_linkage = record { first = 5; declares = (0, omega arith, refl); chain = CapabilityChain.here 5 }

pub has_no_kernel : ¬ (Has small linked 6)
has_no_kernel h = let e = from_five h.first 6 h.chain (sym (one_of 5 h.first h.declares)) in absurd (omega (arith, e))

-- which instructions there are
abbrev opcode_in : Option PlainInst → ℕ
opcode_in None = 0
opcode_in (Some i) = i.opcode

no_entry_at : (n : ℕ) → opcode_in (slice_get vectors n) ≡ opcode.ENTRY_POINT → ⊥
no_entry_at zero e = absurd (omega (arith, e))
no_entry_at (suc n) e = absurd (let no : 0 ≡ opcode.ENTRY_POINT = e in omega arith)

pub no_entry : (n : ℕ) → ¬ (HasOpcode vectors n opcode.ENTRY_POINT)
no_entry n h = no_entry_at n (ap opcode_in h.there ∙ h.same)

none_called : (p : ℕ) → option_and_then called_by (slice_get kernel p) ≡ None
none_called zero = refl
none_called (suc zero) = refl
none_called (suc (suc zero)) = refl
none_called (suc (suc (suc zero))) = refl
none_called (suc (suc (suc (suc p)))) = refl

none_entered : (p : ℕ) → option_and_then entered_by (slice_get void_function p) ≡ None
none_entered zero = refl
none_entered (suc zero) = refl
none_entered (suc (suc zero)) = refl
none_entered (suc (suc (suc p))) = refl

none_imported : (p : ℕ)
    → option_and_then (imported_by (number_named small (codes "LinkageType"))) (slice_get (declaration 0) p) ≡ None
none_imported zero = refl
none_imported (suc zero) = refl
none_imported (suc (suc zero)) = refl
none_imported (suc (suc (suc p))) = refl

not_named : (names : PlainInst → Option ℕ) (is : List PlainInst) (f : ℕ)
    → ((p : ℕ) → option_and_then names (slice_get is p) ≡ None) → ¬ (IsNamed names is f)
not_named names is f none n =
    let e : option_and_then names (slice_get is n.place) ≡ Some n.id = ap (option_and_then names) n.there ∙ n.named in
    absurd (let no : None ≡ Some n.id = sym (none n.place) ∙ e in cc)

pub not_called : (f : ℕ) → ¬ (IsCalled kernel f)
not_called f = not_named called_by kernel f none_called

pub not_entered : (f : ℕ) → ¬ (IsEntered void_function f)
not_entered f = not_named entered_by void_function f none_entered

pub not_imported : (f : ℕ) → ¬ (IsImported small (declaration 0) f)
not_imported f = not_named (imported_by (number_named small (codes "LinkageType"))) (declaration 0) f none_imported

-- the function of the kernel
pub defined : IsDefinedAt kernel 3 2
defined = record { inst = _; there = refl; result = refl }

pub definition : IsDefinition kernel 2
unfolding rows
definition = record {
  label = 3;
  there = refl;
  of = record {
    begun = record {
      within = omega arith;
      up_to = omega arith;
      there = refl;
      last = λ k l u h. let e : k ≡ 3 = omega arith in
          let a : IsAt kernel 3 (Function ∷ []) = subst (λ (n : ℕ). IsAt kernel n (Function ∷ [])) e h in
          absurd (let no : false ≡ true = a in cc);
    };
    not_ended = λ k l u h. let e : k ≡ 2 = omega arith in
        let a : IsAt kernel 2 (FunctionEnd ∷ []) = subst (λ (n : ℕ). IsAt kernel n (FunctionEnd ∷ [])) e h in
        absurd (let no : false ≡ true = a in cc);
  };
}

pub function : IsKernelFunction kernel 3
function = record {
  function = 2;
  defined = defined;
  definition = definition;
  void = record {
    inst = _;
    there = refl;
    type = 1;
    returns = refl;
    place = 1;
    defined = record { inst = _; there = refl; result = refl };
    void =
        record { inst = _; there = refl; same = refl };
  };
  uncalled = not_called 2;
}

-- a declaration has no label
no_label : (t p : ℕ) → IsAt (declaration t) p (Label ∷ []) → ⊥
unfolding rows
no_label t zero h = absurd (let no : false ≡ true = h in cc)
no_label t (suc zero) h = absurd (let no : false ≡ true = h in cc)
no_label t (suc (suc zero)) h = absurd (let no : false ≡ true = h in cc)
no_label t (suc (suc (suc p))) h = h

pub no_definition : (t : ℕ) → ¬ (IsDefinition (declaration t) 1)
no_definition t d = no_label t d.label d.there
