-- What E2 demands, by the one definition of an id.
use Rattle.std.proofs.Common.{◌≡◌, ◌↔◌, ℕ, List, refl, sym, Some, None, Bool, true, false, IsTrue, nat_eq, length, ◌<◌}
use Rattle.std.proofs.Common.{◌∙◌}
use Rattle.std.specs.Prelude.{slice_get}
use Rattle.std.proofs.lemmas.Bool.{eqb-true, eq-eqb}
use Rattle.std.proofs.lemmas.Option.{slice_get_within}
use Rattle.spv_module.specs.Operand.{PlainInst, type_in}
use Rattle.spv_module.specs.declared.opcode.TheConstants as opcode
use Rattle.spv_layout.specs.Place.{IsDefinition}
use Rattle.spv_ids.specs.Definition.{IsDefinedAt}
use Rattle.spv_ids.specs.Order.{HasOpcode}
use Rattle.spv_ids.specs.Outcome.{IsDefinitionOf}
use Rattle.spv_capabilities.specs.Entry.{ReturnsVoid, IsKernelFunction}
use Rattle.spv_capabilities.specs.inner.Entry.{IsCalled, IsEntered}

no_truth : {P : Type 0} → IsTrue false → P
no_truth t = absurd (let no : false ≡ true = t in cc)

moved : (is : List PlainInst) (m n o : ℕ) → m ≡ n → HasOpcode is m o → HasOpcode is n o
moved is m n o e h = rw (← e) h

at_opcode : (is : List PlainInst) (n o : ℕ) (i : PlainInst) → slice_get is n ≡ Some i → HasOpcode is n o
    → nat_eq i.opcode o ≡ true
at_opcode is n o i h k =
    let s : k.inst ≡ i = cc (h, k.there) in
    let e : i.opcode ≡ o = rw s at k.same in
    eq-eqb i.opcode o e

has_opcode : (is : List PlainInst) (n o : ℕ) (i : PlainInst) → slice_get is n ≡ Some i → nat_eq i.opcode o ≡ true
    → HasOpcode is n o
has_opcode is n o i h t = record { inst = i; there = h; same = eqb-true i.opcode o t }

-- The id is that of an OpTypeVoid.
abbrev pub IsVoid : List PlainInst → ℕ → Type 0
IsVoid is x = (n : ℕ) × IsDefinedAt is x n × HasOpcode is n opcode.TYPE_VOID

pub void_tells : (is : List PlainInst) (x m : ℕ) (i : PlainInst) → IsDefinitionOf is x (Some m)
    → slice_get is m ≡ Some i → IsTrue (nat_eq i.opcode opcode.TYPE_VOID) ↔ IsVoid is x
void_tells is x m i one h = (
  λ t. (m, one.there, has_opcode is m opcode.TYPE_VOID i h t),
  λ v. at_opcode is m opcode.TYPE_VOID i h (moved is v.0 m opcode.TYPE_VOID (one.only v.0 v.1) v.2),
)

pub no_void : (is : List PlainInst) (x : ℕ) → IsDefinitionOf is x None → IsTrue false ↔ IsVoid is x
no_void is x never = (λ t. no_truth t, λ v. absurd (never v.0 v.1))

pub one_within : (is : List PlainInst) (x m : ℕ) → IsDefinitionOf is x (Some m) → m < length is
one_within is x m one = slice_get_within is m one.there.inst one.there.there

-- the result type of an instruction
pub returns_tells : (is : List PlainInst) (f x : ℕ) (i : PlainInst) (b : Bool) → slice_get is f ≡ Some i
    → type_in i.operands ≡ Some x → IsTrue b ↔ IsVoid is x → IsTrue b ↔ ReturnsVoid is f
returns_tells is f x i b h e v = (
  λ t. let n = v.0 t in record { inst = i; there = h; type = x; returns = e; place = n.0; defined = n.1; void = n.2 },
  λ r.
      let s : r.inst ≡ i = cc (h, r.there) in
      let y : type_in i.operands ≡ Some r.type = rw s at r.returns in
      let q : r.type ≡ x = cc in
      let d : IsDefinedAt is x r.place = rw q at r.defined in
      v.1 (r.place, d, r.void),
)

pub no_returns : (is : List PlainInst) (f : ℕ) (i : PlainInst) → slice_get is f ≡ Some i → type_in i.operands ≡ None
    → IsTrue false ↔ ReturnsVoid is f
no_returns is f i h e = (
  λ t. no_truth t,
  λ r.
      let s : r.inst ≡ i = cc (h, r.there) in
      let y : type_in i.operands ≡ Some r.type = rw s at r.returns in
      absurd (let no : None ≡ Some r.type = sym e ∙ y in cc),
)

-- a function that may be entered
pub kernel_tells : (is : List PlainInst) (x f : ℕ) (b : Bool) → IsDefinitionOf is x (Some f)
    → IsTrue b ↔ (IsDefinition is f × ReturnsVoid is f × (¬ (IsCalled is f))) → IsTrue b ↔ IsKernelFunction is x
kernel_tells is x f b one e = (
  λ t. let k = e.0 t in record { function = f; defined = one.there; definition = k.0; void = k.1; uncalled = k.2 },
  λ k. let s : k.function ≡ f = one.only k.function k.defined in
      e.1 (rw s at k.definition, rw s at k.void, rw s at k.uncalled),
)

pub no_kernel : (is : List PlainInst) (x : ℕ) → IsDefinitionOf is x None → IsTrue false ↔ IsKernelFunction is x
no_kernel is x never = (λ t. no_truth t, λ k. absurd (never k.function k.defined))

pub entered_tells : (is : List PlainInst) (x f : ℕ) (b : Bool) → IsDefinitionOf is x (Some f)
    → IsTrue b ↔ IsEntered is f → IsTrue b ↔ ((g : ℕ) × IsDefinedAt is x g × IsEntered is g)
entered_tells is x f b one e = (
  λ t. (f, one.there, e.0 t),
  λ g. let s : g.0 ≡ f = one.only g.0 g.1 in e.1 (rw s at g.2),
)

pub not_entered_tells : (is : List PlainInst) (x : ℕ) → IsDefinitionOf is x None
    → IsTrue false ↔ ((g : ℕ) × IsDefinedAt is x g × IsEntered is g)
not_entered_tells is x never = (λ t. no_truth t, λ g. absurd (never g.0 g.1))

pub not_imported_tells : (b : Bool) (P Q : Type 0) → ¬ P → IsTrue b ↔ Q → IsTrue b ↔ (P ↔ (¬ Q))
not_imported_tells true P Q n e = (λ t. (λ p. absurd (n p), λ m. absurd (m (e.0 refl))), λ h. refl)
not_imported_tells false P Q n e = (λ t. no_truth t, λ h. absurd (n (h.1 (λ q. no_truth (e.1 q)))))
