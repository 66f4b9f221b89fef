-- Variables and definitions, by where instructions stand.
use Rattle.std.proofs.Common.{◌≡◌, ◌≤◌, ◌+◌, ℕ, List, [], ◌∷◌, Bool, true, false, Option, Some, None, refl}
use Rattle.std.proofs.Common.{ap, subst, arith, nat_eq, nat_lt, if◌then◌else◌}
use Rattle.std.specs.Prelude.{slice_get, IsSomeAnd, IsTrue}
use Rattle.std.proofs.lemmas.Bool.{eqb-true, ltb-true}
use Rattle.spv_module.specs.declared.opcode.TheConstants as opcode
use Rattle.spv_module.specs.Operand.{PlainInst}
use Rattle.spv_layout.specs.declared.class.Class.{Class}
use Rattle.spv_layout.specs.declared.class.Class.TheVariants.{Function}
use Rattle.spv_layout.specs.Class.{is_among, class_number}
use Rattle.spv_layout.specs.Layout.{classes}
use Rattle.spv_layout.specs.Place.{IsDefinition, IsLast, IsOfFunction, IsOfSection, section_of}
use Rattle.spv_layout.proofs.Places.{last_same, section_same, function_same}
use Rattle.spv_type_forms.specs.Definitions.{IsGlobal}
use Rattle.spv_flow.proofs.lemmas.calls.Insts.{same_inst}
use Rattle.spv_interfaces.specs.inner.Uses.{IsInDefinition}

-- An instruction that is no variable, by its opcode.
pub no_variable : (is : List PlainInst) (n : ℕ) (i : PlainInst) → slice_get is n ≡ Some i
    → (i.opcode ≡ opcode.VARIABLE → ⊥) → (x : ℕ) (g : IsGlobal is x) → ¬ (g.place ≡ n)
no_variable is n i there other x g e =
    let at : slice_get is n ≡ Some g.defined.inst =
    subst (λ (m : ℕ). slice_get is m ≡ Some g.defined.inst) e g.defined.there in
    let same = same_inst is n g.defined.inst i at there in
    other (subst (λ (j : PlainInst). j.opcode ≡ opcode.VARIABLE) same g.variable)

-- The section of a class, by the number of the class.
early_low : (b : Bool) (k s : ℕ) → nat_lt k 10 ≡ b → (if b then Some (1 + k) else None) ≡ Some s → s ≤ 10
early_low true k s t e =
    let l = ltb-true k 10 t in
    let q : 1 + k ≡ s = cc in
    omega (arith, l, q)
early_low false k s t e = absurd cc

pub low_section : (c : Class) (s : ℕ) → section_of c ≡ Some s → s ≤ 10
low_section c s e = early_low (nat_lt (class_number c) 10) (class_number c) s refl e

definition_moved : (is : List PlainInst) (f g : ℕ) → f ≡ g → IsDefinition is f → IsDefinition is g
definition_moved is f g e d = subst (λ (h : ℕ). IsDefinition is h) e d

-- an OpFunction in section 11 is a definition's
of_section : (is : List PlainInst) (n s f : ℕ) → s ≡ 13 → IsOfSection is n s → IsLast is Function n f
    → IsDefinition is f
of_section is n _ f e (IsOfSection.early c s h k) l = let w = low_section c s k in absurd (omega (arith, e, w))
of_section is n _ f e (IsOfSection.global c h k g) l = absurd (omega (arith, e))
of_section is n _ f e (IsOfSection.declaration c g h k m x) l = absurd (omega (arith, e))
of_section is n _ f e (IsOfSection.definition c g h k m d) l =
    definition_moved is g f (last_same is Function n g f m l) d

-- the last OpFunction up to one is itself
last_itself : (is : List PlainInst) (n f : ℕ) → IsLast is Function n f → IsLast is Function f f
last_itself is n f l =
    let w = l.within in
    let u = l.up_to in
    record {
      within = omega (arith, w, u);
      up_to = omega arith;
      there = l.there;
      last = λ k p q h. absurd (omega (arith, p, q));
    }

-- the class of an OpFunction
class_there : (o : Option Class) → IsSomeAnd o (λ c. IsTrue (is_among c (Function ∷ [])))
    → (c : Class) × (o ≡ Some c) × (is_among c (Function ∷ []) ≡ true)
class_there None h = absurd h
class_there (Some c) h = (c, refl, h)

same_number : (c : Class) → is_among c (Function ∷ []) ≡ true → class_number c ≡ class_number Function
same_number c h = by_test (nat_eq (class_number c) (class_number Function)) refl h where
  by_test : (b : Bool) → nat_eq (class_number c) (class_number Function) ≡ b → is_among c (Function ∷ []) ≡ true
      → class_number c ≡ class_number Function
  by_test true e t = eqb-true (class_number c) (class_number Function) e
  by_test false e t = let u = rw e at t in cc

late_function : (c : Class) → is_among c (Function ∷ []) ≡ true → section_of c ≡ None
late_function c h = ap (λ (k : ℕ). if nat_lt k 10 then Some (1 + k) else None) (same_number c h)

-- a definition's OpFunction is in section 11
in_section : (is : List PlainInst) (f s : ℕ) → IsLast is Function f f → IsDefinition is f → IsOfSection is f s → s ≡ 13
in_section is f s l d of =
    let c = class_there (slice_get (classes is) f) l.there in
    section_same is f s 13 of (IsOfSection.definition c.0 f c.1 (late_function c.0 c.2) l d)

-- the definition of an instruction, by the section of its OpFunction
pub by_function : (is : List PlainInst) (n f s : ℕ) → IsOfFunction is n f → IsOfSection is f s → s ≡ 13
    → IsInDefinition is n f
by_function is n f s of at e = record {
  of = of;
  definition = of_section is f s f e at (last_itself is n f of.begun);
}

pub by_other : (is : List PlainInst) (n f s : ℕ) → IsOfFunction is n f → IsOfSection is f s → (s ≡ 13 → ⊥)
    → (g : ℕ) → ¬ (IsInDefinition is n g)
by_other is n f s of at apart g d =
    let same : g ≡ f = function_same is n g f d.of of in
    apart (in_section is f s (last_itself is n f of.begun) (definition_moved is g f same d.definition) at)

pub by_none : (is : List PlainInst) (n : ℕ) → ((f : ℕ) → ¬ (IsOfFunction is n f)) → (g : ℕ) → ¬ (IsInDefinition is n g)
by_none is n never g d = never g d.of

-- an instruction of a function stands behind its OpFunction
pub function_below : (is : List PlainInst) (n f : ℕ) → IsOfFunction is n f → f ≤ n
function_below is n f of = of.begun.up_to
