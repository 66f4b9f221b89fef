-- Definitions, by where instructions stand.
use Rattle.std.proofs.Common.{◌≡◌, ◌∙◌, ℕ, List, refl, ap, Option, Some, None, arith}
use Rattle.std.specs.Prelude.{slice_get, option_map, MatchOption}
use Rattle.std.proofs.lemmas.Option.{slice_get-map}
use Rattle.spv_module.specs.declared.opcode.TheConstants as opcode
use Rattle.spv_module.specs.Operand.{PlainInst}
use Rattle.spv_layout.specs.declared.class.Class.{Class}
use Rattle.spv_layout.specs.declared.class.Class.TheVariants.{Capability, Extension, Import, MemoryModel, EntryPoint}
use Rattle.spv_layout.specs.declared.class.Class.TheVariants.{ExecutionMode, Source, Name, Processed, Decoration}
use Rattle.spv_layout.specs.declared.class.Class.TheVariants.{Function}
use Rattle.spv_layout.specs.declared.place.Place.{Place}
use Rattle.spv_layout.specs.Rows.{rows, class_of}
use Rattle.spv_layout.specs.Place.{IsOfFunction, IsOfSection, IsDefinition, section_of}
use Rattle.spv_layout.proofs.Places.{last_same, section_same}
use Rattle.spv_flow.specs.calls.inner.Found.{ArePlaces, IsLate, IsOfDefinition}

-- a definition's OpFunction is of it
pub of_itself : (is : List PlainInst) (f : ℕ) → IsDefinition is f → IsOfFunction is f f
of_itself is f d =
    let b = d.of.begun in
    let w = b.within in
    let u = b.up_to in
    record {
      begun = record {
        within = omega arith;
        up_to = omega arith;
        there = b.there;
        last = λ k l h. absurd (omega (arith, l, h));
      };
      not_ended = λ k l h. absurd (omega (arith, l, h));
    }

call_late_class : section_of (class_of opcode.FUNCTION_CALL) ≡ None
unfolding rows
call_late_class = refl

pub call_late : (is : List PlainInst) (n : ℕ) (i : PlainInst) → slice_get is n ≡ Some i
    → i.opcode ≡ opcode.FUNCTION_CALL → IsLate is n
call_late is n i h o = record {
  class = class_of i.opcode;
  there = slice_get-map (λ j. class_of j.opcode) is n ∙ ap (option_map (λ j. class_of j.opcode)) h;
  late = rw o call_late_class;
}

-- an instruction of a definition stands in section 11
in_section : (is : List PlainInst) (n s f : ℕ) → IsLate is n → IsOfDefinition is n f → IsOfSection is n s → s ≡ 13
in_section is n s f l d h =
    section_same is n s 13 h (IsOfSection.definition l.class f l.there l.late d.of.begun d.definition)

early_low : (c : Class) (s : ℕ) → section_of c ≡ Some s → s ≡ 13 → ⊥
early_low Capability s h e = let a : 1 ≡ s = cc in omega (arith, a, e)
early_low Extension s h e = let a : 2 ≡ s = cc in omega (arith, a, e)
early_low Import s h e = let a : 3 ≡ s = cc in omega (arith, a, e)
early_low MemoryModel s h e = let a : 4 ≡ s = cc in omega (arith, a, e)
early_low EntryPoint s h e = let a : 5 ≡ s = cc in omega (arith, a, e)
early_low ExecutionMode s h e = let a : 6 ≡ s = cc in omega (arith, a, e)
early_low Source s h e = let a : 7 ≡ s = cc in omega (arith, a, e)
early_low Name s h e = let a : 8 ≡ s = cc in omega (arith, a, e)
early_low Processed s h e = let a : 9 ≡ s = cc in omega (arith, a, e)
early_low Decoration s h e = let a : 10 ≡ s = cc in omega (arith, a, e)
early_low _ s h e = cc

definition_moved : (is : List PlainInst) (f g : ℕ) → f ≡ g → IsDefinition is f → IsDefinition is g
definition_moved is f g e d = rw (← e) d

-- a function in section 11 is a definition
of_section : (is : List PlainInst) (n s f : ℕ) → s ≡ 13 → IsOfSection is n s → IsOfFunction is n f → IsDefinition is f
of_section is n _ f e (IsOfSection.early c s h k) o = absurd (early_low c s k e)
of_section is n _ f e (IsOfSection.global c h k g) o = absurd (omega (arith, e))
of_section is n _ f e (IsOfSection.declaration c g h k l x) o = absurd (omega (arith, e))
of_section is n _ f e (IsOfSection.definition c g h k l d) o =
    definition_moved is g f (last_same is Function n g f l o.begun) d

told_function : (is : List PlainInst) (n : ℕ) (o : Option ℕ) (s : ℕ) → s ≡ 13 → IsOfSection is n s
    → MatchOption o ((f : ℕ) → ¬ (IsOfFunction is n f)) (λ f. IsOfFunction is n f)
    → MatchOption o ((f : ℕ) → IsLate is n → ¬ (IsOfDefinition is n f)) (IsOfDefinition is n)
told_function is n None s e h m = λ f l d. m f d.of
told_function is n (Some f) s e h m = record { of = m; definition = of_section is n s f e h m }

-- what the place of an instruction says of its definition
pub told_definition : (is : List PlainInst) (places : List Place) (n : ℕ) (p : Place) → ArePlaces is places
    → slice_get places n ≡ Some p → p.section ≡ 13
    → MatchOption p.function ((f : ℕ) → IsLate is n → ¬ (IsOfDefinition is n f)) (IsOfDefinition is n)
told_definition is places n p a h e = let t = a.place n p h in
    told_function is n p.function p.section e t.section t.function

pub told_no_definition : (is : List PlainInst) (places : List Place) (n f : ℕ) (p : Place) → ArePlaces is places
    → slice_get places n ≡ Some p → (p.section ≡ 13 → ⊥)
    → IsLate is n → ¬ (IsOfDefinition is n f)
told_no_definition is places n f p a h e l d = let t = a.place n p h in e (in_section is n p.section f l d t.section)
