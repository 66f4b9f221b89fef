-- Whether an OpFunction is that of a definition is told by its place.
use Rattle.std.proofs.Common.{◌≡◌, ◌<◌, ℕ, List, [], ◌∷◌, refl, Option, Some, None, true, false, IsTrue, length, arith}
use Rattle.std.specs.Prelude.{slice_get, MatchOption, IsSomeAnd}
use Rattle.spv_module.specs.Operand.{PlainInst}
use Rattle.spv_layout.specs.declared.class.Class.{Class}
use Rattle.spv_layout.specs.declared.class.Class.TheVariants.{Function}
use Rattle.spv_layout.specs.declared.place.Place.{Place}
use Rattle.spv_layout.specs.Class.{is_among}
use Rattle.spv_layout.specs.Layout.{classes}
use Rattle.spv_layout.specs.Place.{IsAt, IsLast, IsOfFunction, IsDefinition, IsOfSection, section_of}
use Rattle.spv_layout.specs.Plan.{IsPlaceOf}
use Rattle.spv_layout.proofs.Places.{last_same, function_same, section_same}

-- the OpFunction of a definition is of its function
last_here : (is : List PlainInst) (f : ℕ) → f < length is → IsAt is f (Function ∷ []) → IsLast is Function f f
last_here is f w a = record { within = w; up_to = omega arith; there = a; last = λ k l u. absurd (omega arith) }

of_here : (is : List PlainInst) (f : ℕ) → f < length is → IsAt is f (Function ∷ []) → IsOfFunction is f f
of_here is f w a = record { begun = last_here is f w a; not_ended = λ k l u. absurd (omega arith) }

own_function : (is : List PlainInst) (f : ℕ) (o : Option ℕ)
    → MatchOption o ((g : ℕ) → ¬ (IsOfFunction is f g)) (λ g. IsOfFunction is f g) → IsOfFunction is f f → o ≡ Some f
own_function is f None m h = absurd (m f h)
own_function is f (Some g) m h = let e = function_same is f g f m h in rw e refl

-- an OpFunction is of no class that stands in one section alone
no_section : (c : Class) → IsTrue (is_among c (Function ∷ [])) → section_of c ≡ None
no_section Function h = refl
no_section _ h = absurd (let no : false ≡ true = h in cc)

class_at : (o : Option Class) → IsSomeAnd o (λ c. IsTrue (is_among c (Function ∷ [])))
    → (c : Class) × (o ≡ Some c) × (section_of c ≡ None)
class_at None h = absurd h
class_at (Some c) h = (c, refl, no_section c h)

definition_section : (is : List PlainInst) (f s : ℕ) → IsOfSection is f s → IsLast is Function f f → IsDefinition is f
    → s ≡ 13
definition_section is f s o l d =
    let a = class_at (slice_get (classes is) f) l.there in
    section_same is f s 13 o (IsOfSection.definition a.0 f a.1 a.2 l d)

section_apart : (o : Option Class) (c d : Class) (s : ℕ) → o ≡ Some c → o ≡ Some d → section_of c ≡ Some s
    → section_of d ≡ None → ⊥
section_apart o c d s h g a b = let e : c ≡ d = cc in let a' : section_of d ≡ Some s = rw (← e) a in cc

section_definition : (is : List PlainInst) (f s : ℕ) → IsOfSection is f s → s ≡ 13 → IsLast is Function f f
    → IsDefinition is f
section_definition is f _ (IsOfSection.early c s h a) e l =
    let q = class_at (slice_get (classes is) f) l.there in
    absurd (section_apart (slice_get (classes is) f) c q.0 s h q.1 a q.2)
section_definition is f _ (IsOfSection.global c h a never) e l = absurd (never f l)
section_definition is f _ (IsOfSection.declaration c g h a m x) e l = absurd (let no : 12 ≡ 13 = e in omega arith)
section_definition is f _ (IsOfSection.definition c g h a m d) e l = let q = last_same is Function f g f m l in
    rw (← q) d

pub definition_tells : (is : List PlainInst) (f : ℕ) (p : Place) → IsPlaceOf is f p → IsDefinition is f
    → (p.function ≡ Some f) × (p.section ≡ 13)
definition_tells is f p place d =
    let b = d.of.begun in
    let w = b.within in
    let u = b.up_to in
    let l : f < length is = omega arith in (
      own_function is f p.function place.function (of_here is f l b.there),
      definition_section is f p.section place.section (last_here is f l b.there) d,
    )

pub tells_definition : (is : List PlainInst) (f : ℕ) (p : Place) → IsPlaceOf is f p → p.function ≡ Some f
    → p.section ≡ 13 → IsDefinition is f
tells_definition is f p place e s =
    let o : IsOfFunction is f f = rw e at place.function in
    section_definition is f p.section place.section s o.begun
