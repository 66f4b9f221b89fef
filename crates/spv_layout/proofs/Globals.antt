-- The instructions before the first OpFunction, by what a plan keeps.
use Rattle.std.proofs.Common.{◌≡◌, ◌∙◌, ◌<◌, ◌≤◌, ◌+◌, ◌-◌, ◌⊎◌, ℕ, nat_lt, List, [], ◌∷◌, refl, Bool, true, false, if◌then◌else◌, Some, None, inl, inr, length, map, ap, option_map, arith}
use Rattle.std.specs.Prelude.{slice_get}
use Rattle.std.proofs.lemmas.Bool.{cases_lt, ltb-true, lt-ltb}
use Rattle.std.proofs.lemmas.List.{length-append, length-map}
use Rattle.std.proofs.lemmas.Option.{slice_get_cases, slice_get_within}
use Rattle.spv_module.specs.Operand.{PlainInst}
use Rattle.spv_layout.specs.declared.class.Class.{Class}
use Rattle.spv_layout.specs.declared.class.Class.TheVariants.{Function}
use Rattle.spv_layout.specs.declared.place.Early.{Early}
use Rattle.spv_layout.specs.declared.place.Standing.{Standing}
use Rattle.spv_layout.specs.declared.place.Place.{Place}
use Rattle.spv_layout.specs.Class.{is_among, class_number}
use Rattle.spv_layout.specs.Layout.{classes}
use Rattle.spv_layout.specs.Rows.{class_of}
use Rattle.spv_layout.specs.Place.{IsAt, IsLast, IsOfSection, section_of}
use Rattle.spv_layout.specs.inner.Kept.{early_place, late_place, late_places, late_section, places_in, AreEarly}
use Rattle.spv_layout.specs.inner.Outcome.{ArePlacesOf}
use Rattle.spv_layout.specs.inner.Span.{no_number}
use Rattle.spv_layout.proofs.Spans.{at_moved}
use Rattle.spv_layout.specs.inner.Pass.{Begun, KeptEarly}
use Rattle.spv_layout.proofs.Keeping.{front_get, back_get, late_get, late_length, function_late, not_early}

-- a section of a class that stands in one alone
small_by : (b : Bool) (n s : ℕ) → nat_lt n 10 ≡ b → (if b then Some (1 + n) else None) ≡ Some s → s ≤ 10
small_by true n s b e = let l = ltb-true n 10 b in let q : 1 + n ≡ s = cc in omega arith
small_by false n s b e = cc

-- none that is kept of sections 1 to 8 stands at the first OpFunction or behind it
early_before : (is : List PlainInst) (functions : ℕ) (early : List Early) → ((k : ℕ) (e : Early) → slice_get early k ≡ Some e → KeptEarly is k e) → (functions ≡ no_number) ⊎ IsAt is functions (Function ∷ [])
    → length early < no_number → length early ≤ functions
early_before is functions early h (inl e) m = omega arith
early_before is functions early h (inr a) m = elim (slice_get_cases early functions).1 [
  | inl x ↦ absurd (not_early is functions Function x.0 function_late (h functions x.0 x.2) a)
  | inr x ↦ x.0
]

first_of : (is : List PlainInst) (n functions : ℕ) → Begun is n functions → (functions ≡ no_number) ⊎ IsAt is functions (Function ∷ [])
first_of is n functions b = elim b.there [ inl e ↦ inl e | inr p ↦ inr p.1 ]

pub are_early : (is : List PlainInst) (functions n : ℕ) (early : List Early) → ((k : ℕ) (e : Early) → slice_get early k ≡ Some e → KeptEarly is k e) → Begun is n functions
    → length early < no_number → AreEarly functions early
are_early is functions n early h b m = record {
  sections = λ k e g. let x = h k e g in small_by (nat_lt (class_number x.class) 10) (class_number x.class) e.section refl x.section;
  before = early_before is functions early h (first_of is n functions b) m;
}

pub places_length : (functions definitions : ℕ) (early : List Early) (late : List Standing) → length (places_in functions definitions early late) ≡ length early + length late
places_length functions definitions early late =
    let a = length-append (map early_place early) (late_places functions definitions (length early) late) in
    let b = length-map early early_place in
    let c = late_length functions definitions (length early) late in
    omega arith

-- an OpFunction is of none of the sections up to 9
late_class : (is : List PlainInst) (n : ℕ) (c : Class) → slice_get (classes is) n ≡ Some c → IsAt is n (Function ∷ []) → section_of c ≡ None
late_class is n c t a = let b : is_among c (Function ∷ []) ≡ true = rw t at a in function_late c b

own_last : (is : List PlainInst) (n : ℕ) (c : Class) → slice_get (classes is) n ≡ Some c → IsAt is n (Function ∷ []) → IsLast is Function n n
own_last is n c t a =
    let l = slice_get_within (classes is) n c t in
    let m = length-map is (λ i. class_of i.opcode) in
    record { within = omega arith; up_to = omega arith; there = a; last = λ k x y. absurd (omega arith) }

none_there : (is : List PlainInst) (n s : ℕ) → IsOfSection is n s → s ≤ 11 → IsAt is n (Function ∷ []) → ⊥
none_there is n _ (IsOfSection.early c s t e) m a = let x = late_class is n c t a in cc
none_there is n _ (IsOfSection.global c t e w) m a = w n (own_last is n c t a)
none_there is n _ (IsOfSection.declaration c f t e w d) m a = absurd (omega arith)
none_there is n _ (IsOfSection.definition c f t e w d) m a = absurd (omega arith)

-- no instruction that a place tells of a section up to 9 is an OpFunction
none_placed : (is : List PlainInst) (places : List Place) (n : ℕ) (p : Place) → ArePlacesOf is places → slice_get places n ≡ Some p → p.section ≤ 11 → IsAt is n (Function ∷ []) → ⊥
none_placed is places n p w g m a = none_there is n p.section (w n p g).section m a

globals_by : (b : Bool) (functions definitions n : ℕ) → nat_lt n functions ≡ b → n < functions → late_section functions definitions n ≤ 11
globals_by b functions definitions n e h = let t = lt-ltb n functions h in rw t (omega arith)

-- an instruction before the first OpFunction is none
pub none_before : (is : List PlainInst) (functions definitions : ℕ) (early : List Early) (late : List Standing) (n : ℕ) → AreEarly functions early → ArePlacesOf is (places_in functions definitions early late)
    → n < functions → n < length early + length late → IsAt is n (Function ∷ []) → ⊥
none_before is functions definitions early late n w p f m a =
    let places = places_in functions definitions early late in
    let rest = late_places functions definitions (length early) late in
    elim (cases_lt n (length early)) [
      | inl h ↦ elim (slice_get_cases early n).1 [
        | inl x ↦
            let g : slice_get places n ≡ Some (early_place x.0) = front_get early rest n h ∙ ap (option_map early_place) x.2 in
            let s = w.sections n x.0 x.2 in
            none_placed is places n (early_place x.0) p g (omega (arith, s)) a
        | inr x ↦ absurd (let y = x.0 in omega arith)
      ]
      | inr h ↦
          let k = n - length early in
          let e : n ≡ length early + k = omega arith in
          elim (slice_get_cases late k).1 [
            | inl x ↦
                let g : slice_get places n ≡ Some (late_place functions definitions n x.0) =
                back_get early rest n k e ∙ late_get functions definitions (length early) late n k e ∙ ap (option_map (late_place functions definitions n)) x.2 in
                none_placed is places n (late_place functions definitions n x.0) p g (globals_by (nat_lt n functions) functions definitions n refl f) a
            | inr x ↦ absurd (let y = x.0 in omega arith)
          ]
    ]

-- an instruction of sections 10 and 11 stands behind an OpFunction, or is one
begun_up_to : (is : List PlainInst) (n s : ℕ) → IsOfSection is n s → 12 ≤ s → (f : ℕ) × IsLast is Function n f
begun_up_to is n _ (IsOfSection.early c s t e) m =
    let l : s ≤ 10 = small_by (nat_lt (class_number c) 10) (class_number c) s refl e in
    absurd (omega (arith, l))
begun_up_to is n _ (IsOfSection.global c t e w) m = absurd (omega arith)
begun_up_to is n _ (IsOfSection.declaration c f t e w d) m = (f, w)
begun_up_to is n _ (IsOfSection.definition c f t e w d) m = (f, w)

later_by : (b : Bool) (n : ℕ) → 12 ≤ (if b then 12 else 13)
later_by true n = omega arith
later_by false n = omega arith

later : (a : Bool) (n definitions : ℕ) → nat_lt n n ≡ a → 12 ≤ (if a then 11 else if nat_lt n definitions then 12 else 13)
later true n definitions e = absurd (let l = ltb-true n n e in omega arith)
later false n definitions e = later_by (nat_lt n definitions) n

up_to_it : (is : List PlainInst) (functions definitions : ℕ) (early : List Early) (late : List Standing) → AreEarly functions early → ArePlacesOf is (places_in functions definitions early late)
    → functions < length early + length late → (f : ℕ) × IsLast is Function functions f
up_to_it is functions definitions early late w p l =
    let rest = late_places functions definitions (length early) late in
    let h = w.before in
    let k = functions - length early in
    let e : functions ≡ length early + k = omega arith in
    elim (slice_get_cases late k).1 [
      | inl x ↦
          let g : slice_get (places_in functions definitions early late) functions ≡ Some (late_place functions definitions functions x.0) =
          back_get early rest functions k e ∙ late_get functions definitions (length early) late functions k e ∙ ap (option_map (late_place functions definitions functions)) x.2 in
          begun_up_to is functions (late_section functions definitions functions) (p functions (late_place functions definitions functions x.0) g).section
          (later (nat_lt functions functions) functions definitions refl)
      | inr x ↦ absurd (let y = x.0 in omega arith)
    ]

-- the first instruction behind those is an OpFunction
pub function_next : (is : List PlainInst) (functions definitions : ℕ) (early : List Early) (late : List Standing) → AreEarly functions early → ArePlacesOf is (places_in functions definitions early late)
    → functions < length early + length late → IsAt is functions (Function ∷ [])
function_next is functions definitions early late w p l =
    let f = up_to_it is functions definitions early late w p l in
    let u = f.1.up_to in
    elim (cases_lt f.0 functions) [
      | inl h ↦ absurd (none_before is functions definitions early late f.0 w p h (omega arith) f.1.there)
      | inr h ↦ let e : f.0 ≡ functions = omega arith in at_moved is f.0 functions (Function ∷ []) e f.1.there
    ]
