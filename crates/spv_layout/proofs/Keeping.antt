-- What the pass keeps of each instruction gives its place.
use Rattle.std.proofs.Common.{◌≡◌, ◌∙◌, ◌<◌, ◌≤◌, ◌+◌, ◌-◌, ◌++◌, ◌⊎◌, ℕ, zero, suc, nat_lt, List, [], ◌∷◌, refl, sym, ap, Bool, true, false, not, if◌then◌else◌, Option, Some, None, inl, inr, length, map, get_or, option_map, arith}
use Rattle.std.specs.Prelude.{slice_get, MatchOption, is_none}
use Rattle.std.proofs.lemmas.Bool.{cases_lt, ltb-true, lt-ltb}
use Rattle.std.proofs.lemmas.List.{length-append, length-map}
use Rattle.std.proofs.lemmas.Option.{slice_get-get_or, slice_get_read, slice_get-map, slice_get_within}
use Rattle.spv_table.specs.Table.{Table}
use Rattle.spv_module.specs.declared.module.Inst.{Inst}
use Rattle.spv_module.specs.Operand.{PlainInst}
use Rattle.spv_module.specs.Module.{plain_inst}
use Rattle.spv_module.specs.declared.profile.Profile.{Profile}
use Rattle.spv_layout.specs.declared.class.Class.{Class}
use Rattle.spv_layout.specs.declared.class.Class.TheVariants.{Function, FunctionEnd, Label}
use Rattle.spv_layout.specs.declared.state.State.{State}
use Rattle.spv_layout.specs.declared.state.State.TheVariants as at
use Rattle.spv_layout.specs.declared.span.Spans.{Spans}
use Rattle.spv_layout.specs.declared.place.Place.{Place}
use Rattle.spv_layout.specs.declared.place.Early.{Early}
use Rattle.spv_layout.specs.declared.place.Standing.{Standing}
use Rattle.spv_layout.specs.Class.{is_among}
use Rattle.spv_layout.specs.Rows.{class_of}
use Rattle.spv_layout.specs.Layout.{IsLayout, classes, seen}
use Rattle.spv_layout.specs.Shape.{FitsShape}
use Rattle.spv_layout.specs.Place.{IsAt, IsLast, IsWithin, IsDefinition, IsOfSection, terminators, section_of, first_word_of}
use Rattle.spv_layout.specs.Plan.{IsPlaceOf, IsPlan}
use Rattle.spv_layout.specs.inner.Pass.{SpannedTo, Begun, Defined, Follows, Stands, Kept, KeptEarly, KeptLate, is_definition}
use Rattle.spv_layout.specs.inner.Kept.{early_place, late_place, late_places, places_in, early_with, late_with}
use Rattle.spv_layout.specs.inner.Span.{Span, UpTo, no_number, mark}
use Rattle.spv_layout.specs.inner.State.{is_first, may_stop, next_of}
use Rattle.spv_layout.proofs.Spans.{within}
use Rattle.spv_layout.proofs.Following.{Fine, fine_seen, implies}

-- the class of an instruction of a slice
pub class_there : (insts : List Inst) (n : ℕ) (i : Inst) → n < length insts → i ≡ get_or insts n i → slice_get (classes (map plain_inst insts)) n ≡ Some (class_of i.opcode)
class_there insts n i h e =
    let a : slice_get insts n ≡ Some i = slice_get_read insts (length insts) n i refl h e in
    rw (slice_get-map (λ j. class_of j.opcode) (map plain_inst insts) n, slice_get-map plain_inst insts n, a) refl

-- an element of a list with one more at its end
pushed : {A : Type 0} → (xs : List A) (x : A) (k : ℕ) (y : A) → slice_get (xs ++ (x ∷ [])) k ≡ Some y → (slice_get xs k ≡ Some y) ⊎ ((k ≡ length xs) × (x ≡ y))
pushed [] x zero y e = inr (refl, cc)
pushed [] x (suc k) y e = cc
pushed (z ∷ xs) x zero y e = inl e
pushed (z ∷ xs) x (suc k) y e = elim (pushed xs x k y e) [ inl h ↦ inl h | inr p ↦ inr (ap suc p.0, p.1) ]

pub none_kept : (is : List PlainInst) (s : State) (early : List Early) (late : List Standing) → early ≡ [] → late ≡ [] → Kept is 0 s early late
none_kept is s early late e l = record {
  count = rw (e, l) refl;
  each_early = λ k x h. let h' : slice_get [] k ≡ Some x = rw e at h in cc;
  each_late = λ k x h. let h' : slice_get [] k ≡ Some x = rw l at h in cc;
  split = inl l;
}

early_moved : (is : List PlainInst) (n k : ℕ) (e f : Early) → n ≡ k → e ≡ f → KeptEarly is n e → KeptEarly is k f
early_moved is n k e f a b h = rw (← a, ← b) h

late_moved : (is : List PlainInst) (n k : ℕ) (e f : Standing) → n ≡ k → e ≡ f → KeptLate is n e → KeptLate is k f
late_moved is n k e f a b h = rw (← a, ← b) h

-- no late instruction is before one of sections 1 to 8
none_late : (s : State) (c : Class) (t : State) (k : ℕ) (late : List Standing) → Fine s c t → section_of c ≡ Some k → (late ≡ []) ⊎ (is_first s ≡ false) → late ≡ []
none_late s c t k late g e (inl l) = l
none_late s c t k late g e (inr f) = let h : implies (not false) (is_none (Some k)) ≡ true = rw (f, e) at g.early in cc

late_first : (s : State) (c : Class) (t : State) → Fine s c t → section_of c ≡ None → is_first t ≡ false
late_first s c t g e = by (is_first t) (rw e at g.late) where
  by : (b : Bool) → implies (is_none {T = ℕ} None) (not b) ≡ true → b ≡ false
  by true h = cc
  by false h = refl

keeps_by : (o : Option ℕ) (is : List PlainInst) (n : ℕ) (s t : State) (c : Class) (x : Spans) (word : ℕ) (early : List Early) (late : List Standing) → section_of c ≡ o → Fine s c t
    → slice_get (classes is) n ≡ Some c → word ≡ first_word_of is n → Stands is n x.function x.block → Kept is n s early late → Kept is (n + 1) t (early_with o word early) (late_with o x word late)
keeps_by None is n s t c x word early late e g h w d k = record {
  count = let a = k.count in let b = length-append late (record { function = x.function; block = x.block; word = word } ∷ []) in omega arith;
  each_early = k.each_early;
  each_late = λ j y q. elim (pushed late (record { function = x.function; block = x.block; word = word }) j y q) [
    | inl b ↦ k.each_late j y b
    | inr p ↦ let a = k.count in let l = p.0 in late_moved is n (length early + j) (record { function = x.function; block = x.block; word = word }) y (omega arith) p.1
        (record { class = c; there = h; section = e; stands = d; word = w })
  ];
  split = inr (late_first s c t g e);
}
keeps_by (Some section) is n s t c x word early late e g h w d k =
    let l = none_late s c t section late g e k.split in
    let m : length late ≡ 0 = rw l refl in
    record {
      count = let a = k.count in let b = length-append early (record { section = section; word = word } ∷ []) in omega arith;
      each_early = λ j y q. elim (pushed early (record { section = section; word = word }) j y q) [
        | inl b ↦ k.each_early j y b
        | inr p ↦ let a = k.count in let i = p.0 in early_moved is n j (record { section = section; word = word }) y (omega arith) p.1
            (record { class = c; there = h; section = e; word = w })
      ];
      each_late = λ j y q. let q' : slice_get [] j ≡ Some y = rw l at q in cc;
      split = inl l;
    }

-- one instruction more
pub keeps : (p : Profile) (is : List PlainInst) (n : ℕ) (s t : State) (c : Class) (x : Spans) (word : ℕ) (early new_early : List Early) (late new_late : List Standing) → next_of s (seen p c) ≡ Some t
    → new_early ≡ early_with (section_of c) word early → new_late ≡ late_with (section_of c) x word late
    → slice_get (classes is) n ≡ Some c → word ≡ first_word_of is n → Stands is n x.function x.block → Kept is n s early late → Kept is (n + 1) t new_early new_late
keeps p is n s t c x word early new_early late new_late e a b h w d k = rw (a, b) (keeps_by (section_of c) is n s t c x word early late refl (fine_seen p s c t e) h w d k)

-- the places, by number
pub front_get : (early : List Early) (rest : List Place) (n : ℕ) → n < length early → slice_get (map early_place early ++ rest) n ≡ option_map early_place (slice_get early n)
front_get [] rest n h = absurd (omega arith)
front_get (e ∷ es) rest zero h = refl
front_get (e ∷ es) rest (suc n) h = front_get es rest n (omega arith)

pub back_get : (early : List Early) (rest : List Place) (n k : ℕ) → n ≡ length early + k → slice_get (map early_place early ++ rest) n ≡ slice_get rest k
back_get [] rest n k h = let e : n ≡ k = omega arith in rw e refl
back_get (e ∷ es) rest zero k h = absurd (omega arith)
back_get (e ∷ es) rest (suc n) k h = back_get es rest n k (omega arith)

pub late_get : (functions definitions m : ℕ) (late : List Standing) (n k : ℕ) → n ≡ m + k → slice_get (late_places functions definitions m late) k ≡ option_map (late_place functions definitions n) (slice_get late k)
late_get f d m [] n k h = refl
late_get f d m (s ∷ ss) n zero h = let e : m ≡ n = omega arith in rw e refl
late_get f d m (s ∷ ss) n (suc k) h = late_get f d (m + 1) ss n k (omega arith)

pub late_length : (functions definitions m : ℕ) (late : List Standing) → length (late_places functions definitions m late) ≡ length late
late_length f d m [] = refl
late_length f d m (s ∷ ss) = ap suc (late_length f d (m + 1) ss)

-- where what is kept is open
open_within : (is : List PlainInst) (c : Class) (es : List Class) (n k : ℕ) → SpannedTo is c es n k → MatchOption (mark k) ((f : ℕ) → ¬ (IsWithin is c es n f)) (λ f. IsWithin is c es n f)
open_within is c es n k s = rw s.kept at (within is c es n s.span s.up_to)

-- a function up to instruction n, and the last of them
last_function : (is : List PlainInst) (n k f : ℕ) → SpannedTo is Function (FunctionEnd ∷ []) n k → f ≤ n → IsAt is f (Function ∷ []) → (g : ℕ) × IsLast is Function n g
last_function is n k f s l a = of_span s.span s.up_to where
  of_span : (t : Span) → UpTo is Function (FunctionEnd ∷ []) n t → (g : ℕ) × IsLast is Function n g
  of_span _ (UpTo.outside h g) = absurd (g f l a)
  of_span _ (UpTo.within g w) = (g, w.begun)
  of_span _ (UpTo.after g j b m o e) = (g, b)

-- OpFunction and OpLabel are of no section from 1 to 8
pub function_late : (c : Class) → is_among c (Function ∷ []) ≡ true → section_of c ≡ None
function_late Function h = refl
function_late _ h = cc

label_late : (c : Class) → is_among c (Label ∷ []) ≡ true → section_of c ≡ None
label_late Label h = refl
label_late _ h = cc

pub not_early : (is : List PlainInst) (n : ℕ) (d : Class) (e : Early) → ((c : Class) → is_among c (d ∷ []) ≡ true → section_of c ≡ None) → KeptEarly is n e → ¬ (IsAt is n (d ∷ []))
not_early is n d e l k a =
    let b : is_among k.class (d ∷ []) ≡ true = rw k.there at a in
    let x = l k.class b in
    let y = k.section in
    cc

none_within : (is : List PlainInst) (n : ℕ) (d : Class) (es : List Class) (e : Early) (early : List Early) → ((c : Class) → is_among c (d ∷ []) ≡ true → section_of c ≡ None)
    → n < length early → ((k : ℕ) (e : Early) → slice_get early k ≡ Some e → KeptEarly is k e) → (f : ℕ) → ¬ (IsWithin is d es n f)
none_within is n d es e early l h k f w =
    let u = w.begun.up_to in
    not_early is f d (get_or early f e) l (k f (get_or early f e) (slice_get-get_or early f e (omega arith))) w.begun.there

placed_early : (is : List PlainInst) (n : ℕ) (e : Early) (early : List Early) → n < length early → ((k : ℕ) (e : Early) → slice_get early k ≡ Some e → KeptEarly is k e)
    → KeptEarly is n e → IsPlaceOf is n (early_place e)
placed_early is n e early h k x = record {
  section = IsOfSection.early x.class e.section x.there x.section;
  function = none_within is n Function (FunctionEnd ∷ []) e early function_late h k;
  block = none_within is n Label terminators e early label_late h k;
  word = x.word;
}

stops_outside : (s : State) → may_stop s ≡ true → is_definition s ≡ true → ⊥
stops_outside at.Definition h g = cc
stops_outside _ h g = cc

global : (is : List PlainInst) (n functions : ℕ) (c : Class) → n < length is → n < functions → slice_get (classes is) n ≡ Some c → section_of c ≡ None → Begun is (length is) functions → IsOfSection is n 11
global is n functions c l h t e b = IsOfSection.global c t e (λ f x. let u = x.up_to in b.below f (omega arith) (omega arith) x.there)

not_defined : (is : List PlainInst) (n functions definitions f : ℕ) (s : State) (function : ℕ) → length is < no_number → f < definitions → Defined is (length is) s function definitions → ¬ (IsDefinition is f)
not_defined is n functions d f s function m h a x =
    let w = x.of.begun.within in
    elim (cases_lt x.label d) [
      | inl l ↦ a.labels x.label w l x.there
      | inr g ↦ elim a.there [
        | inl q ↦ absurd (omega arith)
        | inr p ↦ x.of.begun.last d h g p.1
      ]
    ]

declared : (is : List PlainInst) (n functions definitions k : ℕ) (c : Class) (s : State) (function : ℕ) → length is < no_number → n < length is → functions ≤ n → n < definitions
    → slice_get (classes is) n ≡ Some c → section_of c ≡ None → SpannedTo is Function (FunctionEnd ∷ []) n k → Begun is (length is) functions → Defined is (length is) s function definitions → IsOfSection is n 12
declared is n functions d k c s function m l g h t e p b a = elim b.there [
  | inl q ↦ absurd (omega arith)
  | inr r ↦
      let f = last_function is n k functions p g r.1 in
      let u = f.1.up_to in
      IsOfSection.declaration c f.0 t e f.1 (not_defined is n functions d f.0 s function m (omega arith) a)
]

defined : (is : List PlainInst) (n definitions k : ℕ) (c : Class) (s : State) (function : ℕ) → may_stop s ≡ true → length is < no_number → n < length is → definitions ≤ n
    → slice_get (classes is) n ≡ Some c → section_of c ≡ None → SpannedTo is Function (FunctionEnd ∷ []) n k → Defined is (length is) s function definitions → IsOfSection is n 13
defined is n d k c s function y m l g t e p a = elim a.there [
  | inl q ↦ absurd (omega arith)
  | inr r ↦
      let f = last_function is n k d p g r.1 in
      let u = f.1.up_to in
      let h : d ≤ f.0 = elim (cases_lt f.0 d) [ inl z ↦ absurd (f.1.last d z g r.1) | inr z ↦ z ] in
      elim (a.defined f.0 h (omega arith) f.1.there) [
        | inl x ↦ IsOfSection.definition c f.0 t e f.1 x
        | inr x ↦ absurd (stops_outside s y x.0)
      ]
]

at_least : (m n : ℕ) → nat_lt m n ≡ false → n ≤ m
at_least m n h = elim (cases_lt m n) [ inl l ↦ (let t = lt-ltb m n l in cc) | inr g ↦ g ]

section_by : (a b : Bool) (is : List PlainInst) (n k : ℕ) (c : Class) (s : State) (x : Spans) → nat_lt n x.functions ≡ a → nat_lt n x.definitions ≡ b → may_stop s ≡ true → length is < no_number
    → n < length is → slice_get (classes is) n ≡ Some c → section_of c ≡ None → SpannedTo is Function (FunctionEnd ∷ []) n k → Follows is (length is) s x → IsOfSection is n (if a then 11 else if b then 12 else 13)
section_by true b is n k c s x f d y m l t e p w = global is n x.functions c l (ltb-true n x.functions f) t e w.functions
section_by false true is n k c s x f d y m l t e p w = declared is n x.functions x.definitions k c s x.function m l (at_least n x.functions f) (ltb-true n x.definitions d) t e p w.functions w.definitions
section_by false false is n k c s x f d y m l t e p w = defined is n x.definitions k c s x.function y m l (at_least n x.definitions d) t e p w.definitions

placed_late : (is : List PlainInst) (n : ℕ) (e : Standing) (s : State) (x : Spans) → may_stop s ≡ true → length is < no_number → n < length is → Follows is (length is) s x
    → KeptLate is n e → IsPlaceOf is n (late_place x.functions x.definitions n e)
placed_late is n e s x y m l w k = record {
  section = section_by (nat_lt n x.functions) (nat_lt n x.definitions) is n e.function k.class s x refl refl y m l k.there k.section k.stands.of_function w;
  function = open_within is Function (FunctionEnd ∷ []) n e.function k.stands.of_function;
  block = open_within is Label terminators n e.block k.stands.of_block;
  word = k.word;
}

early_at : (is : List PlainInst) (n : ℕ) (o : Option Early) (p : Place) (early : List Early) → slice_get early n ≡ o → n < length early
    → ((k : ℕ) (e : Early) → slice_get early k ≡ Some e → KeptEarly is k e) → option_map early_place o ≡ Some p → IsPlaceOf is n p
early_at is n None p early g h k e = cc
early_at is n (Some x) p early g h k e = let q : early_place x ≡ p = cc in rw (← q) (placed_early is n x early h k (k n x g))

late_at : (is : List PlainInst) (n : ℕ) (o : Option Standing) (p : Place) (s : State) (x : Spans) → may_stop s ≡ true → length is < no_number → n < length is → Follows is (length is) s x
    → ((e : Standing) → o ≡ Some e → KeptLate is n e) → option_map (late_place x.functions x.definitions n) o ≡ Some p → IsPlaceOf is n p
late_at is n None p s x y m l w k e = cc
late_at is n (Some v) p s x y m l w k e = let q : late_place x.functions x.definitions n v ≡ p = cc in rw (← q) (placed_late is n v s x y m l w (k v refl))

pub planned : (G : Table) (is : List PlainInst) (s : State) (x : Spans) (early : List Early) (late : List Standing) → may_stop s ≡ true → length is < no_number
    → ((n : ℕ) (i : PlainInst) → slice_get is n ≡ Some i → FitsShape G i) → IsLayout (classes is) → Follows is (length is) s x → Kept is (length is) s early late
    → IsPlan G is (places_in x.functions x.definitions early late)
planned G is s x early late y m f l w k =
    let rest = late_places x.functions x.definitions (length early) late in
    let total : length (map early_place early ++ rest) ≡ length is = (
    let a = length-append (map early_place early) rest in
    let b = length-map early early_place in
    let c = late_length x.functions x.definitions (length early) late in
    let d = k.count in
    omega arith) in
    record {
      fits = f;
      layout = l;
      count = total;
      place = λ n p g. elim (cases_lt n (length early)) [
        | inl h ↦ early_at is n (slice_get early n) p early refl h k.each_early (sym (front_get early rest n h) ∙ g)
        | inr h ↦
            let j = n - length early in
            let e : n ≡ length early + j = omega arith in
            let v = slice_get_within (map early_place early ++ rest) n p g in
            late_at is n (slice_get late j) p s x y m (omega arith) w (λ z q. late_moved is (length early + j) n z z (sym e) refl (k.each_late j z q))
            (sym (late_get x.functions x.definitions (length early) late n j e) ∙ sym (back_get early rest n j e) ∙ g)
      ];
    }
