-- What stands before the functions of a module that is laid out.
use Rattle.std.proofs.Common.{◌≡◌, ◌∙◌, ◌⊎◌, ◌+◌, ◌-◌, ◌++◌, ◌<◌, ◌≤◌, ◌&&◌, ◌||◌, inl, inr, ℕ, zero, suc, Bool, true}
use Rattle.std.proofs.Common.{false, not, refl, sym, ap, subst, arith, List, [], ◌∷◌, Option, Some, None, nat_eq}
use Rattle.std.proofs.Common.{nat_lt, if◌then◌else◌, length, IsTrue}
use Rattle.std.specs.Prelude.{slice_get, filter, option_map, IsSomeAnd}
use Rattle.std.specs.List.{list_any}
use Rattle.std.proofs.lemmas.Bool.{eqb-true, cases_lt, ltb-true}
use Rattle.std.proofs.lemmas.Option.{slice_get-map, slice_get_within}
use Rattle.std.proofs.lemmas.List.{length-map}
use Rattle.spv_table.specs.Table.{Table}
use Rattle.spv_module.specs.declared.opcode.TheConstants as opcode
use Rattle.spv_module.specs.Operand.{PlainInst}
use Rattle.spv_layout.specs.declared.class.Class.{Class}
use Rattle.spv_layout.specs.declared.class.Class.TheVariants as class
use Rattle.spv_layout.specs.declared.place.Place.{Place}
use Rattle.spv_layout.specs.Class.{is_among, class_number}
use Rattle.spv_layout.specs.Expression.{Expression, never, nothing, one_of, ◌then◌, ◌or◌, many, mixed, SpellsClasses}
use Rattle.spv_layout.specs.Layout.{IsLayout, classes, sections_1_to_8, sections_9_to_11, declaration, definition}
use Rattle.spv_layout.specs.Place.{IsAt, IsLast, IsOfSection, section_of}
use Rattle.spv_layout.specs.Plan.{IsPlan}
use Rattle.spv_layout.specs.inner.Outcome.{ArePlacesOf}
use Rattle.spv_layout.specs.Rows.{rows, class_of}
use Rattle.spv_declarations.specs.Given.{is_decorate, is_of_member}
use Rattle.spv_declarations.specs.inner.Early.{is_saying, is_early, AreEarly}

-- A test of classes by their numbers: none of these classes.
abbrev is_none : List Class → Class → Bool
is_none cs c = not (is_among c cs)

-- each class of an expression passes; each of a list
abbrev all_in : (Class → Bool) → List Class → Bool
all_in p [] = true
all_in p (c ∷ cs) = p c && all_in p cs

abbrev all_of : (Class → Bool) → Expression → Bool
all_of p never = true
all_of p nothing = true
all_of p (one_of cs) = all_in p cs
all_of p (e then f) = all_of p e && all_of p f
all_of p (e or f) = all_of p e && all_of p f
all_of p (many e) = all_of p e

left : (a b : Bool) → (a && b) ≡ true → a ≡ true
left true b h = refl
left false b h = h

right : (a b : Bool) → (a && b) ≡ true → b ≡ true
right true b h = h
right false b h = cc

both : (a b : Bool) → a ≡ true → b ≡ true → (a && b) ≡ true
both true true g h = refl
both true false g h = h
both false b g h = g

joined : (p : Class → Bool) (us vs : List Class) → all_in p us ≡ true → all_in p vs ≡ true → all_in p (us ++ vs) ≡ true
joined p [] vs g h = h
joined p (u ∷ us) vs g h =
    both (p u) (all_in p (us ++ vs)) (left (p u) (all_in p us) g) (joined p us vs (right (p u) (all_in p us) g) h)

-- a class that is among some passes if each of these does
same_number : (xs : List Class) (c d : Class) → nat_eq (class_number c) (class_number d) ≡ true
    → is_none xs c ≡ is_none xs d
same_number xs c d e =
    ap (λ (n : ℕ). not (list_any (λ (d : Class). nat_eq n (class_number d)) xs))
    (eqb-true (class_number c) (class_number d) e)

pass_by : (xs : List Class) (c d : Class) (cs : List Class) (b : Bool) → nat_eq (class_number c) (class_number d) ≡ b
    → is_none xs d ≡ true → (is_among c cs ≡ true → is_none xs c ≡ true) → is_among c (d ∷ cs) ≡ true
    → is_none xs c ≡ true
pass_by xs c d cs true e p f a = same_number xs c d e ∙ p
pass_by xs c d cs false e p f a = f (rw e at a)

passes : (xs : List Class) (c : Class) (cs : List Class) → all_in (is_none xs) cs ≡ true → is_among c cs ≡ true
    → is_none xs c ≡ true
passes xs c [] p a = cc
passes xs c (d ∷ cs) p a = pass_by xs c d cs (nat_eq (class_number c) (class_number d)) refl
    (left (is_none xs d) (all_in (is_none xs) cs) p)
    (passes xs c cs (right (is_none xs d) (all_in (is_none xs) cs) p)) a

-- what an expression spells passes, if the expression does
spelled : (xs : List Class) (e : Expression) (cs : List Class) → SpellsClasses e cs → all_of (is_none xs) e ≡ true
    → all_in (is_none xs) cs ≡ true
spelled xs _ _ SpellsClasses.empty h = refl
spelled xs _ _ (SpellsClasses.single cs c a) h = both (is_none xs c) true (passes xs c cs h a) refl
spelled xs _ _ (SpellsClasses.both e f us vs a b) h =
    joined (is_none xs) us vs (spelled xs e us a (left (all_of (is_none xs) e) (all_of (is_none xs) f) h))
    (spelled xs f vs b (right (all_of (is_none xs) e) (all_of (is_none xs) f) h))
spelled xs _ _ (SpellsClasses.first e f us a) h =
    spelled xs e us a (left (all_of (is_none xs) e) (all_of (is_none xs) f) h)
spelled xs _ _ (SpellsClasses.second e f us a) h =
    spelled xs f us a (right (all_of (is_none xs) e) (all_of (is_none xs) f) h)
spelled xs _ _ (SpellsClasses.none e) h = refl
spelled xs _ _ (SpellsClasses.more e us vs a b) h =
    joined (is_none xs) us vs (spelled xs e us a h) (spelled xs (many e) vs b h)

-- The classes that stand before functions alone.
abbrev early_classes : List Class
early_classes = class.Capability ∷ class.Extension ∷ class.Import ∷ class.MemoryModel ∷ class.EntryPoint
    ∷ class.ExecutionMode ∷ class.Source ∷ class.Name ∷ class.Processed ∷ class.Decoration ∷ class.Declaration ∷ []

abbrev is_late : Class → Bool
is_late c = is_none early_classes c

abbrev is_other : Class → Bool
is_other c = is_none (class.Function ∷ []) c

abbrev is_no_line : Class → Bool
is_no_line c = not (is_among c (class.Line ∷ []))

-- none of them stands behind an OpFunction
abbrev ordered : List Class → Bool
ordered [] = true
ordered (c ∷ cs) = (is_other c || all_in is_late cs) && ordered cs

at_late : (cs : List Class) (n : ℕ) (d : Class) → all_in is_late cs ≡ true → slice_get cs n ≡ Some d → is_late d ≡ true
at_late [] n d a e = cc
at_late (c ∷ cs) zero d a e =
    let q : c ≡ d = cc in
    subst (λ (x : Class). is_late x ≡ true) q (left (is_late c) (all_in is_late cs) a)
at_late (c ∷ cs) (suc n) d a e = at_late cs n d (right (is_late c) (all_in is_late cs) a) e

second_of : (a b : Bool) → a ≡ false → (a || b) ≡ true → b ≡ true
second_of true b f h = cc
second_of false b f h = h

ordered_tells : (cs : List Class) (m n : ℕ) (c d : Class) → ordered cs ≡ true → slice_get cs m ≡ Some c
    → is_other c ≡ false → m < n → slice_get cs n ≡ Some d → is_late d ≡ true
ordered_tells [] m n c d o e f l g = cc
ordered_tells (b ∷ cs) zero zero c d o e f l g = absurd (omega (arith, l))
ordered_tells (b ∷ cs) zero (suc n) c d o e f l g =
    let q : b ≡ c = cc in
    let h : is_other b ≡ false = subst (λ (x : Class). is_other x ≡ false) (sym q) f in
    at_late cs n d (second_of (is_other b) (all_in is_late cs) h
    (left (is_other b || all_in is_late cs) (ordered cs) o)) g
ordered_tells (b ∷ cs) (suc m) zero c d o e f l g = absurd (omega (arith, l))
ordered_tells (b ∷ cs) (suc m) (suc n) c d o e f l g =
    ordered_tells cs m n c d (right (is_other b || all_in is_late cs) (ordered cs) o) e f (omega (arith, l)) g

or_first : (a b : Bool) → a ≡ true → (a || b) ≡ true
or_first true b h = refl
or_first false b h = cc

or_second : (a b : Bool) → b ≡ true → (a || b) ≡ true
or_second true b h = refl
or_second false b h = h

late_ordered : (cs : List Class) → all_in is_late cs ≡ true → ordered cs ≡ true
late_ordered [] a = refl
late_ordered (c ∷ cs) a =
    let r = right (is_late c) (all_in is_late cs) a in
    both (is_other c || all_in is_late cs) (ordered cs) (or_second (is_other c) (all_in is_late cs) r)
    (late_ordered cs r)

front_ordered : (us vs : List Class) → all_in is_other us ≡ true → ordered vs ≡ true → ordered (us ++ vs) ≡ true
front_ordered [] vs a o = o
front_ordered (u ∷ us) vs a o = both (is_other u || all_in is_late (us ++ vs)) (ordered (us ++ vs))
    (or_first (is_other u) (all_in is_late (us ++ vs)) (left (is_other u) (all_in is_other us) a))
    (front_ordered us vs (right (is_other u) (all_in is_other us) a) o)

-- lines stand anywhere
line_late : (c : Class) → is_among c (class.Line ∷ []) ≡ true → is_late c ≡ true
line_late c a = passes early_classes c (class.Line ∷ []) refl a

line_other : (c : Class) → is_among c (class.Line ∷ []) ≡ true → is_other c ≡ true
line_other c a = passes (class.Function ∷ []) c (class.Line ∷ []) refl a

late_by_line : (c : Class) (cs : List Class) (b : Bool) → is_among c (class.Line ∷ []) ≡ b
    → all_in is_late (filter is_no_line (c ∷ cs)) ≡ true
    → (all_in is_late (filter is_no_line cs) ≡ true → all_in is_late cs ≡ true)
    → (is_late c && all_in is_late cs) ≡ true
late_by_line c cs true e a f = both (is_late c) (all_in is_late cs) (line_late c e) (f (rw e at a))
late_by_line c cs false e a f =
    let h : (is_late c && all_in is_late (filter is_no_line cs)) ≡ true = rw e at a in
    both (is_late c) (all_in is_late cs) (left (is_late c) (all_in is_late (filter is_no_line cs)) h)
    (f (right (is_late c) (all_in is_late (filter is_no_line cs)) h))

lines_late : (cs : List Class) → all_in is_late (filter is_no_line cs) ≡ true → all_in is_late cs ≡ true
lines_late [] a = refl
lines_late (c ∷ cs) a = late_by_line c cs (is_among c (class.Line ∷ [])) refl a (lines_late cs)

or_weaker : (a b c : Bool) → (b ≡ true → c ≡ true) → (a || b) ≡ true → (a || c) ≡ true
or_weaker true b c f h = refl
or_weaker false b c f h = f h

ordered_by_line : (c : Class) (cs : List Class) (b : Bool) → is_among c (class.Line ∷ []) ≡ b
    → ordered (filter is_no_line (c ∷ cs)) ≡ true → (ordered (filter is_no_line cs) ≡ true → ordered cs ≡ true)
    → ((is_other c || all_in is_late cs) && ordered cs) ≡ true
ordered_by_line c cs true e a f = both (is_other c || all_in is_late cs) (ordered cs)
    (or_first (is_other c) (all_in is_late cs) (line_other c e)) (f (rw e at a))
ordered_by_line c cs false e a f =
    let fs = filter is_no_line cs in
    let h : ((is_other c || all_in is_late fs) && ordered fs) ≡ true = rw e at a in
    both (is_other c || all_in is_late cs) (ordered cs)
    (or_weaker (is_other c) (all_in is_late fs) (all_in is_late cs) (lines_late cs)
    (left (is_other c || all_in is_late fs) (ordered fs) h))
    (f (right (is_other c || all_in is_late fs) (ordered fs) h))

lines_ordered : (cs : List Class) → ordered (filter is_no_line cs) ≡ true → ordered cs ≡ true
lines_ordered [] a = refl
lines_ordered (c ∷ cs) a = ordered_by_line c cs (is_among c (class.Line ∷ [])) refl a (lines_ordered cs)

-- the classes of a module
parts : (e f : Expression) (cs : List Class) → SpellsClasses (e then f) cs
    → (us vs : List Class) × SpellsClasses e us × SpellsClasses f vs × (us ++ vs ≡ cs)
parts e f _ (SpellsClasses.both _ _ us vs a b) = (us, vs, a, b, refl)

later_ordered : (cs : List Class) → SpellsClasses sections_9_to_11 cs → ordered cs ≡ true
later_ordered cs s =
    let front = mixed (class.Declaration ∷ class.Variable ∷ class.Undef ∷ class.Extended ∷ []) in
    let back = many declaration then many definition in
    let p = parts front back cs s in
    subst (λ (xs : List Class). ordered xs ≡ true) p.4
    (front_ordered p.0 p.1 (spelled (class.Function ∷ []) front p.0 p.2 refl)
    (late_ordered p.1 (spelled early_classes back p.1 p.3 refl)))

all_ordered : (cs : List Class) → IsLayout cs → ordered cs ≡ true
all_ordered cs l =
    subst (λ (xs : List Class). ordered xs ≡ true) l.all
    (front_ordered l.front l.back (spelled (class.Function ∷ []) sections_1_to_8 l.front l.first refl)
    (lines_ordered l.back (later_ordered (filter is_no_line l.back) l.later)))

-- the class of an instruction
pub class_at : (is : List PlainInst) (n : ℕ) (i : PlainInst) → slice_get is n ≡ Some i
    → slice_get (classes is) n ≡ Some (class_of i.opcode)
class_at is n i at =
    slice_get-map (λ (j : PlainInst). class_of j.opcode) is n
    ∙ ap (option_map (λ (j : PlainInst). class_of j.opcode)) at

-- an opcode at which a rule may be broken is of one of the classes
at_opcode : (n k : ℕ) → is_late (class_of k) ≡ false → nat_eq n k ≡ true → is_late (class_of n) ≡ false
at_opcode n k h t = subst (λ (m : ℕ). is_late (class_of m) ≡ false) (sym (eqb-true n k t)) h

or_elim : (a b : Bool) (P : Type 0) → (a ≡ true → P) → (b ≡ true → P) → (a || b) ≡ true → P
or_elim true b P f g h = f refl
or_elim false b P f g h = g h

early_class : (n : ℕ) → is_early n ≡ true → is_late (class_of n) ≡ false
unfolding rows
early_class n = or_elim (is_saying n) _ _
    (or_elim (is_decorate n) _ _
    (or_elim _ _ _ (at_opcode n opcode.DECORATE refl)
    (or_elim _ _ _ (at_opcode n opcode.DECORATE_ID refl) (at_opcode n opcode.DECORATE_STRING refl)))
    (or_elim (is_of_member n) _ _
    (or_elim _ _ _ (at_opcode n opcode.MEMBER_NAME refl)
    (or_elim _ _ _ (at_opcode n opcode.MEMBER_DECORATE refl) (at_opcode n opcode.MEMBER_DECORATE_STRING refl)))
    (or_elim _ _ _ (at_opcode n opcode.GROUP_DECORATE refl) (at_opcode n opcode.GROUP_MEMBER_DECORATE refl))))
    (or_elim _ _ _ (at_opcode n opcode.ENTRY_POINT refl)
    (or_elim _ _ _ (at_opcode n opcode.EXECUTION_MODE refl)
    (or_elim _ _ _ (at_opcode n opcode.MEMORY_MODEL refl)
    (or_elim _ _ _ (at_opcode n opcode.TYPE_INT refl)
    (or_elim _ _ _ (at_opcode n opcode.TYPE_STRUCT refl) (at_opcode n opcode.TYPE_FORWARD_POINTER refl))))))

-- A function that stands at an instruction.
some_and : (o : Option Class) (P : Class → Type 0) → IsSomeAnd o P → (c : Class) × (o ≡ Some c) × P c
some_and None P h = absurd h
some_and (Some c) P h = (c, refl, h)

is_function : (is : List PlainInst) (m : ℕ) → IsAt is m (class.Function ∷ [])
    → (c : Class) × (slice_get (classes is) m ≡ Some c) × (is_among c (class.Function ∷ []) ≡ true)
is_function is m a = some_and (slice_get (classes is) m) (λ c. IsTrue (is_among c (class.Function ∷ []))) a

not_other : (c : Class) → is_among c (class.Function ∷ []) ≡ true → is_other c ≡ false
not_other c a = rw a refl

-- none of the classes stands at an OpFunction, or behind one
class_behind : (is : List PlainInst) (m n : ℕ) (i : PlainInst) → IsLayout (classes is)
    → IsAt is m (class.Function ∷ []) → m ≤ n → slice_get is n ≡ Some i → is_late (class_of i.opcode) ≡ false → ⊥
class_behind is m n i l a le at early =
    let f = is_function is m a in
    let d = class_at is n i at in
    elim (cases_lt m n) [
      | inl lt ↦
          let late = ordered_tells (classes is) m n f.0 (class_of i.opcode) (all_ordered (classes is) l) f.1
          (not_other f.0 f.2) lt d in
          let no : false ≡ true = sym early ∙ late in cc
      | inr g ↦
          let q : m ≡ n = omega (arith, le, g) in
          let here : slice_get (classes is) n ≡ Some f.0 =
          subst (λ (k : ℕ). slice_get (classes is) k ≡ Some f.0) q f.1 in
          let same : Some f.0 ≡ Some (class_of i.opcode) = sym here ∙ d in
          let one : f.0 ≡ class_of i.opcode = cc in
          let late = passes early_classes f.0 (class.Function ∷ []) refl f.2 in
          let late' : is_late (class_of i.opcode) ≡ true = subst (λ (c : Class). is_late c ≡ true) one late in
          let no : false ≡ true = sym early ∙ late' in cc
    ]

pub never_behind : (is : List PlainInst) (m n : ℕ) (i : PlainInst) → IsLayout (classes is)
    → IsAt is m (class.Function ∷ []) → m ≤ n → slice_get is n ≡ Some i → is_early i.opcode ≡ true → ⊥
never_behind is m n i l a le at e = class_behind is m n i l a le at (early_class i.opcode e)

-- Up to an instruction with an OpFunction at it or before it there is a last one.
decided : (o : Option Class) (cs : List Class) → IsSomeAnd o (λ c. IsTrue (is_among c cs))
    ⊎ ¬ (IsSomeAnd o (λ c. IsTrue (is_among c cs)))
decided None cs = inr (λ h. h)
decided (Some c) cs = by_test (is_among c cs) refl where
  by_test : (b : Bool) → is_among c cs ≡ b → IsTrue (is_among c cs) ⊎ ¬ (IsTrue (is_among c cs))
  by_test true e = inl e
  by_test false e = inr (λ t. let no : false ≡ true = sym e ∙ t in absurd (cc))

last_up_to : (is : List PlainInst) (m k : ℕ) → IsAt is m (class.Function ∷ []) → m + k < length is
    → (f : ℕ) × IsLast is class.Function (m + k) f
last_up_to is m zero a l = (
  m,
  record {
    within = l;
    up_to = omega arith;
    there = a;
    last = λ j p q h. absurd (omega (arith, p, q));
  },
)
last_up_to is m (suc k) a l = elim (decided (slice_get (classes is) (m + suc k)) (class.Function ∷ [])) [
  | inl h ↦ (
    m + suc k,
    record {
      within = l;
      up_to = omega arith;
      there = h;
      last = λ j p q g. absurd (omega (arith, p, q));
    },
  )
  | inr n ↦
      let b = last_up_to is m k a (omega (arith, l)) in
      let u = b.1.up_to in (
        b.0,
        record {
          within = l;
          up_to = omega (arith, u);
          there = b.1.there;
          last = λ j p q g. elim (cases_lt j (m + suc k)) [
            | inl r ↦ b.1.last j p (omega (arith, r)) g
            | inr r ↦
                let e : j ≡ m + suc k = omega (arith, q, r) in
                n (subst (λ (x : ℕ). IsAt is x (class.Function ∷ [])) e g)
          ];
        },
      )
]

no_function : (is : List PlainInst) (m n : ℕ) → IsAt is m (class.Function ∷ []) → m ≤ n → n < length is
    → ((f : ℕ) → ¬ (IsLast is class.Function n f)) → ⊥
no_function is m n a le l nowhere =
    let e : m + (n - m) ≡ n = omega (arith, le) in
    let s = last_up_to is m (n - m) a (omega (arith, le, l)) in
    nowhere s.0 (subst (λ (k : ℕ). IsLast is class.Function k s.0) e s.1)

low_by : (b : Bool) (k s : ℕ) → nat_lt k 10 ≡ b → (if b then Some (1 + k) else None) ≡ Some s → s ≤ 10
low_by true k s t e =
    let l = ltb-true k 10 t in
    let q : 1 + k ≡ s = cc in
    omega (arith, l, q)
low_by false k s t e = absurd cc

early_low : (c : Class) (s : ℕ) → section_of c ≡ Some s → s ≤ 10
early_low c s e = low_by (nat_lt (class_number c) 10) (class_number c) s refl e

global_before : (is : List PlainInst) (n s : ℕ) → IsOfSection is n s → s ≡ 11
    → (n < length is) × ((f : ℕ) → ¬ (IsLast is class.Function n f))
global_before is n _ (IsOfSection.early c s h k) e = let l = early_low c s k in absurd (omega (arith, e, l))
global_before is n _ (IsOfSection.global c h k nowhere) e =
    let w = slice_get_within (classes is) n c h in
    let m = length-map is (λ (j : PlainInst). class_of j.opcode) in
    (omega (arith, w, m), nowhere)
global_before is n _ (IsOfSection.declaration c f h k l d) e = absurd (omega (arith, e))
global_before is n _ (IsOfSection.definition c f h k l d) e = absurd (omega (arith, e))

pub are_early : (G : Table) (is : List PlainInst) (places : List Place) (count : ℕ) → IsPlan G is places
    → (count < length is → IsAt is count (class.Function ∷ [])) → AreEarly is count
are_early G is places count plan next = record {
  each = λ n i at e. elim (cases_lt n count) [
    | inl l ↦ l
    | inr g ↦
        let w = slice_get_within is n i at in
        absurd (never_behind is count n i plan.layout (next (omega (arith, g, w))) g at e)
  ];
  globals = λ n s. elim (cases_lt n count) [
    | inl l ↦ l
    | inr g ↦
        let b = global_before is n 11 s refl in
        let w = b.0 in
        absurd (no_function is count n (next (omega (arith, g, w))) g w b.1)
  ];
}

-- by what a plan says of the instruction at that number
pub early_of : (G : Table) (is : List PlainInst) (places : List Place) (count : ℕ) → IsPlan G is places
    → ((is : List PlainInst) → ArePlacesOf is places → count < length places → IsAt is count (class.Function ∷ []))
    → AreEarly is count
early_of G is places count plan next = are_early G is places count plan
    (λ l. next is plan.place (subst (λ (m : ℕ). count < m) (sym plan.count) l))

-- all of the instructions
pub early_all : (is : List PlainInst) (count : ℕ) → count ≡ length is → AreEarly is count
early_all is count e = record {
  each = λ n i at t. let w = slice_get_within is n i at in omega (arith, w, e);
  globals = λ n s. let w = (global_before is n 11 s refl).0 in omega (arith, w, e);
}

-- each instruction that declares a capability or an extension
front_by : (G : Table) (is : List PlainInst) (places : List Place) (count : ℕ) → IsPlan G is places
    → ((is : List PlainInst) → ArePlacesOf is places → count < length places → IsAt is count (class.Function ∷ []))
    → (n : ℕ) (i : PlainInst) → slice_get is n ≡ Some i → is_late (class_of i.opcode) ≡ false → n < count
front_by G is places count plan next n i at early = elim (cases_lt n count) [
  | inl l ↦ l
  | inr g ↦
      let w = slice_get_within is n i at in
      let q : count < length places = (let c = plan.count in omega (arith, g, w, c)) in
      absurd (class_behind is count n i plan.layout (next is plan.place q) g at early)
]

pub extension_front : (G : Table) (is : List PlainInst) (places : List Place) (count : ℕ) → IsPlan G is places
    → ((is : List PlainInst) → ArePlacesOf is places → count < length places → IsAt is count (class.Function ∷ []))
    → (n : ℕ) (i : PlainInst) → slice_get is n ≡ Some i → i.opcode ≡ opcode.EXTENSION → n < count
unfolding rows
extension_front G is places count plan next n i at e = front_by G is places count plan next n i at
    (subst (λ (k : ℕ). is_late (class_of k) ≡ false) (sym e) refl)
