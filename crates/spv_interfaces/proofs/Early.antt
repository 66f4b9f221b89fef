-- What stands before the functions of a module that is laid out.
use Rattle.std.proofs.Common.{◌≡◌, ◌∙◌, ◌+◌, ◌-◌, ◌++◌, ◌<◌, ◌≤◌, ◌&&◌, ◌⊎◌, inl, inr, ℕ, zero, suc, Bool, true}
use Rattle.std.proofs.Common.{false, not}
use Rattle.std.proofs.Common.{refl, sym, ap, subst, arith, List, [], ◌∷◌, Option, Some, None, nat_eq, length, IsTrue}
use Rattle.std.specs.Prelude.{slice_get, filter, option_map, IsSomeAnd, if◌then◌else◌}
use Rattle.std.specs.List.{list_any}
use Rattle.std.proofs.lemmas.Bool.{eqb-true, cases_lt}
use Rattle.std.proofs.lemmas.Option.{slice_get-map, slice_get_within}
use Rattle.std.proofs.lemmas.List.{length-map}
use Rattle.spv_table.specs.Table.{Table}
use Rattle.spv_module.specs.declared.opcode.TheConstants as opcode
use Rattle.spv_module.specs.Operand.{Plain, PlainInst}
use Rattle.spv_layout.specs.declared.class.Class.{Class}
use Rattle.spv_layout.specs.declared.class.Class.TheVariants as class
use Rattle.spv_layout.specs.declared.place.Place.{Place}
use Rattle.spv_layout.specs.Class.{is_among, class_number}
use Rattle.spv_layout.specs.Expression.{Expression, never, nothing, one_of, ◌then◌, ◌or◌, many, SpellsClasses}
use Rattle.spv_layout.specs.Layout.{IsLayout, classes, sections_1_to_8, sections_9_to_11}
use Rattle.spv_layout.specs.Place.{IsAt, IsLast, IsOfSection}
use Rattle.spv_layout.specs.Plan.{IsPlan}
use Rattle.spv_layout.specs.inner.Outcome.{ArePlacesOf}
use Rattle.spv_layout.specs.Rows.{rows, class_of}
use Rattle.spv_type_forms.specs.Definitions.{IsGlobal}
use Rattle.spv_interfaces.specs.Interface.{face_in}
use Rattle.spv_interfaces.specs.inner.Early.{AreBetween, AreEarly}
use Rattle.spv_interfaces.specs.inner.Entries.{AreSound, IsEntry}
use Rattle.spv_interfaces.proofs.Placing.{low_section}

-- A test of classes by their numbers: other than this class.
abbrev is_other : Class → Class → Bool
is_other x c = not (is_among c (x ∷ []))

-- each class of a list passes; each of an expression
abbrev all_in : (Class → Bool) → List Class → Bool
all_in p [] = true
all_in p (c ∷ cs) = p c && all_in p cs

abbrev all_of : (Class → Bool) → Expression → Bool
all_of p never = true
all_of p nothing = true
all_of p (one_of cs) = all_in p cs
all_of p (e then f) = all_of p e && all_of p f
all_of p (e or f) = all_of p e && all_of p f
all_of p (many e) = all_of p e

left : (a b : Bool) → (a && b) ≡ true → a ≡ true
left true b h = refl
left false b h = h

right : (a b : Bool) → (a && b) ≡ true → b ≡ true
right true b h = h
right false b h = cc

both : (a b : Bool) → a ≡ true → b ≡ true → (a && b) ≡ true
both true true g h = refl
both true false g h = h
both false b g h = g

joined : (p : Class → Bool) (us vs : List Class) → all_in p us ≡ true → all_in p vs ≡ true → all_in p (us ++ vs) ≡ true
joined p [] vs g h = h
joined p (u ∷ us) vs g h =
    both (p u) (all_in p (us ++ vs)) (left (p u) (all_in p us) g) (joined p us vs (right (p u) (all_in p us) g) h)

-- a class that is among some passes if each of these does
same_test : (x c d : Class) → nat_eq (class_number c) (class_number d) ≡ true → is_other x c ≡ is_other x d
same_test x c d e =
    ap (λ (n : ℕ). not (list_any (λ (d : Class). nat_eq n (class_number d)) (x ∷ [])))
    (eqb-true (class_number c) (class_number d) e)

pass_by : (x c d : Class) (cs : List Class) (b : Bool) → nat_eq (class_number c) (class_number d) ≡ b
    → is_other x d ≡ true → (is_among c cs ≡ true → is_other x c ≡ true) → is_among c (d ∷ cs) ≡ true
    → is_other x c ≡ true
pass_by x c d cs true e p f a = same_test x c d e ∙ p
pass_by x c d cs false e p f a = f (rw e at a)

passes : (x c : Class) (cs : List Class) → all_in (is_other x) cs ≡ true → is_among c cs ≡ true → is_other x c ≡ true
passes x c [] p a = cc
passes x c (d ∷ cs) p a = pass_by x c d cs (nat_eq (class_number c) (class_number d)) refl
    (left (is_other x d) (all_in (is_other x) cs) p)
    (passes x c cs (right (is_other x d) (all_in (is_other x) cs) p)) a

-- what an expression spells passes, if the expression does
spelled : (x : Class) (e : Expression) (cs : List Class) → SpellsClasses e cs → all_of (is_other x) e ≡ true
    → all_in (is_other x) cs ≡ true
spelled x _ _ SpellsClasses.empty h = refl
spelled x _ _ (SpellsClasses.single cs c a) h = both (is_other x c) true (passes x c cs h a) refl
spelled x _ _ (SpellsClasses.both e f us vs a b) h =
    joined (is_other x) us vs (spelled x e us a (left (all_of (is_other x) e) (all_of (is_other x) f) h))
    (spelled x f vs b (right (all_of (is_other x) e) (all_of (is_other x) f) h))
spelled x _ _ (SpellsClasses.first e f us a) h =
    spelled x e us a (left (all_of (is_other x) e) (all_of (is_other x) f) h)
spelled x _ _ (SpellsClasses.second e f us a) h =
    spelled x f us a (right (all_of (is_other x) e) (all_of (is_other x) f) h)
spelled x _ _ (SpellsClasses.none e) h = refl
spelled x _ _ (SpellsClasses.more e us vs a b) h =
    joined (is_other x) us vs (spelled x e us a h) (spelled x (many e) vs b h)

-- a list passes if it does so without its lines, and lines do
abbrev is_no_line : Class → Bool
is_no_line c = not (is_among c (class.Line ∷ []))

with_lines : (x : Class) (c : Class) (cs : List Class) (b : Bool) → is_among c (class.Line ∷ []) ≡ b
    → is_other x class.Line ≡ true → all_in (is_other x) (filter is_no_line (c ∷ cs)) ≡ true
    → (all_in (is_other x) (filter is_no_line cs) ≡ true → all_in (is_other x) cs ≡ true)
    → (is_other x c && all_in (is_other x) cs) ≡ true
with_lines x c cs true e l a f =
    both (is_other x c) (all_in (is_other x) cs)
    (passes x c (class.Line ∷ []) (both (is_other x class.Line) true l refl) e) (f (rw e at a))
with_lines x c cs false e l a f =
    let fs = filter is_no_line cs in
    let h : (is_other x c && all_in (is_other x) fs) ≡ true = rw e at a in
    both (is_other x c) (all_in (is_other x) cs) (left (is_other x c) (all_in (is_other x) fs) h)
    (f (right (is_other x c) (all_in (is_other x) fs) h))

all_with_lines : (x : Class) (cs : List Class) → is_other x class.Line ≡ true
    → all_in (is_other x) (filter is_no_line cs) ≡ true → all_in (is_other x) cs ≡ true
all_with_lines x [] l a = refl
all_with_lines x (c ∷ cs) l a =
    with_lines x c cs (is_among c (class.Line ∷ [])) refl l a (all_with_lines x cs l)

-- A class that does not pass stands in the part of a list that has such.
passed_at : (p : Class → Bool) (cs : List Class) (n : ℕ) (c : Class) → slice_get cs n ≡ Some c → all_in p cs ≡ true
    → p c ≡ true
passed_at p [] n c h a = cc
passed_at p (d ∷ cs) zero c h a =
    let q : d ≡ c = cc in
    subst (λ (e : Class). p e ≡ true) q (left (p d) (all_in p cs) a)
passed_at p (d ∷ cs) (suc n) c h a = passed_at p cs n c h (right (p d) (all_in p cs) a)

in_front : (p : Class → Bool) (us vs : List Class) (n : ℕ) (c : Class) → slice_get (us ++ vs) n ≡ Some c
    → p c ≡ false → all_in p vs ≡ true → n < length us
in_front p [] vs n c h f a = (let no : false ≡ true = sym f ∙ passed_at p vs n c h a in absurd (cc))
in_front p (u ∷ us) vs zero c h f a = omega arith
in_front p (u ∷ us) vs (suc n) c h f a = let r = in_front p us vs n c h f a in omega (arith, r)

in_back : (p : Class → Bool) (us vs : List Class) (n : ℕ) (c : Class) → slice_get (us ++ vs) n ≡ Some c → p c ≡ false
    → all_in p us ≡ true → length us ≤ n
in_back p [] vs n c h f a = omega arith
in_back p (u ∷ us) vs zero c h f a =
    let no : false ≡ true = sym f ∙ passed_at p (u ∷ us) 0 c h a in
    absurd (cc)
in_back p (u ∷ us) vs (suc n) c h f a =
    let r = in_back p us vs n c h f (right (p u) (all_in p us) a) in
    omega (arith, r)

-- an OpEntryPoint stands before each OpFunction
entry_before : (cs : List Class) (m n : ℕ) (c d : Class) → IsLayout cs → slice_get cs m ≡ Some c
    → is_other class.EntryPoint c ≡ false → slice_get cs n ≡ Some d → is_other class.Function d ≡ false → m < n
entry_before cs m n c d l at e there f =
    let late = all_with_lines class.EntryPoint l.back refl (spelled class.EntryPoint sections_9_to_11 _ l.later refl) in
    let early = spelled class.Function sections_1_to_8 l.front l.first refl in
    let a = in_front (is_other class.EntryPoint) l.front l.back m c
    (subst (λ (xs : List Class). slice_get xs m ≡ Some c) (sym l.all) at) e late in
    let b = in_back (is_other class.Function) l.front l.back n d
    (subst (λ (xs : List Class). slice_get xs n ≡ Some d) (sym l.all) there) f early in
    omega (arith, a, b)

-- the class of an instruction
class_at : (is : List PlainInst) (n : ℕ) (i : PlainInst) → slice_get is n ≡ Some i
    → slice_get (classes is) n ≡ Some (class_of i.opcode)
class_at is n i at = slice_get-map (λ (j : PlainInst). class_of j.opcode) is n
    ∙ ap (option_map (λ (j : PlainInst). class_of j.opcode)) at

entry_class : is_other class.EntryPoint (class_of opcode.ENTRY_POINT) ≡ false
unfolding rows
entry_class = refl

faced_opcode : (b : Bool) (os : List Plain) (f : ℕ) (ps : List Plain)
    → (if b then face_in os else None) ≡ Some (f, ps) → b ≡ true
faced_opcode true os f ps h = refl
faced_opcode false os f ps h = absurd cc

entry_other : (is : List PlainInst) (n f : ℕ) (os : List Plain) (e : IsEntry is n f os)
    → is_other class.EntryPoint (class_of e.inst.opcode) ≡ false
entry_other is n f os e =
    let t = faced_opcode (nat_eq e.inst.opcode opcode.ENTRY_POINT) e.inst.operands f os e.faced in
    subst (λ (k : ℕ). is_other class.EntryPoint (class_of k) ≡ false)
    (sym (eqb-true e.inst.opcode opcode.ENTRY_POINT t)) entry_class

-- the class of an OpFunction
function_class : (o : Option Class) → IsSomeAnd o (λ c. IsTrue (is_among c (class.Function ∷ [])))
    → (c : Class) × (o ≡ Some c) × (is_other class.Function c ≡ false)
function_class None h = absurd h
function_class (Some c) h = (c, refl, ap not h)

entries_before : (is : List PlainInst) (count n f : ℕ) (os : List Plain) → IsLayout (classes is)
    → IsAt is count (class.Function ∷ []) → IsEntry is n f os → n < count
entries_before is count n f os l a e =
    let c = function_class (slice_get (classes is) count) a in
    entry_before (classes is) n count (class_of e.inst.opcode) c.0 l (class_at is n e.inst e.there)
    (entry_other is n f os e) c.1 c.2

-- Up to an instruction with an OpFunction at it or before it there is a last one.
decided : (o : Option Class) (cs : List Class) → IsSomeAnd o (λ c. IsTrue (is_among c cs))
    ⊎ ¬ (IsSomeAnd o (λ c. IsTrue (is_among c cs)))
decided None cs = inr (λ h. h)
decided (Some c) cs = by_test (is_among c cs) refl where
  by_test : (b : Bool) → is_among c cs ≡ b → IsTrue (is_among c cs) ⊎ ¬ (IsTrue (is_among c cs))
  by_test true e = inl e
  by_test false e = inr (λ t. let no : false ≡ true = sym e ∙ t in absurd (cc))

last_up_to : (is : List PlainInst) (m k : ℕ) → IsAt is m (class.Function ∷ []) → m + k < length is
    → (f : ℕ) × IsLast is class.Function (m + k) f
last_up_to is m zero a l = (
  m,
  record {
    within = l;
    up_to = omega arith;
    there = a;
    last = λ j p q h. absurd (omega (arith, p, q));
  },
)
last_up_to is m (suc k) a l = elim (decided (slice_get (classes is) (m + suc k)) (class.Function ∷ [])) [
  | inl h ↦ (
    m + suc k,
    record {
      within = l;
      up_to = omega arith;
      there = h;
      last = λ j p q g. absurd (omega (arith, p, q));
    },
  )
  | inr n ↦
      let b = last_up_to is m k a (omega (arith, l)) in
      let u = b.1.up_to in (
        b.0,
        record {
          within = l;
          up_to = omega (arith, u);
          there = b.1.there;
          last = λ j p q g. elim (cases_lt j (m + suc k)) [
            | inl r ↦ b.1.last j p (omega (arith, r)) g
            | inr r ↦
                let e : j ≡ m + suc k = omega (arith, q, r) in
                n (subst (λ (x : ℕ). IsAt is x (class.Function ∷ [])) e g)
          ];
        },
      )
]

no_function : (is : List PlainInst) (m n : ℕ) → IsAt is m (class.Function ∷ []) → m ≤ n → n < length is
    → ((f : ℕ) → ¬ (IsLast is class.Function n f)) → ⊥
no_function is m n a le l nowhere =
    let e : m + (n - m) ≡ n = omega (arith, le) in
    let s = last_up_to is m (n - m) a (omega (arith, le, l)) in
    nowhere s.0 (subst (λ (k : ℕ). IsLast is class.Function k s.0) e s.1)

global_before : (is : List PlainInst) (n s : ℕ) → IsOfSection is n s → s ≡ 11
    → (n < length is) × ((f : ℕ) → ¬ (IsLast is class.Function n f))
global_before is n _ (IsOfSection.early c s h k) e = let l = low_section c s k in absurd (omega (arith, e, l))
global_before is n _ (IsOfSection.global c h k nowhere) e =
    let w = slice_get_within (classes is) n c h in
    let m = length-map is (λ (j : PlainInst). class_of j.opcode) in
    (omega (arith, w, m), nowhere)
global_before is n _ (IsOfSection.declaration c f h k l d) e = absurd (omega (arith, e))
global_before is n _ (IsOfSection.definition c f h k l d) e = absurd (omega (arith, e))

are_early : (G : Table) (is : List PlainInst) (places : List Place) (count : ℕ) → IsPlan G is places
    → count ≤ length is → ((n : ℕ) → n < count → ¬ (IsAt is n (class.Function ∷ [])))
    → (count < length is → IsAt is count (class.Function ∷ [])) → AreEarly is count
are_early G is places count plan within before next = record {
  within = within;
  entries = λ n f os e. elim (cases_lt n count) [
    | inl l ↦ l
    | inr g ↦
        let w = slice_get_within is n e.inst e.there in
        entries_before is count n f os plan.layout (next (omega (arith, g, w))) e
  ];
  variables = λ x v. elim (cases_lt v.place count) [
    | inl l ↦ l
    | inr g ↦
        let b = global_before is v.place 11 v.section refl in
        let w = b.0 in
        absurd (no_function is count v.place (next (omega (arith, g, w))) g w b.1)
  ];
  functions = before;
}

-- by what a plan says of the first instructions
pub early_of : (G : Table) (is js : List PlainInst) (places : List Place) (count : ℕ) → is ≡ js → IsPlan G js places
    → count ≤ length places
    → ((ks : List PlainInst) (n : ℕ) → ArePlacesOf ks places → n < count → ¬ (IsAt ks n (class.Function ∷ [])))
    → ((ks : List PlainInst) → ArePlacesOf ks places → count < length places → IsAt ks count (class.Function ∷ []))
    → AreEarly is count
early_of G is js places count e plan within before next =
    let c = plan.count in
    let early = are_early G js places count plan (omega (arith, within, c)) (λ n l. before js n plan.place l)
    (λ l. next js plan.place (omega (arith, l, c))) in
    subst (λ (ks : List PlainInst). AreEarly ks count) (sym e) early

-- All entry points are sound if the early ones are.
pub sound_all : (minor : ℕ) (is : List PlainInst) (count : ℕ) (entries : List ℕ) → AreEarly is count
    → AreSound minor is count entries → AreSound minor is (length is) entries
sound_all minor is count entries early a = record {
  sound = λ k n h. let s = a.sound k n h in (a.within k n h, s.1);
  within = a.within;
  complete = λ n f os l e. a.complete n f os (early.entries n f os e) e;
  rising = a.rising;
}

-- No variable is before the first.
pub between_none : (is : List PlainInst) (count n : ℕ) → AreEarly is count → count ≤ n
    → ((x : ℕ) (g : IsGlobal is x) → ¬ (g.place < n)) → (x : ℕ) → ¬ (IsGlobal is x)
between_none is count n early l none x g = let b = early.variables x g in none x g (omega (arith, b, l))

pub between_by : (is : List PlainInst) (count n : ℕ) → AreEarly is count
    → ((x : ℕ) (g : IsGlobal is x) → ¬ (g.place < n)) → AreBetween is n count
between_by is count n early none = record {
  within = early.within;
  from = λ x g. elim (cases_lt g.place n) [ inl l ↦ absurd (none x g l) | inr l ↦ l ];
  before = early.variables;
}

-- the last of these instructions is no variable
pub between_less : (is : List PlainInst) (first end : ℕ) → first < end → AreBetween is first end
    → ((x : ℕ) (g : IsGlobal is x) → ¬ (g.place ≡ end - 1)) → AreBetween is first (end - 1)
between_less is first end l b none = record {
  within = (let w = b.within in omega (arith, w));
  from = b.from;
  before = λ x g. elim (cases_lt g.place (end - 1)) [
    | inl less ↦ less
    | inr past ↦
        let w = b.before x g in
        absurd (none x g (omega (arith, w, past, l)))
  ];
}
