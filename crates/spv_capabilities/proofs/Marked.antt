-- Marks of what instructions name, one instruction on.
use Rattle.std.proofs.Common.{◌≡◌, ◌≢◌, ◌∙◌, ◌<◌, ◌+◌, ◌⊎◌, ◌↔◌, ℕ, List, sym, ap, inl, inr, Option, Some, None, Bool}
use Rattle.std.proofs.Common.{true, false, IsTrue, length, get_or, get_or-set_same, get_or-set_other, arith}
use Rattle.std.specs.Prelude.{slice_get}
use Rattle.std.proofs.Math.ListN.{set, length-set}
use Rattle.std.proofs.lemmas.Bool.{cases_order, cases_eq}
use Rattle.std.proofs.lemmas.Option.{slice_get_within, slice_get-get_or, get_or_from_slice_get}
use Rattle.spv_module.specs.Operand.{PlainInst}
use Rattle.spv_ids.specs.Definition.{IsDefinedAt}
use Rattle.spv_ids.specs.Outcome.{IsDefinitionOf, IsOnly}
use Rattle.spv_capabilities.specs.inner.Survey.{IsNamedBefore, AreMarked}

-- below n, or n
pub below_or : (k n : ℕ) → k < n + 1 → (k < n) ⊎ (k ≡ n)
below_or k n h = elim (cases_order k n) [
  | inl e ↦ inr e
  | inr r ↦
      elim r [ inl l ↦ inl l | inr g ↦ absurd (omega arith) ]
]

pub defined_within : (is : List PlainInst) (x n : ℕ) → IsDefinedAt is x n → n < length is
defined_within is x n d = slice_get_within is n d.inst d.there

-- instruction i, of number `to`, names the id that instruction f defines
record NamesAt (names : PlainInst → Option ℕ) (is : List PlainInst) (i : PlainInst) (f : ℕ) : Type 0 where
  pub id : ℕ
  pub named : names i ≡ Some id
  pub defined : IsDefinedAt is id f

more : (names : PlainInst → Option ℕ) (is : List PlainInst) (to f : ℕ) → IsNamedBefore names is to f
    → IsNamedBefore names is (to + 1) f
more names is to f n =
    let b = n.below in
    record {
      place = n.place;
      below = omega arith;
      inst = n.inst;
      there = n.there;
      id = n.id;
      named = n.named;
      defined = n.defined;
    }

here : (names : PlainInst → Option ℕ) (is : List PlainInst) (to f : ℕ) (i : PlainInst) → slice_get is to ≡ Some i
    → NamesAt names is i f → IsNamedBefore names is (to + 1) f
here names is to f i h n =
    record { place = to; below = omega arith; inst = i; there = h; id = n.id; named = n.named; defined = n.defined }

split : (names : PlainInst → Option ℕ) (is : List PlainInst) (to f : ℕ) (i : PlainInst) → slice_get is to ≡ Some i
    → IsNamedBefore names is (to + 1) f → IsNamedBefore names is to f ⊎ NamesAt names is i f
split names is to f i h n = elim (below_or n.place to n.below) [
  | inl b ↦ inl (record {
    place = n.place;
    below = b;
    inst = n.inst;
    there = n.there;
    id = n.id;
    named = n.named;
    defined = n.defined;
  })
  | inr e ↦
      let t : slice_get is to ≡ Some n.inst = rw e at n.there in
      let s : n.inst ≡ i = cc in
      inr (record { id = n.id; named = rw s at n.named; defined = n.defined })
]

-- an instruction that names nothing which f defines
same_at : (names : PlainInst → Option ℕ) (is : List PlainInst) (to f : ℕ) (i : PlainInst) (b : Bool)
    → slice_get is to ≡ Some i → (NamesAt names is i f → ⊥) → IsTrue b ↔ IsNamedBefore names is to f
    → IsTrue b ↔ IsNamedBefore names is (to + 1) f
same_at names is to f i b h never each = (
  λ t. more names is to f (each.0 t),
  λ n. elim (split names is to f i h n) [ inl m ↦ each.1 m | inr a ↦ absurd (never a) ],
)

pub marks_kept : (names : PlainInst → Option ℕ) (is : List PlainInst) (to : ℕ) (i : PlainInst) (marks : List Bool)
    → slice_get is to ≡ Some i → ((x f : ℕ) → names i ≡ Some x → IsDefinedAt is x f → ⊥)
    → AreMarked names is to marks → AreMarked names is (to + 1) marks
marks_kept names is to i marks h never a = record {
  count = a.count;
  each = λ f b e. same_at names is to f i b h (λ n. never n.id f n.named n.defined) (a.each f b e);
}

-- an instruction that names nothing at all
pub marks_none : (names : PlainInst → Option ℕ) (is : List PlainInst) (to : ℕ) (i : PlainInst) (marks : List Bool)
    → slice_get is to ≡ Some i → names i ≡ None → AreMarked names is to marks → AreMarked names is (to + 1) marks
marks_none names is to i marks h e a =
    marks_kept names is to i marks h (λ x f g d. let no : None ≡ Some x = sym e ∙ g in cc) a

-- an id that nothing defines
pub marks_undefined : (names : PlainInst → Option ℕ) (is : List PlainInst) (to x : ℕ) (i : PlainInst)
    (marks : List Bool) → slice_get is to ≡ Some i → names i ≡ Some x → IsDefinitionOf is x None
    → AreMarked names is to marks → AreMarked names is (to + 1) marks
marks_undefined names is to x i marks h e never a =
    marks_kept names is to i marks h (λ y f g d. let s : x ≡ y = cc in never f (rw s d)) a

set_same : (marks : List Bool) (m : ℕ) (b : Bool) → m < length marks → slice_get (set marks m true) m ≡ Some b
    → b ≡ true
set_same marks m b l h =
    let g : get_or (set marks m true) m false ≡ b = get_or_from_slice_get (set marks m true) m b false h in
    sym g ∙ get_or-set_same marks m true false l

set_other : (marks : List Bool) (m f : ℕ) (b : Bool) → f ≢ m → slice_get (set marks m true) f ≡ Some b
    → slice_get marks f ≡ Some b
set_other marks m f b ne h =
    let l : f < length (set marks m true) = slice_get_within (set marks m true) f b h in
    let l' : f < length marks = omega (arith, length-set {A = Bool}) in
    let g : get_or (set marks m true) f false ≡ b = get_or_from_slice_get (set marks m true) f b false h in
    let k : get_or marks f false ≡ b = sym (get_or-set_other marks m f true false ne) ∙ g in
    slice_get-get_or marks f false l' ∙ ap Some k

set_at : (names : PlainInst → Option ℕ) (is : List PlainInst) (to x m f : ℕ) (i : PlainInst) (marks : List Bool)
    (b : Bool) → slice_get is to ≡ Some i → names i ≡ Some x → IsOnly is x m → m < length marks
    → AreMarked names is to marks → slice_get (set marks m true) f ≡ Some b → (f ≡ m) ⊎ (f ≡ m → ⊥)
    → IsTrue b ↔ IsNamedBefore names is (to + 1) f
set_at names is to x m f i marks b h e one l a s (inl q) =
    let t : b ≡ true = set_same marks m b l (rw q at s) in
    let d : IsDefinedAt is x f = rw q one.there in
    (λ y. here names is to f i h (record { id = x; named = e; defined = d }), λ y. t)
set_at names is to x m f i marks b h e one l a s (inr q) =
    same_at names is to f i b h
    (λ n. let y : x ≡ n.id = cc (e, n.named) in q (one.only f (rw y n.defined)))
    (a.each f b (set_other marks m f b q s))

-- the mark of what it names
pub marks_set : (names : PlainInst → Option ℕ) (is : List PlainInst) (to x m : ℕ) (i : PlainInst) (marks : List Bool)
    → slice_get is to ≡ Some i → names i ≡ Some x → IsDefinitionOf is x (Some m) → m < length marks
    → AreMarked names is to marks → AreMarked names is (to + 1) (set marks m true)
marks_set names is to x m i marks h e one l a = record {
  count = length-set marks m true ∙ a.count;
  each = λ f b s. set_at names is to x m f i marks b h e one l a s (cases_eq f m);
}

-- a mark is there for each instruction
pub marks_within : (names : PlainInst → Option ℕ) (is : List PlainInst) (to x m : ℕ) (marks : List Bool)
    → IsDefinitionOf is x (Some m) → AreMarked names is to marks → m < length marks
marks_within names is to x m marks one a = let d = defined_within is x m one.there in let c = a.count in omega arith
