-- What the pass keeps of functions and blocks goes on to say where they are.
use Rattle.std.proofs.Common.{◌≡◌, ◌∙◌, ◌<◌, ◌≤◌, ◌+◌, ◌⊎◌, ℕ, nat_eq, nat_lt, List, [], ◌∷◌, refl, sym, Bool, true, false, not, ◌&&◌, ◌||◌, if◌then◌else◌, Option, Some, None, inl, inr, length, arith}
use Rattle.std.specs.Prelude.{slice_get, is_none}
use Rattle.std.proofs.lemmas.Bool.{lt-ltb, eqb-true, eq-eqb}
use Rattle.spv_module.specs.Operand.{PlainInst}
use Rattle.spv_layout.specs.declared.class.Class.{Class}
use Rattle.spv_module.specs.declared.profile.Profile.{Profile}
use Rattle.spv_module.specs.declared.profile.Profile.TheVariants.{Own, OpenCl}
use Rattle.spv_layout.specs.declared.class.Class.TheVariants.{Capability, Function, FunctionEnd, Label, Body, Branch, BranchConditional, Switch, Return, Extended}
use Rattle.spv_layout.specs.declared.state.State.{State}
use Rattle.spv_layout.specs.declared.state.State.TheVariants as at
use Rattle.spv_layout.specs.declared.span.Spans.{Spans}
use Rattle.spv_layout.specs.Class.{is_among}
use Rattle.spv_layout.specs.Layout.{classes, seen}
use Rattle.spv_layout.specs.Place.{IsAt, IsLast, IsWithin, IsOfFunction, IsDefinition, terminators, section_of}
use Rattle.spv_layout.specs.inner.Pass.{Spanned, SpannedTo, Begun, Defined, Follows, Stands, is_open, is_declaring, is_definition}
use Rattle.spv_layout.specs.inner.Span.{Span, In, Outside, After, inside, left, UpTo, Before, mark, no_number, at_first, no_spans, entered_in, left_in}
use Rattle.spv_layout.specs.inner.State.{next_of, is_first}
use Rattle.spv_layout.proofs.Derivatives.{both_hold}
use Rattle.spv_layout.proofs.Spans.{is_at, is_not_at, at_moved, below_or, before_first, enters, leaves}

pub mark_of : (n : ℕ) → n < no_number → mark n ≡ Some n
mark_of n h = rw (lt-ltb n no_number h) refl

marked_is : (b : Bool) (n f : ℕ) → (if b then Some n else None) ≡ Some f → n ≡ f
marked_is true n f h = cc
marked_is false n f h = cc

mark_is : (n f : ℕ) → mark n ≡ Some f → n ≡ f
mark_is n f h = marked_is (nat_lt n no_number) n f h

none_spanned : (is : List PlainInst) (c : Class) (es : List Class) → Spanned is c es 0 no_number
none_spanned is c es = record { span = Outside; before = before_first is c es; kept = refl }

enter_function : (is : List PlainInst) (n : ℕ) (c : Class) (x : Spans) → n < length is → n < no_number → slice_get (classes is) n ≡ Some c
    → Spanned is Function (FunctionEnd ∷ []) n x.function → SpannedTo is Function (FunctionEnd ∷ []) n (entered_in x c n).function
enter_function is n Function x l m h s = record { span = In n; up_to = enters is Function (FunctionEnd ∷ []) n Function s.span l h s.before; kept = sym (mark_of n m) }
enter_function is n Label x l m h s = record { span = s.span; up_to = enters is Function (FunctionEnd ∷ []) n Label s.span l h s.before; kept = s.kept }
enter_function is n c x l m h s = record { span = s.span; up_to = enters is Function (FunctionEnd ∷ []) n c s.span l h s.before; kept = s.kept }

enter_block : (is : List PlainInst) (n : ℕ) (c : Class) (x : Spans) → n < length is → n < no_number → slice_get (classes is) n ≡ Some c
    → Spanned is Label terminators n x.block → SpannedTo is Label terminators n (entered_in x c n).block
enter_block is n Function x l m h s = record { span = s.span; up_to = enters is Label terminators n Function s.span l h s.before; kept = s.kept }
enter_block is n Label x l m h s = record { span = In n; up_to = enters is Label terminators n Label s.span l h s.before; kept = sym (mark_of n m) }
enter_block is n c x l m h s = record { span = s.span; up_to = enters is Label terminators n c s.span l h s.before; kept = s.kept }

closed : (s : Span) → inside (left s true) ≡ None
closed Outside = refl
closed (In f) = refl
closed (After f) = refl

kept_open : (s : Span) → inside (left s false) ≡ inside s
kept_open Outside = refl
kept_open (In f) = refl
kept_open (After f) = refl

-- a span goes on past an instruction of a class, which ends it or not
passes : (is : List PlainInst) (c : Class) (es : List Class) (n : ℕ) (d : Class) (k : ℕ) → is_among d es ≡ false → slice_get (classes is) n ≡ Some d → SpannedTo is c es n k → Spanned is c es (n + 1) k
passes is c es n d k f h s = record {
  span = left s.span false;
  before = rw f at (leaves is c es n d s.span h s.up_to);
  kept = kept_open s.span ∙ s.kept;
}

ends : (is : List PlainInst) (c : Class) (es : List Class) (n : ℕ) (d : Class) (k : ℕ) → is_among d es ≡ true → slice_get (classes is) n ≡ Some d → SpannedTo is c es n k → Spanned is c es (n + 1) no_number
ends is c es n d k f h s = record {
  span = left s.span true;
  before = rw f at (leaves is c es n d s.span h s.up_to);
  kept = closed s.span;
}

leave_function : (is : List PlainInst) (n : ℕ) (c : Class) (x : Spans) → slice_get (classes is) n ≡ Some c → SpannedTo is Function (FunctionEnd ∷ []) n x.function
    → Spanned is Function (FunctionEnd ∷ []) (n + 1) (left_in x c).function
leave_function is n FunctionEnd x h s = ends is Function (FunctionEnd ∷ []) n FunctionEnd x.function refl h s
leave_function is n Branch x h s = passes is Function (FunctionEnd ∷ []) n Branch x.function refl h s
leave_function is n BranchConditional x h s = passes is Function (FunctionEnd ∷ []) n BranchConditional x.function refl h s
leave_function is n Switch x h s = passes is Function (FunctionEnd ∷ []) n Switch x.function refl h s
leave_function is n Return x h s = passes is Function (FunctionEnd ∷ []) n Return x.function refl h s
leave_function is n c x h s = passes is Function (FunctionEnd ∷ []) n c x.function refl h s

leave_block : (is : List PlainInst) (n : ℕ) (c : Class) (x : Spans) → slice_get (classes is) n ≡ Some c → SpannedTo is Label terminators n x.block
    → Spanned is Label terminators (n + 1) (left_in x c).block
leave_block is n FunctionEnd x h s = passes is Label terminators n FunctionEnd x.block refl h s
leave_block is n Branch x h s = ends is Label terminators n Branch x.block refl h s
leave_block is n BranchConditional x h s = ends is Label terminators n BranchConditional x.block refl h s
leave_block is n Switch x h s = ends is Label terminators n Switch x.block refl h s
leave_block is n Return x h s = ends is Label terminators n Return x.block refl h s
leave_block is n c x h s = passes is Label terminators n c x.block refl h s

-- what an open span is
open_is : (is : List PlainInst) (c : Class) (es : List Class) (n k f : ℕ) → SpannedTo is c es n k → mark k ≡ Some f → IsWithin is c es n f
open_is is c es n k f s e = of_span s.span s.up_to (s.kept ∙ e) where
  of_span : (t : Span) → UpTo is c es n t → inside t ≡ Some f → IsWithin is c es n f
  of_span _ (UpTo.outside g h) e = cc
  of_span _ (UpTo.within g w) e = let q : g ≡ f = cc in rw (← q) w
  of_span _ (UpTo.after g j b l m a) e = cc

open_before : (is : List PlainInst) (c : Class) (es : List Class) (n k f : ℕ) → Spanned is c es n k → mark k ≡ Some f → (f < n) × IsAt is f (c ∷ [])
open_before is c es n k f s e = of_span s.span s.before (s.kept ∙ e) where
  of_span : (t : Span) → Before is c es n t → inside t ≡ Some f → (f < n) × IsAt is f (c ∷ [])
  of_span _ (Before.outside g) e = cc
  of_span _ (Before.within g l a h j) e = let q : g ≡ f = cc in (rw (← q) l, rw (← q) a)
  of_span _ (Before.after g j l a h m o p) e = cc

none_begun : (is : List PlainInst) → Begun is 0 no_number
none_begun is = record { below = λ k h. absurd (omega arith); there = inl refl }

begins_not : (is : List PlainInst) (n first : ℕ) → ¬ (IsAt is n (Function ∷ [])) → Begun is n first → Begun is (n + 1) first
begins_not is n first x b = record {
  below = λ k l m a. elim (below_or k n (omega arith)) [ inl h ↦ b.below k h m a | inr e ↦ x (at_moved is k n (Function ∷ []) e a) ];
  there = elim b.there [ inl e ↦ inl e | inr p ↦ let l = p.0 in inr (omega arith, p.1) ];
}

first_begins : (is : List PlainInst) (n first : ℕ) (b : Bool) → nat_eq first no_number ≡ b → n < no_number → IsAt is n (Function ∷ []) → Begun is n first → Begun is (n + 1) (if b then n else first)
first_begins is n first true e l a b = record {
  below = λ k h m. let q : first ≡ no_number = eqb-true first no_number e in b.below k m (omega arith);
  there = inr (omega arith, a);
}
first_begins is n first false e l a b = elim b.there [
  | inl q ↦ let r = eq-eqb first no_number q in cc
  | inr p ↦ let h = p.0 in record {
    below = λ k i m c. b.below k (omega arith) m c;
    there = inr (omega arith, p.1);
  }
]

abbrev is_function : Class → Bool
is_function c = is_among c (Function ∷ [])

abbrev is_end : Class → Bool
is_end c = is_among c (FunctionEnd ∷ [])

abbrev is_label : Class → Bool
is_label c = is_among c (Label ∷ [])

abbrev pub implies : Bool → Bool → Bool
implies true b = b
implies false b = true

-- what a transition keeps
abbrev is_fine : State → Class → Option State → Bool
is_fine s c None = true
is_fine s c (Some t) =
    implies (is_open t) (is_function c || is_open s && not (is_end c))
    && implies (is_declaring t) (is_declaring s && not (is_label c))
    && implies (is_label c) (is_open s)
    && implies (is_function c && not (is_declaring s)) (is_definition t && not (is_definition s))
    && implies (is_definition s && not (is_label c)) (is_definition t && not (is_end c))
    && implies (not (is_first s)) (is_none (section_of c))
    && implies (is_none (section_of c)) (not (is_first t))

fine : (s : State) (c : Class) → is_fine s c (next_of s c) ≡ true
fine at.Capabilities Capability = refl
fine at.Capabilities _ = refl
fine at.Extensions Capability = refl
fine at.Extensions _ = refl
fine at.Imports Capability = refl
fine at.Imports _ = refl
fine at.EntryPoints Capability = refl
fine at.EntryPoints _ = refl
fine at.ExecutionModes Capability = refl
fine at.ExecutionModes _ = refl
fine at.Sources Capability = refl
fine at.Sources _ = refl
fine at.Names Capability = refl
fine at.Names _ = refl
fine at.Processed Capability = refl
fine at.Processed _ = refl
fine at.Decorations Capability = refl
fine at.Decorations _ = refl
fine at.Declarations Capability = refl
fine at.Declarations _ = refl
fine at.Function Capability = refl
fine at.Function _ = refl
fine at.Declared Capability = refl
fine at.Declared _ = refl
fine at.Definition Capability = refl
fine at.Definition _ = refl
fine at.Defined Capability = refl
fine at.Defined _ = refl
fine at.Variables Capability = refl
fine at.Variables _ = refl
fine at.Phis Capability = refl
fine at.Phis _ = refl
fine at.Body Capability = refl
fine at.Body _ = refl
fine at.LoopMerge Capability = refl
fine at.LoopMerge _ = refl
fine at.SelectionMerge Capability = refl
fine at.SelectionMerge _ = refl
fine at.Block Capability = refl
fine at.Block _ = refl

-- the same, one by one
pub record Fine (s : State) (c : Class) (t : State) : Type 0 where
  pub opens : implies (is_open t) (is_function c || is_open s && not (is_end c)) ≡ true
  pub declaring : implies (is_declaring t) (is_declaring s && not (is_label c)) ≡ true
  pub label : implies (is_label c) (is_open s) ≡ true
  pub function : implies (is_function c && not (is_declaring s)) (is_definition t && not (is_definition s)) ≡ true
  pub definition : implies (is_definition s && not (is_label c)) (is_definition t && not (is_end c)) ≡ true
  pub early : implies (not (is_first s)) (is_none (section_of c)) ≡ true
  pub late : implies (is_none (section_of c)) (not (is_first t)) ≡ true

pub fine_move : (s : State) (c : Class) (t : State) → next_of s c ≡ Some t → Fine s c t
fine_move s c t e = parts (rw e at (fine s c)) where
  parts : is_fine s c (Some t) ≡ true → Fine s c t
  parts h =
      let p = both_hold _ _ h in
      let q = both_hold _ _ p.0 in
      let r = both_hold _ _ q.0 in
      let u = both_hold _ _ r.0 in
      let v = both_hold _ _ u.0 in
      let w = both_hold _ _ v.0 in
      record { opens = w.0; declaring = w.1; label = v.1; function = u.1; definition = r.1; early = q.1; late = p.1 }

-- a transition by a class as a profile sees it keeps the same of the class
pub fine_seen : (p : Profile) (s : State) (c : Class) (t : State) → next_of s (seen p c) ≡ Some t → Fine s c t
fine_seen OpenCl s c t e = fine_move s c t e
fine_seen Own s Extended t e =
    let f = fine_move s Body t e in
    record { opens = f.opens; declaring = f.declaring; label = f.label; function = f.function; definition = f.definition; early = f.early; late = f.late }
fine_seen Own s c t e = fine_move s c t e

none_defined : (is : List PlainInst) → Defined is 0 at.Capabilities no_number no_number
none_defined is = record {
  labels = λ k h. absurd (omega arith);
  there = inl refl;
  declaring = λ h. refl;
  defined = λ f h l. absurd (omega arith);
  current = λ h. cc;
}

-- an instruction that is no label
labels_on : (is : List PlainInst) (n d : ℕ) → ¬ (IsAt is n (Label ∷ [])) → ((k : ℕ) → k < n → k < d → ¬ (IsAt is k (Label ∷ []))) → (k : ℕ) → k < n + 1 → k < d → ¬ (IsAt is k (Label ∷ []))
labels_on is n d x h k l m a = elim (below_or k n (omega arith)) [ inl b ↦ h k b m a | inr e ↦ x (at_moved is k n (Label ∷ []) e a) ]

there_on : (is : List PlainInst) (n d : ℕ) → (d ≡ no_number) ⊎ ((d < n) × IsAt is d (Function ∷ [])) → (d ≡ no_number) ⊎ ((d < n + 1) × IsAt is d (Function ∷ []))
there_on is n d (inl e) = inl e
there_on is n d (inr p) = let l = p.0 in inr (omega arith, p.1)

-- the bare facts of a transition
declared_before : (s : State) (c : Class) (t : State) → Fine s c t → is_declaring t ≡ true → (is_declaring s ≡ true) × (is_label c ≡ false)
declared_before s c t g h = by (is_declaring t) (is_declaring s) (is_label c) h g.declaring where
  by : (a b l : Bool) → a ≡ true → implies a (b && not l) ≡ true → (b ≡ true) × (l ≡ false)
  by true true false h g = (refl, refl)
  by true true true h g = cc
  by true false l h g = cc
  by false b l h g = cc

open_before_other : (s : State) (c : Class) (t : State) → Fine s c t → is_function c ≡ false → is_open t ≡ true → (is_open s ≡ true) × (is_end c ≡ false)
open_before_other s c t g f h = by (is_open t) (is_function c) (is_open s) (is_end c) h f g.opens where
  by : (a b o l : Bool) → a ≡ true → b ≡ false → implies a (b || o && not l) ≡ true → (o ≡ true) × (l ≡ false)
  by true true o l h f g = cc
  by true false true false h f g = (refl, refl)
  by true false true true h f g = cc
  by true false false l h f g = cc
  by false b o l h f g = cc

definition_on : (s : State) (c : Class) (t : State) → Fine s c t → is_label c ≡ false → is_definition s ≡ true → (is_definition t ≡ true) × (is_end c ≡ false)
definition_on s c t g f h = by (is_definition s) (is_label c) (is_definition t) (is_end c) h f g.definition where
  by : (a b o l : Bool) → a ≡ true → b ≡ false → implies (a && not b) (o && not l) ≡ true → (o ≡ true) × (l ≡ false)
  by true true o l h f g = cc
  by true false true false h f g = (refl, refl)
  by true false true true h f g = cc
  by true false false l h f g = cc
  by false b o l h f g = cc

begins_definition : (s : State) (t : State) → Fine s Function t → is_declaring s ≡ false → (is_definition t ≡ true) × (is_definition s ≡ false)
begins_definition s t g h = by (is_declaring s) (is_definition t) (is_definition s) h g.function where
  by : (a o l : Bool) → a ≡ false → implies (true && not a) (o && not l) ≡ true → (o ≡ true) × (l ≡ false)
  by true o l h g = cc
  by false true false h g = (refl, refl)
  by false true true h g = cc
  by false false l h g = cc

-- after an instruction that is neither an OpFunction nor a label
goes_other : (is : List PlainInst) (n : ℕ) (s t : State) (c : Class) (function now definitions : ℕ) → Fine s c t → slice_get (classes is) n ≡ Some c
    → is_function c ≡ false → is_label c ≡ false → (is_end c ≡ false → now ≡ function) → Defined is n s function definitions → Defined is (n + 1) t now definitions
goes_other is n s t c function now d g h f l k a = record {
  labels = labels_on is n d (is_not_at is n c (Label ∷ []) h l) a.labels;
  there = there_on is n d a.there;
  declaring = λ e. a.declaring (declared_before s c t g e).0;
  defined = λ j e m u. elim (below_or j n (omega arith)) [
    | inl b ↦ elim (a.defined j e b u) [
      | inl x ↦ inl x
      | inr x ↦ let y = definition_on s c t g l x.0 in let z = k y.1 in inr (y.0, rw z x.1)
    ]
    | inr q ↦ absurd (is_not_at is n c (Function ∷ []) h f (at_moved is j n (Function ∷ []) q u))
  ];
  current = λ e. let y = open_before_other s c t g f e in let o = a.current y.0 in let z = k y.1 in (o.0, rw z o.1);
}

-- a function is a definition, if some is before it
not_declaring : (is : List PlainInst) (n : ℕ) (s : State) (b : Bool) (function d f : ℕ) → is_declaring s ≡ b → f < no_number → d ≤ f → Defined is n s function d → b ≡ false
not_declaring is n s true function d f e l m a = let q = a.declaring e in absurd (omega arith)
not_declaring is n s false function d f e l m a = refl

goes_function : (is : List PlainInst) (n : ℕ) (s t : State) (function definitions : ℕ) → Fine s Function t → n < no_number → slice_get (classes is) n ≡ Some Function
    → Defined is n s function definitions → Defined is (n + 1) t n definitions
goes_function is n s t function d g l h a = record {
  labels = labels_on is n d (is_not_at is n Function (Label ∷ []) h refl) a.labels;
  there = there_on is n d a.there;
  declaring = λ e. a.declaring (declared_before s Function t g e).0;
  defined = λ j e m u. elim (below_or j n (omega arith)) [
    | inl b ↦ elim (a.defined j e b u) [
      | inl x ↦ inl x
      | inr x ↦ let y = begins_definition s t g (not_declaring is n s (is_declaring s) function d j refl (omega arith) e a) in let z = y.1 in let w = x.0 in cc
    ]
    | inr q ↦ let y = begins_definition s t g (not_declaring is n s (is_declaring s) function d j refl (omega arith) e a) in inr (y.0, rw q (mark_of n l))
  ];
  current = λ e. (n, mark_of n l);
}

-- the function of a label
same_function : (is : List PlainInst) (n f g : ℕ) → IsLast is Function n f → f ≤ g → g ≤ n → IsAt is g (Function ∷ []) → f ≡ g
same_function is n f g a l m u = elim (below_or f g l) [ inl b ↦ absurd (a.last g b m u) | inr e ↦ e ]

definition_at : (is : List PlainInst) (f g : ℕ) → f ≡ g → IsDefinition is f → IsDefinition is g
definition_at is f g e d = rw (← e) d

goes_label_by : (b : Bool) (is : List PlainInst) (n : ℕ) (s t : State) (function d f : ℕ) → nat_eq d no_number ≡ b → Fine s Label t → n < no_number → slice_get (classes is) n ≡ Some Label
    → function ≡ f → mark function ≡ Some f → f < n → IsAt is f (Function ∷ []) → IsOfFunction is n f
    → Defined is n s function d → Defined is (n + 1) t function (if b then function else d)
goes_label_by true is n s t function d f e g l h k m r u w a =
    let q : d ≡ no_number = eqb-true d no_number e in
    let x : IsDefinition is f = record { label = n; there = is_at is n Label (Label ∷ []) h refl; of = w } in
    record {
      labels = λ j i p. a.labels j (omega arith) (omega arith);
      there = inr (omega arith, rw k u);
      declaring = λ o. let y = (declared_before s Label t g o).1 in cc;
      defined = λ j o i p. inl (definition_at is f j (same_function is n f j w.begun (omega arith) (omega arith) p) x);
      current = λ o. (f, m);
    }
goes_label_by false is n s t function d f e g l h k m r u w a =
    let x : IsDefinition is f = record { label = n; there = is_at is n Label (Label ∷ []) h refl; of = w } in
    let v : d < n = elim a.there [ inl q ↦ (let z = eq-eqb d no_number q in cc) | inr p ↦ p.0 ] in
    record {
      labels = λ j i p. a.labels j (omega arith) p;
      there = there_on is n d a.there;
      declaring = λ o. let y = (declared_before s Label t g o).1 in cc;
      defined = λ j o i p. elim (below_or j n (omega arith)) [
        | inl b ↦ elim (a.defined j o b p) [
          | inl y ↦ inl y
          | inr y ↦ let z : f ≡ j = (let y' = y.1 in cc) in inl (definition_at is f j z x)
        ]
        | inr q ↦ absurd (is_not_at is n Label (Function ∷ []) h refl (at_moved is j n (Function ∷ []) q p))
      ];
      current = λ o. (f, m);
    }

goes_label : (is : List PlainInst) (n : ℕ) (s t : State) (x : Spans) → Fine s Label t → n < length is → n < no_number → slice_get (classes is) n ≡ Some Label
    → Spanned is Function (FunctionEnd ∷ []) n x.function → Defined is n s x.function x.definitions → Defined is (n + 1) t x.function (at_first x.definitions x.function)
goes_label is n s t x g l m h p a =
    let o = a.current g.label in
    let b = open_before is Function (FunctionEnd ∷ []) n x.function o.0 p o.1 in
    let w = open_is is Function (FunctionEnd ∷ []) n x.function o.0 (enter_function is n Label x l m h p) o.1 in
    goes_label_by (nat_eq x.definitions no_number) is n s t x.function x.definitions o.0 refl g m h (mark_is x.function o.0 o.1) o.1 b.0 b.1 w a

pub none_follows : (is : List PlainInst) → Follows is 0 at.Capabilities no_spans
none_follows is = record {
  function = none_spanned is Function (FunctionEnd ∷ []);
  block = none_spanned is Label terminators;
  functions = none_begun is;
  definitions = none_defined is;
}

goes : (is : List PlainInst) (n : ℕ) (s t : State) (c : Class) (x : Spans) → Fine s c t → n < length is → n < no_number → slice_get (classes is) n ≡ Some c
    → Spanned is Function (FunctionEnd ∷ []) n x.function → Defined is n s x.function x.definitions
    → Defined is (n + 1) t (left_in (entered_in x c n) c).function (left_in (entered_in x c n) c).definitions
goes is n s t Function x g l m h p a = goes_function is n s t x.function x.definitions g m h a
goes is n s t Label x g l m h p a = goes_label is n s t x g l m h p a
goes is n s t FunctionEnd x g l m h p a = goes_other is n s t FunctionEnd x.function no_number x.definitions g h refl refl (λ e. cc) a
goes is n s t Branch x g l m h p a = goes_other is n s t Branch x.function x.function x.definitions g h refl refl (λ e. refl) a
goes is n s t BranchConditional x g l m h p a = goes_other is n s t BranchConditional x.function x.function x.definitions g h refl refl (λ e. refl) a
goes is n s t Switch x g l m h p a = goes_other is n s t Switch x.function x.function x.definitions g h refl refl (λ e. refl) a
goes is n s t Return x g l m h p a = goes_other is n s t Return x.function x.function x.definitions g h refl refl (λ e. refl) a
goes is n s t c x g l m h p a = goes_other is n s t c x.function x.function x.definitions g h refl refl (λ e. refl) a

begins : (is : List PlainInst) (n : ℕ) (c : Class) (x : Spans) → n < no_number → slice_get (classes is) n ≡ Some c → Begun is n x.functions → Begun is (n + 1) (left_in (entered_in x c n) c).functions
begins is n Function x m h b = first_begins is n x.functions (nat_eq x.functions no_number) refl m (is_at is n Function (Function ∷ []) h refl) b
begins is n Label x m h b = begins_not is n x.functions (is_not_at is n Label (Function ∷ []) h refl) b
begins is n FunctionEnd x m h b = begins_not is n x.functions (is_not_at is n FunctionEnd (Function ∷ []) h refl) b
begins is n Branch x m h b = begins_not is n x.functions (is_not_at is n Branch (Function ∷ []) h refl) b
begins is n BranchConditional x m h b = begins_not is n x.functions (is_not_at is n BranchConditional (Function ∷ []) h refl) b
begins is n Switch x m h b = begins_not is n x.functions (is_not_at is n Switch (Function ∷ []) h refl) b
begins is n Return x m h b = begins_not is n x.functions (is_not_at is n Return (Function ∷ []) h refl) b
begins is n c x m h b = begins_not is n x.functions (is_not_at is n c (Function ∷ []) h refl) b

pub stands_at : (is : List PlainInst) (n : ℕ) (s : State) (c : Class) (x : Spans) → n < length is → n < no_number → slice_get (classes is) n ≡ Some c → Follows is n s x
    → Stands is n (entered_in x c n).function (entered_in x c n).block
stands_at is n s c x l m h f = record { of_function = enter_function is n c x l m h f.function; of_block = enter_block is n c x l m h f.block }

pub follows_on : (p : Profile) (is : List PlainInst) (n : ℕ) (s t : State) (c : Class) (x : Spans) → next_of s (seen p c) ≡ Some t → n < length is → n < no_number → slice_get (classes is) n ≡ Some c → Follows is n s x
    → Follows is (n + 1) t (left_in (entered_in x c n) c)
follows_on p is n s t c x e l m h f = record {
  function = leave_function is n c (entered_in x c n) h (enter_function is n c x l m h f.function);
  block = leave_block is n c (entered_in x c n) h (enter_block is n c x l m h f.block);
  functions = begins is n c x m h f.functions;
  definitions = goes is n s t c x (fine_seen p s c t e) l m h f.function f.definitions;
}
