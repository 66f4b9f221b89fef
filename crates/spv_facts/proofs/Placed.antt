-- The place of an instruction by opcodes is its place by the layout.
use Rattle.std.proofs.Common.{◌≡◌, ◌<◌, ◌≤◌, ◌+◌, ◌-◌, ℕ, zero, suc, List, [], ◌∷◌, refl, sym, subst, ap, ◌∙◌, Bool}
use Rattle.std.proofs.Common.{true, false, not, ◌&&◌, if◌then◌else◌, Option, Some, None, length, drop, option_map}
use Rattle.std.proofs.Common.{arith}
use Rattle.std.specs.Prelude.{slice_get, MatchOption}
use Rattle.std.proofs.lemmas.Option.{slice_get-map, slice_get_within}
use Rattle.spv_module.specs.Operand.{PlainInst}
use Rattle.spv_layout.specs.declared.class.Class.{Class}
use Rattle.spv_layout.specs.declared.class.Class.TheVariants.{Capability, Function, FunctionEnd, Label, Branch}
use Rattle.spv_layout.specs.declared.class.Class.TheVariants.{BranchConditional, Switch, Return}
use Rattle.spv_layout.specs.declared.state.State.{State}
use Rattle.spv_layout.specs.declared.state.State.TheVariants as at
use Rattle.spv_layout.specs.Class.{is_among}
use Rattle.spv_layout.specs.Rows.{class_of}
use Rattle.spv_layout.specs.Layout.{IsLayout, classes}
use Rattle.spv_layout.specs.Place.{IsWithin, IsOfFunction, IsOfBlock, terminators}
use Rattle.spv_layout.specs.inner.Span.{Span, Outside, In, After, left, inside, UpTo, Before}
use Rattle.spv_layout.specs.inner.Span as span
use Rattle.spv_layout.specs.inner.State.{next_of, Remains}
use Rattle.spv_layout.proofs.Derivatives.{both_hold}
use Rattle.spv_layout.proofs.Following.{implies}
use Rattle.spv_layout.proofs.Layouts.{layout_remains}
use Rattle.spv_layout.proofs.Remains.{goes_on, goes_no_further}
use Rattle.spv_layout.proofs.Spans.{before_first, enters, leaves, within}
use Rattle.spv_facts.specs.declared.fact.Place.{Place}
use Rattle.spv_facts.specs.Place.{entered, left_by, nowhere, open_before, open_from, place_of, standing}
use Rattle.spv_facts.proofs.Opcodes.{entered_by, left_of, entered_same, left_same}
use Rattle.spv_lines.proofs.Steps.{drop_step}
use Rattle.spv_facts.proofs.Steps.{open_step, open_last}

-- What is open before an instruction, and at it.

record Opened (is : List PlainInst) (c : Class) (es : List Class) (n : ℕ) (o : Option ℕ) : Type 0 where
  pub span : Span
  pub before : Before is c es n span
  pub kept : inside span ≡ o

record OpenedTo (is : List PlainInst) (c : Class) (es : List Class) (n : ℕ) (o : Option ℕ) : Type 0 where
  pub span : Span
  pub up_to : UpTo is c es n span
  pub kept : inside span ≡ o

inside_entered : (b : Bool) (s : Span) (n : ℕ) (o : Option ℕ) → inside s ≡ o
    → inside (span.entered s b n) ≡ (if b then Some n else o)
inside_entered true s n o h = refl
inside_entered false s n o h = h

inside_left : (b : Bool) (s : Span) (o : Option ℕ) → inside s ≡ o → inside (left s b) ≡ (if b then None else o)
inside_left true Outside o h = refl
inside_left true (In f) o h = refl
inside_left true (After f) o h = refl
inside_left false Outside o h = h
inside_left false (In f) o h = h
inside_left false (After f) o h = h

enter : (is : List PlainInst) (c : Class) (es : List Class) (n : ℕ) (d : Class) (o : Option ℕ) → n < length is
    → slice_get (classes is) n ≡ Some d → Opened is c es n o
    → OpenedTo is c es n (if is_among d (c ∷ []) then Some n else o)
enter is c es n d o h e s = record {
  span = span.entered s.span (is_among d (c ∷ [])) n;
  up_to = enters is c es n d s.span h e s.before;
  kept = inside_entered (is_among d (c ∷ [])) s.span n o s.kept;
}

leave : (is : List PlainInst) (c : Class) (es : List Class) (n : ℕ) (d : Class) (o : Option ℕ)
    → slice_get (classes is) n ≡ Some d → OpenedTo is c es n o
    → Opened is c es (n + 1) (if is_among d es then None else o)
leave is c es n d o e s = record {
  span = left s.span (is_among d es);
  before = leaves is c es n d s.span e s.up_to;
  kept = inside_left (is_among d es) s.span o s.kept;
}

told : (is : List PlainInst) (c : Class) (es : List Class) (n : ℕ) (o : Option ℕ) → OpenedTo is c es n o
    → MatchOption o ((f : ℕ) → ¬ (IsWithin is c es n f)) (λ f. IsWithin is c es n f)
told is c es n o s = subst (λ (p : Option ℕ). MatchOption p ((f : ℕ) → ¬ (IsWithin is c es n f))
    (λ f. IsWithin is c es n f)) s.kept (within is c es n s.span s.up_to)

-- The parts of a place, by classes.

function_at : (c : Class) (n : ℕ) (p : Place)
    → (entered_by c n p).function ≡ (if is_among c (Function ∷ []) then Some n else p.function)
function_at Function n p = refl
function_at FunctionEnd n p = refl
function_at Label n p = refl
function_at c n p = refl

block_at : (c : Class) (n : ℕ) (p : Place) → (is_among c (Function ∷ FunctionEnd ∷ []) ≡ true → p.block ≡ None)
    → (entered_by c n p).block ≡ (if is_among c (Label ∷ []) then Some n else p.block)
block_at Function n p h = sym (h refl)
block_at FunctionEnd n p h = sym (h refl)
block_at Label n p h = refl
block_at c n p h = refl

function_left : (c : Class) (p : Place)
    → (left_of c p).function ≡ (if is_among c (FunctionEnd ∷ []) then None else p.function)
function_left FunctionEnd p = refl
function_left Branch p = refl
function_left BranchConditional p = refl
function_left Switch p = refl
function_left Return p = refl
function_left c p = refl

block_left : (c : Class) (p : Place) → (is_among c (FunctionEnd ∷ []) ≡ true → p.block ≡ None)
    → (left_of c p).block ≡ (if is_among c terminators then None else p.block)
block_left FunctionEnd p h = sym (h refl)
block_left Branch p h = refl
block_left BranchConditional p h = refl
block_left Switch p h = refl
block_left Return p h = refl
block_left c p h = refl

ended : (c : Class) (n : ℕ) (p : Place) → is_among c (FunctionEnd ∷ []) ≡ true → (entered_by c n p).block ≡ None
ended FunctionEnd n p h = refl
ended c n p h = cc

-- What the states of the layout say of blocks.

abbrev has_block : State → Bool
has_block at.Variables = true
has_block at.Phis = true
has_block at.Body = true
has_block at.LoopMerge = true
has_block at.SelectionMerge = true
has_block _ = false

abbrev is_sound : State → Class → Option State → Bool
is_sound s c None = true
is_sound s c (Some t) = implies (is_among c (Function ∷ FunctionEnd ∷ [])) (not (has_block s))
    && (implies (has_block s && not (is_among c terminators)) (has_block t)
    && implies (is_among c (Label ∷ [])) (has_block t))

sound : (s : State) (c : Class) → is_sound s c (next_of s c) ≡ true
sound at.Capabilities Capability = refl
sound at.Capabilities _ = refl
sound at.Extensions Capability = refl
sound at.Extensions _ = refl
sound at.Imports Capability = refl
sound at.Imports _ = refl
sound at.EntryPoints Capability = refl
sound at.EntryPoints _ = refl
sound at.ExecutionModes Capability = refl
sound at.ExecutionModes _ = refl
sound at.Sources Capability = refl
sound at.Sources _ = refl
sound at.Names Capability = refl
sound at.Names _ = refl
sound at.Processed Capability = refl
sound at.Processed _ = refl
sound at.Decorations Capability = refl
sound at.Decorations _ = refl
sound at.Declarations Capability = refl
sound at.Declarations _ = refl
sound at.Function Capability = refl
sound at.Function _ = refl
sound at.Declared Capability = refl
sound at.Declared _ = refl
sound at.Definition Capability = refl
sound at.Definition _ = refl
sound at.Defined Capability = refl
sound at.Defined _ = refl
sound at.Variables Capability = refl
sound at.Variables _ = refl
sound at.Phis Capability = refl
sound at.Phis _ = refl
sound at.Body Capability = refl
sound at.Body _ = refl
sound at.LoopMerge Capability = refl
sound at.LoopMerge _ = refl
sound at.SelectionMerge Capability = refl
sound at.SelectionMerge _ = refl
sound at.Block Capability = refl
sound at.Block _ = refl

closed : (a b : Bool) → implies a (not b) ≡ true → a ≡ true → b ≡ false
closed true true h e = cc
closed true false h e = refl
closed false b h e = cc

none_after : (a b s t : Bool) (n : ℕ) (o : Option ℕ) → implies (s && not a) t ≡ true → implies b t ≡ true → t ≡ false
    → (s ≡ false → o ≡ None)
    → (if a then None else (if b then Some n else o)) ≡ None
none_after true b s t n o h g e k = refl
none_after false true s t n o h g e k = cc
none_after false false true t n o h g e k = cc
none_after false false false t n o h g e k = k refl

-- What is known before instruction n: the place that is open there.
record Passed (is : List PlainInst) (n : ℕ) : Type 0 where
  pub state : State
  pub remains : Remains state (classes (drop n is))
  pub place : Place
  pub goes : (m : ℕ) → n ≤ m → open_from n place (drop n is) (m - n) ≡ open_before is m
  pub function : Opened is Function (FunctionEnd ∷ []) n place.function
  pub block : Opened is Label terminators n place.block
  pub outside : has_block state ≡ false → place.block ≡ None

-- The state after an instruction.
record Moved (s : State) (c : Class) (rest : List Class) : Type 0 where
  pub state : State
  pub moved : next_of s c ≡ Some state
  pub remains : Remains state rest

moves : (s : State) (c : Class) (rest : List Class) (o : Option State) → next_of s c ≡ o → Remains s (c ∷ rest)
    → Moved s c rest
moves s c rest None e r = absurd (goes_no_further s c e rest r)
moves s c rest (Some t) e r = record { state = t; moved = e; remains = (goes_on s t c e rest).forth r }

moves_at : (is : List PlainInst) (n : ℕ) (i : PlainInst) → slice_get is n ≡ Some i → (p : Passed is n)
    → Moved p.state (class_of i.opcode) (classes (drop (n + 1) is))
moves_at is n i h p =
    let c = class_of i.opcode in
    moves p.state c (classes (drop (n + 1) is)) (next_of p.state c) refl
    (subst (λ js. Remains p.state (classes js)) (drop_step is n i h) p.remains)

class_at : (is : List PlainInst) (n : ℕ) (i : PlainInst) → slice_get is n ≡ Some i
    → slice_get (classes is) n ≡ Some (class_of i.opcode)
class_at is n i h = slice_get-map (λ j. class_of j.opcode) is n ∙ ap (option_map (λ j. class_of j.opcode)) h

-- At an instruction.
record Standing (is : List PlainInst) (n : ℕ) (c : Class) (s t : State) (p : Place) : Type 0 where
  pub function : OpenedTo is Function (FunctionEnd ∷ []) n (entered_by c n p).function
  pub block : OpenedTo is Label terminators n (entered_by c n p).block
  pub opens : (entered_by c n p).block ≡ (if is_among c (Label ∷ []) then Some n else p.block)
  pub after : implies (has_block s && not (is_among c terminators)) (has_block t) ≡ true
  pub label : implies (is_among c (Label ∷ [])) (has_block t) ≡ true

stands : (is : List PlainInst) (n : ℕ) (i : PlainInst) → slice_get is n ≡ Some i → (p : Passed is n) → (t : State)
    → next_of p.state (class_of i.opcode) ≡ Some t
    → Standing is n (class_of i.opcode) p.state t p.place
stands is n i h p t e =
    let c = class_of i.opcode in
    let l = slice_get_within is n i h in
    let k = class_at is n i h in
    let s = rw e at (sound p.state c) in
    let a = both_hold _ _ s in
    let b = both_hold _ _ a.1 in
    let o = block_at c n p.place (λ x. p.outside
    (closed (is_among c (Function ∷ FunctionEnd ∷ [])) (has_block p.state) a.0 x)) in
    record {
      function = subst (λ (q : Option ℕ). OpenedTo is Function (FunctionEnd ∷ []) n q) (sym (function_at c n p.place))
          (enter is Function (FunctionEnd ∷ []) n c p.place.function l k p.function);
      block = subst (λ (q : Option ℕ). OpenedTo is Label terminators n q) (sym o)
          (enter is Label terminators n c p.place.block l k p.block);
      opens = o;
      after = b.0;
      label = b.1;
    }

step : (is : List PlainInst) (n : ℕ) (i : PlainInst) → slice_get is n ≡ Some i → Passed is n → Passed is (n + 1)
step is n i h p =
    let c = class_of i.opcode in
    let m = moves_at is n i h p in
    let s = stands is n i h p m.state m.moved in
    let k = class_at is n i h in
    let q = entered_by c n p.place in
    let same : left_by i.opcode (entered n i.opcode p.place) ≡ left_of c q = ap (left_by i.opcode)
    (entered_same n i.opcode p.place) ∙ left_same i.opcode q in
    let b : (left_of c q).block ≡ (if is_among c terminators then None else q.block) = block_left c q
    (ended c n p.place) in
    record {
      state = m.state;
      remains = m.remains;
      place = left_of c q;
      goes = λ j l.
          let le : n ≤ j = omega (arith, l) in
          let here : n < j = omega (arith, l) in
          ap (λ x. open_from (n + 1) x (drop (n + 1) is) (j - (n + 1))) (sym same)
          ∙ (sym (open_step is j n p.place i h here) ∙ p.goes j le);
      function = subst (λ (x : Option ℕ). Opened is Function (FunctionEnd ∷ []) (n + 1) x) (sym (function_left c q))
          (leave is Function (FunctionEnd ∷ []) n c q.function k s.function);
      block = subst (λ (x : Option ℕ). Opened is Label terminators (n + 1) x) (sym b)
          (leave is Label terminators n c q.block k s.block);
      outside = λ f.
          b ∙ (ap (λ x. if is_among c terminators then None else x) s.opens
          ∙ none_after (is_among c terminators) (is_among c (Label ∷ [])) (has_block p.state)
          (has_block m.state) n p.place.block s.after s.label f p.outside);
    }

nothing_open : (is : List PlainInst) (c : Class) (es : List Class) → Opened is c es 0 None
nothing_open is c es = record { span = Outside; before = before_first is c es; kept = refl }

begin : (is : List PlainInst) → IsLayout (classes is) → Passed is 0
begin is laid = record {
  state = at.Capabilities;
  remains = layout_remains (classes is) laid;
  place = nowhere;
  goes = λ m l. ap (λ k. open_from 0 nowhere is k) (let e : m - 0 ≡ m = omega arith in e);
  function = nothing_open is Function (FunctionEnd ∷ []);
  block = nothing_open is Label terminators;
  outside = λ e. refl;
}

some_inst : (is : List PlainInst) (n : ℕ) → n < length is → (i : PlainInst) × (slice_get is n ≡ Some i)
some_inst [] n h = absurd (omega (arith, h))
some_inst (j ∷ is) zero h = (j, refl)
some_inst (j ∷ is) (suc n) h = some_inst is n (omega (arith, h))

passed : (is : List PlainInst) → IsLayout (classes is) → (n : ℕ) → n ≤ length is → Passed is n
passed is laid zero h = begin is laid
passed is laid (suc n) h =
    let i = some_inst is n (omega (arith, h)) in
    let e : n + 1 ≡ suc n = omega arith in
    subst (Passed is) e (step is n i.0 i.1 (passed is laid n (omega (arith, h))))

-- An instruction of a module that is laid out, and its place.
record Agrees (is : List PlainInst) (n : ℕ) (p : Place) : Type 0 where
  pub function : MatchOption p.function ((f : ℕ) → ¬ (IsOfFunction is n f)) (λ f. IsOfFunction is n f)
  pub block : MatchOption p.block ((b : ℕ) → ¬ (IsOfBlock is n b)) (λ b. IsOfBlock is n b)

agrees : (is : List PlainInst) (n : ℕ) → IsLayout (classes is) → n < length is → Agrees is n (place_of is n)
agrees is n laid l =
    let i = some_inst is n l in
    let p = passed is laid n (omega (arith, l)) in
    let m = moves_at is n i.0 i.1 p in
    let s = stands is n i.0 i.1 p m.state m.moved in
    let q = entered_by (class_of i.0.opcode) n p.place in
    let le : n ≤ n = omega arith in
    let opened : open_before is n ≡ p.place = sym (p.goes n le) ∙ open_last is n n p.place le in
    let stood : place_of is n ≡ entered n i.0.opcode p.place = ap (λ z. standing n z (open_before is n)) i.1
    ∙ ap (λ z. standing n (Some i.0) z) opened in
    let here : q ≡ place_of is n = sym (entered_same n i.0.opcode p.place) ∙ sym stood in
    subst (Agrees is n) here (record {
      function = told is Function (FunctionEnd ∷ []) n q.function s.function;
      block = told is Label terminators n q.block s.block;
    })

pub of_function : (is : List PlainInst) (n : ℕ) → IsLayout (classes is) → n < length is
    → MatchOption (place_of is n).function ((f : ℕ) → ¬ (IsOfFunction is n f)) (λ f. IsOfFunction is n f)
of_function is n laid l = (agrees is n laid l).function

pub of_block : (is : List PlainInst) (n : ℕ) → IsLayout (classes is) → n < length is
    → MatchOption (place_of is n).block ((b : ℕ) → ¬ (IsOfBlock is n b)) (λ b. IsOfBlock is n b)
of_block is n laid l = (agrees is n laid l).block
