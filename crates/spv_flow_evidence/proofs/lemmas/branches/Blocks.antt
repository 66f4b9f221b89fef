-- An OpPhi of a module that is laid out is of a block.
use Rattle.std.proofs.Common.{◌≡◌, ◌∙◌, ◌≤◌, ◌<◌, ◌+◌, ◌⊎◌, inl, inr, ℕ, zero, suc, List, [], ◌∷◌, Bool, true, false}
use Rattle.std.proofs.Common.{not, ◌&&◌, ◌||◌, Option, Some, None, refl, ap, subst, arith, length, drop}
use Rattle.std.specs.Prelude.{slice_get, option_map}
use Rattle.std.proofs.lemmas.Bool.{eqb-true}
use Rattle.std.proofs.lemmas.Option.{slice_get-map, slice_get_within, none-some}
use Rattle.spv_module.specs.Operand.{PlainInst}
use Rattle.spv_module.specs.declared.opcode.TheConstants as opcode
use Rattle.spv_layout.specs.declared.class.Class.{Class}
use Rattle.spv_layout.specs.declared.class.Class.TheVariants.{Capability, Label, Phi}
use Rattle.spv_layout.specs.declared.state.State.{State}
use Rattle.spv_layout.specs.declared.state.State.TheVariants as at
use Rattle.spv_layout.specs.Class.{is_among}
use Rattle.spv_layout.specs.Rows.{class_of, rows}
use Rattle.spv_layout.specs.Layout.{IsLayout, classes}
use Rattle.spv_layout.specs.Place.{IsOfBlock, terminators}
use Rattle.spv_layout.specs.inner.Span.{Span, Outside, In, After, entered, left, UpTo, Before}
use Rattle.spv_layout.specs.inner.State.{next_of, Remains}
use Rattle.spv_layout.proofs.Remains.{goes_on, goes_no_further}
use Rattle.spv_layout.proofs.Layouts.{layout_remains}
use Rattle.spv_layout.proofs.Spans.{before_first, enters, leaves}
use Rattle.spv_flow.specs.branches.Target.{is_phi, IsOp}
use Rattle.spv_flow.proofs.lemmas.branches.Firsts.{holds}

-- whether a state is that of a block
abbrev in_a_block : State → Bool
in_a_block at.Variables = true
in_a_block at.Phis = true
in_a_block at.Body = true
in_a_block at.LoopMerge = true
in_a_block at.SelectionMerge = true
in_a_block _ = false

abbrev a_label : Class → Bool
a_label c = is_among c (Label ∷ [])

abbrev a_terminator : Class → Bool
a_terminator c = is_among c terminators

abbrev a_phi : Class → Bool
a_phi c = is_among c (Phi ∷ [])

abbrev implies : Bool → Bool → Bool
implies true b = b
implies false b = true

-- what a transition keeps
abbrev is_fine : State → Class → Option State → Bool
is_fine s c None = true
is_fine s c (Some t) =
    implies (in_a_block t) (not (a_terminator c) && (a_label c || in_a_block s)) && implies (a_phi c) (in_a_block s)

fine : (s : State) (c : Class) → is_fine s c (next_of s c) ≡ true
fine at.Capabilities Capability = refl
fine at.Extensions Capability = refl
fine at.Imports Capability = refl
fine at.EntryPoints Capability = refl
fine at.ExecutionModes Capability = refl
fine at.Sources Capability = refl
fine at.Names Capability = refl
fine at.Processed Capability = refl
fine at.Decorations Capability = refl
fine at.Declarations Capability = refl
fine at.Function Capability = refl
fine at.Declared Capability = refl
fine at.Definition Capability = refl
fine at.Defined Capability = refl
fine at.Variables Capability = refl
fine at.Phis Capability = refl
fine at.Body Capability = refl
fine at.LoopMerge Capability = refl
fine at.SelectionMerge Capability = refl
fine at.Block Capability = refl
fine _ _ = refl

split : (a b t l c p : Bool) → implies a (not t && (l || b)) && implies p c ≡ true
    → (a ≡ true → (t ≡ false) × ((l ≡ true) ⊎ (b ≡ true))) × (p ≡ true → c ≡ true)
split true true false true c true h = (λ e. (refl, inl refl), λ e. h)
split true true false false c true h = (λ e. (refl, inr refl), λ e. h)
split true false false true c true h = (λ e. (refl, inl refl), λ e. h)
split true true false true c false h = (λ e. (refl, inl refl), λ e. cc)
split true true false false c false h = (λ e. (refl, inr refl), λ e. cc)
split true false false true c false h = (λ e. (refl, inl refl), λ e. cc)
split true b true l c p h = absurd (cc)
split true false false false c p h = absurd (cc)
split false b t l c true h = (λ e. cc, λ e. h)
split false b t l c false h = (λ e. cc, λ e. cc)

fine_move : (s t : State) (c : Class) → next_of s c ≡ Some t
    → (in_a_block t ≡ true → (a_terminator c ≡ false) × ((a_label c ≡ true) ⊎ (in_a_block s ≡ true)))
    × (a_phi c ≡ true → in_a_block s ≡ true)
fine_move s t c e = split (in_a_block t) (in_a_block s) (a_terminator c) (a_label c) (in_a_block s) (a_phi c)
    (rw e at (fine s c))

-- a block that has begun
abbrev is_open : Span → Type 0
is_open (In b) = Unit {0}
is_open s = ⊥

opened : (s : Span) (l t : Bool) (n : ℕ) → t ≡ false → (l ≡ true) ⊎ is_open s → is_open (left (entered s l n) t)
opened s true false n e o = tt
opened Outside false false n e (inl f) = cc
opened Outside false false n e (inr o) = o
opened (In b) false false n e o = tt
opened (After b) false false n e (inl f) = cc
opened (After b) false false n e (inr o) = o
opened s l true n e o = cc

-- What is known before instruction n.
record Passed (is : List PlainInst) (n : ℕ) : Type 0 where
  pub state : State
  pub remains : Remains state (classes (drop n is))
  pub span : Span
  pub before : Before is Label terminators n span
  pub within : in_a_block state ≡ true → is_open span

from_here : (is : List PlainInst) (n : ℕ) (i : PlainInst) → slice_get is n ≡ Some i → drop n is ≡ i ∷ drop (suc n) is
from_here [] n i h = absurd (none-some i h)
from_here (j ∷ is) zero i h = ap (λ k. k ∷ is) (let e : j ≡ i = cc in e)
from_here (j ∷ is) (suc n) i h = from_here is n i h

class_at : (is : List PlainInst) (n : ℕ) (i : PlainInst) → slice_get is n ≡ Some i
    → slice_get (classes is) n ≡ Some (class_of i.opcode)
class_at is n i h = slice_get-map (λ j. class_of j.opcode) is n ∙ ap (option_map (λ j. class_of j.opcode)) h

-- The state after an instruction.
record Moved (s : State) (c : Class) (rest : List Class) : Type 0 where
  pub state : State
  pub moved : next_of s c ≡ Some state
  pub remains : Remains state rest

moves : (s : State) (c : Class) (rest : List Class) (o : Option State) → next_of s c ≡ o → Remains s (c ∷ rest)
    → Moved s c rest
moves s c rest None e r = absurd (goes_no_further s c e rest r)
moves s c rest (Some t) e r = record { state = t; moved = e; remains = (goes_on s t c e rest).forth r }

moves_at : (is : List PlainInst) (n : ℕ) (i : PlainInst) → slice_get is n ≡ Some i → (p : Passed is n)
    → Moved p.state (class_of i.opcode) (classes (drop (suc n) is))
moves_at is n i h p =
    let c = class_of i.opcode in
    moves p.state c (classes (drop (suc n) is)) (next_of p.state c) refl
    (subst (λ js. Remains p.state (classes js)) (from_here is n i h) p.remains)

step : (is : List PlainInst) (n : ℕ) (i : PlainInst) → slice_get is n ≡ Some i → Passed is n → Passed is (suc n)
step is n i h p =
    let c = class_of i.opcode in
    let m = moves_at is n i h p in
    let lt = slice_get_within is n i h in
    let at_n = enters is Label terminators n c p.span lt (class_at is n i h) p.before in
    let after = leaves is Label terminators n c (entered p.span (a_label c) n) (class_at is n i h) at_n in
    let e : n + 1 ≡ suc n = omega arith in
    record {
      state = m.state;
      remains = m.remains;
      span = left (entered p.span (a_label c) n) (a_terminator c);
      before = subst (λ k. Before is Label terminators k (left (entered p.span (a_label c) n) (a_terminator c))) e
          after;
      within = λ o.
          let f = (fine_move p.state m.state c m.moved).0 o in
          opened p.span (a_label c) (a_terminator c) n f.0 (elim f.1 [ inl l ↦ inl l | inr b ↦ inr (p.within b) ]);
    }

some_inst : (is : List PlainInst) (n : ℕ) → n < length is → (i : PlainInst) × (slice_get is n ≡ Some i)
some_inst [] n h = absurd (omega (arith, h))
some_inst (j ∷ is) zero h = (j, refl)
some_inst (j ∷ is) (suc n) h = some_inst is n (omega (arith, h))

passed : (is : List PlainInst) → IsLayout (classes is) → (n : ℕ) → n ≤ length is → Passed is n
passed is laid zero h =
    record {
      state = at.Capabilities;
      remains = layout_remains (classes is) laid;
      span = Outside;
      before = before_first is Label terminators;
      within = λ e. cc;
    }
passed is laid (suc n) h = let i = some_inst is n (omega (arith, h)) in
    step is n i.0 i.1 (passed is laid n (omega (arith, h)))

phi_class : class_of opcode.PHI ≡ Phi
unfolding rows
phi_class = refl

up_to : (is : List PlainInst) (n : ℕ) (s : Span) → is_open s → UpTo is Label terminators n s
    → (b : ℕ) × IsOfBlock is n b
up_to is n _ o (UpTo.outside g h) = absurd o
up_to is n _ o (UpTo.within b w) = (b, w)
up_to is n _ o (UpTo.after b k l m f e) = absurd o

pub phi_block : (is : List PlainInst) (n : ℕ) → IsLayout (classes is) → IsOp is n is_phi → (b : ℕ) × IsOfBlock is n b
phi_block is n laid op =
    let h = holds is n is_phi op in
    let i = h.inst in
    let lt = slice_get_within is n i h.there in
    let c : class_of i.opcode ≡ Phi = ap class_of (eqb-true i.opcode opcode.PHI h.holds) ∙ phi_class in
    let p = passed is laid n (omega (arith, lt)) in
    let m = moves_at is n i h.there p in
    let in_block = (fine_move p.state m.state (class_of i.opcode) m.moved).1 (ap a_phi c) in
    let at_n = enters is Label terminators n (class_of i.opcode) p.span lt (class_at is n i h.there) p.before in
    up_to is n p.span (p.within in_block) (subst
    (λ d. UpTo is Label terminators n (entered p.span (a_label d) n)) c at_n)
