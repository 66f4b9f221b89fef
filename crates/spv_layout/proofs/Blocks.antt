-- Without OpenCL each OpExtInst stands in a block.
use Rattle.std.proofs.Common.{◌≡◌, ◌<◌, ◌+◌, ℕ, zero, suc, List, [], ◌∷◌, ◌∙◌, refl, sym, ap, Bool, true, false, not, ◌&&◌, ◌||◌, Option, Some, None, length, arith}
use Rattle.std.specs.Prelude.{slice_get, option_map}
use Rattle.std.proofs.lemmas.List.{length-map}
use Rattle.std.proofs.lemmas.Option.{slice_get_within, slice_get-map}
use Rattle.spv_module.specs.Operand.{PlainInst}
use Rattle.spv_module.specs.declared.profile.Profile.TheVariants.{Own}
use Rattle.spv_layout.specs.declared.class.Class.{Class}
use Rattle.spv_layout.specs.declared.class.Class.TheVariants.{Capability, Label, Body, Extended}
use Rattle.spv_layout.specs.declared.state.State.{State}
use Rattle.spv_layout.specs.declared.state.State.TheVariants as at
use Rattle.spv_layout.specs.Class.{is_among}
use Rattle.spv_layout.specs.Rows.{class_of}
use Rattle.spv_layout.specs.Layout.{IsLayout, classes, seen, class_under, seen_classes}
use Rattle.spv_layout.specs.Place.{IsOfBlock, terminators}
use Rattle.spv_layout.specs.inner.Span.{In, Before, UpTo}
use Rattle.spv_layout.specs.inner.State.{next_of}
use Rattle.spv_layout.proofs.Following.{implies}
use Rattle.spv_layout.proofs.Spans.{is_at, enter_true, enters, leaves, within}
use Rattle.spv_layout.proofs.Layouts.{layout_remains}
use Rattle.spv_layout.proofs.Worked.{run, run_none}
use Rattle.spv_layout.proofs.Seen.{ends_well, next_under}

-- a block is open at the state
abbrev is_blocked : State → Bool
is_blocked at.Variables = true
is_blocked at.Phis = true
is_blocked at.Body = true
is_blocked at.LoopMerge = true
is_blocked at.SelectionMerge = true
is_blocked _ = false

abbrev is_label : Class → Bool
is_label c = is_among c (Label ∷ [])

abbrev is_end : Class → Bool
is_end c = is_among c terminators

abbrev is_kept : State → Class → Option State → Bool
is_kept s c None = true
is_kept s c (Some t) = implies (is_blocked t) ((is_label c || is_blocked s) && not (is_end c))

kept : (s : State) (c : Class) → is_kept s c (next_of s c) ≡ true
kept at.Capabilities Capability = refl
kept at.Capabilities _ = refl
kept at.Extensions Capability = refl
kept at.Extensions _ = refl
kept at.Imports Capability = refl
kept at.Imports _ = refl
kept at.EntryPoints Capability = refl
kept at.EntryPoints _ = refl
kept at.ExecutionModes Capability = refl
kept at.ExecutionModes _ = refl
kept at.Sources Capability = refl
kept at.Sources _ = refl
kept at.Names Capability = refl
kept at.Names _ = refl
kept at.Processed Capability = refl
kept at.Processed _ = refl
kept at.Decorations Capability = refl
kept at.Decorations _ = refl
kept at.Declarations Capability = refl
kept at.Declarations _ = refl
kept at.Function Capability = refl
kept at.Function _ = refl
kept at.Declared Capability = refl
kept at.Declared _ = refl
kept at.Definition Capability = refl
kept at.Definition _ = refl
kept at.Defined Capability = refl
kept at.Defined _ = refl
kept at.Variables Capability = refl
kept at.Variables _ = refl
kept at.Phis Capability = refl
kept at.Phis _ = refl
kept at.Body Capability = refl
kept at.Body _ = refl
kept at.LoopMerge Capability = refl
kept at.LoopMerge _ = refl
kept at.SelectionMerge Capability = refl
kept at.SelectionMerge _ = refl
kept at.Block Capability = refl
kept at.Block _ = refl

-- a transition to a state at which a block is open
record Opens (s : State) (c : Class) : Type 0 where
  pub opened : (is_label c || is_blocked s) ≡ true
  pub goes_on : is_end c ≡ false

opens : (s : State) (c : Class) (t : State) → next_of s c ≡ Some t → is_blocked t ≡ true → Opens s c
opens s c t e h = let p = by (is_blocked t) (is_label c || is_blocked s) (is_end c) h (rw e at (kept s c)) in record { opened = p.0; goes_on = p.1 } where
  by : (a b d : Bool) → a ≡ true → implies a (b && not d) ≡ true → (b ≡ true) × (d ≡ false)
  by true true false g k = (refl, refl)
  by true true true g k = cc
  by true false d g k = cc
  by false b d g k = cc

-- what is seen without OpenCL is a label, or an end, where it is one
sees_label : (c : Class) → is_label (seen Own c) ≡ is_label c
sees_label Extended = refl
sees_label _ = refl

sees_end : (c : Class) → is_end (seen Own c) ≡ is_end c
sees_end Extended = refl
sees_end _ = refl

-- the block that is open before instruction n
abbrev Blocked : List PlainInst → ℕ → State → Type 0
Blocked is n s = is_blocked s ≡ true → (b : ℕ) × Before is Label terminators n (In b)

up_to : (b : Bool) (is : List PlainInst) (n : ℕ) (s : State) (c : Class) → is_label c ≡ b → (b || is_blocked s) ≡ true → n < length is → slice_get (classes is) n ≡ Some c → Blocked is n s
    → (f : ℕ) × UpTo is Label terminators n (In f)
up_to true is n s c e o h g k = (n, enter_true is Label terminators n h (is_at is n c (Label ∷ []) g e))
up_to false is n s c e o h g k = let b = k o in (b.0, rw e at (enters is Label terminators n c (In b.0) h g b.1))

blocked_on : (is : List PlainInst) (n : ℕ) (s t : State) (c : Class) → next_of s (seen Own c) ≡ Some t → n < length is → slice_get (classes is) n ≡ Some c → Blocked is n s → Blocked is (n + 1) t
blocked_on is n s t c e h g k q =
    let o = opens s (seen Own c) t e q in
    let l : (is_label c || is_blocked s) ≡ true = rw (sees_label c) at o.opened in
    let m : is_end c ≡ false = rw (sees_end c) at o.goes_on in
    let u = up_to (is_label c) is n s c refl l h g k in
    (u.0, rw m at (leaves is Label terminators n c (In u.0) g u.1))

-- an instruction of a body comes where a block is open
body_blocked : (s t : State) → next_of s Body ≡ Some t → is_blocked s ≡ true
body_blocked at.Variables t e = refl
body_blocked at.Phis t e = refl
body_blocked at.Body t e = refl
body_blocked _ t e = cc

extended_blocked : (is : List PlainInst) (n : ℕ) (s t : State) (c : Class) → c ≡ Extended → next_of s (seen Own c) ≡ Some t → n < length is → slice_get (classes is) n ≡ Some c → Blocked is n s
    → (b : ℕ) × IsOfBlock is n b
extended_blocked is n s t c x e h g k =
    let e' : next_of s Body ≡ Some t = rw x at e in
    let g' : slice_get (classes is) n ≡ Some Extended = rw x at g in
    let u = up_to false is n s Extended refl (body_blocked s t e') h g' k in
    (u.0, within is Label terminators n (In u.0) u.1)

-- the instructions are those of a list from number n on
abbrev AreFrom : List PlainInst → ℕ → List PlainInst → Type 0
AreFrom is n js = (k : ℕ) → slice_get js k ≡ slice_get is (n + k)

first_there : (is : List PlainInst) (n : ℕ) (i : PlainInst) (js : List PlainInst) → AreFrom is n (i ∷ js) → slice_get (classes is) n ≡ Some (class_of i.opcode)
first_there is n i js a =
    let z : n ≡ n + 0 = omega arith in
    let h : slice_get is n ≡ Some i = ap (slice_get is) z ∙ sym (a 0) in
    slice_get-map (λ (j : PlainInst). class_of j.opcode) is n ∙ ap (option_map (λ (j : PlainInst). class_of j.opcode)) h

rest_there : (is : List PlainInst) (n : ℕ) (i : PlainInst) (js : List PlainInst) → AreFrom is n (i ∷ js) → AreFrom is (n + 1) js
rest_there is n i js a k = let z : n + suc k ≡ (n + 1) + k = omega arith in a (suc k) ∙ ap (slice_get is) z

within_list : (is : List PlainInst) (n : ℕ) (d : Class) → slice_get (classes is) n ≡ Some d → n < length is
within_list is n d g =
    let l = slice_get_within (classes is) n d g in
    let m = length-map is (λ (i : PlainInst). class_of i.opcode) in
    omega arith

block_moved : (is : List PlainInst) (m n : ℕ) → m ≡ n → (b : ℕ) × IsOfBlock is m b → (b : ℕ) × IsOfBlock is n b
block_moved is m n e w = rw (← e) w

-- what the rest of a list tells of its OpExtInsts
abbrev AreBlocked : List PlainInst → List PlainInst → Type 0
AreBlocked is js = (n : ℕ) (s t : State) → AreFrom is n js → run (Some s) (seen_classes Own js) ≡ Some t → Blocked is n s → (k : ℕ) (i : PlainInst) → slice_get js k ≡ Some i
    → class_of i.opcode ≡ Extended → (b : ℕ) × IsOfBlock is (n + k) b

blocks_by : (o : Option State) (j : PlainInst) (js is : List PlainInst) (n : ℕ) (s t : State) → AreFrom is n (j ∷ js) → next_of s (class_under Own j.opcode) ≡ o → run o (seen_classes Own js) ≡ Some t
    → Blocked is n s → AreBlocked is js → (k : ℕ) (i : PlainInst) → slice_get (j ∷ js) k ≡ Some i → class_of i.opcode ≡ Extended → (b : ℕ) × IsOfBlock is (n + k) b
blocks_by None j js is n s t a e r b rest k i g x = absurd (run_none (seen_classes Own js) t r)
blocks_by (Some u) j js is n s t a e r b rest zero i g x =
    let there = first_there is n j js a in
    let q : j ≡ i = cc in
    let y : class_of j.opcode ≡ Extended = rw q x in
    let z : n ≡ n + 0 = omega arith in
    block_moved is n (n + 0) z (extended_blocked is n s u (class_of j.opcode) y (next_under Own s u j.opcode e) (within_list is n (class_of j.opcode) there) there b)
blocks_by (Some u) j js is n s t a e r b rest (suc k) i g x =
    let there = first_there is n j js a in
    let z : (n + 1) + k ≡ n + suc k = omega arith in
    block_moved is ((n + 1) + k) (n + suc k) z
    (rest (n + 1) u t (rest_there is n j js a) r (blocked_on is n s u (class_of j.opcode) (next_under Own s u j.opcode e) (within_list is n (class_of j.opcode) there) there b) k i g x)

blocks_from : (js is : List PlainInst) → AreBlocked is js
blocks_from [] is n s t a r b k i g x = cc
blocks_from (j ∷ js) is n s t a r b k i g x = blocks_by (next_of s (class_under Own j.opcode)) j js is n s t a refl r b (blocks_from js is) k i g x

none_blocked : (is : List PlainInst) → Blocked is 0 at.Capabilities
none_blocked is q = cc

all_there : (is : List PlainInst) → AreFrom is 0 is
all_there is k = let z : k ≡ 0 + k = omega arith in ap (slice_get is) z

-- of a list that is laid out as it is seen without OpenCL
pub extended_in_block : (is : List PlainInst) (n : ℕ) (i : PlainInst) → IsLayout (seen_classes Own is) → slice_get is n ≡ Some i → class_of i.opcode ≡ Extended → (b : ℕ) × IsOfBlock is n b
extended_in_block is n i l g x =
    let w = ends_well (seen_classes Own is) at.Capabilities (layout_remains (seen_classes Own is) l) in
    let z : 0 + n ≡ n = omega arith in
    block_moved is (0 + n) n z (blocks_from is is 0 at.Capabilities w.state (all_there is) w.run (none_blocked is) n i g x)
