-- What a push on the open parameter lists makes due.
use Rattle.std.proofs.Common.{◌≡◌, Option, Some, None, Result, Ok, Err, IfOk, MatchOption, ◌++◌, ◌∙◌, ◌==◌, ◌<◌, ℕ}
use Rattle.std.proofs.Common.{Bool, true, false, length, arith, List, [], ◌∷◌, map, refl, sym, ap, append_assoc}
use Rattle.std.proofs.Common.{append-nil}
use Rattle.std.proofs.lemmas.Bool.Decides.{nat_tests}
use Rattle.std.specs.declared.alloc.AllocError.{AllocError}
use Rattle.spv_table.specs.Table.{Table}
use Rattle.spv_inst.specs.declared.pending.Frame.{Frame}
use Rattle.spv_inst.specs.declared.pending.Frame.TheVariants.{Bits}
use Rattle.spv_inst.specs.declared.reader.Slot as code
use Rattle.spv_inst.specs.inner.Pending.{plain_slot, slots_of, parameters_from, frame_due, frames_due}
use Rattle.spv_inst.specs.Flat.{Due, OneOf}
use Rattle.spv_module.specs.Shape.{Slot}

pub frames-push : (G : Table) (fs : List Frame) (f : Frame)
    → frames_due G (fs ++ (f ∷ [])) ≡ frame_due G f ++ frames_due G fs
frames-push G [] f = sym (append-nil (frame_due G f))
frames-push G (g ∷ fs) f =
    ap (λ ds. ds ++ frame_due G g) (frames-push G fs f) ∙ append_assoc (frame_due G f) (frames_due G fs) (frame_due G g)

-- the kinds left are pushed, or there are none
pub kinds_pushed : (G : Table) (fs gs : List Frame) (ks : List ℕ) (p : Bool) (f : Frame)
    → frame_due G f ≡ map OneOf (slots_of p ks) → gs ≡ fs ++ (f ∷ [])
    → map OneOf (slots_of p ks) ++ frames_due G fs ≡ frames_due G gs
kinds_pushed G fs gs ks p f h e = rw (e, frames-push G fs f, h) refl

pub no_kinds : (G : Table) (fs gs : List Frame) (ks : List ℕ) (p : Bool) → ks ≡ [] → gs ≡ fs
    → map OneOf (slots_of p ks) ++ frames_due G fs ≡ frames_due G gs
no_kinds G fs gs ks p h e = rw (h, e) refl

pub behind : (s : Slot) (ds es : List Due) → ds ≡ es → OneOf s ∷ ds ≡ OneOf s ∷ es
behind s ds es h = ap (λ zs. OneOf s ∷ zs) h

-- what a test on a length tells
zero_by : (n : ℕ) → true ≡ (n == 0) → n ≡ 0
zero_by n e = grind (arith, nat_tests)

positive_by : (n : ℕ) → false ≡ (n == 0) → 0 < n
positive_by n e = grind (arith, nat_tests)

pub by_empty : {X : Type 0} (xs : List X) → true ≡ (length xs == 0) → xs ≡ []
by_empty [] e = refl
by_empty (x ∷ xs) e = let z = zero_by (length (x ∷ xs)) e in absurd (omega arith)

pub by_nonempty : {X : Type 0} (xs : List X) → false ≡ (length xs == 0) → 0 < length xs
by_nonempty xs e = positive_by (length xs) e

slots-append : (p : Bool) (ks js : List ℕ)
    → map OneOf (slots_of p (ks ++ js)) ≡ map OneOf (slots_of p ks) ++ map OneOf (slots_of p js)
slots-append p [] js = refl
slots-append p (k ∷ ks) js = behind (record { kind = k; paired = p }) _ _ (slots-append p ks js)

-- what a call that takes a kind tells of the open lists
abbrev pub TakesOf : Table → List Due → List Frame → List Frame → Result (Option code.Slot) AllocError → Type 0
TakesOf G ds fs gs r =
    IfOk r (λ o. MatchOption o ((ds ≡ []) × (gs ≡ fs))
    (λ s. ds ++ frames_due G fs ≡ OneOf (plain_slot s) ∷ frames_due G gs))

no_slots : (p : Bool) (ks : List ℕ) → 0 < length ks → map OneOf (slots_of p ks) ≡ [] → ⊥
no_slots p [] h e = omega arith
no_slots p (k ∷ ks) h e = cc

-- a kind taken of a mask's parameters
pub taken_of_bits : (G : Table) (r : Result (Option code.Slot) AllocError) (fs hs gs : List Frame) (kind mask p q : ℕ)
    (ks : List ℕ) → 0 < length ks
    → parameters_from G kind mask p ≡ ks ++ parameters_from G kind mask q → hs ≡ fs ++ (Bits kind mask q ∷ [])
    → TakesOf G (map OneOf (slots_of false ks)) hs gs r
    → TakesOf G (map OneOf (slots_of false (parameters_from G kind mask p))) fs gs r
taken_of_bits G (Err x) fs hs gs kind mask p q ks n e h t = tt
taken_of_bits G (Ok None) fs hs gs kind mask p q ks n e h t = absurd (no_slots false ks n t.0)
taken_of_bits G (Ok (Some s)) fs hs gs kind mask p q ks n e h t =
    let a : frames_due G hs ≡ map OneOf (slots_of false (parameters_from G kind mask q))
    ++ frames_due G fs = rw h (frames-push G fs (Bits kind mask q)) in
    let b = slots-append false ks (parameters_from G kind mask q) in
    let d : map OneOf (slots_of false (ks ++ parameters_from G kind mask q))
    ++ frames_due G fs ≡ map OneOf (slots_of false ks) ++ frames_due G hs =
    rw (a, b) (append_assoc (map OneOf (slots_of false ks)) (map OneOf (slots_of false (parameters_from G kind mask q)))
    (frames_due G fs)) in
    rw e (d ∙ t)

-- the frame on top
pub frames-pop : (G : Table) (fs gs : List Frame) (f : Frame) → fs ≡ gs ++ (f ∷ [])
    → frames_due G fs ≡ frame_due G f ++ frames_due G gs
frames-pop G fs gs f h = rw h (frames-push G gs f)

pub frames-pop_none : (G : Table) (fs gs hs : List Frame) (f : Frame) → fs ≡ gs ++ (f ∷ [])
    → (frame_due G f ≡ []) × (hs ≡ gs) → frames_due G fs ≡ frames_due G hs
frames-pop_none G fs gs hs f h n = rw (frames-pop G fs gs f h, n.0, n.1) refl

-- parameters are put on top of what is due
pub opened_due : (G : Table) (fs gs : List Frame) (ds es : List Due) (f : Frame) → gs ≡ fs ++ (f ∷ [])
    → frame_due G f ≡ ds → frames_due G gs ++ es ≡ ds ++ (frames_due G fs ++ es)
opened_due G fs gs ds es f h e = rw (frames-pop G gs fs f h, e) (append_assoc ds (frames_due G fs) es)
