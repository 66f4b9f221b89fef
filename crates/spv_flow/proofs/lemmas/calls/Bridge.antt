-- Cycles of the calls that were gathered are those of the module.
use Rattle.std.proofs.Common.{◌≡◌, ◌∙◌, ℕ, List, refl, sym, ap, subst, inl, inr, Some, length, arith}
use Rattle.std.specs.Prelude.{slice_get}
use Rattle.std.proofs.lemmas.Bool.{cases_order}
use Rattle.std.proofs.lemmas.Option.{slice_get_within}
use Rattle.spv_module.specs.Operand.{PlainInst}
use Rattle.spv_module.specs.declared.fault.Rule.{Rule}
use Rattle.spv_module.specs.declared.fault.Rule.TheVariants.{G1}
use Rattle.spv_layout.specs.Stage.{of_calls}
use Rattle.spv_layout.specs.First.{IsFirst, IsUnbroken, rank_of}
use Rattle.spv_flow.proofs.lemmas.calls.Insts.{defined_within}
use Rattle.spv_flow.specs.declared.calls.graph.Call.{Call}
use Rattle.spv_flow.specs.calls.Calls.{IsCall, Calls}
use Rattle.spv_flow.specs.calls.Broken.{Broken, on_cycle}
use Rattle.spv_flow.specs.calls.inner.Graph.{HasCall, AreWithin, AreBelow, IsCyclic, NoneBefore, IsFirstCyclic}
use Rattle.spv_flow.specs.calls.inner.Found.{AreCalls, AreEntries}
use Rattle.spv_flow.proofs.lemmas.calls.Chains.{mapped, moved}

call_moved : (is : List PlainInst) (n f g h j : ℕ) → f ≡ h → g ≡ j → IsCall is n f g → IsCall is n h j
call_moved is n f g h j a b k = let P : ℕ → Type 0 = λ x. IsCall is n x g in let Q : ℕ
    → Type 0 = λ x. IsCall is n h x in subst Q b (subst P a k)

has_calls : (is : List PlainInst) (n : ℕ) (calls : List Call) → AreCalls is n calls → (f g : ℕ) → HasCall calls f g
    → Calls is f g
has_calls is n calls a f g h =
    let s = a.sound h.place h.call h.there in
    record {
      place = h.call.inst;
      call = call_moved is h.call.inst h.call.caller h.call.callee f g h.from h.to
          s.0.call;
    }

pub calls_has : (is : List PlainInst) (calls : List Call) → AreCalls is (length is) calls → (f g : ℕ) → Calls is f g
    → HasCall calls f g
calls_has is calls a f g k =
    let r = a.complete k.place f g k.call.of.begun.within k.call in
    record { place = r.0; call = r.1; there = r.2; from = r.3; to = r.4 }

pub calls_within : (is : List PlainInst) (n : ℕ) (calls : List Call) → AreCalls is n calls → AreWithin (length is) calls
calls_within is n calls a = record {
  each = λ k c h.
      let s = (a.sound k c h).0.call in
      let u = s.of.begun.up_to in
      let w = s.of.begun.within in
      let d = defined_within is s.callee c.callee s.function in
      (omega (arith, u, w), d);
}

pub entries_below : (is : List PlainInst) (n : ℕ) (entries : List ℕ) → AreEntries is n entries
    → AreBelow (length is) entries
entries_below is n entries a = record { each = λ k e h. let s = a.sound k e h in defined_within is s.id e s.function }

-- a call on a cycle breaks the rule
pub cyclic_broken : (is : List PlainInst) (m n : ℕ) (calls : List Call) (entries : List ℕ) (k : ℕ) → AreCalls is m calls
    → AreEntries is n entries → (y : IsCyclic calls entries k) → Broken is G1 y.call.inst
cyclic_broken is m n calls entries k a b y =
    let s = a.sound k y.call y.there in
    let r = y.reached in
    on_cycle y.call.inst r.start y.call.caller y.call.callee s.0.call (b.sound r.place r.start r.listed)
    (mapped (HasCall calls) (Calls is) (has_calls is m calls a) r.start y.call.caller r.chain)
    (mapped (HasCall calls) (Calls is) (has_calls is m calls a) y.call.callee y.call.caller y.back)

-- a call that breaks the rule was gathered
record IsGathered (calls : List Call) (entries : List ℕ) (r : Rule) (n : ℕ) : Type 0 where
  pub rule : r ≡ G1
  pub place : ℕ
  pub cyclic : IsCyclic calls entries place
  pub inst : cyclic.call.inst ≡ n

broken_gathered : (is : List PlainInst) (calls : List Call) (entries : List ℕ) → AreCalls is (length is) calls
    → AreEntries is (length is) entries → (r : Rule) (n : ℕ) → Broken is r n
    → IsGathered calls entries r n
broken_gathered is calls entries a b _ _ (on_cycle n e f g k h c d) =
    let w = k.of.begun.within in
    let r = a.complete n f g w k in
    let q = b.complete e h (slice_get_within is h.place h.inst h.there) in
    let to = mapped (Calls is) (HasCall calls) (calls_has is calls a) e f c in
    let back = mapped (Calls is) (HasCall calls) (calls_has is calls a) g f d in
    record {
      rule = refl;
      place = r.0;
      cyclic = record {
        call = r.1;
        there = r.2;
        reached = record {
          place = q.0;
          start = e;
          listed = q.1;
          chain = moved (HasCall calls) e f e r.1.caller refl (sym r.3) to;
        };
        back = moved (HasCall calls) g f r.1.callee r.1.caller (sym r.4) (sym r.3) back;
      };
      inst = r.5;
    }

pub none_broken : (is : List PlainInst) (calls : List Call) (entries : List ℕ) → AreCalls is (length is) calls
    → AreEntries is (length is) entries → NoneBefore calls entries (length calls)
    → IsUnbroken (Broken is) of_calls
none_broken is calls entries a b none = λ r n e k.
    let g = broken_gathered is calls entries a b r n k in
    none.each g.place (slice_get_within calls g.place g.cyclic.call g.cyclic.there) g.cyclic

same_call : (calls : List Call) (j k : ℕ) (c d : Call) → j ≡ k → slice_get calls j ≡ Some c → slice_get calls k ≡ Some d
    → c ≡ d
same_call calls j k c d e h g = let h' : slice_get calls k ≡ Some c = rw (← e) h in cc

pub first_broken : (is : List PlainInst) (calls : List Call) (entries : List ℕ) (k : ℕ) → AreCalls is (length is) calls
    → AreEntries is (length is) entries → (y : IsFirstCyclic calls entries k)
    → IsFirst (Broken is) of_calls G1 y.cyclic.call.inst
first_broken is calls entries k a b y = record {
  of_stage = refl;
  broken = cyclic_broken is (length is) (length is) calls entries k a b y.cyclic;
  least = λ q m s w.
      let g = broken_gathered is calls entries a b q m w in
      let c = y.cyclic.call in
      let d = g.cyclic.call in
      let i = g.inst in
      elim (cases_order g.place k) [
        | inl e ↦ (
            let z = ap (λ (x : Call). x.inst) (same_call calls g.place k d c e g.cyclic.there y.cyclic.there) in
            let t : rank_of G1 ≡ rank_of q = ap rank_of (sym g.rule) in
            inr (sym z ∙ i, omega (arith, t)))
        | inr o ↦ elim o [
          | inl l ↦ absurd (y.before.each g.place l g.cyclic)
          | inr l ↦ (let z = a.rising k g.place c d l y.cyclic.there g.cyclic.there in inl (omega (arith, z, i)))
        ]
      ];
}

-- what the first call on a cycle says, by its place in the list
pub first_told : (is : List PlainInst) (calls : List Call) (entries : List ℕ) (k : ℕ) (c : Call)
    → AreCalls is (length is) calls → AreEntries is (length is) entries → slice_get calls k ≡ Some c
    → IsFirstCyclic calls entries k → IsFirst (Broken is) of_calls G1 c.inst
first_told is calls entries k c a b h y =
    let e : y.cyclic.call ≡ c = same_call calls k k y.cyclic.call c refl y.cyclic.there h in
    let P : Call → Type 0 = λ x. IsFirst (Broken is) of_calls G1 x.inst in
    subst P e (first_broken is calls entries k a b y)
