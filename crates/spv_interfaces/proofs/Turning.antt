-- Calls the other way round.
use Rattle.std.proofs.Common.{◌≡◌, ◌<◌, ◌+◌, ◌++◌, ◌∙◌, inl, inr, ℕ, List, [], ◌∷◌, Some, refl, sym, ap, subst}
use Rattle.std.proofs.Common.{arith, length}
use Rattle.std.specs.Prelude.{slice_get}
use Rattle.std.proofs.lemmas.Bool.{cases_lt}
use Rattle.std.proofs.lemmas.Option.{same_Some, slice_get_within}
use Rattle.spv_module.specs.Operand.{PlainInst}
use Rattle.spv_flow.specs.declared.calls.graph.Call.{Call}
use Rattle.spv_flow.specs.calls.Calls.{Calls}
use Rattle.spv_flow.specs.calls.Chain.{Chain, alone, more}
use Rattle.spv_flow.specs.calls.inner.Components.{turn}
use Rattle.spv_flow.specs.calls.inner.Found.{AreCalls}
use Rattle.spv_flow.specs.calls.inner.Graph.{HasCall}
use Rattle.spv_flow.proofs.lemmas.calls.Bridge.{calls_has, calls_within}
use Rattle.spv_flow.proofs.lemmas.calls.Chains.{joined, single}
use Rattle.spv_flow.proofs.lemmas.calls.Lists.{pushed_cases, pushed_keeps, pushed_last}
use Rattle.spv_interfaces.specs.inner.Entries.{Begins}
use Rattle.spv_interfaces.specs.inner.Marks.{Adds, Grows, HasBit, IsClosed, IsMarked, word_of}
use Rattle.spv_interfaces.specs.inner.Turned.{AreBegun, AreLive, AreTurned, AreTurnedOf, Turns}
use Rattle.spv_interfaces.proofs.Bits.{none_of_zero, pow_bit}
use Rattle.spv_interfaces.proofs.Marking.{moved}
use Rattle.spv_interfaces.proofs.Naming.{begins_within, calls_from}

-- The functions of the entry points, one after another.
pub begun_none : (is : List PlainInst) (entries words : List ℕ) → AreBegun is entries 0 words
begun_none is entries words = record { each = λ k n f l at b. absurd (omega (arith, l)) }

pub begun_more : (is : List PlainInst) (entries : List ℕ) (i n : ℕ) (old new : List ℕ) → slice_get entries i ≡ Some n
    → length old ≡ length is → Adds 1 (Begins is n) old new → AreBegun is entries i old
    → AreBegun is entries (i + 1) new
begun_more is entries i n old new at count a b = record {
  each = λ k m f l there begins. (a.each f 0).1 (elim (cases_lt k i) [
    | inl less ↦ inl (b.each k m f less there begins)
    | inr last ↦
        let e : k ≡ i = omega (arith, l, last) in
        let s = same_Some m n (sym (subst (λ (j : ℕ). slice_get entries j ≡ Some m) e there) ∙ at) in
        let h : Begins is n f = subst (λ (j : ℕ). Begins is j f) s begins in
        let w = begins_within is n f h in
        inr (record { bit = pow_bit 0; within = omega (arith, w, count); so = h })
  ]);
}

pub live_by : (is : List PlainInst) (entries : List ℕ) (calls : List Call) (old new : List ℕ)
    → AreBegun is entries (length entries) old → Grows calls old new → IsClosed calls new
    → AreLive is entries calls new
live_by is entries calls old new b g closed = record {
  begun = record { each = λ k n f l at h. g.kept f 0 (b.each k n f l at h) };
  closed = closed;
}

-- One call.
pub turns_not : (words : List ℕ) (c : Call) (turned : List Call) → word_of words c.caller ≡ 0
    → Turns words c turned turned
turns_not words c turned e = record {
  kept = λ f g h. h;
  sound = λ f g h. inl h;
  added = λ l. absurd (omega (arith, l, e));
}

pub turns_on : (words : List ℕ) (c : Call) (turned : List Call) → Turns words c turned (turned ++ turn c ∷ [])
turns_on words c turned = record {
  kept = λ f g h. record {
    place = h.place;
    call = h.call;
    there = pushed_keeps turned (turn c) h.place h.call h.there;
    from = h.from;
    to = h.to;
  };
  sound = λ f g h. elim (pushed_cases turned (turn c) h.place h.call h.there) [
    | inl o ↦ inl (record { place = h.place; call = h.call; there = o; from = h.from; to = h.to })
    | inr e ↦
        let p : c.callee ≡ h.call.caller = ap (λ (d : Call). d.caller) e.1 in
        let q : c.caller ≡ h.call.callee = ap (λ (d : Call). d.callee) e.1 in
        inr (p ∙ h.from, q ∙ h.to)
  ];
  added = λ l. record {
    place = length turned;
    call = turn c;
    there = pushed_last turned (turn c);
    from = refl;
    to = refl;
  };
}

-- The calls, one after another.
pub turned_none : (calls : List Call) (words : List ℕ) → AreTurnedOf calls words 0 []
turned_none calls words = record {
  sound = λ f g h. let t = h.there in cc;
  complete = λ k c l at m. absurd (omega (arith, l));
}

pub turned_more : (calls : List Call) (words : List ℕ) (i : ℕ) (c : Call) (old new : List Call)
    → slice_get calls i ≡ Some c → Turns words c old new → AreTurnedOf calls words i old
    → AreTurnedOf calls words (i + 1) new
turned_more calls words i c old new at t a = record {
  sound = λ f g h. elim (t.sound f g h) [
    | inl o ↦ a.sound f g o
    | inr e ↦ record { place = i; call = c; there = at; from = e.1; to = e.0 }
  ];
  complete = λ k d l there m. elim (cases_lt k i) [
    | inl less ↦ t.kept d.callee d.caller (a.complete k d less there m)
    | inr last ↦
        let e : k ≡ i = omega (arith, l, last) in
        let s : d ≡ c = same_Some d c (sym (subst (λ (j : ℕ). slice_get calls j ≡ Some d) e there) ∙ at) in
        let P : Call → Type 0 = λ b. HasCall new b.callee b.caller in
        subst P (sym s) (t.added (subst (λ (b : Call). 0 < word_of words b.caller) s m))
  ];
}

-- a word that has a bit is not 0
some_word : (w k : ℕ) → HasBit w k → 0 < w
some_word w k h = elim (cases_lt 0 w) [
  | inl p ↦ p
  | inr z ↦
      let e : w ≡ 0 = omega (arith, z) in
      absurd (none_of_zero k (moved w 0 k e h))
]

-- All of them.
module _ (is : List PlainInst) (entries : List ℕ) (calls turned : List Call) (words : List ℕ)
    (called : AreCalls is (length is) calls) (live : AreLive is entries calls words)
    (back : AreTurnedOf calls words (length calls) turned) where
  live_step : (f g : ℕ) → IsMarked words f 0 → Calls is f g → HasCall turned g f × IsMarked words g 0
  live_step f g m s =
      let c = calls_has is calls called f g s in
      let bit : IsMarked words c.call.caller 0 = subst (λ (x : ℕ). IsMarked words x 0) (sym c.from) m in
      let t = back.complete c.place c.call (slice_get_within calls c.place c.call c.there) c.there
      (some_word (word_of words c.call.caller) 0 bit) in (
        record { place = t.place; call = t.call; there = t.there; from = t.from ∙ c.to; to = t.to ∙ c.from },
        subst (λ (x : ℕ). IsMarked words x 0) c.to (live.closed.each c.place c.call c.there 0 bit),
      )

  live_chain : (f g : ℕ) → IsMarked words f 0 → Chain (Calls is) f g
      → Chain (HasCall turned) g f × IsMarked words g 0
  live_chain f _ m alone = (alone, m)
  live_chain f _ m (more k h b s) =
      let r = live_chain f k m b in
      let t = live_step k h r.1 s in
      (joined (HasCall turned) h k f (single (HasCall turned) h k t.0) r.0, t.1)

  pub turned_by : AreTurned is entries turned
  turned_by = record {
    within = record {
      each = λ k c h.
          let s = back.sound c.caller c.callee
          (record { place = k; call = c; there = h; from = refl; to = refl }) in
          let w = (calls_within is (length is) calls called).each s.place s.call s.there in
          let p = w.0 in
          let q = w.1 in
          let a = s.from in
          let b = s.to in
          (omega (arith, q, b), omega (arith, p, a));
    };
    sound = λ f g h. calls_from is (length is) calls called g f (back.sound f g h);
    complete = λ k n f g at b c.
        (live_chain f g (live.begun.each k n f (slice_get_within entries k n at) at b) c).0;
  }
