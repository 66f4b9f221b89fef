-- Chains of calls are ways along edges.
use Rattle.std.proofs.Common.{◌≡◌, ◌∙◌, ◌<◌, ◌+◌, ℕ, zero, suc, List, [], ◌∷◌, refl, sym, ap, subst, Some, Bool, false}
use Rattle.std.proofs.Common.{map, length, get_or, replicate, inl, inr, arith}
use Rattle.std.specs.Prelude.{slice_get, option_map, reverse, Contains}
use Rattle.std.proofs.lemmas.Bool.{cases_order}
use Rattle.std.proofs.lemmas.List.{length-map, length-reverse, length-replicate, get_or-replicate}
use mathlib.Core.List.{reverse_aux}
use Rattle.std.proofs.lemmas.Option.{slice_get-map, slice_get-get_or, slice_get_read, slice_get_within}
use Rattle.std.proofs.lemmas.Option.{get_or_from_slice_get}
use Rattle.spv_module.specs.declared.module.Inst.{Inst}
use Rattle.spv_module.specs.Operand.{PlainInst}
use Rattle.spv_module.specs.Module.{plain_inst}
use Rattle.spv_module.specs.declared.fault.Rule.{Rule}
use Rattle.spv_module.specs.declared.fault.Rule.TheVariants.{G1}
use Rattle.spv_layout.specs.Place.{AreFew}
use Rattle.spv_flow.specs.declared.calls.graph.Call.{Call}
use Rattle.spv_flow.specs.calls.Calls.{IsCall, Calls}
use Rattle.spv_flow.specs.calls.Chain.{Chain, alone, more}
use Rattle.spv_flow.specs.calls.Broken.{Broken, on_cycle}
use Rattle.spv_flow.specs.calls.inner.Found.{AreCalls, AreEntries}
use Rattle.spv_flow.proofs.lemmas.calls.Bridge.{calls_has, calls_within, entries_below}
use Rattle.spv_flow.proofs.lemmas.calls.Chains.{joined, single}
use Rattle.spv_flow.proofs.lemmas.calls.Lists.{map_get}
use Rattle.spv_evidence.specs.declared.evidence.Evidence.{Evidence}
use Rattle.spv_evidence.specs.declared.evidence.Evidence.TheVariants.{Cycle}
use Rattle.spv_graphs.specs.declared.edge.Edge.{Edge}
use Rattle.spv_graphs.specs.Way.{HasEdge, IsWay, IsShortest, AreWithin, AreBelow}
use Rattle.spv_flow_evidence.specs.calls.Evidence.{IsCallChain, IsEntryChain, IsShortestOf, IsEvidence}
use Rattle.spv_flow_evidence.specs.calls.inner.Edges.{edge_of, IsListed}

-- a list of functions gives a chain
pub chain_of : (is : List PlainInst) (g f : ℕ) (functions : List ℕ) → IsCallChain is g f functions → Chain (Calls is) f g
chain_of is g _ _ IsCallChain.alone = alone
chain_of is g _ _ (IsCallChain.next f h rest k c) =
    joined (Calls is) f h g (single (Calls is) f h k) (chain_of is g h rest c)

pub sufficient : (is : List PlainInst) (r : Rule) (n : ℕ) (e : Evidence) → IsEvidence is r n e → Broken is r n
sufficient is _ _ _ (IsEvidence.on_cycle n f g calls cycle k a b) =
    on_cycle n a.holds.entry f g k a.holds.function (chain_of is f a.holds.entry calls a.holds.chain)
    (chain_of is f g cycle b.holds)

contained : (xs : List ℕ) (k b : ℕ) → slice_get xs k ≡ Some b → Contains xs b
contained xs k b h = (k, slice_get_within xs k b h, get_or_from_slice_get xs k b b h)

pub all_open : (n : ℕ) (closed : List Bool) → closed ≡ replicate n false → (h : ℕ) → h < n
    → slice_get closed h ≡ Some false
all_open n closed e h l =
    let z : slice_get (replicate n false) h ≡ Some (get_or (replicate n false) h false) = slice_get-get_or
    (replicate n false) h false (omega (arith, length-replicate n false, l)) in
    rw e (z ∙ ap Some (get_or-replicate n h false false l))

call_moved : (is : List PlainInst) (n f g h j : ℕ) → f ≡ h → g ≡ j → IsCall is n f g → IsCall is n h j
call_moved is n f g h j a b k = let P : ℕ → Type 0 = λ x. IsCall is n x g in let Q : ℕ
    → Type 0 = λ x. IsCall is n h x in subst Q b (subst P a k)

within_moved : (n : ℕ) (c : Call) (e : Edge) → edge_of c ≡ e → (c.caller < n) × (c.callee < n)
    → (e.from < n) × (e.to < n)
within_moved n c e q w = let P : Edge → Type 0 = λ x. (x.from < n) × (x.to < n) in subst P q w

pub entries_within : (is : List PlainInst) (entries : List ℕ) → AreEntries is (length is) entries
    → AreBelow (length is) entries
entries_within is entries b = record { each = (entries_below is (length is) entries b).each }

one_below : (n b k c : ℕ) → b < n → slice_get (b ∷ []) k ≡ Some c → c < n
one_below n b zero c l h = let e : b ≡ c = cc in omega (arith, e, l)
one_below n b (suc k) c l h = cc

pub one_within : (n b : ℕ) → b < n → AreBelow n (b ∷ [])
one_within n b l = record { each = λ k c h. one_below n b k c l h }

pub there : (xs : List ℕ) (b : ℕ) → (c : Contains xs b) → slice_get xs c.0 ≡ Some b
there xs b c = slice_get_read xs (length xs) c.0 b refl c.1 (sym c.2)

pub only_at : (g k s : ℕ) → slice_get (g ∷ []) k ≡ Some s → s ≡ g
only_at g zero s h = cc
only_at g (suc k) s h = cc

module _ (is : List PlainInst) (calls : List Call) (a : AreCalls is (length is) calls) where
  edge_calls : (f g : ℕ) → HasEdge (map edge_of calls) f g → Calls is f g
  edge_calls f g e =
      let r = map_get edge_of calls e.place e.edge e.there in
      let s = (a.sound e.place r.0 r.1).0.call in
      let p : r.0.caller ≡ f = ap (λ (x : Edge). x.from) r.2 ∙ e.from in
      let q : r.0.callee ≡ g = ap (λ (x : Edge). x.to) r.2 ∙ e.to in
      record { place = r.0.inst; call = call_moved is r.0.inst r.0.caller r.0.callee f g p q s }

  calls_edge : (f g : ℕ) → Calls is f g → HasEdge (map edge_of calls) f g
  calls_edge f g k =
      let h = calls_has is calls a f g k in
      record {
        place = h.place;
        edge = edge_of h.call;
        there = slice_get-map edge_of calls h.place
            ∙ ap (option_map edge_of) h.there;
        from = h.from;
        to = h.to;
      }

  caller_below : (f g : ℕ) → Calls is f g → f < length is
  caller_below f g k =
      let h = calls_has is calls a f g k in
      let w = ((calls_within is (length is) calls a).each h.place h.call h.there).0 in
      let e = h.from in
      omega (arith, w, e)

  pub edges_within : AreWithin (length is) (map edge_of calls)
  edges_within = record {
    each = λ k e h. let r = map_get edge_of calls k e h in
        let w = (calls_within is (length is) calls a).each k r.0 r.1 in within_moved (length is) r.0 e r.2 w;
  }

  module _ (starts : List ℕ) (closed : List Bool) (o : (h : ℕ) → h < length is → slice_get closed h ≡ Some false) where
    -- a chain is a way
    pub chain_way : (e b : ℕ) → Contains starts e → Chain (Calls is) e b
        → (past : List ℕ) × IsWay (map edge_of calls) starts closed past b
    chain_way e _ s alone = ([], s)
    chain_way e _ s (more g h c k) = let r = chain_way e g s c in
        (g ∷ r.0, (calls_edge g h k, o g (caller_below g h k), r.1))

    -- a list of functions after a way is a way
    listed_way : (g f : ℕ) (functions past : List ℕ) → IsCallChain is g f functions
        → IsWay (map edge_of calls) starts closed past f
        → (whole : List ℕ) × IsWay (map edge_of calls) starts closed whole g
        × (length whole + 1 ≡ length past + length functions)
    listed_way g _ _ past IsCallChain.alone w = (past, w, omega arith)
    listed_way g _ _ past (IsCallChain.next f h rest k c) w =
        let r = listed_way g h rest (f ∷ past) c (calls_edge f h k, o f (caller_below f h k), w) in
        let e = r.2 in
        (r.0, r.1, omega (arith, e))

    -- a way before a list of functions is one
    way_listed : (g b : ℕ) (functions past : List ℕ) → IsCallChain is g b functions
        → IsWay (map edge_of calls) starts closed past b
        → (s : ℕ) × Contains starts s × IsCallChain is g s (reverse_aux past functions)
    way_listed g b functions [] c w = (b, w, c)
    way_listed g b functions (h ∷ past) c w =
        way_listed g h (h ∷ functions) past (IsCallChain.next h b functions (edge_calls h b w.0) c) w.2

    pub entry_shortest : (g : ℕ) (nodes : List ℕ) → AreEntries is (length is) starts
        → IsShortest (map edge_of calls) starts closed g nodes → IsShortestOf (IsEntryChain is g) nodes
    entry_shortest g nodes b s =
        let t = way_listed g g (g ∷ []) s.past IsCallChain.alone s.way in
        let n = ap length s.listed ∙ length-reverse (g ∷ s.past) in
        record {
          holds = record { entry = t.0; function = b.sound t.1.0 t.0 (there starts t.0 t.1); chain = rw s.listed t.2 };
          least = λ other h.
              let k = b.complete h.entry h.function
              (slice_get_within is h.function.place h.function.inst h.function.there) in
              let w = listed_way g h.entry other [] h.chain (contained starts k.0 h.entry k.1) in
              let l = s.least w.0 w.1 in
              let e = w.2 in
              omega (arith, n, l, e);
        }

module _ (is : List PlainInst) (calls : List Call) (a : AreCalls is (length is) calls) (closed : List Bool)
    (o : (h : ℕ) → h < length is → slice_get closed h ≡ Some false) where
  pub back_shortest : (f g : ℕ) (nodes : List ℕ) → IsShortest (map edge_of calls) (g ∷ []) closed f nodes
      → IsShortestOf (IsCallChain is f g) nodes
  back_shortest f g nodes s =
      let t = way_listed is calls a (g ∷ []) closed o f f (f ∷ []) s.past IsCallChain.alone s.way in
      let n = ap length s.listed ∙ length-reverse (f ∷ s.past) in
      let q : t.0 ≡ g = only_at g t.1.0 t.0 (there (g ∷ []) t.0 t.1) in
      record {
        holds = rw s.listed (subst (λ x. IsCallChain is f x (reverse (f ∷ s.past))) q t.2);
        least = λ other c.
            let w = listed_way is calls a (g ∷ []) closed o f g other [] c (contained (g ∷ []) 0 g refl) in
            let l = s.least w.0 w.1 in
            let e = w.2 in
            omega (arith, n, l, e);
      }

-- the ways that the evidence tells of
pub record AreReached (edges : List Edge) (entries : List ℕ) (closed : List Bool) (c : Call) : Type 0 where
  pub caller : (past : List ℕ) × IsWay edges entries closed past c.caller
  pub back : (past : List ℕ) × IsWay edges (c.callee ∷ []) closed past c.caller

-- a call of that instruction is the only one
same_call : (is : List PlainInst) (calls : List Call) (n : ℕ) → AreCalls is (length is) calls → (j k : ℕ) (c d : Call)
    → slice_get calls j ≡ Some c → slice_get calls k ≡ Some d
    → c.inst ≡ n → d.inst ≡ n → c ≡ d
same_call is calls n a j k c d h g p q = elim (cases_order j k) [
  | inl e ↦ (let h' : slice_get calls k ≡ Some c = rw (← e) h in cc)
  | inr r ↦ elim r [
    | inl l ↦ (let z = a.rising j k c d l h g in absurd (omega (arith, z, p, q)))
    | inr l ↦ (let z = a.rising k j d c l g h in absurd (omega (arith, z, p, q)))
  ]
]

pub is_listed : (is : List PlainInst) (calls : List Call) → AreCalls is (length is) calls → (r : Rule) (n : ℕ)
    → Broken is r n → (c : Call) × IsListed calls n c
is_listed is calls a _ _ (on_cycle n e f g k h x d) = let r = a.complete n f g k.of.begun.within k in
    (r.1, record { place = r.0; there = r.2; inst = r.5 })

reached_moved : (edges : List Edge) (entries : List ℕ) (closed : List Bool) (c d : Call) → c ≡ d
    → AreReached edges entries closed c → AreReached edges entries closed d
reached_moved edges entries closed c d e r = let P : Call → Type 0 = λ x. AreReached edges entries closed x in
    subst P e r

way_moved : (edges : List Edge) (starts : List ℕ) (closed : List Bool) (past : List ℕ) (f g : ℕ) → f ≡ g
    → IsWay edges starts closed past f → IsWay edges starts closed past g
way_moved edges starts closed past f g e w = let P : ℕ → Type 0 = λ x. IsWay edges starts closed past x in subst P e w

pub are_reached : (is : List PlainInst) (calls : List Call) (entries : List ℕ) (closed : List Bool)
    → AreCalls is (length is) calls → AreEntries is (length is) entries
    → ((h : ℕ) → h < length is → slice_get closed h ≡ Some false) → (r : Rule) (n : ℕ) → Broken is r n → (c : Call)
    → IsListed calls n c → AreReached (map edge_of calls) entries closed c
are_reached is calls entries closed a b o _ _ (on_cycle n e f g k h x d) c l =
    let edges = map edge_of calls in
    let r = a.complete n f g k.of.begun.within k in
    let i = b.complete e h (slice_get_within is h.place h.inst h.there) in
    let same = same_call is calls n a r.0 l.place r.1 c r.2 l.there r.5 l.inst in
    let to = chain_way is calls a entries closed o e f (contained entries i.0 e i.1) x in
    let back = chain_way is calls a (g ∷ []) closed o g f (contained (g ∷ []) 0 g refl) d in
    let back' : IsWay edges (r.1.callee ∷ []) closed back.0 f = rw r.4 back.1 in
    reached_moved edges entries closed r.1 c same (record {
      caller = (to.0, way_moved edges entries closed to.0 f r.1.caller (sym r.3) to.1);
      back = (back.0, way_moved edges (r.1.callee ∷ []) closed back.0 f r.1.caller (sym r.3) back');
    })

-- the evidence of a call, by what was found
pub is_evidence : (is : List PlainInst) (calls : List Call) (n : ℕ) (c : Call) (to back : List ℕ)
    → AreCalls is (length is) calls → IsListed calls n c
    → IsShortestOf (IsEntryChain is c.caller) to → IsShortestOf (IsCallChain is c.caller c.callee) back
    → IsEvidence is G1 n (Cycle to back)
is_evidence is calls n c to back a l t b =
    let k = (a.sound l.place c l.there).0.call in
    let i = l.inst in
    let k' : IsCall is n c.caller c.callee = rw i at k in
    IsEvidence.on_cycle n c.caller c.callee to back k' t b

-- what the search for the ways asks
pub record IsReady (edges : List Edge) (entries : List ℕ) (closed : List Bool) (c : Call) : Type 0 where
  pub within : AreWithin (length closed) edges
  pub starts : AreBelow (length closed) entries
  pub caller : c.caller < length closed
  pub callee : AreBelow (length closed) (c.callee ∷ [])
  pub few : AreFew closed
  pub reached : AreReached edges entries closed c

ready_by : (is : List PlainInst) (calls : List Call) (entries : List ℕ) (closed : List Bool) (n : ℕ) (c : Call)
    → closed ≡ replicate (length is) false → AreFew is
    → AreCalls is (length is) calls → AreEntries is (length is) entries → Broken is G1 n → IsListed calls n c
    → IsReady (map edge_of calls) entries closed c
ready_by is calls entries closed n c e few a b k l =
    let m : length closed ≡ length is = ap length e ∙ length-replicate (length is) false in
    let w = (calls_within is (length is) calls a).each l.place c l.there in
    let caller = w.0 in
    record {
      within = rw m (edges_within is calls a);
      starts = rw m (entries_within is entries b);
      caller = omega (arith, m, caller);
      callee = rw m (one_within (length is) c.callee w.1);
      few = omega (arith, m, few);
      reached = are_reached is calls entries closed a b (all_open (length is) closed e) G1 n k c l;
    }

module _ (insts : List Inst) (calls : List Call) (entries : List ℕ) (closed : List Bool) (n : ℕ) (c : Call)
    (e : closed ≡ replicate (length insts) false)
    (a : AreCalls (map plain_inst insts) (length insts) calls) (l : IsListed calls n c) where
  count : length insts ≡ length (map plain_inst insts)
  count = sym (length-map insts plain_inst)

  their_calls : AreCalls (map plain_inst insts) (length (map plain_inst insts)) calls
  their_calls = rw count at a

  their_closed : closed ≡ replicate (length (map plain_inst insts)) false
  their_closed = rw count at e

  pub ready : (edges : List Edge) → edges ≡ map edge_of calls → AreFew insts
      → AreEntries (map plain_inst insts) (length insts) entries → Broken (map plain_inst insts) G1 n
      → IsReady edges entries closed c
  ready edges q few b k =
      rw q (ready_by (map plain_inst insts) calls entries closed n c their_closed (rw count at few) their_calls
      (rw count at b) k l)

  pub evidence : (edges : List Edge) (to back : List ℕ) → edges ≡ map edge_of calls
      → AreEntries (map plain_inst insts) (length insts) entries
      → IsShortest edges entries closed c.caller to → IsShortest edges (c.callee ∷ []) closed c.caller back
      → IsEvidence (map plain_inst insts) G1 n (Cycle to back)
  evidence edges to back q b s t =
      let is = map plain_inst insts in
      let o = all_open (length is) closed their_closed in
      is_evidence is calls n c to back their_calls l
      (entry_shortest is calls their_calls entries closed o c.caller to (rw count at b) (rw q at s))
      (back_shortest is calls their_calls closed o c.caller c.callee back (rw q at t))
