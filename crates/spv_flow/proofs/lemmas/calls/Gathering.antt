-- What is gathered of a module, one instruction after another.
use Rattle.std.proofs.Common.{◌≡◌, ◌∙◌, ◌<◌, ◌+◌, ◌++◌, ℕ, List, [], ◌∷◌, refl, sym, ap, subst, inl, inr, nat_eq}
use Rattle.std.proofs.Common.{Option, Some, None, length, arith}
use Rattle.std.specs.Prelude.{slice_get}
use Rattle.std.proofs.lemmas.Bool.{cases_Bool, eqb-true}
use Rattle.std.proofs.lemmas.Option.{slice_get_within}
use Rattle.spv_module.specs.declared.opcode.TheConstants as opcode
use Rattle.spv_module.specs.Operand.{Plain, PlainInst, Id}
use Rattle.spv_layout.specs.declared.class.Class.TheVariants.{Function}
use Rattle.spv_layout.specs.Place.{IsAt, IsDefinition}
use Rattle.spv_layout.proofs.Places.{function_same}
use Rattle.spv_ids.specs.declared.ids.Ids.{Ids}
use Rattle.spv_ids.specs.Definition.{IsDefinedAt}
use Rattle.spv_ids.specs.Outcome.{IsDefinitionOf, IsOnly, definition_in, AreNumbered}
use Rattle.spv_layout.proofs.Spans.{below_or}
use Rattle.spv_flow.proofs.lemmas.calls.Insts.{same_inst}
use Rattle.spv_flow.specs.declared.calls.graph.Call.{Call}
use Rattle.spv_flow.specs.calls.Calls.{IsCall, IsEntryFunction}
use Rattle.spv_ids.specs.inner.Test.{id_in}
use Rattle.spv_flow.specs.calls.inner.Found.{callee_in, entry_in, IsLate, IsOfDefinition, IsThatCall, AreCalls}
use Rattle.spv_flow.specs.calls.inner.Found.{AreEntries}
use Rattle.spv_flow.proofs.lemmas.calls.Lists.{pushed_cases, pushed_keeps, pushed_last}
use Rattle.spv_flow.proofs.lemmas.calls.Placed.{call_late}

id_in_some : (o : Option Plain) (x : ℕ) → id_in o ≡ Some x → o ≡ Some (Id x)
id_in_some (Some (Id y)) x h = let e : y ≡ x = cc in ap (λ z. Some (Id z)) e
id_in_some _ x h = cc

callee_found : (i : PlainInst) (x : ℕ) → i.opcode ≡ opcode.FUNCTION_CALL → slice_get i.operands 2 ≡ Some (Id x)
    → callee_in i ≡ Some x
callee_found i x o h = rw (o, h) refl

entry_found : (i : PlainInst) (x : ℕ) → i.opcode ≡ opcode.ENTRY_POINT → slice_get i.operands 1 ≡ Some (Id x)
    → entry_in i ≡ Some x
entry_found i x o h = rw (o, h) refl

entry_told : (i : PlainInst) (x : ℕ) → entry_in i ≡ Some x
    → (i.opcode ≡ opcode.ENTRY_POINT) × (slice_get i.operands 1 ≡ Some (Id x))
entry_told i x h = elim (cases_Bool (nat_eq i.opcode opcode.ENTRY_POINT)) [
  | inl t ↦ (eqb-true i.opcode opcode.ENTRY_POINT t, id_in_some (slice_get i.operands 1) x (rw t at h))
  | inr n ↦ (let h' = rw n at h in cc)
]

-- no call stands before the first OpFunction
pub calls_none : (is : List PlainInst) (n : ℕ) → ((k : ℕ) → k < n → ¬ (IsAt is k (Function ∷ []))) → AreCalls is n []
calls_none is n before = record {
  sound = λ k c h. cc;
  complete = λ m f g lt k. let b = k.of.begun in let u = b.up_to in absurd (before f (omega (arith, lt, u)) b.there);
  rising = λ j k c d lt h i. cc;
}

-- the callee of a call
call_callee : (is : List PlainInst) (n f g : ℕ) (i : PlainInst) → slice_get is n ≡ Some i → (k : IsCall is n f g)
    → callee_in i ≡ Some k.callee
call_callee is n f g i h k = let e : k.inst ≡ i = same_inst is n k.inst i k.there h in
    let r = callee_found k.inst k.callee k.opcode k.named in rw e at r

call_named : (is : List PlainInst) (n f g id : ℕ) (i : PlainInst) → slice_get is n ≡ Some i → Some id ≡ callee_in i
    → (k : IsCall is n f g) → k.callee ≡ id
call_named is n f g id i h e k = let r = call_callee is n f g i h k in cc

only_same : (is : List PlainInst) (x g h : ℕ) (o : Option ℕ) → IsDefinitionOf is x o → IsDefinedAt is x g
    → IsDefinedAt is x h → g ≡ h
only_same is x g h None m d e = absurd (m g d)
only_same is x g h (Some k) m d e = m.only g d ∙ sym (m.only h e)

definition_same : (is : List PlainInst) (ids : Ids) (x g h : ℕ) → AreNumbered is ids → IsDefinedAt is x g
    → IsDefinedAt is x h → g ≡ h
definition_same is ids x g h a d e = only_same is x g h (definition_in ids x) (a.each x) d e

defined_as : (is : List PlainInst) (x y n : ℕ) → x ≡ y → IsDefinedAt is x n → IsDefinedAt is y n
defined_as is x y n e d = rw (← e) d

-- an instruction is no call
pub no_definition : (is : List PlainInst) (ids : Ids) (n id f g : ℕ) (i : PlainInst) → AreNumbered is ids
    → definition_in ids id ≡ None → slice_get is n ≡ Some i → Some id ≡ callee_in i → ¬ (IsCall is n f g)
no_definition is ids n id f g i a e h r k =
    let d = a.each id in
    let d' = rw e at d in
    d' g (defined_as is k.callee id g (call_named is n f g id i h r k) k.function)

pub no_caller : (is : List PlainInst) (n f g : ℕ) → ((h : ℕ) → IsLate is n → ¬ (IsOfDefinition is n h))
    → ¬ (IsCall is n f g)
no_caller is n f g m k = m f (call_late is n k.inst k.there k.opcode) (record { of = k.of; definition = k.caller })

pub no_called : (is : List PlainInst) (ids : Ids) (n id callee f g : ℕ) (i : PlainInst) → AreNumbered is ids
    → definition_in ids id ≡ Some callee → slice_get is n ≡ Some i → Some id ≡ callee_in i
    → ¬ (IsDefinition is callee) → ¬ (IsCall is n f g)
no_called is ids n id callee f g i a e h r x k =
    let d = a.each id in
    let d' = rw e at d in
    let s : g ≡ callee = d'.only g (defined_as is k.callee id g (call_named is n f g id i h r k) k.function) in
    let c = k.called in
    x (rw s at c)

call_at_same : (is : List PlainInst) (ids : Ids) (n f g h j : ℕ) → AreNumbered is ids → IsCall is n f g
    → IsCall is n h j → (f ≡ h) × (g ≡ j)
call_at_same is ids n f g h j a k l =
    let p = call_callee is n f g l.inst l.there k in
    let q = call_callee is n h j l.inst l.there l in
    let e : k.callee ≡ l.callee = cc in (
      function_same is n f h k.of l.of,
      definition_same is ids l.callee g j a
          (defined_as is k.callee l.callee g e k.function) l.function,
    )

call_at : (is : List PlainInst) (m n f g : ℕ) → m ≡ n → IsCall is m f g → IsCall is n f g
call_at is m n f g e k = rw (← e) k

pub calls_past : (is : List PlainInst) (n : ℕ) (calls : List Call) → AreCalls is n calls
    → ((f g : ℕ) → ¬ (IsCall is n f g)) → AreCalls is (n + 1) calls
calls_past is n calls a x = record {
  sound = λ k c h. let r = a.sound k c h in let l = r.1 in (r.0, omega (arith, l));
  complete = λ m f g l k. elim (below_or m n (omega (arith, l))) [
    | inl b ↦ a.complete m f g b k
    | inr e ↦
        absurd (x f g (call_at is m n f g e k))
  ];
  rising = a.rising;
}

that_at : (is : List PlainInst) (n : ℕ) (c d : Call) → c ≡ d → IsThatCall is n c
    → IsThatCall is d.inst d × (d.inst < n + 1)
that_at is n c d e t =
    let P : Call → Type 0 = λ x. IsThatCall is x.inst x × (x.inst < n + 1) in
    let i = t.inst in
    let k : IsThatCall is c.inst c = record
    { call = call_at is n c.inst c.caller c.callee (sym i) t.call; inst = refl } in
    let l : c.inst < n + 1 = omega (arith, i) in
    subst P e (k, l)

pub calls_more : (is : List PlainInst) (ids : Ids) (n : ℕ) (calls : List Call) (c : Call) → AreNumbered is ids
    → AreCalls is n calls → IsThatCall is n c → AreCalls is (n + 1) (calls ++ c ∷ [])
calls_more is ids n calls c ok a t = record {
  sound = λ k d h. elim (pushed_cases calls c k d h) [
    | inl g ↦ (let r = a.sound k d g in let l = r.1 in (r.0, omega (arith, l)))
    | inr g ↦ that_at is n c d g.1 t
  ];
  complete = λ m f g l k. elim (below_or m n (omega (arith, l))) [
    | inl b ↦ (let r = a.complete m f g b k in (r.0, r.1, pushed_keeps calls c r.0 r.1 r.2, r.3, r.4, r.5))
    | inr e ↦ (let s = call_at_same is ids n c.caller c.callee f g ok t.call (call_at is m n f g e k) in
        (length calls, c, pushed_last calls c, s.0, s.1, t.inst ∙ sym e))
  ];
  rising = λ j k d e l h g. elim (pushed_cases calls c k e g) [
    | inl p ↦ (let w = slice_get_within calls k e p in elim (pushed_cases calls c j d h) [
      | inl q ↦ a.rising j k d e l q p
      | inr q ↦ (let z = q.0 in absurd (omega (arith, w, l, z)))
    ])
    | inr p ↦ elim (pushed_cases calls c j d h) [
      | inl q ↦ (let r = (a.sound j d q).1 in let u : c.inst ≡ e.inst = ap (λ (x : Call). x.inst) p.1 in
          let v = t.inst in omega (arith, r, u, v))
      | inr q ↦ (let y = p.0 in let z = q.0 in absurd (omega (arith, l, y, z)))
    ]
  ];
}

entry_named : (is : List PlainInst) (n e : ℕ) (i : PlainInst) (h : IsEntryFunction is e) → h.place ≡ n
    → slice_get is n ≡ Some i → entry_in i ≡ Some h.id
entry_named is n e i h q t =
    let r = h.there in
    let r' = rw q at r in
    let s : h.inst ≡ i = same_inst is n h.inst i r' t in
    let w = entry_found h.inst h.id h.opcode h.named in
    rw s at w

pub entries_past : (is : List PlainInst) (n : ℕ) (entries : List ℕ) (i : PlainInst) → AreEntries is n entries
    → slice_get is n ≡ Some i → entry_in i ≡ None → AreEntries is (n + 1) entries
entries_past is n entries i a t x = record {
  sound = a.sound;
  complete = λ e h l. elim (below_or h.place n (omega (arith, l))) [
    | inl b ↦ a.complete e h b
    | inr q ↦
        (let r = entry_named is n e i h q t in cc)
  ];
}

pub entries_undefined : (is : List PlainInst) (ids : Ids) (n id : ℕ) (entries : List ℕ) (i : PlainInst)
    → AreNumbered is ids → AreEntries is n entries → slice_get is n ≡ Some i → Some id ≡ entry_in i
    → definition_in ids id ≡ None → AreEntries is (n + 1) entries
entries_undefined is ids n id entries i ok a t x none = record {
  sound = a.sound;
  complete = λ e h l. elim (below_or h.place n (omega (arith, l))) [
    | inl b ↦ a.complete e h b
    | inr q ↦ (
        let r = entry_named is n e i h q t in
        let s : h.id ≡ id = cc in
        let d = ok.each id in
        let d' = rw none at d in
        absurd (d' e (defined_as is h.id id e s h.function)))
  ];
}

pub entries_more : (is : List PlainInst) (ids : Ids) (n id f : ℕ) (entries : List ℕ) (i : PlainInst)
    → AreNumbered is ids → AreEntries is n entries → slice_get is n ≡ Some i → Some id ≡ entry_in i
    → definition_in ids id ≡ Some f → AreEntries is (n + 1) (entries ++ f ∷ [])
entries_more is ids n id f entries i ok a t x some =
    let d = ok.each id in
    let d' : IsOnly is id f = rw some at d in
    let w = entry_told i id (sym x) in
    let here : IsEntryFunction is f = record
    { place = n; inst = i; there = t; opcode = w.0; id = id; named = w.1; function = d'.there } in
    let P : ℕ → Type 0 = λ e. IsEntryFunction is e in
    record {
      sound = λ k e h. elim (pushed_cases entries f k e h) [ inl g ↦ a.sound k e g | inr g ↦ subst P g.1 here ];
      complete = λ e h l. elim (below_or h.place n (omega (arith, l))) [
        | inl b ↦ (let r = a.complete e h b in (r.0, pushed_keeps entries f r.0 e r.1))
        | inr q ↦ (
            let r = entry_named is n e i h q t in
            let s : h.id ≡ id = cc in
            let same : e ≡ f = d'.only e (defined_as is h.id id e s h.function) in
            (length entries, pushed_last entries f ∙ ap Some (sym same)))
      ];
    }
