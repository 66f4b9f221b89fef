-- The functions of entry points.
use Rattle.std.proofs.Common.{◌≡◌, ◌∙◌, ◌<◌, ◌≤◌, ◌+◌, inl, inr, ℕ, List, Option, Some, None, nat_eq, refl, sym, ap}
use Rattle.std.proofs.Common.{arith, length, slice_get}
use Rattle.std.proofs.lemmas.Bool.{cases_Bool, cases_lt, eqb-true}
use Rattle.std.proofs.lemmas.Option.{same_Some, none-some, slice_get_within}
use Rattle.spv_table.specs.Table.{Table}
use Rattle.spv_module.specs.Operand.{Plain, PlainInst}
use Rattle.spv_module.specs.Operand as operand
use Rattle.spv_module.specs.declared.opcode.TheConstants as opcode
use Rattle.spv_ids.specs.Definition.{IsDefinedAt}
use Rattle.spv_flow.specs.calls.Calls.{IsEntryFunction}
use Rattle.spv_ids.specs.inner.Test.{id_in}
use Rattle.spv_flow.specs.calls.inner.Found.{entry_in}
use Rattle.spv_run.specs.Entry.{IsEntryId, IsOfRun}
use Rattle.spv_run.specs.State.{State}
use Rattle.spv_run.specs.Run.{IsStart, Run}
use Rattle.spv_run.specs.Sound.{KeepsRules}
use Rattle.spv_run.specs.Trace.{ending_of}
use Rattle.spv_run.specs.declared.parts.Trace.{Trace}
use Rattle.spv_module.specs.declared.fault.Rule.TheVariants as rule
use Rattle.spv_run.proofs.Sound.{checked}
use Rattle.spv_run.proofs.Typing.{entry_of}
use Rattle.spv_run.proofs.Theorem.{never_gets_stuck}

-- no OpEntryPoint before instruction n names the id
pub record NoEntryBefore (is : List PlainInst) (n x : ℕ) : Type 0 where
  pub each : (e : IsEntryId is x) → e.place < n → ⊥

pub none_yet : (is : List PlainInst) (x : ℕ) → NoEntryBefore is 0 x
none_yet is x = record { each = λ e l. absurd (omega (arith, l)) }

entry_names : (i : PlainInst) (x : ℕ) → i.opcode ≡ opcode.ENTRY_POINT → slice_get i.operands 1 ≡ Some (operand.Id x)
    → entry_in i ≡ Some x
entry_names i x e h = rw (e, h) refl

id_there : (o : Plain) (x : ℕ) → id_in (Some o) ≡ Some x → o ≡ operand.Id x
id_there (operand.Id y) x h = ap (λ z. operand.Id z) (same_Some y x h)
id_there (operand.OfType y) x h = absurd (none-some x h)
id_there (operand.Result y) x h = absurd (none-some x h)
id_there (operand.Word y) x h = absurd (none-some x h)
id_there (operand.Argument y) x h = absurd (none-some x h)
id_there (operand.Mention y) x h = absurd (none-some x h)
id_there (operand.Number a b w) x h = absurd (none-some x h)
id_there (operand.Text t) x h = absurd (none-some x h)
id_there (operand.Value k y) x h = absurd (none-some x h)
id_there (operand.Mask k y) x h = absurd (none-some x h)

id_of : (os : List Plain) (k x : ℕ) → id_in (slice_get os k) ≡ Some x → slice_get os k ≡ Some (operand.Id x)
id_of os k x h = by_place (slice_get os k) h where
  by_place : (o : Option Plain) → id_in o ≡ Some x → o ≡ Some (operand.Id x)
  by_place None h = absurd (none-some x h)
  by_place (Some o) h = ap (λ p. Some p) (id_there o x h)

pub entry_here : (is : List PlainInst) (n x y : ℕ) (i : PlainInst) → slice_get is n ≡ Some i → entry_in i ≡ Some x
    → x ≡ y → IsEntryId is y
entry_here is n x y i at e same = elim (cases_Bool (nat_eq i.opcode opcode.ENTRY_POINT)) [
  | inl b ↦ (
      let h : entry_in i ≡ id_in (slice_get i.operands 1) = rw b refl in
      record {
        place = n;
        inst = i;
        there = at;
        opcode = eqb-true i.opcode opcode.ENTRY_POINT b;
        named = id_of i.operands 1 y (sym h ∙ (e ∙ ap (λ z. Some z) same));
      })
  | inr b ↦ absurd (let h : entry_in i ≡ None = rw b refl in none-some x (sym h ∙ e))
]

pub still_none : (is : List PlainInst) (n x : ℕ) (i : PlainInst) → slice_get is n ≡ Some i → NoEntryBefore is n x
    → (entry_in i ≡ Some x → ⊥) → NoEntryBefore is (n + 1) x
still_none is n x i at before other = record {
  each = λ e l. elim (cases_lt e.place n) [
    | inl less ↦ before.each e less
    | inr more ↦ (
        let same : e.place ≡ n = omega (arith, l, more) in
        let inst : e.inst ≡ i = same_Some e.inst i (sym e.there ∙ (ap (slice_get is) same ∙ at)) in
        other (ap entry_in (sym inst) ∙ entry_names e.inst x e.opcode e.named))
  ];
}

pub none_at_all : (is : List PlainInst) (n x : ℕ) → length is ≤ n → NoEntryBefore is n x → IsEntryId is x → ⊥
none_at_all is n x l before e = let w = slice_get_within is e.place e.inst e.there in
    before.each e (omega (arith, l, w))

-- the definition of an entry point's id is an entry point's function
pub entry_function : (is : List PlainInst) (x g : ℕ) → IsEntryId is x → IsDefinedAt is x g → IsEntryFunction is g
entry_function is x g e d =
    record { place = e.place; inst = e.inst; there = e.there; opcode = e.opcode; id = x; named = e.named; function = d }

-- and it has one
pub entry_defined : (G : Table) (bound : ℕ) (is : List PlainInst) (x : ℕ) → KeepsRules G bound is → IsEntryId is x
    → (g : ℕ) × IsDefinedAt is x g
entry_defined G bound is x sound e =
    let k = entry_of is e.inst.operands x e.named
    ((sound.capabilities rule.E2 e.place e.inst e.there).entry e.opcode) in
    (k.function, k.defined)

pub of_run : (G : Table) (bound : ℕ) (is : List PlainInst) (g : ℕ) (choices : List ℕ) (limit : ℕ) (s : State)
    (t : Trace) → KeepsRules G bound is → IsEntryFunction is g → IsStart is g choices s
    → Run G is limit s t.steps.items (ending_of t.ending) → IsOfRun G is limit s t
of_run G bound is g choices limit s t sound entry start run = record {
  run = run;
  bounded = λ functions has. (never_gets_stuck G is (checked G bound is sound) g entry choices).bounded functions has s
      limit t.steps.items (ending_of t.ending) start run;
}
