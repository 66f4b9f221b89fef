-- Definitions, labels and functions of the instructions that are looked at.
use Rattle.std.proofs.Common.{◌≡◌, ◌≤◌, ◌<◌, ◌-◌, ◌∙◌, ℕ, zero, suc, List, Bool, true, false, Option, Some, None}
use Rattle.std.proofs.Common.{length, refl, sym, subst, eq-eqb, nat_lt, arith}
use Rattle.std.specs.Prelude.{slice_get, slice_index, is_some, MatchBool}
use Rattle.std.proofs.lemmas.Bool.Decides.{nat_tests}
use Rattle.std.proofs.lemmas.Bool.{eqb-true}
use Rattle.std.proofs.lemmas.Option.{slice_get_within}
use Rattle.std.proofs.lemmas.List.{length-map}
use Rattle.spv_module.specs.declared.opcode.TheConstants as opcode
use Rattle.spv_table.specs.Table.{Table}
use Rattle.spv_module.specs.Operand.{PlainInst, type_in}
use Rattle.spv_module.specs.Module.{plain_inst}
use Rattle.spv_layout.specs.Place.{IsOfFunction}
use Rattle.spv_layout.proofs.Places.{function_same}
use Rattle.spv_ids.specs.Definition.{IsDefinedAt}
use Rattle.spv_ids.specs.Outcome.{IsDefinitionOf, definition_in}
use Rattle.spv_ids.specs.inner.Notes.{number_in}
use Rattle.spv_ids.specs.inner.Outcome.{IsNear}
use Rattle.spv_flow.specs.branches.Target.{is_label, IsOp, IsLabelOf}
use Rattle.spv_flow.specs.branches.Ready.{IsLocalValue}
use Rattle.spv_flow.proofs.lemmas.branches.Labelled.{op_tells, op_holds}
use Rattle.spv_flow.specs.declared.walks.code.Code.{Code}
use Rattle.spv_flow.specs.walks.inner.Code.{insts_of, IsCode}
use Rattle.spv_flow.proofs.lemmas.walks.Ended.{no_result_at_end}

pub none_defined : (G : Table) (c : Code) (x m : ℕ) → IsCode G c → definition_in c.ids.now x ≡ None
    → ¬ (IsDefinedAt (insts_of c) x m)
none_defined G c x m is e d = subst (λ (o : Option ℕ). IsDefinitionOf (insts_of c) x o) e (is.ids.each x) m d

pub past_defined : (G : Table) (c : Code) (x m n : ℕ) → IsCode G c → definition_in c.ids.now x ≡ Some m
    → length c.insts.now ≤ m → ¬ (IsDefinedAt (insts_of c) x n)
past_defined G c x m n is e past d =
    let o = subst (λ (o : Option ℕ). IsDefinitionOf (insts_of c) x o) e (is.ids.each x) in
    let g = slice_get_within (insts_of c) m o.there.inst o.there.there in
    let l = length-map c.insts.now plain_inst in
    absurd (omega (arith, g, l, past))

-- a definition that the list tells
number_of : (n : ℕ) → 0 < n → number_in n ≡ Some (n - 1)
number_of zero h = absurd (omega (arith, h))
number_of (suc n) h = let e : suc n - 1 ≡ n = omega arith in rw e refl

pub listed : (G : Table) (c : Code) (near : List ℕ) (x : ℕ) → IsCode G c → IsNear c.ids.now near → x < length near
    → 0 < slice_index near x → IsDefinedAt (insts_of c) x (slice_index near x - 1)
listed G c near x is tells within some =
    let e : definition_in c.ids.now x ≡ Some (slice_index near x - 1) = tells x within
    ∙ number_of (slice_index near x) some in
    (subst (λ (o : Option ℕ). IsDefinitionOf (insts_of c) x o) e (is.ids.each x)).there

either : (o : Option ℕ) (P : Option ℕ → Type 0) (Q : Type 0) → (P None → Q) → ((m : ℕ) → P (Some m) → Q) → P o → Q
either None P Q f g h = f h
either (Some m) P Q f g h = g m h

-- an id has one definition at most
pub one_place : (G : Table) (c : Code) (x m n : ℕ) → IsCode G c → IsDefinedAt (insts_of c) x m
    → IsDefinedAt (insts_of c) x n → m ≡ n
one_place G c x m n is d e =
    either (definition_in c.ids.now x) (λ o. IsDefinitionOf (insts_of c) x o) (m ≡ n) (λ none. absurd (none m d))
    (λ k one. one.only m d ∙ sym (one.only n e)) (is.ids.each x)

pub label_here : (is : List PlainInst) (x m : ℕ) (i : PlainInst) → IsDefinedAt is x m → slice_get is m ≡ Some i
    → i.opcode ≡ opcode.LABEL → IsLabelOf is x m
label_here is x m i d there e =
    record { defined = d; label = op_holds is m i is_label there (eq-eqb i.opcode opcode.LABEL e) }

pub label_not : (G : Table) (c : Code) (x m n : ℕ) (i : PlainInst) → IsCode G c → IsDefinedAt (insts_of c) x m
    → slice_get (insts_of c) m ≡ Some i → (i.opcode ≡ opcode.LABEL → ⊥) → ¬ (IsLabelOf (insts_of c) x n)
label_not G c x m n i is d there isnt l =
    let e = one_place G c x n m is l.defined d in
    isnt (eqb-true i.opcode opcode.LABEL (op_tells (insts_of c) m i is_label there
    (subst (λ (k : ℕ). IsOp (insts_of c) k is_label) e l.label)))

-- local values

some_of : (o : Option ℕ) → is_some o ≡ true → (t : ℕ) × (o ≡ Some t)
some_of None h = cc
some_of (Some t) h = (t, refl)

pub value_here : (G : Table) (c : Code) (x d f : ℕ) (i : PlainInst) → IsCode G c → IsDefinedAt (insts_of c) x d
    → slice_get (insts_of c) d ≡ Some i → IsOfFunction (insts_of c) d f → f < d → is_some (type_in i.operands) ≡ true
    → IsLocalValue (insts_of c) x
value_here G c x d f i is at there of after typed =
    let t = some_of (type_in i.operands) typed in
    record {
      local = (
        f,
        record {
          place = d;
          defined = at;
          of = of;
          after = after;
          before = no_result_at_end G (insts_of c) is.plan.fits d x at;
        },
      );
      place = d;
      defined = at;
      inst = i;
      there = there;
      of_type = t.0;
      typed = t.1;
    }

-- the function of a local value, before its definition
pub value_inside : (G : Table) (c : Code) (x d : ℕ) → IsCode G c → IsDefinedAt (insts_of c) x d
    → IsLocalValue (insts_of c) x → (f : ℕ) × (f < d) × IsOfFunction (insts_of c) d f
value_inside G c x d is at v =
    let l = v.local.1 in
    let e = one_place G c x l.place d is l.defined at in
    let a = l.after in
    (v.local.0, omega (arith, a, e), subst (λ (k : ℕ). IsOfFunction (insts_of c) k v.local.0) e l.of)

pub value_typed : (G : Table) (c : Code) (x d : ℕ) (i : PlainInst) → IsCode G c → IsDefinedAt (insts_of c) x d
    → slice_get (insts_of c) d ≡ Some i → IsLocalValue (insts_of c) x → is_some (type_in i.operands) ≡ true
value_typed G c x d i is at there v =
    let e = one_place G c x v.place d is v.defined at in
    let h : slice_get (insts_of c) d ≡ Some v.inst = subst
    (λ (k : ℕ). slice_get (insts_of c) k ≡ Some v.inst) e v.there in
    let s : v.inst ≡ i = cc in
    let t : type_in i.operands ≡ Some v.of_type = subst
    (λ (j : PlainInst). type_in j.operands ≡ Some v.of_type) s v.typed in
    rw t refl

pub value_not : (G : Table) (c : Code) (x d f : ℕ) → IsCode G c → IsDefinedAt (insts_of c) x d
    → IsOfFunction (insts_of c) d f → d ≤ f → ¬ (IsLocalValue (insts_of c) x)
value_not G c x d f is at of before v =
    let r = value_inside G c x d is at v in
    let e = function_same (insts_of c) d r.0 f r.2 of in
    absurd (omega (arith, before, e, r.1))

-- what a test of the type tells

pub by_type : (o b : Bool) (P : Type 0) → b ≡ o → (o ≡ true → P) → (P → o ≡ true) → MatchBool b P (¬ P)
by_type o true P e f g = f (sym e)
by_type o false P e f g = λ p. (let t = g p in cc)

lt_false : (a b : ℕ) → b ≤ a → nat_lt a b ≡ false
lt_false a b h = grind (arith, nat_tests)

pub by_order : (a b : ℕ) (P : Type 0) → b ≤ a → ¬ P → MatchBool (nat_lt a b) P (¬ P)
by_order a b P le not = let e = lt_false a b le in rw e not
