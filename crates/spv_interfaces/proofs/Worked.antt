-- The worked example.
use Rattle.std.proofs.Common.{◌≡◌, ◌<◌, ◌≤◌, ◌∙◌, inl, inr, ℕ, zero, suc, List, [], ◌∷◌, Some, refl, sym, ap, subst}
use Rattle.std.proofs.Common.{arith}
use Rattle.std.specs.Prelude.{slice_get, IsSomeAnd, IsTrue}
use Rattle.std.proofs.lemmas.Option.{same_Some, some_pair_parts}
use Rattle.spv_table.specs.Table.{Table}
use Rattle.spv_module.specs.declared.opcode.TheConstants as opcode
use Rattle.spv_module.specs.Operand.{Id, OfType, Result, Plain, PlainInst, result_in}
use Rattle.spv_layout.specs.declared.class.Class.{Class}
use Rattle.spv_layout.specs.declared.class.Class.TheVariants as class
use Rattle.spv_layout.specs.declared.form.Role.TheVariants as role
use Rattle.spv_layout.specs.Class.{is_among}
use Rattle.spv_layout.specs.Row.{closed}
use Rattle.spv_layout.specs.inner.Row.{row, v, T, R}
use Rattle.spv_layout.specs.Rows.{rows}
use Rattle.spv_layout.specs.Shape.{AreOf, Ends, HasForms, IsUse}
use Rattle.spv_layout.specs.Layout.{classes}
use Rattle.spv_layout.specs.Place.{IsAt, IsDefinition, IsOfFunction, IsOfSection}
use Rattle.spv_type_forms.specs.Definitions.{IsGlobal}
use Rattle.spv_flow.specs.branches.Example.{negation}
use Rattle.spv_flow.specs.calls.Calls.{Calls}
use Rattle.spv_flow.specs.calls.Chain.{alone, more}
use Rattle.spv_flow.specs.calls.Example.{function, label, call, return_op, end}
use Rattle.spv_flow.proofs.lemmas.branches.Laid.{not_at, within_by}
use Rattle.spv_interfaces.specs.Example.{entry, faced, variable}
use Rattle.spv_interfaces.specs.Interface.{IsInTree, IsMisfaced, IsNamedIn, IsOfClass, IsWrong, faced_by}

-- Where its instructions stand.
abbrev laid : List Class
laid = class.EntryPoint ∷ class.Variable
    ∷ class.Function ∷ class.Label ∷ class.Body ∷ class.Return ∷ class.FunctionEnd
    ∷ class.Function ∷ class.Label ∷ class.Body ∷ class.Return ∷ class.FunctionEnd ∷ []

laid_classes : (os : List Plain) → classes (faced os) ≡ laid
unfolding rows
laid_classes os = refl

of_first : (os : List Plain) (n : ℕ) → 2 ≤ n → n ≤ 6 → IsOfFunction (faced os) n 2
of_first os n l m = within_by (faced os) laid class.Function (class.FunctionEnd ∷ []) n 2 7 6 (laid_classes os)
    (omega (arith, m)) (omega arith) m l refl refl refl

pub of_second : (os : List Plain) (n : ℕ) → 7 ≤ n → n ≤ 11 → IsOfFunction (faced os) n 7
of_second os n l m = within_by (faced os) laid class.Function (class.FunctionEnd ∷ []) n 7 12 11 (laid_classes os)
    (omega (arith, m)) (omega arith) m l refl refl refl

label_at : (os : List Plain) (n : ℕ) → IsSomeAnd (slice_get laid n) (λ c. IsTrue (is_among c (class.Label ∷ [])))
    → IsAt (faced os) n (class.Label ∷ [])
label_at os n h = subst (λ (cs : List Class). IsSomeAnd (slice_get cs n) (λ c. IsTrue (is_among c (class.Label ∷ []))))
    (sym (laid_classes os)) h

first_definition : (os : List Plain) → IsDefinition (faced os) 2
first_definition os =
    record { label = 3; there = label_at os 3 refl; of = of_first os 3 (omega arith) (omega arith) }

pub second_definition : (os : List Plain) → IsDefinition (faced os) 7
second_definition os =
    record { label = 8; there = label_at os 8 refl; of = of_second os 8 (omega arith) (omega arith) }

-- the call
pub called : (os : List Plain) → Calls (faced os) 2 7
called os = record {
  place = 4;
  call = record {
    inst = call 3 4;
    there = refl;
    opcode = refl;
    callee = 4;
    named = refl;
    of = of_first os 4 (omega arith) (omega arith);
    caller = first_definition os;
    function = record { inst = function 4; there = refl; result = refl };
    called = second_definition os;
  };
}

-- the variable
pub global : (os : List Plain) → IsGlobal (faced os) 9
global os = record {
  place = 1;
  defined = record { inst = variable; there = refl; result = refl };
  variable = refl;
  section = IsOfSection.global class.Variable
      (subst (λ (cs : List Class). slice_get cs 1 ≡ Some class.Variable) (sym (laid_classes os)) refl) refl
      (λ f l.
      let u = l.up_to in
      not_at (faced os) laid (class.Function ∷ []) 0 2 f (laid_classes os) refl (omega arith) (omega (arith, u))
      l.there);
}

-- the use
negation_forms : (G : Table) (r x : ℕ) → HasForms G (negation r x) (T ∷ R ∷ v ∷ [])
unfolding rows
negation_forms G r x = record {
  row = row 200 200 class.Body (T ∷ R ∷ v ∷ []) closed;
  rest = [];
  known = refl;
  forms = refl;
  ending = Ends.nothing;
  each = AreOf.more T (OfType 20) (R ∷ v ∷ []) (Result r ∷ Id x ∷ []) refl
      (AreOf.more R (Result r) (v ∷ []) (Id x ∷ []) refl (AreOf.more v (Id x) [] [] refl AreOf.none));
}

pub value_used : (G : Table) (r x : ℕ) → IsUse G (negation r x) 2 x role.Value
value_used G r x = record {
  forms = T ∷ R ∷ v ∷ [];
  has = negation_forms G r x;
  form = v;
  operand = Id x;
  form_at = refl;
  operand_at = refl;
  role = refl;
  id = refl;
}

in_tree : (G : Table) (os : List Plain) → IsInTree G (faced os) 1 9
in_tree G os = record {
  root = 2;
  defined = record { inst = function 1; there = refl; result = refl };
  function = 7;
  chain = more 2 7 alone (called os);
  definition = second_definition os;
  inst = 9;
  of = of_second os 9 (omega arith) (omega arith);
  operand = 2;
  role = role.Value;
  used = record { inst = negation 6 9; there = refl; used = value_used G 6 9 };
  variable = global os;
}

pub none_named : (x : ℕ) → ¬ (IsNamedIn [] x)
none_named x n = let h = n.1 in cc

pub unnamed : (G : Table) → IsMisfaced G 4 (faced []) 0
unnamed G = record {
  inst = entry [];
  there = refl;
  function = 1;
  interface = [];
  faced = refl;
  wrong = IsWrong.unnamed 9 (omega arith) (in_tree G []) (none_named 9);
}

pub twice : (G : Table) → IsMisfaced G 4 (faced (Id 9 ∷ Id 9 ∷ [])) 0
twice G = record {
  inst = entry (Id 9 ∷ Id 9 ∷ []);
  there = refl;
  function = 1;
  interface = Id 9 ∷ Id 9 ∷ [];
  faced = refl;
  wrong = IsWrong.twice 9 (omega arith)
      (record { first = 0; second = 1; order = omega arith; one = refl; other = refl });
}

-- There is no other variable.
other : (i j : PlainInst) → Some j ≡ Some i → i.opcode ≡ opcode.VARIABLE → j.opcode ≡ opcode.VARIABLE
other i j e h = let s : j ≡ i = cc in ap (λ (k : PlainInst). k.opcode) s ∙ h

pub only_at : (os : List Plain) (k : ℕ) (i : PlainInst) → slice_get (faced os) k ≡ Some i → i.opcode ≡ opcode.VARIABLE
    → k ≡ 1
only_at os zero i e h = absurd (omega (arith, other i (entry os) e h))
only_at os (suc zero) i e h = refl
only_at os (suc (suc zero)) i e h = absurd (omega (arith, other i (function 1) e h))
only_at os (suc (suc (suc zero))) i e h = absurd (omega (arith, other i (label 2) e h))
only_at os (suc (suc (suc (suc zero)))) i e h = absurd (omega (arith, other i (call 3 4) e h))
only_at os (suc (suc (suc (suc (suc zero))))) i e h = absurd (omega (arith, other i return_op e h))
only_at os (suc (suc (suc (suc (suc (suc zero)))))) i e h = absurd (omega (arith, other i end e h))
only_at os (suc (suc (suc (suc (suc (suc (suc zero))))))) i e h = absurd (omega (arith, other i (function 4) e h))
only_at os (suc (suc (suc (suc (suc (suc (suc (suc zero)))))))) i e h = absurd (omega (arith, other i (label 5) e h))
only_at os (suc (suc (suc (suc (suc (suc (suc (suc (suc zero))))))))) i e h =
    absurd (omega (arith, other i (negation 6 9) e h))
only_at os (suc (suc (suc (suc (suc (suc (suc (suc (suc (suc zero)))))))))) i e h =
    absurd (omega (arith, other i return_op e h))
only_at os (suc (suc (suc (suc (suc (suc (suc (suc (suc (suc (suc zero))))))))))) i e h =
    absurd (omega (arith, other i end e h))
only_at os (suc (suc (suc (suc (suc (suc (suc (suc (suc (suc (suc (suc k)))))))))))) i e h = cc

only_variable : (os : List Plain) (x : ℕ) → IsGlobal (faced os) x → x ≡ 9
only_variable os x g =
    let k = only_at os g.place g.defined.inst g.defined.there g.variable in
    let there : slice_get (faced os) 1 ≡ Some g.defined.inst =
    subst (λ (n : ℕ). slice_get (faced os) n ≡ Some g.defined.inst) k g.defined.there in
    let s : variable ≡ g.defined.inst = same_Some variable g.defined.inst there in
    let r : result_in variable.operands ≡ Some x =
    subst (λ (i : PlainInst). result_in i.operands ≡ Some x) (sym s) g.defined.result in
    sym (same_Some 9 x r)

-- The entry point's interface.
interface_is : (G : Table) (minor : ℕ) (os : List Plain) (m : IsMisfaced G minor (faced os) 0) → os ≡ m.interface
interface_is G minor os m =
    let s : entry os ≡ m.inst = same_Some (entry os) m.inst m.there in
    let f : faced_by (entry os) ≡ Some (m.function, m.interface) =
    subst (λ (i : PlainInst). faced_by i ≡ Some (m.function, m.interface)) (sym s) m.faced in
    (some_pair_parts 1 m.function os m.interface f).1

no_two : (x first second : ℕ) → first < second → slice_get (Id 9 ∷ []) first ≡ Some (Id x)
    → slice_get (Id 9 ∷ []) second ≡ Some (Id x) → ⊥
no_two x first zero l a b = absurd (omega (arith, l))
no_two x first (suc second) l a b = cc

pub named : (G : Table) → ¬ (IsMisfaced G 4 (faced (Id 9 ∷ [])) 0)
named G m = by_wrong (subst (λ (os : List Plain). IsWrong G 4 (faced (Id 9 ∷ [])) m.function os)
    (sym (interface_is G 4 (Id 9 ∷ []) m)) m.wrong)
  where
    by_wrong : IsWrong G 4 (faced (Id 9 ∷ [])) m.function (Id 9 ∷ []) → ⊥
    by_wrong (IsWrong.twice x l t) = no_two x t.first t.second t.order t.one t.other
    by_wrong (IsWrong.unnamed x l t never) =
        let e = only_variable (Id 9 ∷ []) x t.variable in
        never (0, ap (λ (y : ℕ). Some (Id y)) (sym e))
    by_wrong (IsWrong.inner x c l n of a b) = absurd (omega (arith, l))
    by_wrong (IsWrong.unnamed_outside x l t o never) = absurd (omega (arith, l))

-- %20 is no type
not_of : (c : ℕ) → ¬ (IsOfClass (faced []) 9 c)
not_of c o =
    let e : 20 ≡ o.type = same_Some 20 o.type o.typed in
    let p = o.pointer in
    let q = rw (← e) at p in
    cc

pub before : (G : Table) → ¬ (IsMisfaced G 3 (faced []) 0)
before G m = by_wrong (subst (λ (os : List Plain). IsWrong G 3 (faced []) m.function os)
    (sym (interface_is G 3 [] m)) m.wrong)
  where
    not_outside : (x c : ℕ) → IsGlobal (faced []) x → IsOfClass (faced []) x c → ⊥
    not_outside x c g o = not_of c (subst (λ (y : ℕ). IsOfClass (faced []) y c) (only_variable [] x g) o)

    by_wrong : IsWrong G 3 (faced []) m.function [] → ⊥
    by_wrong (IsWrong.twice x l t) = absurd (omega (arith, l))
    by_wrong (IsWrong.unnamed x l t never) = absurd (omega (arith, l))
    by_wrong (IsWrong.inner x c l n of a b) = none_named x n
    by_wrong (IsWrong.unnamed_outside x l t (inl o) never) = not_outside x 1 t.variable o
    by_wrong (IsWrong.unnamed_outside x l t (inr o) never) = not_outside x 3 t.variable o
