-- The class of an instruction tells what it is to a run; lines and terminators have no result.
use Rattle.std.proofs.Common.{◌≡◌, ◌∙◌, ◌++◌, append-nil, ◌⊎◌, inl, inr, ℕ, List, [], ◌∷◌, Bool, true, false, not, ◌&&◌}
use Rattle.std.proofs.Common.{◌||◌, nat_eq, Option, Some, None, refl, sym, ap, arith}
use Rattle.std.proofs.lemmas.Bool.{cases_Bool, eqb-true}
use Rattle.spv_table.specs.Table.{Table}
use Rattle.spv_module.specs.Operand.{Plain, PlainInst, result_in}
use Rattle.spv_module.specs.Operand as operand
use Rattle.spv_layout.specs.declared.class.Class.{Class}
use Rattle.spv_layout.specs.declared.class.Class.TheVariants as class
use Rattle.spv_layout.specs.declared.form.Form.{Form}
use Rattle.spv_layout.specs.declared.form.Form.TheVariants as form
use Rattle.spv_layout.specs.Class.{is_among}
use Rattle.spv_layout.specs.Row.{PlainRow, RowEnding, closed, repeated, row_in}
use Rattle.spv_layout.specs.inner.Row.{l, W, N}
use Rattle.spv_layout.specs.Rows.{rows, row_of, class_of, class_in}
use Rattle.spv_layout.specs.Shape.{is_of, AreOf, Ends, FitsShape}
use Rattle.spv_flow.proofs.lemmas.walks.Ended.{all_rows, row_tells, and_first, and_second, end_by}
use Rattle.spv_run.specs.Act.{Act, Function, Parameter, FunctionEnd, Label, Phi, Branch, Choose, Call, Return}
use Rattle.spv_run.specs.Act.{ReturnValue, Other, act_of}
use Rattle.spv_run.specs.Act as act
use Rattle.spv_run.specs.inner.At.{goes_on, in_block}
use Rattle.spv_run.proofs.Shapes.{View, view, is_other}
use Rattle.spv_run.proofs.Passing.{a_function, an_end, a_label, a_phi, of_head, a_terminator, of_block}

-- The classes of the opcodes that a run tells apart, but for that of OpFunctionCall.

abbrev special : Class → Bool
special c = is_among c (class.Function ∷ class.Parameter ∷ class.FunctionEnd ∷ class.Label ∷ class.Phi ∷ class.Branch
    ∷ class.BranchConditional ∷ class.Switch ∷ class.Return ∷ [])

row_apart : PlainRow → Bool
row_apart r = not (special r.class) || (nat_eq r.from r.to && not (is_other r.from))

rows_apart : all_rows row_apart rows ≡ true
unfolding rows all_rows row_apart
rows_apart = refl

apart_by : (n : ℕ) (o : Option PlainRow) → row_in rows n ≡ o → is_other n ≡ true → special (class_in o) ≡ false
unfolding row_apart
apart_by n None h e = refl
apart_by n (Some r) h e =
    let t = row_tells row_apart rows n r rows_apart h in
    elim (cases_Bool (special r.class)) [
      | inl s ↦ (
          let two = end_by (special r.class) (nat_eq r.from r.to && not (is_other r.from)) t.passes s in
          let one : r.from ≡ r.to = eqb-true r.from r.to (and_first (nat_eq r.from r.to) (not (is_other r.from)) two) in
          let low = t.from in
          let high = t.to in
          let same : r.from ≡ n = omega arith in
          let no : not (is_other n) ≡ true = ap (λ m. not (is_other m)) (sym same)
          ∙ and_second (nat_eq r.from r.to) (not (is_other r.from)) two in
          absurd (let w : not true ≡ true = ap not (sym e) ∙ no in cc))
      | inr s ↦ s
    ]

class_54 : class_of 54 ≡ class.Function
unfolding rows
class_54 = refl

class_55 : class_of 55 ≡ class.Parameter
unfolding rows
class_55 = refl

class_56 : class_of 56 ≡ class.FunctionEnd
unfolding rows
class_56 = refl

class_57 : class_of 57 ≡ class.Body
unfolding rows
class_57 = refl

class_245 : class_of 245 ≡ class.Phi
unfolding rows
class_245 = refl

class_248 : class_of 248 ≡ class.Label
unfolding rows
class_248 = refl

pub class_249 : class_of 249 ≡ class.Branch
unfolding rows
class_249 = refl

pub class_250 : class_of 250 ≡ class.BranchConditional
unfolding rows
class_250 = refl

pub class_251 : class_of 251 ≡ class.Switch
unfolding rows
class_251 = refl

class_253 : class_of 253 ≡ class.Return
unfolding rows
class_253 = refl

class_254 : class_of 254 ≡ class.Return
unfolding rows
class_254 = refl

class_255 : class_of 255 ≡ class.Return
unfolding rows
class_255 = refl

-- Tests of what an instruction is to a run.

abbrev pub act_function : Act → Bool
act_function Function = true
act_function _ = false

abbrev pub act_end : Act → Bool
act_end FunctionEnd = true
act_end _ = false

abbrev pub act_label : Act → Bool
act_label Label = true
act_label _ = false

abbrev pub act_phi : Act → Bool
act_phi (Phi ps) = true
act_phi _ = false

-- What the class says of it.
pub record Tests (c : Class) (a : Act) : Type 0 where
  pub function : a_function c ≡ act_function a
  pub over : an_end c ≡ act_end a
  pub label : a_label c ≡ act_label a
  pub phi : a_phi c ≡ act_phi a
  pub head : of_head c ≡ true → (a ≡ Parameter) ⊎ ((a ≡ Other) × (is_among c (class.Line ∷ []) ≡ true))
  pub goes : goes_on a ≡ not (a_terminator c || an_end c)
  pub block : of_block c ≡ true → in_block a ≡ true

other_tests : (c : Class) → special c ≡ false → Tests c Other
other_tests class.Function h = cc
other_tests class.Parameter h = cc
other_tests class.FunctionEnd h = cc
other_tests class.Label h = cc
other_tests class.Phi h = cc
other_tests class.Branch h = cc
other_tests class.BranchConditional h = cc
other_tests class.Switch h = cc
other_tests class.Return h = cc
other_tests class.Line h =
    record {
      function = refl;
      over = refl;
      label = refl;
      phi = refl;
      head = λ e. inr (refl, refl);
      goes = refl;
      block = λ e. refl;
    }
other_tests c h = record {
  function = refl;
  over = refl;
  label = refl;
  phi = refl;
  head = λ e. cc;
  goes = refl;
  block = λ e. refl;
}

tests_by : (c d : Class) (a : Act) → c ≡ d → Tests d a → Tests c a
tests_by c d a e t = rw e t

tests_view : (G : Table) (i : PlainInst) (a : Act) → View G i a → Tests (class_of i.opcode) a
tests_view G i _ (View.function a b k m s e os) =
    tests_by (class_of i.opcode) class.Function Function (ap class_of e ∙ class_54)
    (record { function = refl; over = refl; label = refl; phi = refl; head = λ e. cc; goes = refl; block = λ e. cc })
tests_view G i _ (View.parameter a b e os) =
    tests_by (class_of i.opcode) class.Parameter Parameter (ap class_of e ∙ class_55)
    (record {
      function = refl;
      over = refl;
      label = refl;
      phi = refl;
      head = λ e. inl refl;
      goes = refl;
      block = λ e. cc;
    })
tests_view G i _ (View.function_end e os) =
    tests_by (class_of i.opcode) class.FunctionEnd FunctionEnd (ap class_of e ∙ class_56)
    (record { function = refl; over = refl; label = refl; phi = refl; head = λ e. cc; goes = refl; block = λ e. cc })
tests_view G i _ (View.call a b c os gs e same en each) =
    tests_by (class_of i.opcode) class.Body (Call c _) (ap class_of e ∙ class_57)
    (record { function = refl; over = refl; label = refl; phi = refl; head = λ e. cc; goes = refl; block = λ e. refl })
tests_view G i _ (View.phi a b os gs e same en each) =
    tests_by (class_of i.opcode) class.Phi (Phi _) (ap class_of e ∙ class_245)
    (record { function = refl; over = refl; label = refl; phi = refl; head = λ e. cc; goes = refl; block = λ e. refl })
tests_view G i _ (View.label b e os) = tests_by (class_of i.opcode) class.Label Label (ap class_of e ∙ class_248)
    (record { function = refl; over = refl; label = refl; phi = refl; head = λ e. cc; goes = refl; block = λ e. cc })
tests_view G i _ (View.branch x e os) = tests_by (class_of i.opcode) class.Branch (Branch x) (ap class_of e ∙ class_249)
    (record { function = refl; over = refl; label = refl; phi = refl; head = λ e. cc; goes = refl; block = λ e. refl })
tests_view G i _ (View.condition c x y os gs e same en each) =
    tests_by (class_of i.opcode) class.BranchConditional (Choose c _) (ap class_of e ∙ class_250)
    (record { function = refl; over = refl; label = refl; phi = refl; head = λ e. cc; goes = refl; block = λ e. refl })
tests_view G i _ (View.switch c x os gs e same en each) =
    tests_by (class_of i.opcode) class.Switch (Choose c _) (ap class_of e ∙ class_251)
    (record { function = refl; over = refl; label = refl; phi = refl; head = λ e. cc; goes = refl; block = λ e. refl })
tests_view G i _ (View.return e os) = tests_by (class_of i.opcode) class.Return Return (ap class_of e ∙ class_253)
    (record { function = refl; over = refl; label = refl; phi = refl; head = λ e. cc; goes = refl; block = λ e. refl })
tests_view G i _ (View.value x e os) =
    tests_by (class_of i.opcode) class.Return (ReturnValue x) (ap class_of e ∙ class_254)
    (record { function = refl; over = refl; label = refl; phi = refl; head = λ e. cc; goes = refl; block = λ e. refl })
tests_view G i _ (View.unreachable e os) =
    tests_by (class_of i.opcode) class.Return act.Unreachable (ap class_of e ∙ class_255)
    (record { function = refl; over = refl; label = refl; phi = refl; head = λ e. cc; goes = refl; block = λ e. refl })
tests_view G i _ (View.other e) = other_tests (class_of i.opcode) (apart_by i.opcode (row_of i.opcode) refl e)

pub tests : (G : Table) (i : PlainInst) → FitsShape G i → Tests (class_of i.opcode) (act_of i)
tests G i h = tests_view G i (act_of i) (view G i h)

-- Operands without a result.

is_result : Form → Bool
is_result form.Result = true
is_result form.Other = true
is_result _ = false

no_results : List Form → Bool
no_results [] = true
no_results (f ∷ fs) = not (is_result f) && no_results fs

is_closed : RowEnding → Bool
is_closed closed = true
is_closed _ = false

no_result_here : (G : Table) (f : Form) (o : Plain) (os : List Plain) → not (is_result f) ≡ true → is_of G f o ≡ true
    → result_in (o ∷ os) ≡ result_in os
unfolding is_result
no_result_here G form.Result o os h e = cc
no_result_here G form.Other o os h e = cc
no_result_here G f (operand.Result a) os h e = cc
no_result_here G f _ os h e = refl

without_result : (G : Table) (fs : List Form) (os : List Plain) → AreOf G fs os → no_results fs ≡ true
    → result_in os ≡ None
unfolding no_results
without_result G _ _ AreOf.none h = refl
without_result G _ _ (AreOf.more f o fs os e r) h =
    no_result_here G f o os (and_first (not (is_result f)) (no_results fs) h) e
    ∙ without_result G fs os r (and_second (not (is_result f)) (no_results fs) h)

words_only : (gs : List Form) → Ends (repeated (W ∷ [])) gs → no_results gs ≡ true
unfolding no_results is_result
words_only _ (Ends.done _) = refl
words_only _ (Ends.again _ gs e) = words_only gs e

cases_only : (gs : List Form) → Ends (repeated (N ∷ l ∷ [])) gs → no_results gs ≡ true
unfolding no_results is_result
cases_only _ (Ends.done _) = refl
cases_only _ (Ends.again _ gs e) = cases_only gs e

-- a line has no result
row_line : PlainRow → Bool
row_line r = not (is_among r.class (class.Line ∷ [])) || (no_results r.fixed && is_closed r.ending)

rows_line : all_rows row_line rows ≡ true
unfolding rows all_rows row_line no_results is_result is_closed
rows_line = refl

closed_none : (e : RowEnding) (gs : List Form) → is_closed e ≡ true → Ends e gs → gs ≡ []
unfolding is_closed
closed_none closed _ c Ends.nothing = refl
closed_none _ _ c _ = cc

pub line_result : (G : Table) (i : PlainInst) → FitsShape G i → is_among (class_of i.opcode) (class.Line ∷ []) ≡ true
    → result_in i.operands ≡ None
unfolding row_line
line_result G i h c =
    let s = h.has in
    let k : class_of i.opcode ≡ s.row.class = ap class_in s.known in
    let t = row_tells row_line rows i.opcode s.row rows_line s.known in
    let d : is_among s.row.class (class.Line ∷ []) ≡ true = ap (λ x. is_among x (class.Line ∷ [])) (sym k) ∙ c in
    let two = end_by (is_among s.row.class (class.Line ∷ []))
    (no_results s.row.fixed && is_closed s.row.ending) t.passes d in
    let none : s.rest ≡ [] = closed_none s.row.ending s.rest
    (and_second (no_results s.row.fixed) (is_closed s.row.ending) two) s.ending in
    let forms : h.forms ≡ s.row.fixed = s.forms ∙ (ap (λ gs. s.row.fixed ++ gs) none ∙ append-nil s.row.fixed) in
    without_result G h.forms i.operands s.each
    (ap no_results forms ∙ and_first (no_results s.row.fixed) (is_closed s.row.ending) two)

-- what ends a block or a function has no result
pub end_result : (G : Table) (i : PlainInst) (a : Act) → View G i a → goes_on a ≡ false → result_in i.operands ≡ None
end_result G i _ (View.function_end e os) h = ap result_in os
end_result G i _ (View.branch x e os) h = ap result_in os
end_result G i _ (View.condition c x y os gs e same en each) h =
    ap result_in same ∙ without_result G gs os each (words_only gs en)
end_result G i _ (View.switch c x os gs e same en each) h =
    ap result_in same ∙ without_result G gs os each (cases_only gs en)
end_result G i _ (View.return e os) h = ap result_in os
end_result G i _ (View.value x e os) h = ap result_in os
end_result G i _ (View.unreachable e os) h = ap result_in os
end_result G i _ _ h = cc
