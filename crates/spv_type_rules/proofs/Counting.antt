-- Counting the parameters of the last OpFunction.
use Rattle.std.proofs.Common.{◌≡◌, ◌≢◌, ◌∙◌, ◌<◌, ◌≤◌, ◌+◌, ◌++◌, ℕ, zero, suc, List, [], ◌∷◌, refl, sym, ap, ⊎_elim}
use Rattle.std.proofs.Common.{Bool, true, false, Option, Some, None, length, take, drop, arith, nat_eq, add-one}
use Rattle.std.proofs.Common.{length-append, map, drop-cons, get_or, if◌then◌else◌}
use Rattle.std.specs.List.{prefix_len}
use Rattle.std.specs.Prelude.{slice_get, not, ◌||◌, option_map, filter, take_while}
use Rattle.std.proofs.lemmas.Bool.{cases_eq, eqb-true, eq-eqb}
use Rattle.std.proofs.lemmas.List.Sums.{length-filter}
use Rattle.std.proofs.lemmas.List.Elements.{filter-append}
use Rattle.std.proofs.lemmas.List.{drop_all, length-take, take_more, drop-append-le}
use Rattle.std.proofs.lemmas.Option.{slice_get-map, slice_get_within}
use Rattle.spv_module.specs.declared.opcode.TheConstants as opcode
use Rattle.spv_module.specs.Operand.{PlainInst}
use Rattle.spv_module.specs.Module.{plain_inst}
use Rattle.spv_module.specs.declared.module.Inst.{Inst}
use Rattle.spv_layout.specs.declared.class.Class.TheVariants.{Function}
use Rattle.spv_layout.specs.Class.{is_among}
use Rattle.spv_layout.specs.Row.{PlainRow, row_in}
use Rattle.spv_layout.specs.Rows.{rows, row_of, class_of, class_in}
use Rattle.spv_layout.specs.Layout.{classes}
use Rattle.spv_layout.specs.Place.{IsAt, IsOfFunction}
use Rattle.spv_type_forms.proofs.Opcodes.{all_pass, one_passes}
use Rattle.spv_type_rules.specs.Function.{parameter_count, parameters_between}
use Rattle.spv_type_rules.specs.inner.Function.{parameters_in}
use Rattle.spv_type_rules.specs.inner.Counted.{IsLastBefore, AreCounted}

-- The class Function is that of opcode 54 alone.

abbrev is_only : ℕ → PlainRow → Bool
is_only n r = not (is_among r.class (Function ∷ [])) || nat_eq n opcode.FUNCTION

all_only : all_pass is_only rows ≡ true
unfolding rows
all_only = refl

by_class : (b c : Bool) → not b || c ≡ true → b ≡ true → c ≡ true
by_class true c h g = h
by_class false c h g = cc

function_row : (n : ℕ) (o : Option PlainRow) → row_in rows n ≡ o → is_among (class_in o) (Function ∷ []) ≡ true
    → n ≡ opcode.FUNCTION
function_row n None e c = absurd (let no : false ≡ true = c in cc)
function_row n (Some r) e c =
    eqb-true n opcode.FUNCTION (by_class (is_among r.class (Function ∷ [])) (nat_eq n opcode.FUNCTION)
    (one_passes is_only rows n r all_only e) c)

pub class_at : (is : List PlainInst) (n : ℕ) (i : PlainInst) → slice_get is n ≡ Some i
    → slice_get (classes is) n ≡ Some (class_of i.opcode)
class_at is n i h = slice_get-map (λ j. class_of j.opcode) is n ∙ ap (option_map (λ j. class_of j.opcode)) h

pub function_opcode : (is : List PlainInst) (n : ℕ) (i : PlainInst) → slice_get is n ≡ Some i
    → IsAt is n (Function ∷ []) → i.opcode ≡ opcode.FUNCTION
function_opcode is n i h a = let c = rw (class_at is n i h) at a in function_row i.opcode (row_of i.opcode) refl c

function_class : is_among (class_of opcode.FUNCTION) (Function ∷ []) ≡ true
unfolding rows
function_class = refl

opcode_function : (is : List PlainInst) (n : ℕ) (i : PlainInst) → slice_get is n ≡ Some i → i.opcode ≡ opcode.FUNCTION
    → IsAt is n (Function ∷ [])
opcode_function is n i h e = rw (class_at is n i h, e) function_class

-- One instruction more.

count-append : (is js : List PlainInst) → parameter_count (is ++ js) ≡ parameter_count is + parameter_count js
count-append is js =
    let p : PlainInst → Bool = λ i. nat_eq i.opcode opcode.FUNCTION_PARAMETER in
    sym (length-filter p (is ++ js)) ∙ ap length (filter-append p is js) ∙ length-append (filter p is) (filter p js)
    ∙ ap (λ m. m + length (filter p js)) (length-filter p is) ∙ ap (λ m. parameter_count is + m) (length-filter p js)

none_between : (is : List PlainInst) (n : ℕ) → parameters_between is n (n + 1) ≡ 0
none_between is n = rw (drop_all (n + 1) (take (n + 1) is) (let l = length-take (n + 1) is in omega arith)) refl

take_next : (is : List PlainInst) (n : ℕ) (i : PlainInst) → slice_get is n ≡ Some i
    → take (n + 1) is ≡ take n is ++ (i ∷ [])
take_next is n i h =
    let l : n < length is = slice_get_within is n i h in
    take_more is n i l ∙ ap (λ j. take n is ++ (j ∷ [])) (get_or_there is n i h)
  where
    get_or_there : (js : List PlainInst) (m : ℕ) (j : PlainInst) → slice_get js m ≡ Some j → get_or js m j ≡ j
    get_or_there [] m j e = refl
    get_or_there (k ∷ js) zero j e = cc
    get_or_there (k ∷ js) (suc m) j e = get_or_there js m j e

between_next : (is : List PlainInst) (f n : ℕ) (i : PlainInst) → slice_get is n ≡ Some i → f < n
    → parameters_between is f (n + 1) ≡ parameters_between is f n + parameter_count (i ∷ [])
between_next is f n i h l =
    let w : n < length is = slice_get_within is n i h in
    let k : f + 1 ≤ length (take n is) = let m = length-take n is in omega arith in
    ap (λ js. parameter_count (drop (f + 1) js)) (take_next is n i h)
    ∙ ap parameter_count (drop-append-le (f + 1) (take n is) (i ∷ []) k)
    ∙ count-append (drop (f + 1) (take n is)) (i ∷ [])

last_earlier : (is : List PlainInst) (n f : ℕ) → f < n → IsLastBefore is (n + 1) f → IsLastBefore is n f
last_earlier is n f l b = record { before = l; there = b.there; last = λ k x y. b.last k x (omega arith) }

pub at_function : (is : List PlainInst) (n c : ℕ) (i : PlainInst) → slice_get is n ≡ Some i → i.opcode ≡ opcode.FUNCTION
    → AreCounted is n c → AreCounted is (n + 1) 0
at_function is n c i h e a = record {
  most = omega arith;
  each = λ f b.
      ⊎_elim
      (λ (s : f ≡ n). rw s (none_between is n))
      (λ (d : f ≢ n). let t = b.before in absurd (b.last n (omega arith) (omega arith) (opcode_function is n i h e)))
      (cases_eq f n);
}

before_it : (is : List PlainInst) (n f : ℕ) (i : PlainInst) → slice_get is n ≡ Some i → i.opcode ≢ opcode.FUNCTION
    → IsLastBefore is (n + 1) f → f < n
before_it is n f i h e b =
    ⊎_elim
    (λ (s : f ≡ n). absurd (e (function_opcode is n i h (rw s at b.there))))
    (λ (d : f ≢ n). let t = b.before in let r : f < n = omega arith in r)
    (cases_eq f n)

one_parameter : (i : PlainInst) → i.opcode ≡ opcode.FUNCTION_PARAMETER → parameter_count (i ∷ []) ≡ 1
one_parameter i e = rw e refl

no_parameter : (i : PlainInst) (b : Bool) → nat_eq i.opcode opcode.FUNCTION_PARAMETER ≡ b
    → i.opcode ≢ opcode.FUNCTION_PARAMETER → parameter_count (i ∷ []) ≡ 0
no_parameter i true e d = absurd (d (eqb-true i.opcode opcode.FUNCTION_PARAMETER e))
no_parameter i false e d = rw e refl

pub at_parameter : (is : List PlainInst) (n c : ℕ) (i : PlainInst) → slice_get is n ≡ Some i
    → i.opcode ≡ opcode.FUNCTION_PARAMETER → AreCounted is n c → AreCounted is (n + 1) (c + 1)
at_parameter is n c i h e a =
    let d : i.opcode ≢ opcode.FUNCTION = omega arith in
    let m = a.most in
    record {
      most = omega arith;
      each = λ f b.
          let l = before_it is n f i h d b in
          between_next is f n i h l ∙ ap (λ k. parameters_between is f n + k) (one_parameter i e)
          ∙ ap (λ k. k + 1) (a.each f (last_earlier is n f l b));
    }

pub at_other : (is : List PlainInst) (n c : ℕ) (i : PlainInst) → slice_get is n ≡ Some i → i.opcode ≢ opcode.FUNCTION
    → i.opcode ≢ opcode.FUNCTION_PARAMETER → AreCounted is n c → AreCounted is (n + 1) c
at_other is n c i h d e a =
    let m = a.most in
    record {
      most = omega arith;
      each = λ f b.
          let l = before_it is n f i h d b in
          let r : parameters_between is f n + 0 ≡ c = omega (arith, a.each f (last_earlier is n f l b)) in
          between_next is f n i h l ∙ ap (λ k. parameters_between is f n + k)
          (no_parameter i (nat_eq i.opcode opcode.FUNCTION_PARAMETER) refl e) ∙ r;
    }

pub counted_next : (is : List PlainInst) (n c : ℕ) (i : PlainInst) → slice_get is n ≡ Some i → AreCounted is n c
    → AreCounted is (n + 1) (if nat_eq i.opcode opcode.FUNCTION then 0
    else (if nat_eq i.opcode opcode.FUNCTION_PARAMETER then c + 1 else c))
counted_next is n c i at a =
    by_tests (nat_eq i.opcode opcode.FUNCTION) (nat_eq i.opcode opcode.FUNCTION_PARAMETER) refl refl
  where
    by_tests : (x y : Bool) → nat_eq i.opcode opcode.FUNCTION ≡ x → nat_eq i.opcode opcode.FUNCTION_PARAMETER ≡ y
        → AreCounted is (n + 1) (if x then 0 else (if y then c + 1 else c))
    by_tests true y e f = at_function is n c i at (eqb-true i.opcode opcode.FUNCTION e) a
    by_tests false true e f = at_parameter is n c i at (eqb-true i.opcode opcode.FUNCTION_PARAMETER f) a
    by_tests false false e f =
        at_other is n c i at (λ h.
        let yes : nat_eq i.opcode opcode.FUNCTION ≡ true = eq-eqb i.opcode opcode.FUNCTION h in cc)
        (λ h. let yes : nat_eq i.opcode opcode.FUNCTION_PARAMETER ≡ true = eq-eqb i.opcode opcode.FUNCTION_PARAMETER
        h in cc) a

-- The parameters before the first OpLabel or OpFunctionEnd.

pub front_ends : (i : PlainInst) (is : List PlainInst)
    → nat_eq i.opcode opcode.LABEL || nat_eq i.opcode opcode.FUNCTION_END ≡ true → parameters_in (i ∷ is) ≡ 0
front_ends i is e = rw e refl

one_more : (i : PlainInst) (is : List PlainInst)
    → nat_eq i.opcode opcode.LABEL || nat_eq i.opcode opcode.FUNCTION_END ≡ false
    → parameters_in (i ∷ is) ≡ parameter_count (i ∷ []) + parameters_in is
one_more i is e =
    let goes = λ (j : PlainInst). not (nat_eq j.opcode opcode.LABEL || nat_eq j.opcode opcode.FUNCTION_END) in
    let kept : take_while goes (i ∷ is) ≡ i ∷ take_while goes is = rw e (taken (prefix_len goes is) i is) in
    ap parameter_count kept ∙ count-append (i ∷ []) (take_while goes is)
  where
    taken : (n : ℕ) (j : PlainInst) (js : List PlainInst) → take (1 + n) (j ∷ js) ≡ j ∷ take n js
    taken n j js = let h : 1 + n ≡ suc n = omega arith in rw h refl

pub front_counts : (i : PlainInst) (is : List PlainInst)
    → nat_eq i.opcode opcode.LABEL || nat_eq i.opcode opcode.FUNCTION_END ≡ false → i.opcode ≡ opcode.FUNCTION_PARAMETER
    → parameters_in (i ∷ is) ≡ 1 + parameters_in is
front_counts i is e h = one_more i is e ∙ ap (λ m. m + parameters_in is) (one_parameter i h)

pub front_passes : (i : PlainInst) (is : List PlainInst)
    → nat_eq i.opcode opcode.LABEL || nat_eq i.opcode opcode.FUNCTION_END ≡ false → i.opcode ≢ opcode.FUNCTION_PARAMETER
    → parameters_in (i ∷ is) ≡ parameters_in is
front_passes i is e h =
    let z = no_parameter i (nat_eq i.opcode opcode.FUNCTION_PARAMETER) refl h in
    let r : 0 + parameters_in is ≡ parameters_in is = omega arith in
    one_more i is e ∙ ap (λ m. m + parameters_in is) z ∙ r

pub step_counts : (i : PlainInst) (is : List PlainInst) (count all : ℕ)
    → nat_eq i.opcode opcode.LABEL || nat_eq i.opcode opcode.FUNCTION_END ≡ false → i.opcode ≡ opcode.FUNCTION_PARAMETER
    → count + parameters_in (i ∷ is) ≡ all → (count + 1) + parameters_in is ≡ all
step_counts i is count all e h t = let f = front_counts i is e h in omega (arith, f, t)

pub step_passes : (i : PlainInst) (is : List PlainInst) (count all : ℕ)
    → nat_eq i.opcode opcode.LABEL || nat_eq i.opcode opcode.FUNCTION_END ≡ false → i.opcode ≢ opcode.FUNCTION_PARAMETER
    → count + parameters_in (i ∷ is) ≡ all → count + parameters_in is ≡ all
step_passes i is count all e h t = let f = front_passes i is e h in omega (arith, f, t)

pub item_front : (xs : List Inst) (k : ℕ) (x : Inst) → k < length xs → x ≡ get_or xs k x
    → map plain_inst (drop k xs) ≡ plain_inst x ∷ map plain_inst (drop (k + 1) xs)
item_front xs k x l e =
    ap (λ ys. map plain_inst ys) (drop-cons xs k x l ∙ ap (λ y. y ∷ drop (suc k) xs) (sym e))
    ∙ ap (λ m. plain_inst x ∷ map plain_inst (drop m xs)) (sym (add-one k))

pub none_counted : (is : List PlainInst) → AreCounted is 0 0
none_counted is = record { most = omega arith; each = λ f b. let l = b.before in absurd (omega arith) }

pub counted_at : (is : List PlainInst) (n c f : ℕ) (i : PlainInst) → slice_get is n ≡ Some i
    → i.opcode ≡ opcode.FUNCTION_PARAMETER → AreCounted is n c → IsOfFunction is n f → parameters_between is f n ≡ c
counted_at is n c f i h e a o =
    let u = o.begun.up_to in
    let l : f < n =
    ⊎_elim
    (λ (s : f ≡ n). let k : i.opcode ≡ opcode.FUNCTION = function_opcode is n i h (rw s at o.begun.there) in
    absurd (omega arith))
    (λ (d : f ≢ n). let r : f < n = omega arith in r)
    (cases_eq f n)
    in
    a.each f (record { before = l; there = o.begun.there; last = λ k x y. o.begun.last k x (omega arith) })
