-- The result of an instruction that fits its row is its first or second operand.
use Rattle.std.proofs.Common.{◌≡◌, ◌++◌, ℕ, List, [], ◌∷◌, refl, Bool, true, false, Some, None}
use Rattle.std.specs.Prelude.{slice_get, not, ◌&&◌}
use Rattle.spv_table.specs.Table.{Table}
use Rattle.spv_module.specs.Operand.{Plain, PlainInst, result_in}
use Rattle.spv_module.specs.Operand as operand
use Rattle.spv_layout.specs.declared.form.Form.{Form}
use Rattle.spv_layout.specs.declared.form.Form.TheVariants as form
use Rattle.spv_layout.specs.Row.{PlainRow, RowEnding, closed, maybe, file_and_text, repeated, others, maybe_others}
use Rattle.spv_layout.specs.Row.{maybe_repeated}
use Rattle.spv_layout.specs.Rows.{rows}
use Rattle.spv_layout.specs.Shape.{is_of, AreOf, Ends, FitsShape}
use Rattle.spv_ids.specs.inner.Uses.{early_result, result_at, AreEarly}
use Rattle.spv_ids.proofs.Bools.{and_first, and_second}
use Rattle.spv_ids.proofs.Used.{all_rows, row_tells}

is_result : Form → Bool
is_result form.Result = true
is_result _ = false

-- whether no form is that of a result
is_free : List Form → Bool
is_free [] = true
is_free (f ∷ fs) = not (is_result f) && is_free fs

-- whether none is after the second
is_free_late : List Form → Bool
is_free_late [] = true
is_free_late (f ∷ []) = true
is_free_late (f ∷ g ∷ fs) = is_free fs

ending_free : RowEnding → Bool
ending_free closed = true
ending_free (maybe f) = not (is_result f)
ending_free file_and_text = true
ending_free (repeated fs) = is_free fs
ending_free others = true
ending_free (maybe_others f) = not (is_result f)
ending_free (maybe_repeated f g) = not (is_result f) && not (is_result g)

row_starts : PlainRow → Bool
row_starts r = is_free_late r.fixed && ending_free r.ending

rows_start : all_rows row_starts rows ≡ true
unfolding rows all_rows row_starts is_free_late is_free is_result ending_free
rows_start = refl

-- Forms of which none is that of a result.

one_free : (f : Form) → not (is_result f) ≡ true → is_free (f ∷ []) ≡ true
unfolding is_free
one_free f h = rw h refl

cons_free : (f : Form) (gs : List Form) → not (is_result f) ≡ true → is_free gs ≡ true → is_free (f ∷ gs) ≡ true
unfolding is_free
cons_free f gs h g = rw (h, g) refl

tail_free : (f : Form) (fs : List Form) → is_free (f ∷ fs) ≡ true → is_free fs ≡ true
unfolding is_free
tail_free f fs h = and_second (not (is_result f)) (is_free fs) h

free_append : (fs gs : List Form) → is_free fs ≡ true → is_free gs ≡ true → is_free (fs ++ gs) ≡ true
unfolding is_free
free_append [] gs a b = b
free_append (f ∷ fs) gs a b =
    let h = and_first (not (is_result f)) (is_free fs) a in
    let t = free_append fs gs (and_second (not (is_result f)) (is_free fs) a) b in
    rw (h, t) refl

others_free : (gs : List Form) → Ends others gs → is_free gs ≡ true
unfolding is_free is_result
others_free _ Ends.no_other = refl
others_free _ (Ends.other gs r) = others_free gs r

ends_free : (e : RowEnding) (gs : List Form) → ending_free e ≡ true → Ends e gs → is_free gs ≡ true
unfolding ending_free is_free is_result
ends_free _ _ c Ends.nothing = refl
ends_free _ _ c (Ends.absent f) = refl
ends_free _ _ c (Ends.present f) = one_free f c
ends_free _ _ c Ends.no_file_or_text = refl
ends_free _ _ c Ends.file = refl
ends_free _ _ c Ends.text = refl
ends_free _ _ c Ends.both = refl
ends_free _ _ c (Ends.done fs) = refl
ends_free _ _ c (Ends.again fs gs r) = free_append fs gs c (ends_free (repeated fs) gs c r)
ends_free _ _ c Ends.no_other = refl
ends_free _ _ c (Ends.other gs r) = others_free gs r
ends_free _ _ c (Ends.no_kind f) = refl
ends_free _ _ c (Ends.kind f gs r) = cons_free f gs c (others_free gs r)
ends_free _ _ c (Ends.no_first f g) = refl
ends_free _ _ c (Ends.first f g gs r) =
    let a = and_first (not (is_result f)) (not (is_result g)) c in
    let b = and_second (not (is_result f)) (not (is_result g)) c in
    cons_free f gs a (ends_free (repeated (g ∷ [])) gs (one_free g b) r)

late_free : (fs gs : List Form) → is_free_late fs ≡ true → is_free gs ≡ true → is_free_late (fs ++ gs) ≡ true
unfolding is_free_late
late_free [] [] a b = refl
late_free [] (g ∷ []) a b = refl
late_free [] (g ∷ h ∷ gs) a b = tail_free h gs (tail_free g (h ∷ gs) b)
late_free (f ∷ []) [] a b = refl
late_free (f ∷ []) (g ∷ gs) a b = tail_free g gs b
late_free (f ∷ e ∷ fs) gs a b = free_append fs gs a b

-- Operands of such forms.

not_result : (G : Table) (f : Form) (o : Plain) (os : List Plain) → is_of G f o ≡ true → not (is_result f) ≡ true
    → result_in (o ∷ os) ≡ result_in os
unfolding is_result
not_result G form.Result (operand.Result x) os h n = cc
not_result G _ (operand.Result x) os h n = cc
not_result G f (operand.OfType x) os h n = refl
not_result G f (operand.Id x) os h n = refl
not_result G f (operand.Word x) os h n = refl
not_result G f (operand.Argument x) os h n = refl
not_result G f (operand.Mention x) os h n = refl
not_result G f (operand.Number a b c) os h n = refl
not_result G f (operand.Text t) os h n = refl
not_result G f (operand.Value a b) os h n = refl
not_result G f (operand.Mask a b) os h n = refl

no_result : (G : Table) (fs : List Form) (os : List Plain) → AreOf G fs os → is_free fs ≡ true → result_in os ≡ None
unfolding is_free
no_result G _ _ AreOf.none h = refl
no_result G _ _ (AreOf.more f o fs os p r) h =
    let t = no_result G fs os r (and_second (not (is_result f)) (is_free fs) h) in
    rw (not_result G f o os p (and_first (not (is_result f)) (is_free fs) h)) t

one_early : (o : Plain) → result_in (o ∷ []) ≡ early_result (o ∷ [])
one_early (operand.Result x) = refl
one_early (operand.OfType x) = refl
one_early (operand.Id x) = refl
one_early (operand.Word x) = refl
one_early (operand.Argument x) = refl
one_early (operand.Mention x) = refl
one_early (operand.Number a b c) = refl
one_early (operand.Text t) = refl
one_early (operand.Value a b) = refl
one_early (operand.Mask a b) = refl

second_early : (o : Plain) (os : List Plain) → result_in os ≡ None → result_in (o ∷ os) ≡ result_at (Some o)
second_early (operand.Result x) os h = refl
second_early (operand.OfType x) os h = h
second_early (operand.Id x) os h = h
second_early (operand.Word x) os h = h
second_early (operand.Argument x) os h = h
second_early (operand.Mention x) os h = h
second_early (operand.Number a b c) os h = h
second_early (operand.Text t) os h = h
second_early (operand.Value a b) os h = h
second_early (operand.Mask a b) os h = h

two_early : (o p : Plain) (os : List Plain) → result_in os ≡ None → result_in (o ∷ p ∷ os) ≡ early_result (o ∷ p ∷ os)
two_early (operand.Result x) p os h = refl
two_early (operand.OfType x) p os h = second_early p os h
two_early (operand.Id x) p os h = second_early p os h
two_early (operand.Word x) p os h = second_early p os h
two_early (operand.Argument x) p os h = second_early p os h
two_early (operand.Mention x) p os h = second_early p os h
two_early (operand.Number a b c) p os h = second_early p os h
two_early (operand.Text t) p os h = second_early p os h
two_early (operand.Value a b) p os h = second_early p os h
two_early (operand.Mask a b) p os h = second_early p os h

early : (G : Table) (fs : List Form) (os : List Plain) → AreOf G fs os → is_free_late fs ≡ true
    → result_in os ≡ early_result os
unfolding is_free_late
early G _ _ AreOf.none h = refl
early G _ _ (AreOf.more f o _ _ p AreOf.none) h = one_early o
early G _ _ (AreOf.more f o _ _ p (AreOf.more g q fs os t r)) h = two_early o q os (no_result G fs os r h)

fitting_early : (G : Table) (i : PlainInst) → FitsShape G i → result_in i.operands ≡ early_result i.operands
unfolding row_starts
fitting_early G i f =
    let h = f.has in
    let t = row_tells row_starts rows i.opcode h.row rows_start h.known in
    let a = and_first (is_free_late h.row.fixed) (ending_free h.row.ending) t.passes in
    let b = ends_free h.row.ending h.rest (and_second (is_free_late h.row.fixed) (ending_free h.row.ending) t.passes)
    h.ending in
    early G f.forms i.operands h.each (rw h.forms (late_free h.row.fixed h.rest a b))

pub are_early : (G : Table) (is : List PlainInst) → ((n : ℕ) (i : PlainInst) → slice_get is n ≡ Some i → FitsShape G i)
    → AreEarly is
are_early G is f = record { result = λ n i h. fitting_early G i (f n i h) }
