-- The test of a shape holds exactly where the shape does.
use Rattle.std.proofs.Common.{◌≡◌, ◌≢◌, ◌≤◌, ◌∙◌, ◌+◌, ◌++◌, ℕ, zero, suc, get_or, nat_eq, arith, List, [], ◌∷◌, refl, sym, ap, Bool, true, false, not, if◌then◌else◌, IsTrue, ◌&&◌, ◌||◌, ◌⊎◌, inl, inr, Option, Some, None, length, take, drop, map, ◌<◌, ◌↔◌}
use Rattle.std.proofs.lemmas.Bool.Decides.{eqb_tells}
use Rattle.std.proofs.Math.ListN.{drop_of_length-le}
use Rattle.std.proofs.lemmas.List.{length-drop, length-take, take_all, take-map, drop-map}
use Rattle.spv_module.specs.declared.operand.Operand.{Operand}
use Rattle.spv_module.specs.Module.{plain_operand}
use Rattle.spv_table.specs.Table.{Table}
use Rattle.spv_module.specs.Operand.{Plain, PlainInst}
use Rattle.spv_module.specs.Operand as operand
use Rattle.spv_layout.specs.declared.form.Role.TheVariants as role
use Rattle.spv_layout.specs.declared.form.Form.{Form}
use Rattle.spv_layout.specs.declared.form.Form.TheVariants as form
use Rattle.spv_layout.specs.Row.{PlainRow, RowEnding, closed, maybe, file_and_text, repeated, others, maybe_others, maybe_repeated, has_masks}
use Rattle.spv_layout.specs.Rows.{row_of}
use Rattle.spv_layout.specs.Shape.{is_of, AreOf, Ends, FitsShape}
use Rattle.spv_layout.specs.inner.Shape.{FitsEnding}
use Rattle.spv_layout.specs.inner.Test.{sort_of, sort_for, row_sort, sorts_of, sorts_asked, is_kind, is_kind_at, is_of_at, are_of, are_others, is_empty, are_rounds, is_kind_and_others, is_first_and_rounds, fits_ending, fits_row}
use Rattle.spv_layout.proofs.Derivatives.{both_hold, both_true}
use Rattle.spv_layout.proofs.Shapes.{no_operands, are_rest, are_moved}

one_holds : (a b : Bool) → (a || b) ≡ true → (a ≡ true) ⊎ (b ≡ true)
one_holds true b h = inl refl
one_holds false b h = inr h

or_first : (a b : Bool) → a ≡ true → (a || b) ≡ true
or_first a b h = rw h refl

or_second : (a b : Bool) → b ≡ true → (a || b) ≡ true
or_second true b h = refl
or_second false b h = h

pub tested_are : (G : Table) (fs : List Form) (os : List Plain) → are_of G fs os ≡ true → AreOf G fs os
tested_are G [] [] h = AreOf.none
tested_are G [] (o ∷ os) h = cc
tested_are G (f ∷ fs) [] h = cc
tested_are G (f ∷ fs) (o ∷ os) h = let p = both_hold (is_of G f o) (are_of G fs os) h in AreOf.more f o fs os p.0 (tested_are G fs os p.1)

pub are_tested : (G : Table) (fs : List Form) (os : List Plain) → AreOf G fs os → are_of G fs os ≡ true
are_tested G _ _ AreOf.none = refl
are_tested G _ _ (AreOf.more f o fs os h r) = both_true (is_of G f o) (are_of G fs os) h (are_tested G fs os r)

empty_is : (os : List Plain) → is_empty os ≡ true → os ≡ []
empty_is [] h = refl
empty_is (o ∷ os) h = cc

is_empty_of : (os : List Plain) → os ≡ [] → is_empty os ≡ true
is_empty_of os h = rw h refl

none_are : (G : Table) (os : List Plain) → os ≡ [] → AreOf G [] os
none_are G os h = rw h AreOf.none

ending : (G : Table) (e : RowEnding) (fs : List Form) (os : List Plain) → Ends e fs → AreOf G fs os → FitsEnding G e os
ending G e fs os a b = record { forms = fs; allowed = a; each = b }

others_fit : (G : Table) (os : List Plain) → are_others G os ≡ true → FitsEnding G others os
others_fit G [] h = ending G others [] [] Ends.no_other AreOf.none
others_fit G (o ∷ os) h =
    let p = both_hold (is_of G form.Other o) (are_others G os) h in
    let r = others_fit G os p.1 in
    ending G others (form.Other ∷ r.forms) (o ∷ os) (Ends.other r.forms r.allowed) (AreOf.more form.Other o r.forms os p.0 r.each)

fit_others : (G : Table) (fs : List Form) (os : List Plain) → Ends others fs → AreOf G fs os → are_others G os ≡ true
fit_others G _ _ e AreOf.none = refl
fit_others G _ _ (Ends.other gs e) (AreOf.more _ o _ os h r) = both_true (is_of G form.Other o) (are_others G os) h (fit_others G gs os e r)

-- what is left of a round, and whole rounds
record Rounds (G : Table) (fs left : List Form) (os : List Plain) : Type 0 where
  pub forms : List Form
  pub allowed : Ends (repeated fs) forms
  pub each : AreOf G (left ++ forms) os

rounds_fit : (G : Table) (fs left : List Form) (os : List Plain) → are_rounds G fs left os ≡ true → Rounds G fs left os
rounds_fit G fs [] [] h = record { forms = []; allowed = Ends.done fs; each = AreOf.none }
rounds_fit G fs (f ∷ left) [] h = cc
rounds_fit G [] [] (o ∷ os) h = cc
rounds_fit G (f ∷ fs) [] (o ∷ os) h =
    let p = both_hold (is_of G f o) (are_rounds G (f ∷ fs) fs os) h in
    let r = rounds_fit G (f ∷ fs) fs os p.1 in
    record { forms = (f ∷ fs) ++ r.forms; allowed = Ends.again (f ∷ fs) r.forms r.allowed; each = AreOf.more f o (fs ++ r.forms) os p.0 r.each }
rounds_fit G [] (f ∷ left) (o ∷ os) h =
    let p = both_hold (is_of G f o) (are_rounds G [] left os) h in
    let r = rounds_fit G [] left os p.1 in
    record { forms = r.forms; allowed = r.allowed; each = AreOf.more f o (left ++ r.forms) os p.0 r.each }
rounds_fit G (g ∷ fs) (f ∷ left) (o ∷ os) h =
    let p = both_hold (is_of G f o) (are_rounds G (g ∷ fs) left os) h in
    let r = rounds_fit G (g ∷ fs) left os p.1 in
    record { forms = r.forms; allowed = r.allowed; each = AreOf.more f o (left ++ r.forms) os p.0 r.each }

round_left : (G : Table) (fs left gs : List Form) (os : List Plain) → AreOf G (left ++ gs) os → ((ps : List Plain) → AreOf G gs ps → are_rounds G fs [] ps ≡ true) → are_rounds G fs left os ≡ true
round_left G fs [] gs os a h = h os a
round_left G [] (f ∷ left) gs _ (AreOf.more _ o _ os k r) h = both_true (is_of G f o) (are_rounds G [] left os) k (round_left G [] left gs os r h)
round_left G (g ∷ fs) (f ∷ left) gs _ (AreOf.more _ o _ os k r) h = both_true (is_of G f o) (are_rounds G (g ∷ fs) left os) k (round_left G (g ∷ fs) left gs os r h)

round_whole : (G : Table) (fs gs : List Form) (os : List Plain) → AreOf G (fs ++ gs) os → ((ps : List Plain) → AreOf G gs ps → are_rounds G fs [] ps ≡ true) → are_rounds G fs [] os ≡ true
round_whole G [] gs os a h = h os a
round_whole G (f ∷ fs) gs _ (AreOf.more _ o _ os k r) h = both_true (is_of G f o) (are_rounds G (f ∷ fs) fs os) k (round_left G (f ∷ fs) fs gs os r h)

no_rounds : (G : Table) (fs : List Form) (os : List Plain) → os ≡ [] → are_rounds G fs [] os ≡ true
no_rounds G fs os h = rw h refl

fit_rounds : (G : Table) (fs gs : List Form) (os : List Plain) → Ends (repeated fs) gs → AreOf G gs os → are_rounds G fs [] os ≡ true
fit_rounds G _ _ os (Ends.done fs) a = no_rounds G fs os (no_operands G [] os a refl)
fit_rounds G _ _ os (Ends.again fs gs e) a = round_whole G fs gs os a (λ ps b. fit_rounds G fs gs ps e b)

kind_fits : (G : Table) (f : Form) (os : List Plain) → is_kind_and_others G f os ≡ true → FitsEnding G (maybe_others f) os
kind_fits G f [] h = ending G (maybe_others f) [] [] (Ends.no_kind f) AreOf.none
kind_fits G f (o ∷ os) h =
    let p = both_hold (is_of G f o) (are_others G os) h in
    let r = others_fit G os p.1 in
    ending G (maybe_others f) (f ∷ r.forms) (o ∷ os) (Ends.kind f r.forms r.allowed) (AreOf.more f o r.forms os p.0 r.each)

first_fits : (G : Table) (f g : Form) (os : List Plain) → is_first_and_rounds G f g os ≡ true → FitsEnding G (maybe_repeated f g) os
first_fits G f g [] h = ending G (maybe_repeated f g) [] [] (Ends.no_first f g) AreOf.none
first_fits G f g (o ∷ os) h =
    let p = both_hold (is_of G f o) (are_rounds G (g ∷ []) [] os) h in
    let r = rounds_fit G (g ∷ []) [] os p.1 in
    ending G (maybe_repeated f g) (f ∷ r.forms) (o ∷ os) (Ends.first f g r.forms r.allowed) (AreOf.more f o r.forms os p.0 r.each)

text_fits : (G : Table) (os : List Plain)
    → (is_empty os || are_of G (form.Id role.Text ∷ []) os || are_of G (form.Text ∷ []) os || are_of G (form.Id role.Text ∷ form.Text ∷ []) os) ≡ true → FitsEnding G file_and_text os
text_fits G os h =
    elim (one_holds (is_empty os || are_of G (form.Id role.Text ∷ []) os || are_of G (form.Text ∷ []) os) (are_of G (form.Id role.Text ∷ form.Text ∷ []) os) h) [
      | inr d ↦ ending G file_and_text (form.Id role.Text ∷ form.Text ∷ []) os Ends.both (tested_are G (form.Id role.Text ∷ form.Text ∷ []) os d)
      | inl g ↦ elim (one_holds (is_empty os || are_of G (form.Id role.Text ∷ []) os) (are_of G (form.Text ∷ []) os) g) [
        | inr d ↦ ending G file_and_text (form.Text ∷ []) os Ends.text (tested_are G (form.Text ∷ []) os d)
        | inl k ↦ elim (one_holds (is_empty os) (are_of G (form.Id role.Text ∷ []) os) k) [
          | inr d ↦ ending G file_and_text (form.Id role.Text ∷ []) os Ends.file (tested_are G (form.Id role.Text ∷ []) os d)
          | inl d ↦ ending G file_and_text [] os Ends.no_file_or_text (none_are G os (empty_is os d))
        ]
      ]
    ]

-- the test of an ending says that operands fit it
pub ending_fits : (G : Table) (e : RowEnding) (os : List Plain) → fits_ending G e os ≡ true → FitsEnding G e os
ending_fits G closed os h = ending G closed [] os Ends.nothing (none_are G os (empty_is os h))
ending_fits G (maybe f) os h = elim (one_holds (is_empty os) (are_of G (f ∷ []) os) h) [
  | inl d ↦ ending G (maybe f) [] os (Ends.absent f) (none_are G os (empty_is os d))
  | inr d ↦ ending G (maybe f) (f ∷ []) os (Ends.present f) (tested_are G (f ∷ []) os d)
]
ending_fits G file_and_text os h = text_fits G os h
ending_fits G (repeated fs) os h = let r = rounds_fit G fs [] os h in ending G (repeated fs) r.forms os r.allowed r.each
ending_fits G others os h = others_fit G os h
ending_fits G (maybe_others f) os h = kind_fits G f os h
ending_fits G (maybe_repeated f g) os h = first_fits G f g os h

fit_text_1 : (a b c d : Bool) → a ≡ true → (a || b || c || d) ≡ true
fit_text_1 a b c d h = rw h refl

fit_text_2 : (a b c d : Bool) → b ≡ true → (a || b || c || d) ≡ true
fit_text_2 true b c d h = refl
fit_text_2 false b c d h = rw h refl

fit_text_3 : (a b c d : Bool) → c ≡ true → (a || b || c || d) ≡ true
fit_text_3 a b c d h = or_first (a || b || c) d (or_second (a || b) c h)

fit_kind : (G : Table) (f : Form) (gs : List Form) (os : List Plain) → Ends others gs → AreOf G (f ∷ gs) os → is_kind_and_others G f os ≡ true
fit_kind G f gs _ e (AreOf.more _ o _ os h r) = both_true (is_of G f o) (are_others G os) h (fit_others G gs os e r)

no_kind_fit : (G : Table) (f : Form) (os : List Plain) → os ≡ [] → is_kind_and_others G f os ≡ true
no_kind_fit G f os h = rw h refl

fit_first : (G : Table) (f g : Form) (gs : List Form) (os : List Plain) → Ends (repeated (g ∷ [])) gs → AreOf G (f ∷ gs) os → is_first_and_rounds G f g os ≡ true
fit_first G f g gs _ e (AreOf.more _ o _ os h r) = both_true (is_of G f o) (are_rounds G (g ∷ []) [] os) h (fit_rounds G (g ∷ []) gs os e r)

no_first_fit : (G : Table) (f g : Form) (os : List Plain) → os ≡ [] → is_first_and_rounds G f g os ≡ true
no_first_fit G f g os h = rw h refl

-- and the other way round
pub fits_ending_test : (G : Table) (e : RowEnding) (gs : List Form) (os : List Plain) → Ends e gs → AreOf G gs os → fits_ending G e os ≡ true
fits_ending_test G _ _ os Ends.nothing a = is_empty_of os (no_operands G [] os a refl)
fits_ending_test G _ _ os (Ends.absent f) a = or_first (is_empty os) (are_of G (f ∷ []) os) (is_empty_of os (no_operands G [] os a refl))
fits_ending_test G _ _ os (Ends.present f) a = or_second (is_empty os) (are_of G (f ∷ []) os) (are_tested G (f ∷ []) os a)
fits_ending_test G _ _ os Ends.no_file_or_text a = fit_text_1 (is_empty os) _ _ _ (is_empty_of os (no_operands G [] os a refl))
fits_ending_test G _ _ os Ends.file a = fit_text_2 (is_empty os) _ _ _ (are_tested G (form.Id role.Text ∷ []) os a)
fits_ending_test G _ _ os Ends.text a = fit_text_3 (is_empty os) _ _ _ (are_tested G (form.Text ∷ []) os a)
fits_ending_test G _ _ os Ends.both a = or_second _ (are_of G (form.Id role.Text ∷ form.Text ∷ []) os) (are_tested G (form.Id role.Text ∷ form.Text ∷ []) os a)
fits_ending_test G _ _ os (Ends.done fs) a = fit_rounds G fs [] os (Ends.done fs) a
fits_ending_test G _ _ os (Ends.again fs gs e) a = fit_rounds G fs (fs ++ gs) os (Ends.again fs gs e) a
fits_ending_test G _ _ os Ends.no_other a = fit_others G [] os Ends.no_other a
fits_ending_test G _ _ os (Ends.other gs e) a = fit_others G (form.Other ∷ gs) os (Ends.other gs e) a
fits_ending_test G _ _ os (Ends.no_kind f) a = no_kind_fit G f os (no_operands G [] os a refl)
fits_ending_test G _ _ os (Ends.kind f gs e) a = fit_kind G f gs os e a
fits_ending_test G _ _ os (Ends.no_first f g) a = no_first_fit G f g os (no_operands G [] os a refl)
fits_ending_test G _ _ os (Ends.first f g gs e) a = fit_first G f g gs os e a

are_front : (G : Table) (fs gs : List Form) (os : List Plain) → AreOf G (fs ++ gs) os → AreOf G fs (take (length fs) os)
are_front G [] gs os a = AreOf.none
are_front G (f ∷ fs) gs _ (AreOf.more _ o _ os h r) = AreOf.more f o fs (take (length fs) os) h (are_front G fs gs os r)

are_joined : (G : Table) (fs gs : List Form) (os : List Plain) → AreOf G fs (take (length fs) os) → AreOf G gs (drop (length fs) os) → AreOf G (fs ++ gs) os
are_joined G [] gs os a b = b
are_joined G (f ∷ fs) gs [] a b = elim a [ ]
are_joined G (f ∷ fs) gs (o ∷ os) (AreOf.more _ _ _ _ h r) b = AreOf.more f o (fs ++ gs) os h (are_joined G fs gs os r b)

fits_with : (G : Table) (i : PlainInst) (o : Option PlainRow) → row_of i.opcode ≡ o → fits_row G o i.operands ≡ true → FitsShape G i
fits_with G i None e h = cc
fits_with G i (Some r) e h =
    let p = both_hold (are_of G r.fixed (take (length r.fixed) i.operands)) (fits_ending G r.ending (drop (length r.fixed) i.operands)) h in
    let q = ending_fits G r.ending (drop (length r.fixed) i.operands) p.1 in
    record {
      forms = r.fixed ++ q.forms;
      has = record {
        row = r;
        rest = q.forms;
        known = e;
        forms = refl;
        ending = q.allowed;
        each = are_joined G r.fixed q.forms i.operands (tested_are G r.fixed (take (length r.fixed) i.operands) p.0) q.each;
      };
    }

-- the test of an instruction says that it fits
pub tested_fits : (G : Table) (i : PlainInst) → fits_row G (row_of i.opcode) i.operands ≡ true → FitsShape G i
tested_fits G i h = fits_with G i (row_of i.opcode) refl h

row_test : (G : Table) (r : PlainRow) (gs : List Form) (os : List Plain) → Ends r.ending gs → AreOf G (r.fixed ++ gs) os → fits_row G (Some r) os ≡ true
row_test G r gs os e a = both_true (are_of G r.fixed (take (length r.fixed) os)) (fits_ending G r.ending (drop (length r.fixed) os))
    (are_tested G r.fixed (take (length r.fixed) os) (are_front G r.fixed gs os a))
    (fits_ending_test G r.ending gs (drop (length r.fixed) os) e (are_rest G r.fixed gs os a))

pub fits_tested : (G : Table) (i : PlainInst) → FitsShape G i → fits_row G (row_of i.opcode) i.operands ≡ true
fits_tested G i f =
    let h = f.has in
    rw h.known (row_test G h.row h.rest i.operands h.ending (are_moved G f.forms (h.row.fixed ++ h.rest) i.operands h.forms h.each))

-- as many operands as forms
pub are_apart : (G : Table) (fs : List Form) (os : List Plain) → length fs ≢ length os → false ≡ are_of G fs os
are_apart G [] [] h = absurd (h refl)
are_apart G [] (o ∷ os) h = refl
are_apart G (f ∷ fs) [] h = refl
are_apart G (f ∷ fs) (o ∷ os) h = let k = are_apart G fs os (λ e. h (ap suc e)) in and_false (is_of G f o) (are_of G fs os) k where
  and_false : (a b : Bool) → false ≡ b → false ≡ (a && b)
  and_false true b e = e
  and_false false b e = refl

rounds_left : (G : Table) (fs left : List Form) → left ≢ [] → are_rounds G fs left [] ≡ false
rounds_left G fs [] h = absurd (h refl)
rounds_left G [] (f ∷ left) h = refl
rounds_left G (g ∷ fs) (f ∷ left) h = refl

rounds_whole : (G : Table) (fs left : List Form) → left ≡ [] → are_rounds G fs left [] ≡ true
rounds_whole G fs left h = rw h refl

nonempty : (fs : List Form) → length fs ≢ 0 → fs ≢ []
nonempty [] h e = h refl
nonempty (f ∷ fs) h e = cc

pub rounds_end : (G : Table) (fs : List Form) (at : ℕ) → at ≤ length fs → nat_eq at (length fs) ≡ are_rounds G fs (drop at fs) []
rounds_end G fs at h = elim (eqb_tells at (length fs)) [
  | inl p ↦ let e = p.1 in p.0 ∙ sym (rounds_whole G fs (drop at fs) (drop_of_length-le fs (omega arith)))
  | inr p ↦ let n = p.1 in let l = length-drop at fs in let d : length (drop at fs) ≢ 0 = omega arith in p.0 ∙ sym (rounds_left G fs (drop at fs) (nonempty (drop at fs) d))
]

are_short : (G : Table) (fs : List Form) (os : List Plain) → length os < length fs → are_of G fs (take (length fs) os) ≡ false
are_short G fs os h =
    let l = length-take (length fs) os in
    let n : length fs ≢ length (take (length fs) os) = omega arith in
    sym (are_apart G fs (take (length fs) os) n)

false_and : (a b : Bool) → a ≡ false → (a && b) ≡ false
false_and a b h = rw h refl

pub row_short : (G : Table) (r : PlainRow) (os : List Plain) → length os < length r.fixed → fits_row G (Some r) os ≡ false
row_short G r os h = false_and (are_of G r.fixed (take (length r.fixed) os)) (fits_ending G r.ending (drop (length r.fixed) os)) (are_short G r.fixed os h)

pub row_tested : (G : Table) (r : PlainRow) (items : List Operand) (n : ℕ) (a b : Bool) → n ≡ length r.fixed
    → a ≡ are_of G r.fixed (map plain_operand (take n items)) → b ≡ fits_ending G r.ending (map plain_operand (drop n items)) → fits_row G (Some r) (map plain_operand items) ≡ (a && b)
row_tested G r items n a b e h g =
    let h' : a ≡ are_of G r.fixed (map plain_operand (take (length r.fixed) items)) = rw e at h in
    let g' : b ≡ fits_ending G r.ending (map plain_operand (drop (length r.fixed) items)) = rw e at g in
    let t : take (length r.fixed) (map plain_operand items) ≡ map plain_operand (take (length r.fixed) items) = take-map plain_operand (length r.fixed) items in
    let d : drop (length r.fixed) (map plain_operand items) ≡ map plain_operand (drop (length r.fixed) items) = drop-map plain_operand (length r.fixed) items in
    rw (t, d, ← h', ← g') refl

pub fits_iff : (G : Table) (i : PlainInst) (o : Option PlainRow) (b : Bool) → row_of i.opcode ≡ o → fits_row G o i.operands ≡ b → IsTrue b ↔ FitsShape G i
fits_iff G i o b e h =
    let k : fits_row G (row_of i.opcode) i.operands ≡ b = rw e h in
    (λ t. tested_fits G i (k ∙ t), λ f. sym k ∙ fits_tested G i f)

-- a row without more operands than its fixed ones, which each ending allows
ending_empty : (G : Table) (e : RowEnding) (os : List Plain) → os ≡ [] → fits_ending G e os ≡ true
ending_empty G closed os h = rw h refl
ending_empty G (maybe f) os h = rw h refl
ending_empty G file_and_text os h = rw h refl
ending_empty G (repeated fs) os h = no_rounds G fs os h
ending_empty G others os h = rw h refl
ending_empty G (maybe_others f) os h = rw h refl
ending_empty G (maybe_repeated f g) os h = rw h refl

and_true : (a b : Bool) → b ≡ true → a ≡ (a && b)
and_true true b h = sym h
and_true false b h = refl

pub row_exact : (G : Table) (r : PlainRow) (os : List Plain) → length os ≡ length r.fixed → are_of G r.fixed os ≡ fits_row G (Some r) os
row_exact G r os e =
    let d : drop (length r.fixed) os ≡ [] = drop_of_length-le os (omega arith) in
    let t : take (length r.fixed) os ≡ os = take_all (length r.fixed) os (omega arith) in
    rw t (and_true (are_of G r.fixed os) (fits_ending G r.ending (drop (length r.fixed) os)) (ending_empty G r.ending (drop (length r.fixed) os) d))

-- an operand of the sort that a form asks for
pub sort_tells : (G : Table) (f : Form) (o : Plain) → sort_of o ≡ sort_for f → true ≡ is_of G f o
sort_tells G form.OfType (operand.OfType x) h = refl
sort_tells G form.OfType _ h = absurd (omega (arith, h))
sort_tells G form.Result (operand.Result x) h = refl
sort_tells G form.Result _ h = absurd (omega (arith, h))
sort_tells G form.Word (operand.Word x) h = refl
sort_tells G form.Word _ h = absurd (omega (arith, h))
sort_tells G form.Number (operand.Number a b c) h = refl
sort_tells G form.Number _ h = absurd (omega (arith, h))
sort_tells G form.Text (operand.Text t) h = refl
sort_tells G form.Text _ h = absurd (omega (arith, h))
sort_tells G (form.Id r) (operand.Id x) h = refl
sort_tells G (form.Id r) _ h = absurd (omega (arith, h))
sort_tells G form.Unseen (operand.Id x) h = refl
sort_tells G form.Unseen _ h = absurd (omega (arith, h))
sort_tells G (form.Kind k) (operand.OfType x) h = absurd (omega (arith, h))
sort_tells G (form.Kind k) (operand.Result x) h = absurd (omega (arith, h))
sort_tells G (form.Kind k) (operand.Id x) h = absurd (omega (arith, h))
sort_tells G (form.Kind k) (operand.Word x) h = absurd (omega (arith, h))
sort_tells G (form.Kind k) (operand.Argument x) h = absurd (omega (arith, h))
sort_tells G (form.Kind k) (operand.Mention x) h = absurd (omega (arith, h))
sort_tells G (form.Kind k) (operand.Number a b c) h = absurd (omega (arith, h))
sort_tells G (form.Kind k) (operand.Text t) h = absurd (omega (arith, h))
sort_tells G (form.Kind k) (operand.Value a b) h = absurd (omega (arith, h))
sort_tells G (form.Kind k) (operand.Mask a b) h = absurd (omega (arith, h))
sort_tells G form.Other (operand.OfType x) h = absurd (omega (arith, h))
sort_tells G form.Other (operand.Result x) h = absurd (omega (arith, h))
sort_tells G form.Other (operand.Id x) h = absurd (omega (arith, h))
sort_tells G form.Other (operand.Word x) h = absurd (omega (arith, h))
sort_tells G form.Other (operand.Argument x) h = absurd (omega (arith, h))
sort_tells G form.Other (operand.Mention x) h = absurd (omega (arith, h))
sort_tells G form.Other (operand.Number a b c) h = absurd (omega (arith, h))
sort_tells G form.Other (operand.Text t) h = absurd (omega (arith, h))
sort_tells G form.Other (operand.Value a b) h = absurd (omega (arith, h))
sort_tells G form.Other (operand.Mask a b) h = absurd (omega (arith, h))

sort_few : (o : Plain) → sort_of o < 10
sort_few (operand.OfType x) = omega arith
sort_few (operand.Result x) = omega arith
sort_few (operand.Id x) = omega arith
sort_few (operand.Word x) = omega arith
sort_few (operand.Argument x) = omega arith
sort_few (operand.Mention x) = omega arith
sort_few (operand.Number a b c) = omega arith
sort_few (operand.Text t) = omega arith
sort_few (operand.Value a b) = omega arith
sort_few (operand.Mask a b) = omega arith

asked_few : (f : Form) → sort_for f < 16
asked_few form.OfType = omega arith
asked_few form.Result = omega arith
asked_few form.Word = omega arith
asked_few form.Number = omega arith
asked_few form.Text = omega arith
asked_few (form.Id r) = omega arith
asked_few form.Unseen = omega arith
asked_few (form.Kind k) = omega arith
asked_few form.Other = omega arith

sorts_end : (os : List Plain) → 9 ≤ sorts_of os
sorts_end [] = omega arith
sorts_end (o ∷ os) = let l = sorts_end os in omega arith

pub asked_end : (fs : List Form) → 9 ≤ sorts_asked fs
asked_end [] = omega arith
asked_end (f ∷ fs) = let l = asked_end fs in omega arith

-- operands whose sorts are those that forms ask for, where the one of which a kind is asked is of its form
masks_few : (b : Bool) → (if b then 7 else 6) < 16
masks_few true = omega arith
masks_few false = omega arith

row_few : (f : Form) → row_sort f < 16
row_few (form.Kind k) = masks_few (has_masks k)
row_few f = asked_few f

row_sort_tells : (G : Table) (f : Form) (o : Plain) → not (is_kind f) ≡ true → sort_of o ≡ row_sort f → is_of G f o ≡ true
row_sort_tells G (form.Kind k) o n h = cc
row_sort_tells G f o n h = sym (sort_tells G f o h)

pub sorts_tell : (G : Table) (k : Option ℕ) (fs : List Form) (os : List Plain) → sorts_of os ≡ sorts_asked fs → is_kind_at k fs ≡ true → is_of_at G k fs os ≡ true → are_of G fs os ≡ true
sorts_tell G k [] [] h p q = refl
sorts_tell G k [] (o ∷ os) h p q = let l = sorts_end os in absurd (omega (arith, h))
sorts_tell G k (f ∷ fs) [] h p q = let l = asked_end fs in absurd (omega (arith, h))
sorts_tell G None (f ∷ fs) (o ∷ os) h p q =
    let a = sort_few o in
    let b = row_few f in
    let e : sort_of o ≡ row_sort f = omega (arith, h) in
    let r : sorts_of os ≡ sorts_asked fs = omega (arith, h) in
    let d = both_hold (not (is_kind f)) (is_kind_at None fs) p in
    both_true (is_of G f o) (are_of G fs os) (row_sort_tells G f o d.0 e) (sorts_tell G None fs os r d.1 refl)
sorts_tell G (Some zero) (f ∷ fs) (o ∷ os) h p q =
    let a = sort_few o in
    let b = row_few f in
    let r : sorts_of os ≡ sorts_asked fs = omega (arith, h) in
    let d = both_hold (is_kind f) (is_kind_at None fs) p in
    both_true (is_of G f o) (are_of G fs os) q (sorts_tell G None fs os r d.1 refl)
sorts_tell G (Some (suc n)) (f ∷ fs) (o ∷ os) h p q =
    let a = sort_few o in
    let b = row_few f in
    let e : sort_of o ≡ row_sort f = omega (arith, h) in
    let r : sorts_of os ≡ sorts_asked fs = omega (arith, h) in
    let d = both_hold (not (is_kind f)) (is_kind_at (Some n) fs) p in
    both_true (is_of G f o) (are_of G fs os) (row_sort_tells G f o d.0 e) (sorts_tell G (Some n) fs os r d.1 q)

-- pairs of operands: the next two, none left, and one left
pair_first : (G : Table) (one two : Form) (x : Operand) (os : List Operand) (e : Operand) → 1 < length (x ∷ os)
    → are_rounds G (one ∷ two ∷ []) [] (map plain_operand (x ∷ os))
    ≡ (is_of G one (plain_operand x) && (is_of G two (plain_operand (get_or (x ∷ os) 1 e)) && are_rounds G (one ∷ two ∷ []) [] (map plain_operand (drop 2 (x ∷ os)))))
pair_first G one two x [] e lt = absurd (omega (arith, lt))
pair_first G one two x (y ∷ os) e lt = refl

pub pair_front : (G : Table) (one two : Form) (os : List Operand) (n j k : ℕ) (d e : Operand) → j ≡ n + 1 → k ≡ n + 2 → j < length os
    → are_rounds G (one ∷ two ∷ []) [] (map plain_operand (drop n os))
    ≡ (is_of G one (plain_operand (get_or os n d)) && (is_of G two (plain_operand (get_or os j e)) && are_rounds G (one ∷ two ∷ []) [] (map plain_operand (drop k os))))
pair_front G one two [] n j k d e p q lt = absurd (omega (arith, lt))
pair_front G one two (x ∷ os) zero j k d e p q lt =
    let a : j ≡ 1 = omega (arith, p) in
    let b : k ≡ 2 = omega (arith, q) in
    rw (a, b) (pair_first G one two x os e (omega (arith, lt, a)))
pair_front G one two (x ∷ os) (suc n) zero k d e p q lt = absurd (omega (arith, p))
pair_front G one two (x ∷ os) (suc n) (suc j) zero d e p q lt = absurd (omega (arith, q))
pair_front G one two (x ∷ os) (suc n) (suc j) (suc k) d e p q lt = pair_front G one two os n j k d e (omega (arith, p)) (omega (arith, q)) (omega (arith, lt))

pub pair_none : (G : Table) (one two : Form) (os : List Operand) (n : ℕ) → n ≡ length os → true ≡ are_rounds G (one ∷ two ∷ []) [] (map plain_operand (drop n os))
pair_none G one two os n h =
    let e : drop n os ≡ [] = drop_of_length-le os (omega (arith, h)) in
    rw e refl

and_no : (b : Bool) → false ≡ (b && false)
and_no true = refl
and_no false = refl

pub pair_odd : (G : Table) (one two : Form) (os : List Operand) (n : ℕ) → n + 1 ≡ length os → false ≡ are_rounds G (one ∷ two ∷ []) [] (map plain_operand (drop n os))
pair_odd G one two [] n h = absurd (omega (arith, h))
pair_odd G one two (x ∷ []) zero h = and_no (is_of G one (plain_operand x))
pair_odd G one two (x ∷ y ∷ os) zero h = absurd (omega (arith, h))
pair_odd G one two (x ∷ os) (suc n) h = pair_odd G one two os n (omega (arith, h))
