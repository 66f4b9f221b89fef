-- What rows tell.
use Rattle.std.proofs.Common.{◌≡◌, ℕ, zero, suc, ◌+◌, ◌<◌, ◌≤◌, true, List, [], ◌∷◌, length, get_or, map, refl, sym, ap, ◌∙◌, ltb-true, leb-true, arith}
use Rattle.std.specs.List.{list_all}
use Rattle.std.specs.Str.{IsAscii}
use Rattle.std.proofs.lemmas.Bool.{and_parts}
use Rattle.std.proofs.lemmas.List.Sorted.{IsNonDecreasingBy-from_all_adjacent}
use Rattle.std.proofs.lemmas.Str.Ascii.{IsAscii-nil}
use Rattle.spv_table.specs.declared.named.Names.{Names}
use Rattle.spv_table.specs.declared.row.EnumerantRow.{EnumerantRow}
use Rattle.spv_table.specs.declared.span.Span.{Span}
use Rattle.spv_table.specs.Span.{spanned}
use Rattle.spv_table.specs.inner.Named.{Finds}
use Rattle.spv_table.specs.inner.Rows.{told, AreEnumerants, AreKinds}
use Rattle.spv_table.specs.declared.row.KindRow.{KindRow}
use Rattle.spv_builtin.specs.inner.Places.{are_near}
use Rattle.spv_builtin.specs.inner.Slots.{is_ascii, find, never_down, all_pass, passes}
use Rattle.spv_builtin.proofs.Held.{finds}
use Rattle.spv_builtin.proofs.Places.{near_are, all_at}

pub is_ascii-is : (octets : List ℕ) → is_ascii octets ≡ true → IsAscii octets
unfolding is_ascii
is_ascii-is [] h k = IsAscii-nil k
is_ascii-is (o ∷ os) h zero = ltb-true _ _ (and_parts _ _ h).0
is_ascii-is (o ∷ os) h (suc k) = is_ascii-is os (and_parts _ _ h).1 k

-- names that rows tell
pub told_names : {R : Type 0} (text : List ℕ) (span : R → Span) (rows : List R) → map (told text span) rows ≡ map (spanned text) (map span rows)
told_names text span [] = refl
told_names text span (r ∷ rs) = ap (λ ns. told text span r ∷ ns) (told_names text span rs)

-- slots that pass find the names that rows tell
pub told_found : {R : Type 0} (text slots : List ℕ) (span : R → Span) (rows : List R) → find text slots (map span rows) ≡ true
    → Finds (told text span) rows (record { slots = slots; others = [] })
told_found text slots span rows h = finds (told text span) rows text slots (map span rows) h (told_names text span rows)

adjacent : (last : ℕ) (rs : List EnumerantRow) → never_down last rs ≡ true → (k : ℕ) (d : EnumerantRow) → k + 1 < length rs → (get_or rs k d).0 ≤ (get_or rs (k + 1) d).0
unfolding never_down
adjacent last [] h k d l = absurd (omega (arith, l))
adjacent last (r ∷ []) h k d l = absurd (omega (arith, l))
adjacent last (r ∷ s ∷ rs) h zero d l = leb-true _ _ (and_parts _ _ (and_parts _ _ h).1).0
adjacent last (r ∷ s ∷ rs) h (suc k) d l =
    let e : suc k + 1 ≡ suc (k + 1) = omega arith in
    rw e (adjacent r.0 (s ∷ rs) (and_parts _ _ h).1 k d (omega (arith, l)))

pub all_pass-is : (text : List ℕ) (rows : List EnumerantRow) (slots near : List ℕ) → all_pass text rows slots near ≡ true → AreEnumerants text rows slots near
all_pass-is text rows slots near h =
    let up = and_parts _ _ h in
    let more = and_parts _ _ up.1 in
    record {
      ordered = IsNonDecreasingBy-from_all_adjacent (λ (r : EnumerantRow). r.0) rows (adjacent 0 rows up.0);
      finds = told_found text slots (λ (r : EnumerantRow). r.1) rows more.0;
      places = near_are near rows more.1;
    }

passes-is : (text : List ℕ) (enumerants : List EnumerantRow) (slots near : List ℕ) (r : KindRow) → passes text enumerants slots near r ≡ true
    → AreEnumerants text (spanned enumerants r.3) (spanned slots r.4) (spanned near r.5)
unfolding passes
passes-is text enumerants slots near r h = all_pass-is text (spanned enumerants r.3) (spanned slots r.4) (spanned near r.5) h

-- kinds that pass
pub kinds_are : (text : List ℕ) (enumerants : List EnumerantRow) (slots near : List ℕ) (rows : List KindRow) → list_all (passes text enumerants slots near) rows ≡ true
    → AreKinds text enumerants slots near rows
kinds_are text enumerants slots near rows h = λ r c.
    let test = all_at (passes text enumerants slots near) rows h c.0 r c.1 in
    passes-is text enumerants slots near r (ap (passes text enumerants slots near) (sym c.2) ∙ test)
