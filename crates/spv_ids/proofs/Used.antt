-- The uses of an instruction that fits its row are told by its operands alone; an OpFunctionEnd has no result.
use Rattle.std.proofs.Common.{◌≡◌, ◌∙◌, ◌<◌, ◌≤◌, ◌+◌, ◌++◌, ℕ, zero, suc, List, [], ◌∷◌, refl, sym, ap, inl, inr, Bool}
use Rattle.std.proofs.Common.{true, false, cond, Some, length, take, arith, nat_eq}
use Rattle.std.specs.Prelude.{slice_get, option_map, nat_le, not, ◌&&◌, ◌||◌, ◌-◌, drop}
use Rattle.std.proofs.lemmas.Bool.{cases_lt, cases_eq}
use Rattle.std.proofs.lemmas.Bool.Decides.{nat_tests}
use Rattle.std.proofs.lemmas.Option.{slice_get-map, slice_get_within}
use Rattle.spv_table.specs.Table.{Table}
use Rattle.spv_module.specs.Operand.{Plain, PlainInst, result_in}
use Rattle.spv_module.specs.Operand as operand
use Rattle.spv_module.specs.declared.opcode.TheConstants as opcode
use Rattle.spv_layout.specs.declared.class.Class.TheVariants.{Extended, FunctionEnd}
use Rattle.spv_layout.specs.declared.form.Role.{Role}
use Rattle.spv_layout.specs.declared.form.Role.TheVariants as role
use Rattle.spv_layout.specs.declared.form.Form.{Form}
use Rattle.spv_layout.specs.declared.form.Form.TheVariants as form
use Rattle.spv_layout.specs.Class.{is_among}
use Rattle.spv_layout.specs.Row.{PlainRow, RowEnding, closed, maybe, file_and_text, repeated, others, maybe_others}
use Rattle.spv_layout.specs.Row.{maybe_repeated, row_in}
use Rattle.spv_layout.specs.inner.Row.{row}
use Rattle.spv_layout.specs.Rows.{rows, row_of, class_of, class_in}
use Rattle.spv_layout.specs.Layout.{classes}
use Rattle.spv_layout.specs.Place.{IsAt}
use Rattle.spv_layout.specs.Shape.{is_of, AreOf, Ends, HasForms, FitsShape, role_of, id_of, IsUse}
use Rattle.spv_ids.specs.Definition.{IsDefinedAt, IsUsedAt, IsMentionedAt}
use Rattle.spv_ids.specs.inner.Uses.{seen, behind, used_id, seen_id, argument_id, mention_id, IsUsedBefore}

-- The rows whose operands rules look at.

is_unseen : Form → Bool
is_unseen form.Unseen = true
is_unseen _ = false

all_seen : List Form → Bool
all_seen [] = true
all_seen (f ∷ fs) = not (is_unseen f) && all_seen fs

ending_seen : RowEnding → Bool
ending_seen closed = true
ending_seen (maybe f) = not (is_unseen f)
ending_seen file_and_text = true
ending_seen (repeated fs) = all_seen fs
ending_seen others = true
ending_seen (maybe_others f) = not (is_unseen f)
ending_seen (maybe_repeated f g) = not (is_unseen f) && not (is_unseen g)

row_seen : PlainRow → Bool
row_seen r = all_seen r.fixed && ending_seen r.ending

is_nil : List Form → Bool
is_nil [] = true
is_nil (f ∷ fs) = false

is_closed : RowEnding → Bool
is_closed closed = true
is_closed _ = false

row_ends : PlainRow → Bool
row_ends r = not (is_among r.class (FunctionEnd ∷ [])) || (is_nil r.fixed && is_closed r.ending)

row_apart : PlainRow → Bool
row_apart r = (nat_eq r.from 12 && nat_eq r.to 12) || row_seen r

unfoldable pub all_rows : (PlainRow → Bool) → List PlainRow → Bool
all_rows p [] = true
all_rows p (r ∷ rs) = p r && all_rows p rs

rows_apart : all_rows row_apart rows ≡ true
unfolding rows all_rows row_apart row_seen all_seen is_unseen ending_seen
rows_apart = refl

rows_end : all_rows row_ends rows ≡ true
unfolding rows all_rows row_ends is_nil is_closed
rows_end = refl

and_first : (a b : Bool) → a && b ≡ true → a ≡ true
and_first true b h = refl
and_first false b h = cc

and_second : (a b : Bool) → a && b ≡ true → b ≡ true
and_second true b h = h
and_second false b h = cc

-- a row that an opcode has
pub record HasRow (p : PlainRow → Bool) (n : ℕ) (r : PlainRow) : Type 0 where
  pub passes : p r ≡ true
  pub from : r.from ≤ n
  pub to : n ≤ r.to

le_tells : (a b : ℕ) → nat_le a b ≡ true → a ≤ b
le_tells a b h = grind (arith, nat_tests)

row_by : (p : PlainRow → Bool) (s r : PlainRow) (rs : List PlainRow) (n : ℕ) (b : Bool)
    → nat_le s.from n && nat_le n s.to ≡ b → p s ≡ true → (row_in rs n ≡ Some r → HasRow p n r)
    → cond b (Some s) (row_in rs n) ≡ Some r → HasRow p n r
row_by p s r rs n true f y k g =
    let q : s ≡ r = cc in
    let l = le_tells s.from n (and_first (nat_le s.from n) (nat_le n s.to) f) in
    let m = le_tells n s.to (and_second (nat_le s.from n) (nat_le n s.to) f) in
    let t : HasRow p n s = record { passes = y; from = l; to = m } in
    rw q at t
row_by p s r rs n false f y k g = k g

pub row_tells : (p : PlainRow → Bool) (rs : List PlainRow) (n : ℕ) (r : PlainRow) → all_rows p rs ≡ true
    → row_in rs n ≡ Some r → HasRow p n r
unfolding all_rows
row_tells p [] n r a h = cc
row_tells p (s ∷ rs) n r a h =
    row_by p s r rs n (nat_le s.from n && nat_le n s.to) refl (and_first (p s) (all_rows p rs) a)
    (λ k. row_tells p rs n r (and_second (p s) (all_rows p rs) a) k) h

-- An OpFunctionEnd has no operands.

ends_closed : (e : RowEnding) (gs : List Form) → is_closed e ≡ true → Ends e gs → gs ≡ []
unfolding is_closed
ends_closed _ _ c Ends.nothing = refl
ends_closed _ _ c (Ends.absent f) = cc
ends_closed _ _ c (Ends.present f) = cc
ends_closed _ _ c Ends.no_file_or_text = cc
ends_closed _ _ c Ends.file = cc
ends_closed _ _ c Ends.text = cc
ends_closed _ _ c Ends.both = cc
ends_closed _ _ c (Ends.done fs) = cc
ends_closed _ _ c (Ends.again fs gs r) = cc
ends_closed _ _ c Ends.no_other = cc
ends_closed _ _ c (Ends.other gs r) = cc
ends_closed _ _ c (Ends.no_kind f) = cc
ends_closed _ _ c (Ends.kind f gs r) = cc
ends_closed _ _ c (Ends.no_first f g) = cc
ends_closed _ _ c (Ends.first f g gs r) = cc

nil_tells : (fs : List Form) → is_nil fs ≡ true → fs ≡ []
unfolding is_nil
nil_tells [] h = refl
nil_tells (f ∷ fs) h = cc

none_of : (G : Table) (fs : List Form) (os : List Plain) → AreOf G fs os → fs ≡ [] → os ≡ []
none_of G _ _ AreOf.none h = refl
none_of G _ _ (AreOf.more f o fs os p r) h = cc

pub end_by : (b : Bool) (c : Bool) → not b || c ≡ true → b ≡ true → c ≡ true
end_by true c h g = h
end_by false c h g = cc

end_operands : (G : Table) (i : PlainInst) (fs : List Form) (h : HasForms G i fs)
    → is_among h.row.class (FunctionEnd ∷ []) ≡ true → i.operands ≡ []
unfolding row_ends
end_operands G i fs h c =
    let t = row_tells row_ends rows i.opcode h.row rows_end h.known in
    let e = end_by (is_among h.row.class (FunctionEnd ∷ []))
    (is_nil h.row.fixed && is_closed h.row.ending) t.passes c in
    let a = nil_tells h.row.fixed (and_first (is_nil h.row.fixed) (is_closed h.row.ending) e) in
    let b = ends_closed h.row.ending h.rest (and_second (is_nil h.row.fixed) (is_closed h.row.ending) e) h.ending in
    let n : h.row.fixed ++ h.rest ≡ [] = rw (a, b) refl in
    none_of G fs i.operands h.each (h.forms ∙ n)

pub class_at : (is : List PlainInst) (n : ℕ) (i : PlainInst) → slice_get is n ≡ Some i
    → slice_get (classes is) n ≡ Some (class_of i.opcode)
class_at is n i h = slice_get-map (λ j. class_of j.opcode) is n ∙ ap (option_map (λ j. class_of j.opcode)) h

pub no_result_at_end : (G : Table) (is : List PlainInst)
    → ((n : ℕ) (i : PlainInst) → slice_get is n ≡ Some i → FitsShape G i) → (n x : ℕ) → IsDefinedAt is x n
    → ¬ (IsAt is n (FunctionEnd ∷ []))
no_result_at_end G is f n x d a =
    let i = d.inst in
    let h = (f n i d.there).has in
    let c = rw (class_at is n i d.there) at a in
    let k : class_of i.opcode ≡ h.row.class = ap class_in h.known in
    let c' = rw k at c in
    let o = end_operands G i (f n i d.there).forms h c' in
    let r = rw o at d.result in
    cc

-- Forms at places.

form_of : (G : Table) (fs : List Form) (os : List Plain) (n : ℕ) (f : Form) (o : Plain) → AreOf G fs os
    → slice_get fs n ≡ Some f → slice_get os n ≡ Some o → is_of G f o ≡ true
form_of G _ _ n f o AreOf.none h g = cc
form_of G _ _ zero f o (AreOf.more f' o' fs os k r) h g = let a : f' ≡ f = cc in let b : o' ≡ o = cc in rw (← a, ← b) k
form_of G _ _ (suc n) f o (AreOf.more f' o' fs os k r) h g = form_of G fs os n f o r h g

-- an operand that is there has a form
pub record HasForm (G : Table) (fs : List Form) (n : ℕ) (o : Plain) : Type 0 where
  pub form : Form
  pub there : slice_get fs n ≡ Some form
  pub fits : is_of G form o ≡ true

form_there : (G : Table) (fs : List Form) (os : List Plain) (n : ℕ) (o : Plain) → AreOf G fs os
    → slice_get os n ≡ Some o → HasForm G fs n o
form_there G _ _ n o AreOf.none h = cc
form_there G _ _ zero o (AreOf.more f p fs os k r) h = let a : p ≡ o = cc in
    record { form = f; there = refl; fits = rw (← a) k }
form_there G _ _ (suc n) o (AreOf.more f p fs os k r) h = let t = form_there G fs os n o r h in
    record { form = t.form; there = t.there; fits = t.fits }

not_tells : (b : Bool) → not b ≡ true → b ≡ false
not_tells true h = cc
not_tells false h = refl

seen_there : (fs : List Form) (n : ℕ) (f : Form) → all_seen fs ≡ true → slice_get fs n ≡ Some f → is_unseen f ≡ false
unfolding all_seen
seen_there [] n f a h = cc
seen_there (g ∷ fs) zero f a h = let e : g ≡ f = cc in
    let s = not_tells (is_unseen g) (and_first (not (is_unseen g)) (all_seen fs) a) in rw (← e) s
seen_there (g ∷ fs) (suc n) f a h = seen_there fs n f (and_second (not (is_unseen g)) (all_seen fs) a) h

seen_append : (fs gs : List Form) → all_seen fs ≡ true → all_seen gs ≡ true → all_seen (fs ++ gs) ≡ true
unfolding all_seen
seen_append [] gs a b = b
seen_append (f ∷ fs) gs a b =
    let h = and_first (not (is_unseen f)) (all_seen fs) a in
    let t = seen_append fs gs (and_second (not (is_unseen f)) (all_seen fs) a) b in
    rw (h, t) refl

one_seen : (f : Form) → not (is_unseen f) ≡ true → all_seen (f ∷ []) ≡ true
unfolding all_seen
one_seen f h = rw h refl

cons_seen : (f : Form) (gs : List Form) → not (is_unseen f) ≡ true → all_seen gs ≡ true → all_seen (f ∷ gs) ≡ true
unfolding all_seen
cons_seen f gs h g = rw (h, g) refl

others_seen : (gs : List Form) → Ends others gs → all_seen gs ≡ true
unfolding all_seen is_unseen
others_seen _ Ends.no_other = refl
others_seen _ (Ends.other gs r) = others_seen gs r

ends_seen : (e : RowEnding) (gs : List Form) → ending_seen e ≡ true → Ends e gs → all_seen gs ≡ true
unfolding ending_seen all_seen is_unseen
ends_seen _ _ c Ends.nothing = refl
ends_seen _ _ c (Ends.absent f) = refl
ends_seen _ _ c (Ends.present f) = one_seen f c
ends_seen _ _ c Ends.no_file_or_text = refl
ends_seen _ _ c Ends.file = refl
ends_seen _ _ c Ends.text = refl
ends_seen _ _ c Ends.both = refl
ends_seen _ _ c (Ends.done fs) = refl
ends_seen _ _ c (Ends.again fs gs r) = seen_append fs gs c (ends_seen (repeated fs) gs c r)
ends_seen _ _ c Ends.no_other = refl
ends_seen _ _ c (Ends.other gs r) = others_seen gs r
ends_seen _ _ c (Ends.no_kind f) = refl
ends_seen _ _ c (Ends.kind f gs r) = cons_seen f gs c (others_seen gs r)
ends_seen _ _ c (Ends.no_first f g) = refl
ends_seen _ _ c (Ends.first f g gs r) =
    let a = and_first (not (is_unseen f)) (not (is_unseen g)) c in
    let b = and_second (not (is_unseen f)) (not (is_unseen g)) c in
    cons_seen f gs a (ends_seen (repeated (g ∷ [])) gs (one_seen g b) r)

-- of another opcode than OpExtInst's all forms are looked at
forms_seen : (G : Table) (i : PlainInst) (fs : List Form) (h : HasForms G i fs) → (i.opcode ≡ opcode.EXT_INST → ⊥)
    → all_seen fs ≡ true
unfolding row_apart row_seen
forms_seen G i fs h n =
    let t = row_tells row_apart rows i.opcode h.row rows_apart h.known in
    let s = apart (nat_eq h.row.from 12 && nat_eq h.row.to 12) (row_seen h.row) t.passes
    (λ q. n (twelve t.from t.to (and_first (nat_eq h.row.from 12) (nat_eq h.row.to 12) q)
    (and_second (nat_eq h.row.from 12) (nat_eq h.row.to 12) q))) in
    rw h.forms (seen_append h.row.fixed h.rest (and_first (all_seen h.row.fixed) (ending_seen h.row.ending) s)
    (ends_seen h.row.ending h.rest (and_second (all_seen h.row.fixed) (ending_seen h.row.ending) s) h.ending)) where
      apart : (a b : Bool) → a || b ≡ true → (a ≡ true → ⊥) → b ≡ true
      apart true b p q = absurd (q refl)
      apart false b p q = p

      twelve : h.row.from ≤ i.opcode → i.opcode ≤ h.row.to → nat_eq h.row.from opcode.EXT_INST ≡ true
          → nat_eq h.row.to opcode.EXT_INST ≡ true → i.opcode ≡ opcode.EXT_INST
      twelve a b c d = grind (arith, nat_tests)

-- of OpExtInst the first four are
abbrev ext_fixed : List Form
ext_fixed = form.OfType ∷ form.Result ∷ form.Id role.Set ∷ form.Word ∷ []

abbrev ext_row : PlainRow
ext_row = row opcode.EXT_INST opcode.EXT_INST Extended ext_fixed (repeated (form.Unseen ∷ []))

ext_known : row_of 12 ≡ Some ext_row
unfolding rows
ext_known = refl

round_unseen : (gs : List Form) (n : ℕ) (f : Form) → ((m : ℕ) → slice_get gs m ≡ Some f → f ≡ form.Unseen)
    → slice_get ((form.Unseen ∷ []) ++ gs) n ≡ Some f → f ≡ form.Unseen
round_unseen gs zero f r k = cc
round_unseen gs (suc m) f r k = r m k

rounds_unseen : (es : RowEnding) (gs : List Form) (n : ℕ) (f : Form) → es ≡ repeated (form.Unseen ∷ []) → Ends es gs
    → slice_get gs n ≡ Some f → f ≡ form.Unseen
rounds_unseen _ _ n f q Ends.nothing h = cc
rounds_unseen _ _ n f q (Ends.absent g) h = cc
rounds_unseen _ _ n f q (Ends.present g) h = cc
rounds_unseen _ _ n f q Ends.no_file_or_text h = cc
rounds_unseen _ _ n f q Ends.file h = cc
rounds_unseen _ _ n f q Ends.text h = cc
rounds_unseen _ _ n f q Ends.both h = cc
rounds_unseen _ _ n f q (Ends.done fs) h = cc
rounds_unseen _ _ n f q (Ends.again fs gs r) h =
    let p : fs ≡ form.Unseen ∷ [] = cc in
    let h' : slice_get ((form.Unseen ∷ []) ++ gs) n ≡ Some f = rw p at h in
    round_unseen gs n f (λ m k. rounds_unseen (repeated fs) gs m f q r k) h'
rounds_unseen _ _ n f q Ends.no_other h = cc
rounds_unseen _ _ n f q (Ends.other gs r) h = cc
rounds_unseen _ _ n f q (Ends.no_kind g) h = cc
rounds_unseen _ _ n f q (Ends.kind g gs r) h = cc
rounds_unseen _ _ n f q (Ends.no_first g k) h = cc
rounds_unseen _ _ n f q (Ends.first g k gs r) h = cc

row_same : (n : ℕ) (r : PlainRow) → n ≡ 12 → row_of n ≡ Some r → r ≡ ext_row
row_same n r h k = let k' : row_of 12 ≡ Some r = rw h at k in let q = ext_known in cc

-- the forms of an OpExtInst
pub record ExtForms (fs : List Form) : Type 0 where
  pub rest : List Form
  pub forms : fs ≡ ext_fixed ++ rest
  pub ending : Ends (repeated (form.Unseen ∷ [])) rest

ext_forms : (G : Table) (i : PlainInst) (fs : List Form) → HasForms G i fs → i.opcode ≡ opcode.EXT_INST → ExtForms fs
ext_forms G i fs h n =
    let s = row_same i.opcode h.row n h.known in
    let a : h.row.fixed ≡ ext_fixed = ap (λ r. r.fixed) s in
    let b : h.row.ending ≡ repeated (form.Unseen ∷ []) = ap (λ r. r.ending) s in
    let k = h.ending in
    record { rest = h.rest; forms = h.forms ∙ ap (λ z. z ++ h.rest) a; ending = rw b at k }

ext_late : (gs : List Form) (n : ℕ) (f : Form) → 4 ≤ n → Ends (repeated (form.Unseen ∷ [])) gs
    → slice_get (ext_fixed ++ gs) n ≡ Some f → f ≡ form.Unseen
ext_late gs zero f l r h = absurd (omega arith)
ext_late gs (suc zero) f l r h = absurd (omega arith)
ext_late gs (suc (suc zero)) f l r h = absurd (omega arith)
ext_late gs (suc (suc (suc zero))) f l r h = absurd (omega arith)
ext_late gs (suc (suc (suc (suc m)))) f l r h = rounds_unseen (repeated (form.Unseen ∷ [])) gs m f refl r h

ext_early : (gs : List Form) (n : ℕ) (f : Form) → n < 4 → slice_get (ext_fixed ++ gs) n ≡ Some f → is_unseen f ≡ false
unfolding is_unseen
ext_early gs zero f l h = let q : f ≡ form.OfType = cc in rw q refl
ext_early gs (suc zero) f l h = let q : f ≡ form.Result = cc in rw q refl
ext_early gs (suc (suc zero)) f l h = let q : f ≡ form.Id role.Set = cc in rw q refl
ext_early gs (suc (suc (suc zero))) f l h = let q : f ≡ form.Word = cc in rw q refl
ext_early gs (suc (suc (suc (suc m)))) f l h = absurd (omega arith)

get_take : (os : List Plain) (k n : ℕ) → k < n → slice_get (take n os) k ≡ slice_get os k
get_take os k zero l = absurd (omega arith)
get_take [] k (suc n) l = refl
get_take (o ∷ os) zero (suc n) l = refl
get_take (o ∷ os) (suc k) (suc n) l = get_take os k n (omega arith)

take_short : (os : List Plain) (n : ℕ) → length (take n os) ≤ n
take_short os zero = omega arith
take_short [] (suc n) = omega arith
take_short (o ∷ os) (suc n) = let h = take_short os n in omega arith

test_yes : (n : ℕ) → n ≡ 12 → nat_eq n 12 ≡ true
test_yes n h = grind (arith, nat_tests)

test_no : (n : ℕ) → (n ≡ 12 → ⊥) → nat_eq n 12 ≡ false
test_no n h = grind (arith, nat_tests)

seen_ext : (i : PlainInst) → i.opcode ≡ opcode.EXT_INST → seen i ≡ take 4 i.operands
seen_ext i h = ap (λ b. cond b (take 4 i.operands) i.operands) (test_yes i.opcode h)

seen_other : (i : PlainInst) → (i.opcode ≡ opcode.EXT_INST → ⊥) → seen i ≡ i.operands
seen_other i h = ap (λ b. cond b (take 4 i.operands) i.operands) (test_no i.opcode h)

-- The operands behind the number of an OpExtInst.

behind_ext : (i : PlainInst) → i.opcode ≡ opcode.EXT_INST → behind i ≡ drop 4 i.operands
behind_ext i h = ap (λ b. cond b (drop 4 i.operands) []) (test_yes i.opcode h)

pub behind_other : (i : PlainInst) → (i.opcode ≡ opcode.EXT_INST → ⊥) → behind i ≡ []
behind_other i h = ap (λ b. cond b (drop 4 i.operands) []) (test_no i.opcode h)

get_drop : (os : List Plain) (k : ℕ) → slice_get (drop 4 os) k ≡ slice_get os (suc (suc (suc (suc k))))
get_drop [] k = refl
get_drop (a ∷ []) k = refl
get_drop (a ∷ b ∷ []) k = refl
get_drop (a ∷ b ∷ d ∷ []) k = refl
get_drop (a ∷ b ∷ d ∷ e ∷ os) k = refl

-- an operand behind the number, by its place among all
behind_at : (i : PlainInst) (k : ℕ) (o : Plain) → i.opcode ≡ opcode.EXT_INST → 4 ≤ k → slice_get i.operands k ≡ Some o
    → slice_get (behind i) (k - 4) ≡ Some o
behind_at i k o h l a =
    let e : suc (suc (suc (suc (k - 4)))) ≡ k = omega arith in
    rw (behind_ext i h) (get_drop i.operands (k - 4) ∙ ap (λ m. slice_get i.operands m) e ∙ a)

-- the place among all of one that is behind the number
record IsBehind (i : PlainInst) (k : ℕ) (o : Plain) : Type 0 where
  pub extended : i.opcode ≡ opcode.EXT_INST
  pub there : slice_get i.operands (k + 4) ≡ Some o

behind_there : (i : PlainInst) (k : ℕ) (o : Plain) → slice_get (behind i) k ≡ Some o → IsBehind i k o
behind_there i k o a = elim (cases_eq i.opcode opcode.EXT_INST) [
  | inl h ↦
      let a' : slice_get (drop 4 i.operands) k ≡ Some o = rw (behind_ext i h) at a in
      let e : k + 4 ≡ suc (suc (suc (suc k))) = omega arith in
      record { extended = h; there = ap (λ m. slice_get i.operands m) e ∙ sym (get_drop i.operands k) ∙ a' }
  | inr h ↦ let a' : slice_get [] k ≡ Some o = rw (behind_other i h) at a in cc
]

pub argument_tells : (o : Plain) (x : ℕ) → argument_id o ≡ Some x → o ≡ operand.Argument x
argument_tells (operand.OfType y) x h = cc
argument_tells (operand.Result y) x h = cc
argument_tells (operand.Id y) x h = cc
argument_tells (operand.Word y) x h = cc
argument_tells (operand.Argument y) x h = let e : y ≡ x = cc in rw e refl
argument_tells (operand.Mention y) x h = cc
argument_tells (operand.Number a b d) x h = cc
argument_tells (operand.Text t) x h = cc
argument_tells (operand.Value a b) x h = cc
argument_tells (operand.Mask a b) x h = cc

pub mention_tells : (o : Plain) (x : ℕ) → mention_id o ≡ Some x → o ≡ operand.Mention x
mention_tells (operand.OfType y) x h = cc
mention_tells (operand.Result y) x h = cc
mention_tells (operand.Id y) x h = cc
mention_tells (operand.Word y) x h = cc
mention_tells (operand.Argument y) x h = cc
mention_tells (operand.Mention y) x h = let e : y ≡ x = cc in rw e refl
mention_tells (operand.Number a b d) x h = cc
mention_tells (operand.Text t) x h = cc
mention_tells (operand.Value a b) x h = cc
mention_tells (operand.Mask a b) x h = cc

-- Forms and uses.

role_used : (G : Table) (f : Form) (o : Plain) (r : Role) (x : ℕ) → is_of G f o ≡ true → role_of f o ≡ Some r
    → id_of o ≡ Some x → seen_id o ≡ Some x
role_used G f (operand.OfType y) r x h g k = k
role_used G f (operand.Id y) r x h g k = k
role_used G form.Result (operand.Result y) r x h g k = cc
role_used G _ (operand.Result y) r x h g k = cc
role_used G f (operand.Word y) r x h g k = cc
role_used G f (operand.Argument y) r x h g k = k
role_used G f (operand.Mention y) r x h g k = k
role_used G f (operand.Number a b c) r x h g k = cc
role_used G f (operand.Text t) r x h g k = cc
role_used G f (operand.Value a b) r x h g k = cc
role_used G f (operand.Mask a b) r x h g k = cc

-- behind the number the use is of an id that the instruction takes as a value
role_behind : (f : Form) (o : Plain) (r : Role) (x : ℕ) → f ≡ form.Unseen → role_of f o ≡ Some r → id_of o ≡ Some x
    → argument_id o ≡ Some x
role_behind f o r x h g k = let g' : role_of form.Unseen o ≡ Some r = rw h at g in by_role o g' k where
  by_role : (o : Plain) → role_of form.Unseen o ≡ Some r → id_of o ≡ Some x → argument_id o ≡ Some x
  by_role (operand.OfType y) g k = cc
  by_role (operand.Result y) g k = cc
  by_role (operand.Id y) g k = cc
  by_role (operand.Word y) g k = cc
  by_role (operand.Argument y) g k = k
  by_role (operand.Mention y) g k = cc
  by_role (operand.Number a b c) g k = cc
  by_role (operand.Text t) g k = cc
  by_role (operand.Value a b) g k = cc
  by_role (operand.Mask a b) g k = cc

-- a role, and that the operand is the id
pub record HasRole (f : Form) (o : Plain) (x : ℕ) : Type 0 where
  pub role : Role
  pub has : role_of f o ≡ Some role
  pub id : id_of o ≡ Some x

used_role : (G : Table) (f : Form) (o : Plain) (x : ℕ) → is_of G f o ≡ true → seen_id o ≡ Some x → is_unseen f ≡ false
    → HasRole f o x
unfolding is_unseen
used_role G form.OfType (operand.OfType y) x h u n = record { role = role.OfType; has = refl; id = u }
used_role G _ (operand.OfType y) x h u n = cc
used_role G (form.Id r) (operand.Id y) x h u n = record { role = r; has = refl; id = u }
used_role G form.Other (operand.Id y) x h u n = record { role = role.Any; has = refl; id = u }
used_role G form.Unseen (operand.Id y) x h u n = cc
used_role G _ (operand.Id y) x h u n = cc
used_role G f (operand.Result y) x h u n = cc
used_role G f (operand.Word y) x h u n = cc
used_role G form.Unseen (operand.Argument y) x h u n = cc
used_role G _ (operand.Argument y) x h u n = cc
used_role G form.Unseen (operand.Mention y) x h u n = cc
used_role G _ (operand.Mention y) x h u n = cc
used_role G f (operand.Number a b c) x h u n = cc
used_role G f (operand.Text t) x h u n = cc
used_role G f (operand.Value a b) x h u n = cc
used_role G f (operand.Mask a b) x h u n = cc

-- An operand behind the number of an OpExtInst that is a use of the id.
pub record IsArgument (is : List PlainInst) (n k x : ℕ) : Type 0 where
  pub inst : PlainInst
  pub there : slice_get is n ≡ Some inst
  pub operand : Plain
  pub operand_at : slice_get (behind inst) k ≡ Some operand
  pub used : argument_id operand ≡ Some x

-- A use of the id, as operands alone tell it.
pub data IsTold (is : List PlainInst) (n x : ℕ) : Type 0 where
  early : (to : ℕ) → IsUsedBefore is n to x → IsTold is n x
  late : (k : ℕ) → IsArgument is n k x → IsTold is n x

pub use_told : (G : Table) (is : List PlainInst) (n k x : ℕ) (r : Role) → IsUsedAt G is n k x r → IsTold is n x
use_told G is n k x r u =
    let w = u.used in
    let i = u.inst in
    let a = form_of G w.forms i.operands k w.form w.operand w.has.each w.form_at w.operand_at in
    elim (cases_eq i.opcode opcode.EXT_INST) [
      | inl h ↦
          let t = ext_forms G i w.forms w.has h in
          let f = t.forms in
          let p = w.form_at in
          let p' : slice_get (ext_fixed ++ t.rest) k ≡ Some w.form = rw f at p in
          elim (cases_lt k 4) [
            | inl l ↦ IsTold.early (k + 1) (record {
              inst = i;
              there = u.there;
              place = k;
              below = omega arith;
              operand = w.operand;
              operand_at = rw (seen_ext i h) (get_take i.operands k 4 l ∙ w.operand_at);
              used = role_used G w.form w.operand r x a w.role w.id;
            })
            | inr l ↦ IsTold.late (k - 4) (record {
              inst = i;
              there = u.there;
              operand = w.operand;
              operand_at = behind_at i k w.operand h l w.operand_at;
              used = role_behind w.form w.operand r x (ext_late t.rest k w.form l t.ending p') w.role w.id;
            })
          ]
      | inr h ↦ IsTold.early (k + 1) (record {
        inst = i;
        there = u.there;
        place = k;
        below = omega arith;
        operand = w.operand;
        operand_at = rw (seen_other i h) w.operand_at;
        used = role_used G w.form w.operand r x a w.role w.id;
      })
    ]

-- A mention stands behind the number of an OpExtInst.
mention_unseen : (G : Table) (f : Form) (x : ℕ) → is_of G f (operand.Mention x) ≡ true → is_unseen f ≡ true
unfolding is_unseen
mention_unseen G form.Unseen x h = refl
mention_unseen G _ x h = cc

pub record IsMention (is : List PlainInst) (n x : ℕ) : Type 0 where
  pub inst : PlainInst
  pub there : slice_get is n ≡ Some inst
  pub place : ℕ
  pub operand_at : slice_get (behind inst) place ≡ Some (operand.Mention x)

pub mention_told : (G : Table) (is : List PlainInst) (n k x : ℕ)
    → ((m : ℕ) (i : PlainInst) → slice_get is m ≡ Some i → FitsShape G i) → IsMentionedAt is n k x → IsMention is n x
mention_told G is n k x f m =
    let i = m.inst in
    let has = (f n i m.there).has in
    let fs = (f n i m.there).forms in
    let t = form_there G fs i.operands k (operand.Mention x) has.each m.named in
    let u = mention_unseen G t.form x t.fits in
    elim (cases_eq i.opcode opcode.EXT_INST) [
      | inl h ↦
          let e = ext_forms G i fs has h in
          elim (cases_lt k 4) [
            | inl l ↦ let q : true ≡ false = sym u
                ∙ ext_early e.rest k t.form l (ap (λ z. slice_get z k) (sym e.forms) ∙ t.there) in cc
            | inr l ↦ record {
              inst = i;
              there = m.there;
              place = k - 4;
              operand_at = behind_at i k (operand.Mention x) h l m.named;
            }
          ]
      | inr h ↦ let q : true ≡ false = sym u ∙ seen_there fs k t.form (forms_seen G i fs has h) t.there in cc
    ]

pub mention_there : (is : List PlainInst) (n k x : ℕ) (i : PlainInst) (o : Plain) → slice_get is n ≡ Some i
    → slice_get (behind i) k ≡ Some o → mention_id o ≡ Some x → IsMentionedAt is n (k + 4) x
mention_there is n k x i o h a u =
    let b = behind_there i k o a in
    record { inst = i; there = h; named = b.there ∙ ap Some (mention_tells o x u) }

-- An operand that is looked at and an id is a use.
pub record IsUsedIn (G : Table) (is : List PlainInst) (n x : ℕ) : Type 0 where
  pub place : ℕ
  pub role : Role
  pub used : IsUsedAt G is n place x role

use_by : (G : Table) (is : List PlainInst) (n k x : ℕ) (i : PlainInst) (o : Plain) (fs : List Form)
    → slice_get is n ≡ Some i → HasForms G i fs → slice_get i.operands k ≡ Some o → seen_id o ≡ Some x
    → ((f : Form) → slice_get fs k ≡ Some f → is_unseen f ≡ false) → IsUsedIn G is n x
use_by G is n k x i o fs h has a u s =
    let t = form_there G fs i.operands k o has.each a in
    let r = used_role G t.form o x t.fits u (s t.form t.there) in
    record {
      place = k;
      role = r.role;
      used = record {
        inst = i;
        there = h;
        used = record {
          forms = fs;
          has = has;
          form = t.form;
          operand = o;
          form_at = t.there;
          operand_at = a;
          role = r.has;
          id = r.id;
        };
      };
    }

pub told_use : (G : Table) (is : List PlainInst) (n to x : ℕ)
    → ((m : ℕ) (i : PlainInst) → slice_get is m ≡ Some i → FitsShape G i) → IsUsedBefore is n to x → IsUsedIn G is n x
told_use G is n to x f u =
    let i = u.inst in
    let has = (f n i u.there).has in
    let fs = (f n i u.there).forms in
    let q = u.operand_at in
    elim (cases_eq i.opcode opcode.EXT_INST) [
      | inl h ↦
          let q' : slice_get (take 4 i.operands) u.place ≡ Some u.operand = rw (seen_ext i h) at q in
          let a = slice_get_within (take 4 i.operands) u.place u.operand q' in
          let b = take_short i.operands 4 in
          let l : u.place < 4 = omega arith in
          let t = ext_forms G i fs has h in
          use_by G is n u.place x i u.operand fs u.there has (sym (get_take i.operands u.place 4 l) ∙ q') u.used
          (λ g p. ext_early t.rest u.place g l (ap (λ z. slice_get z u.place) (sym t.forms) ∙ p))
      | inr h ↦
          let q' : slice_get i.operands u.place ≡ Some u.operand = rw (seen_other i h) at q in
          use_by G is n u.place x i u.operand fs u.there has q' u.used
          (λ g p. seen_there fs u.place g (forms_seen G i fs has h) p)
    ]

-- So is one behind the number that is taken as a value.
argument_role : (f : Form) (o : Plain) (x : ℕ) → f ≡ form.Unseen → argument_id o ≡ Some x
    → role_of f o ≡ Some role.Value
argument_role f o x e h = rw (e, argument_tells o x h) refl

argument_is : (o : Plain) (x : ℕ) → argument_id o ≡ Some x → id_of o ≡ Some x
argument_is o x h = rw (argument_tells o x h) refl

pub argument_use : (G : Table) (is : List PlainInst) (n k x : ℕ)
    → ((m : ℕ) (i : PlainInst) → slice_get is m ≡ Some i → FitsShape G i) → IsArgument is n k x → IsUsedIn G is n x
argument_use G is n k x f u =
    let i = u.inst in
    let has = (f n i u.there).has in
    let fs = (f n i u.there).forms in
    let b = behind_there i k u.operand u.operand_at in
    let e = ext_forms G i fs has b.extended in
    let t = form_there G fs i.operands (k + 4) u.operand has.each b.there in
    let q = ext_late e.rest (k + 4) t.form (omega arith) e.ending
    (ap (λ z. slice_get z (k + 4)) (sym e.forms) ∙ t.there) in
    record {
      place = k + 4;
      role = role.Value;
      used = record {
        inst = i;
        there = u.there;
        used = record {
          forms = fs;
          has = has;
          form = t.form;
          operand = u.operand;
          form_at = t.there;
          operand_at = b.there;
          role = argument_role t.form u.operand x q u.used;
          id = argument_is u.operand x u.used;
        };
      };
    }

-- Of another opcode each operand that is such an id is a use.
used_seen : (o : Plain) (x : ℕ) → used_id o ≡ Some x → seen_id o ≡ Some x
used_seen (operand.OfType y) x h = h
used_seen (operand.Result y) x h = cc
used_seen (operand.Id y) x h = h
used_seen (operand.Word y) x h = cc
used_seen (operand.Argument y) x h = cc
used_seen (operand.Mention y) x h = cc
used_seen (operand.Number a b c) x h = cc
used_seen (operand.Text t) x h = cc
used_seen (operand.Value a b) x h = cc
used_seen (operand.Mask a b) x h = cc

pub id_used : (G : Table) (i : PlainInst) (k x : ℕ) (o : Plain) (f : FitsShape G i) → (i.opcode ≡ opcode.EXT_INST → ⊥)
    → slice_get i.operands k ≡ Some o → used_id o ≡ Some x
    → (r : Role) × IsUse G i k x r
id_used G i k x o f n a u =
    let t = form_there G f.forms i.operands k o f.has.each a in
    let r = used_role G t.form o x t.fits (used_seen o x u)
    (seen_there f.forms k t.form (forms_seen G i f.forms f.has n) t.there) in (
      r.role,
      record {
        forms = f.forms;
        has = f.has;
        form = t.form;
        operand = o;
        form_at = t.there;
        operand_at = a;
        role = r.has;
        id = r.id;
      },
    )
