-- An instruction that fits a row whose operands take one word each has one more word than operands.
use Rattle.std.proofs.Common.{◌≡◌, ◌++◌, ◌+◌, ℕ, nat_eq, zero, suc, List, [], ◌∷◌, refl, sym, ap, subst, Bool, true, false, if◌then◌else◌, ◌&&◌, ◌||◌, ◌<◌, inl, inr, Option, Some, None, length, drop, get_or, arith}
use Rattle.std.specs.Prelude.{sum_by, slice_get}
use Rattle.std.proofs.lemmas.Bool.Decides.{eqb_tells}
use Rattle.std.proofs.lemmas.Option.{slice_get-get_or}
use Rattle.std.proofs.lemmas.List.Sums.{sum_by-cons}
use Rattle.spv_table.specs.Table.{Table}
use Rattle.spv_module.specs.Operand.{Plain, PlainInst}
use Rattle.spv_module.specs.Operand as operand
use Rattle.spv_layout.specs.declared.form.Kinded.{Kinded}
use Rattle.spv_layout.specs.declared.form.Form.{Form}
use Rattle.spv_layout.specs.declared.form.Form.TheVariants as form
use Rattle.spv_layout.specs.declared.form.Row as declared
use Rattle.spv_layout.specs.Row.{PlainRow, RowEnding}
use Rattle.spv_layout.specs.inner.Row.{plain_row}
use Rattle.spv_layout.specs.Rows.{row_of}
use Rattle.spv_layout.specs.Shape.{is_of, AreOf, Ends, FitsShape}
use Rattle.spv_layout.specs.Place.{operand_words, section_of, word_count}
use Rattle.spv_layout.specs.inner.Single.{is_single, are_single, is_single_ending, is_single_row, are_same, are_same_sections, front_of, IsFront, is_flagged, are_flagged}
use Rattle.spv_layout.specs.inner.Test.{sorts_asked, is_kind_at, are_sorts, are_kinded, are_row_sorts, HasSorts}
use Rattle.spv_layout.proofs.Derivatives.{both_hold, both_true}

same_is : (a b : Bool) → are_same a b ≡ true → a ≡ b
same_is true true h = refl
same_is true false h = cc
same_is false true h = cc
same_is false false h = refl

same_section : (a b : Option ℕ) → are_same_sections a b ≡ true → a ≡ b
same_section None None h = refl
same_section None (Some n) h = cc
same_section (Some m) None h = cc
same_section (Some m) (Some n) h = elim (eqb_tells m n) [ inl p ↦ ap Some p.1 | inr p ↦ (let q = p.0 in cc) ]

flag_at : (rs : List declared.Row) (k : ℕ) (r : declared.Row) → are_flagged rs ≡ true → slice_get rs k ≡ Some r → is_flagged r ≡ true
flag_at [] k r h e = cc
flag_at (x ∷ rs) zero r h e = let p = both_hold (is_flagged x) (are_flagged rs) h in let q : x ≡ r = cc in rw (← q) p.0
flag_at (x ∷ rs) (suc k) r h e = let p = both_hold (is_flagged x) (are_flagged rs) h in flag_at rs k r p.1 e

pub same_number : (m n : ℕ) → nat_eq m n ≡ true → m ≡ n
same_number m n h = elim (eqb_tells m n) [ inl p ↦ p.1 | inr p ↦ (let q = p.0 in cc) ]

-- a row of the code says whether it is single, the section of its class, how many of its fixed operands are single, and
-- the sorts that they ask for, or 0, or these and which one asks for a kind
pub flagged_at : (rs : List declared.Row) (k : ℕ) (r : declared.Row) → are_flagged rs ≡ true → slice_get rs k ≡ Some r → r.single ≡ is_single_row (plain_row r)
flagged_at rs k r h e =
    let p = both_hold (are_same r.single (is_single_row (plain_row r))) _ (flag_at rs k r h e) in
    same_is r.single (is_single_row (plain_row r)) p.0

others_at : (rs : List declared.Row) (k : ℕ) (r : declared.Row) → are_flagged rs ≡ true → slice_get rs k ≡ Some r
    → (are_same_sections r.section (section_of r.class) && (nat_eq r.front (front_of r.fixed.now) && are_row_sorts r.sorts r.kind r.fixed.now)) ≡ true
others_at rs k r h e =
    let p = both_hold (are_same r.single (is_single_row (plain_row r))) _ (flag_at rs k r h e) in
    p.1

pub section_at : (rs : List declared.Row) (k : ℕ) (r : declared.Row) → are_flagged rs ≡ true → slice_get rs k ≡ Some r → r.section ≡ section_of r.class
section_at rs k r h e =
    let q = both_hold (are_same_sections r.section (section_of r.class)) _ (others_at rs k r h e) in
    same_section r.section (section_of r.class) q.0

numbers_at : (rs : List declared.Row) (k : ℕ) (r : declared.Row) → are_flagged rs ≡ true → slice_get rs k ≡ Some r → (nat_eq r.front (front_of r.fixed.now) && are_row_sorts r.sorts r.kind r.fixed.now) ≡ true
numbers_at rs k r h e =
    let q = both_hold (are_same_sections r.section (section_of r.class)) _ (others_at rs k r h e) in
    q.1

pub front_at : (rs : List declared.Row) (k : ℕ) (r : declared.Row) → are_flagged rs ≡ true → slice_get rs k ≡ Some r → r.front ≡ front_of r.fixed.now
front_at rs k r h e =
    let q = both_hold (nat_eq r.front (front_of r.fixed.now)) (are_row_sorts r.sorts r.kind r.fixed.now) (numbers_at rs k r h e) in
    same_number r.front (front_of r.fixed.now) q.0

one_is : (a b : Bool) → (a || b) ≡ true → a ≡ false → b ≡ true
one_is true b h e = cc
one_is false b h e = h

pub sorts_at : (rs : List declared.Row) (k : ℕ) (r : declared.Row) → are_flagged rs ≡ true → slice_get rs k ≡ Some r → HasSorts r.sorts r.kind r.fixed.now
sorts_at rs k r h e =
    let q = both_hold (nat_eq r.front (front_of r.fixed.now)) (are_row_sorts r.sorts r.kind r.fixed.now) (numbers_at rs k r h e) in
    q.1

-- the same of a row that a list has at a place
pub flag_in : (rs : List declared.Row) (k : ℕ) (d : declared.Row) → are_flagged rs ≡ true → k < length rs → (get_or rs k d).single ≡ is_single_row (plain_row (get_or rs k d))
flag_in rs k d f l = flagged_at rs k (get_or rs k d) f (slice_get-get_or rs k d l)

pub section_in : (rs : List declared.Row) (k : ℕ) (d : declared.Row) → are_flagged rs ≡ true → k < length rs → (get_or rs k d).section ≡ section_of (get_or rs k d).class
section_in rs k d f l = section_at rs k (get_or rs k d) f (slice_get-get_or rs k d l)

pub front_in : (rs : List declared.Row) (k : ℕ) (d : declared.Row) → are_flagged rs ≡ true → k < length rs → (get_or rs k d).front ≡ front_of (get_or rs k d).fixed.now
front_in rs k d f l = front_at rs k (get_or rs k d) f (slice_get-get_or rs k d l)

pub sorts_in : (rs : List declared.Row) (k : ℕ) (d : declared.Row) → are_flagged rs ≡ true → k < length rs → HasSorts (get_or rs k d).sorts (get_or rs k d).kind (get_or rs k d).fixed.now
sorts_in rs k d f l = sorts_at rs k (get_or rs k d) f (slice_get-get_or rs k d l)

same_sorts : (m : ℕ) (k : Option ℕ) (fs : List Form) → are_sorts m k fs ≡ true → (m ≡ sorts_asked fs) × (is_kind_at k fs ≡ true)
same_sorts m k fs h = let d = both_hold (nat_eq m (sorts_asked fs)) (is_kind_at k fs) h in (same_number m (sorts_asked fs) d.0, d.1)

-- the sorts of a row that asks for no kind, and of one that asks for one
pub sorts_alone : (n : ℕ) (k : Option Kinded) (fs : List Form) → HasSorts n k fs → 0 < n → (n ≡ sorts_asked fs) × (is_kind_at None fs ≡ true)
sorts_alone n k fs h p =
    let d = both_hold (nat_eq n 0 || are_sorts n None fs) (are_kinded k fs) h in
    elim (eqb_tells n 0) [
      | inl q ↦ (let e = q.1 in absurd (omega (arith, e, p)))
      | inr q ↦ same_sorts n None fs (one_is (nat_eq n 0) (are_sorts n None fs) d.0 q.0)
    ]

pub sorts_kinded : (n : ℕ) (k : Kinded) (fs : List Form) → HasSorts n (Some k) fs → (k.sorts ≡ sorts_asked fs) × (is_kind_at (Some k.place) fs ≡ true)
sorts_kinded n k fs h =
    let d = both_hold (nat_eq n 0 || are_sorts n None fs) (are_kinded (Some k) fs) h in
    same_sorts k.sorts (Some k.place) fs d.1

-- an operand of a single form
one_word : (G : Table) (f : Form) (o : Plain) → is_single f ≡ true → is_of G f o ≡ true → operand_words o ≡ 1
one_word G form.Number o h k = cc
one_word G form.Text o h k = cc
one_word G form.Other o h k = cc
one_word G f (operand.Number low high words) h k = cc
one_word G f (operand.Text t) h k = cc
one_word G f o h k = refl

one_each : (G : Table) (fs : List Form) (os : List Plain) → are_single fs ≡ true → AreOf G fs os → sum_by operand_words os ≡ length os
one_each G _ _ h AreOf.none = refl
one_each G _ _ h (AreOf.more f o fs os k r) =
    let p = both_hold (is_single f) (are_single fs) h in
    let a = one_word G f o p.0 k in
    let b = one_each G fs os p.1 r in
    let c : sum_by operand_words (o ∷ os) ≡ operand_words o + sum_by operand_words os = sum_by-cons operand_words o os in
    omega arith

single_joined : (fs gs : List Form) → are_single fs ≡ true → are_single gs ≡ true → are_single (fs ++ gs) ≡ true
single_joined [] gs h g = g
single_joined (f ∷ fs) gs h g = let p = both_hold (is_single f) (are_single fs) h in both_true (is_single f) (are_single (fs ++ gs)) p.0 (single_joined fs gs p.1 g)

single_ends : (e : RowEnding) (fs : List Form) → Ends e fs → is_single_ending e ≡ true → are_single fs ≡ true
single_ends _ _ Ends.nothing h = refl
single_ends _ _ (Ends.absent f) h = refl
single_ends _ _ (Ends.present f) h = both_true (is_single f) true h refl
single_ends _ _ Ends.no_file_or_text h = cc
single_ends _ _ Ends.file h = cc
single_ends _ _ Ends.text h = cc
single_ends _ _ Ends.both h = cc
single_ends _ _ (Ends.done fs) h = refl
single_ends _ _ (Ends.again fs gs e) h = single_joined fs gs h (single_ends _ gs e h)
single_ends _ _ Ends.no_other h = cc
single_ends _ _ (Ends.other gs e) h = cc
single_ends _ _ (Ends.no_kind f) h = cc
single_ends _ _ (Ends.kind f gs e) h = cc
single_ends _ _ (Ends.no_first f g) h = refl
single_ends _ _ (Ends.first f g gs e) h =
    let p = both_hold (is_single f) (is_single g) h in
    both_true (is_single f) (are_single gs) p.0 (single_ends _ gs e (both_true (is_single g) true p.1 refl))

-- the words of an instruction that fits such a row
pub single_words : (G : Table) (i : PlainInst) (r : PlainRow) → FitsShape G i → row_of i.opcode ≡ Some r → is_single_row r ≡ true → word_count i ≡ 1 + length i.operands
single_words G i r f e h =
    let x = f.has in
    let k : x.row ≡ r = (let a = x.known in cc) in
    let h' : is_single_row x.row ≡ true = rw k h in
    let p = both_hold (are_single x.row.fixed) (is_single_ending x.row.ending) h' in
    let s = single_joined x.row.fixed x.rest p.0 (single_ends x.row.ending x.rest x.ending p.1) in
    let s' : are_single f.forms ≡ true = rw x.forms s in
    let w = one_each G f.forms i.operands s' x.each in
    omega arith

no_front : (os : List Plain) → IsFront os 0
no_front os = let z : 0 + sum_by operand_words os ≡ sum_by operand_words os = omega arith in record { within = omega arith; words = sym z }

one_front : (G : Table) (f : Form) (o : Plain) (os : List Plain) (n : ℕ) → is_single f ≡ true → is_of G f o ≡ true → IsFront os n → IsFront (o ∷ os) (suc n)
one_front G f o os n h k b =
    let a = one_word G f o h k in
    let w = b.within in
    let v = b.words in
    let c : sum_by operand_words (o ∷ os) ≡ operand_words o + sum_by operand_words os = sum_by-cons operand_words o os in
    let d : sum_by operand_words (drop (suc n) (o ∷ os)) ≡ sum_by operand_words (drop n os) = refl in
    record { within = omega arith; words = omega arith }

front_if : (b : Bool) (G : Table) (f : Form) (o : Plain) (os : List Plain) (n : ℕ) → is_single f ≡ b → is_of G f o ≡ true → IsFront os n → IsFront (o ∷ os) (if b then suc n else 0)
front_if true G f o os n h k b = one_front G f o os n h k b
front_if false G f o os n h k b = no_front (o ∷ os)

fixed_front : (G : Table) (fs gs : List Form) (os : List Plain) → AreOf G (fs ++ gs) os → IsFront os (front_of fs)
fixed_front G [] gs os a = no_front os
fixed_front G (f ∷ fs) gs _ (AreOf.more _ o _ os k r) = front_if (is_single f) G f o os (front_of fs) refl k (fixed_front G fs gs os r)

-- the first operands of an instruction that fits a row
pub front_words : (G : Table) (i : PlainInst) (r : PlainRow) (n : ℕ) → FitsShape G i → row_of i.opcode ≡ Some r → n ≡ front_of r.fixed → IsFront i.operands n
front_words G i r n f e h =
    let x = f.has in
    let k : x.row ≡ r = (let a = x.known in cc) in
    let h' : n ≡ front_of x.row.fixed = rw k h in
    subst (λ m. IsFront i.operands m) (sym h') (fixed_front G x.row.fixed x.rest i.operands (rw (← x.forms) x.each))
