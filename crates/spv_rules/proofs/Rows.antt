-- What the rows of the table have.
use Rattle.std.proofs.Common.{◌≡◌, ◌∙◌, ◌<◌, ◌≤◌, ◌+◌, ◌-◌, ◌++◌, codes, take, drop, ℕ, zero, suc, nat_le, List, [], ◌∷◌}
use Rattle.std.proofs.Common.{refl, sym, ap, true, Some, None, option_map, length, map, get_or, arith}
use Rattle.std.specs.Prelude.{slice_get}
use Rattle.std.specs.Char.{to_ascii_lowercase}
use Rattle.std.specs.List.{range_with_len}
use denote.Enum.Declared.{tag_of, variants}
use denote.Enum.Enum.{tag_below}
use Rattle.std.proofs.lemmas.Bool.{leb-true}
use Rattle.std.proofs.lemmas.List.FromFn.{get_or-range_with_len}
use Rattle.std.proofs.lemmas.List.{drop_more, length-map}
use Rattle.std.proofs.lemmas.Option.{slice_get-map, slice_get-get_or, slice_get_within, slice_get_past}
use Rattle.std.proofs.lemmas.Option.{get_or_from_slice_get, same_Some}
use Rattle.spv_module.specs.contracts.fault.Rule.{the_type}
use Rattle.spv_module.proofs.Tags.{one_variant}
use Rattle.spv_words.specs.contracts.words.WordError as word
use Rattle.spv_words.specs.declared.words.WordError.TheVariants.{W1}
use Rattle.spv_rules.specs.declared.rules.Code.{Code}
use Rattle.spv_rules.specs.declared.rules.Code.TheVariants.{Word, Rule}
use Rattle.spv_rules.specs.Rules.{IsNamed, name_of, number_of, place_of, section_of, sentence_of, without_last}
use Rattle.spv_rules.specs.Table.{Row, Text, row_count, rows}
use Rattle.spv_rules.specs.inner.Held.{Held, parts, plain}

-- ---- all rows at once

named : map (λ (row : Row). row.2.now) rows ≡ map (λ (row : Row). name_of row.0) rows
unfolding rows
named = refl

short : map (λ (row : Row). nat_le (length row.2.now) 3) rows ≡ map (λ (row : Row). true) rows
unfolding rows
short = refl

numbered : map (λ (row : Row). row.1) rows ≡ map (λ (row : Row). number_of row.0) rows
unfolding rows
numbered = refl

named_for_c : map (λ (row : Row). row.3.now) rows ≡ map (λ (row : Row). row.2.now ++ 0 ∷ []) rows
unfolding rows
named_for_c = refl

ended : map (λ (row : Row). row.4.now) rows ≡ map (λ (row : Row). without_last row.4.now ++ 0 ∷ []) rows
unfolding rows
ended = refl

placed : map (λ (row : Row). place_of row.0) rows ≡ range_with_len 0 row_count
unfolding rows
placed = refl

-- ---- a row by its place

before : (xs ys : List Row) (k : ℕ) → k < length xs → slice_get (xs ++ ys) k ≡ slice_get xs k
before [] ys k l = absurd (omega arith)
before (x ∷ xs) ys zero l = refl
before (x ∷ xs) ys (suc k) l = before xs ys k (omega arith)

behind : (xs ys : List Row) (k : ℕ) → slice_get (xs ++ ys) (length xs + k) ≡ slice_get ys k
behind [] ys k = let e : 0 + k ≡ k = omega arith in ap (slice_get ys) e
behind (x ∷ xs) ys k =
    let e : suc (length xs) + k ≡ suc (length xs + k) = omega arith in
    ap (slice_get (x ∷ xs ++ ys)) e ∙ behind xs ys k

-- what lists made of the rows have at one place
at_place : {A : Type 0} (f g : Row → A) → map f rows ≡ map g rows → (n : ℕ) (row : Row) → slice_get rows n ≡ Some row → f row ≡ g row
at_place f g e n row h =
    same_Some (f row) (g row) (ap (option_map f) (sym h) ∙ sym (slice_get-map f rows n) ∙ ap (λ xs. slice_get xs n) e ∙ slice_get-map g rows n ∙ ap (option_map g) h)

how_many : length rows ≡ row_count
unfolding rows
how_many = refl

-- ---- a row by the parts of the table

abbrev joined : List (List Row) → List Row
joined [] = []
joined (part ∷ more) = part ++ joined more

all_parts : joined parts ≡ rows
unfolding parts rows
all_parts = refl

count_parts : length parts ≡ 7
unfolding parts
count_parts = refl

-- a row of the table is in its parts from this one on, so many rows behind the first of them
abbrev pub StandsIn : ℕ → ℕ → ℕ → Type 0
StandsIn part left place = slice_get (joined (drop part parts)) left ≡ slice_get rows place

pub stands_in_all : (place : ℕ) → StandsIn 0 place place
stands_in_all place = ap (λ rs. slice_get rs place) all_parts

parts_from : (part : ℕ) → part < 7 → joined (drop part parts) ≡ get_or parts part [] ++ joined (drop (part + 1) parts)
parts_from part l = ap joined (drop_more parts part [] (omega (arith, l, count_parts)))

pub stands_here : (rs : List Held) (part left place : ℕ) (d : Held) → part < 7 → map plain rs ≡ get_or parts part []
    → StandsIn part left place → left < length rs → slice_get rows place ≡ Some (plain (get_or rs left d))
stands_here rs part left place d l e h t =
    let n = length-map rs plain in
    let p = get_or parts part [] in
    let m = ap length e in
    let there = ap (λ zs. slice_get zs left) (sym e) ∙ slice_get-map plain rs left in
    sym h ∙ ap (λ zs. slice_get zs left) (parts_from part l)
    ∙ before p (joined (drop (part + 1) parts)) left (omega (arith, n, m, t))
    ∙ there ∙ ap (option_map plain) (slice_get-get_or rs left d t)

pub stands_behind : (rs : List Held) (part left place : ℕ) → part < 7 → map plain rs ≡ get_or parts part []
    → StandsIn part left place → length rs ≤ left → StandsIn (part + 1) (left - length rs) place
stands_behind rs part left place l e h t =
    let n = length-map rs plain in
    let p = get_or parts part [] in
    let more = joined (drop (part + 1) parts) in
    let m = ap length e in
    let k : left ≡ length p + (left - length rs) = omega (arith, n, m, t) in
    let whole = ap (λ zs. slice_get zs left) (parts_from part l) ∙ ap (slice_get (p ++ more)) k in
    sym (whole ∙ behind p more (left - length rs)) ∙ h

none_left : joined (drop 7 parts) ≡ []
unfolding parts
none_left = refl

pub stands_nowhere : (left place : ℕ) → place < row_count → StandsIn 7 left place → ⊥
stands_nowhere left place l h =
    let none : Text = record { now = [] } in
    let other : Row = (Word W1, 0, none, none, none, none, none) in
    let past : slice_get (joined (drop 7 parts)) left ≡ None = rw none_left (slice_get_past [] left (omega arith)) in
    let there = slice_get-get_or rows place other (omega (arith, how_many, l)) in
    cc

-- ---- a row by its code

-- there is a row for each variant
each : 9 + length (variants the_type) ≡ row_count
each = refl

pub place_below : (code : Code) → place_of code < row_count
place_below (Word w) =
    let l : tag_of word.the_type w < 9 = tag_below (variants word.the_type) (word.the_type.to w) in
    omega (arith, l, each)
place_below (Rule r) =
    let l : tag_of the_type r < length (variants the_type) = tag_below (variants the_type) (the_type.to r) in
    omega (arith, l, each)

one_place : (a b : Code) → place_of a ≡ place_of b → a ≡ b
one_place (Word a) (Word b) e = ap Word (one_variant word.the_type refl a b e)
one_place (Word a) (Rule b) e = let l : tag_of word.the_type a < 9 = tag_below (variants word.the_type) (word.the_type.to a) in absurd (omega (arith, l, e))
one_place (Rule a) (Word b) e = let l : tag_of word.the_type b < 9 = tag_below (variants word.the_type) (word.the_type.to b) in absurd (omega (arith, l, e))
one_place (Rule a) (Rule b) e = ap Rule (one_variant the_type refl a b (omega (arith, e)))

place_at : (n : ℕ) (row : Row) → slice_get rows n ≡ Some row → place_of row.0 ≡ n
place_at n row h =
    let g : slice_get (range_with_len 0 row_count) n ≡ Some (place_of row.0) = ap (λ xs. slice_get xs n) (sym placed) ∙ slice_get-map (λ (r : Row). place_of r.0) rows n ∙ ap (option_map (λ (r : Row). place_of r.0)) h in
    let l : n < row_count = rw (sym how_many) (slice_get_within rows n row h) in
    let z : 0 + n ≡ n = omega arith in
    sym (get_or_from_slice_get (range_with_len 0 row_count) n (place_of row.0) 0 g) ∙ get_or-range_with_len 0 row_count n 0 l ∙ z

-- the row of a code is that code's
own : (code : Code) (row : Row) → slice_get rows (place_of code) ≡ Some row → row.0 ≡ code
own code row h = one_place row.0 code (place_at (place_of code) row h)

pub name_at : (n : ℕ) (row : Row) → slice_get rows n ≡ Some row → row.2.now ≡ name_of row.0
name_at n row h = at_place (λ (r : Row). r.2.now) (λ (r : Row). name_of r.0) named n row h

pub number_at : (n : ℕ) (row : Row) → slice_get rows n ≡ Some row → row.1 ≡ number_of row.0
number_at n row h = at_place (λ (r : Row). r.1) (λ (r : Row). number_of r.0) numbered n row h

pub number_by : (code : Code) (row : Row) → slice_get rows (place_of code) ≡ Some row → row.1 ≡ number_of code
number_by code row h = number_at (place_of code) row h ∙ ap number_of (own code row h)

pub name_by : (code : Code) (row : Row) → slice_get rows (place_of code) ≡ Some row → row.2.now ≡ name_of code
name_by code row h = name_at (place_of code) row h ∙ ap name_of (own code row h)

pub c_name_by : (code : Code) (row : Row) → slice_get rows (place_of code) ≡ Some row → row.3.now ≡ name_of code ++ 0 ∷ []
c_name_by code row h =
    at_place (λ (r : Row). r.3.now) (λ (r : Row). r.2.now ++ 0 ∷ []) named_for_c (place_of code) row h ∙ ap (λ xs. xs ++ 0 ∷ []) (name_by code row h)

pub sentence_by : (code : Code) (row : Row) → slice_get rows (place_of code) ≡ Some row → row.4.now ≡ sentence_of code ++ 0 ∷ []
sentence_by code row h =
    let told = λ (r : Row). without_last r.4.now in
    let e : sentence_of code ≡ told row = get_or_from_slice_get (map told rows) (place_of code) (told row) [] (slice_get-map told rows (place_of code) ∙ ap (option_map told) h) in
    at_place (λ (r : Row). r.4.now) (λ (r : Row). without_last r.4.now ++ 0 ∷ []) ended (place_of code) row h ∙ ap (λ xs. xs ++ 0 ∷ []) (sym e)

pub short_by : (code : Code) (row : Row) → slice_get rows (place_of code) ≡ Some row → length (name_of code) ≤ 3
short_by code row h =
    let e : nat_le (length row.2.now) 3 ≡ true = at_place (λ (r : Row). nat_le (length r.2.now) 3) (λ (r : Row). true) short (place_of code) row h in
    let l : length row.2.now ≤ 3 = leb-true (length row.2.now) 3 e in
    rw (name_by code row h) at l

-- each code has a row
pub has_row : (code : Code) → (row : Row) × (slice_get rows (place_of code) ≡ Some row)
has_row code =
    let none : Text = record { now = [] } in
    let other : Row = (code, 0, none, none, none, none, none) in
    (get_or rows (place_of code) other, slice_get-get_or rows (place_of code) other (omega (arith, how_many, place_below code)))

-- no code has a name that no row has
pub nameless : (name : List ℕ) → ((n : ℕ) (row : Row) → n < row_count → slice_get rows n ≡ Some row → ¬ (IsNamed name row.2.now))
    → (code : Code) → ¬ (IsNamed name (name_of code))
nameless name none code e =
    let found = has_row code in
    none (place_of code) found.0 (place_below code) found.1 (e ∙ ap (map to_ascii_lowercase) (sym (name_by code found.0 found.1)))

-- and so with numbers
pub numberless : (number : ℕ) → ((n : ℕ) (row : Row) → n < row_count → slice_get rows n ≡ Some row → ¬ (row.1 ≡ number))
    → (code : Code) → ¬ (number ≡ number_of code)
numberless number none code e =
    let found = has_row code in
    none (place_of code) found.0 (place_below code) found.1 (number_by code found.0 found.1 ∙ sym e)

-- sentences end with their sources
sourced : map (λ (row : Row). without_last row.4.now) rows
    ≡ map (λ (row : Row). take (length row.4.now - (length row.5.now + 4)) row.4.now ++ codes " [" ++ row.5.now ++ codes "]") rows
unfolding rows
sourced = refl

-- a text of a row
pub told_by : (told : Row → List ℕ) (code : Code) (row : Row) → slice_get rows (place_of code) ≡ Some row → told row ≡ get_or (map told rows) (place_of code) []
told_by told code row h = sym (get_or_from_slice_get (map told rows) (place_of code) (told row) [] (slice_get-map told rows (place_of code) ∙ ap (option_map told) h))

pub sources : (code : Code) → (told : List ℕ) × (sentence_of code ≡ told ++ codes " [" ++ section_of code ++ codes "]")
sources code =
    let found = has_row code in
    let row = found.0 in
    let s = told_by (λ (r : Row). without_last r.4.now) code row found.1 in
    let t = told_by (λ (r : Row). r.5.now) code row found.1 in
    let told = take (length row.4.now - (length row.5.now + 4)) row.4.now in
    let e = at_place (λ (r : Row). without_last r.4.now) (λ (r : Row). take (length r.4.now - (length r.5.now + 4)) r.4.now ++ codes " [" ++ r.5.now ++ codes "]") sourced (place_of code) row found.1 in
    (told, sym s ∙ (e ∙ ap (λ z. told ++ codes " [" ++ z ++ codes "]") t))
