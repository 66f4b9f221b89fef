-- A file that keeps the rules makes a table, and a whole one.
use Rattle.std.proofs.Common.{◌≡◌, ℕ, ◌<◌, ◌+◌, suc, Bool, true, false, not, ◌&&◌, List, [], ◌∷◌, Option, Some, None, option_map, option_and_then, is_some, slice_get, length, unwrap_or, cond, nat_lt, ◌^◌, Err, if◌then◌else◌, refl, sym, ap, ◌∙◌, true≢false, arith}
use Rattle.std.specs.List.{list_all, filter, find, position_or_len}
use Rattle.spv_table.specs.declared.table.Category.{Category}
use Rattle.spv_table.specs.declared.table.Category.TheVariants as category
use Rattle.spv_table.specs.declared.table.Enumerant.{Enumerant}
use Rattle.spv_grammar.specs.declared.error.GrammarError.{GrammarError}
use Rattle.spv_grammar.specs.declared.error.GrammarError.TheVariants.{J1, J2, J3, J4, J5, J6, J7, J8}
use Rattle.spv_grammar.specs.declared.file.FileOperand.{FileOperand}
use Rattle.spv_grammar.specs.declared.file.FileInstruction.{FileInstruction}
use Rattle.spv_grammar.specs.declared.file.FileEnumerant.{FileEnumerant}
use Rattle.spv_grammar.specs.declared.file.FileKind.{FileKind}
use Rattle.spv_grammar.specs.declared.file.File.{File}
use Rattle.spv_table.specs.Table.{Table, Sort, is_simple, is_simple_category, is_sound, is_sound_category, are_bases, kind_of}
use Rattle.spv_grammar.specs.Kinds.{first_kinds, number_in, kind_named, bears, is_part, is_part_category}
use Rattle.spv_grammar.specs.Rules.{has_opcodes, has_values, are_named, have_named, are_kinds, names_kinds, are_quantified, have_quantified, is_known_kind, are_parts, composes, is_composed, has_numbers, has_kinds, is_known, has_results, has_bases}
use Rattle.spv_grammar.specs.Made.{all_of, item_of, entry_from, parameter_of, enumerant_from, is_kept, sort_from}
use Rattle.spv_grammar.specs.inner.Made.{Makes}
use Rattle.spv_grammar.specs.Answer.{file_breaks}

-- ---- tests of lists

pub and_left : (a b : Bool) → (a && b) ≡ true → a ≡ true
and_left true b h = refl
and_left false b h = h

pub and_right : (a b : Bool) → (a && b) ≡ true → b ≡ true
and_right true b h = h
and_right false b h = absurd (true≢false (sym h))

pub and_both : (a b : Bool) → a ≡ true → b ≡ true → (a && b) ≡ true
and_both a b g h = rw (g, h) refl

module _ {A : Type 0} where
  pub all_both : (p q : A → Bool) (xs : List A) → list_all p xs ≡ true → list_all q xs ≡ true → list_all (λ x. p x && q x) xs ≡ true
  all_both p q [] g h = refl
  all_both p q (x ∷ xs) g h =
      and_both (p x && q x) (list_all (λ y. p y && q y) xs) (and_both (p x) (q x) (and_left (p x) (list_all p xs) g) (and_left (q x) (list_all q xs) h))
      (all_both p q xs (and_right (p x) (list_all p xs) g) (and_right (q x) (list_all q xs) h))

  pub kept_more : (p q : A → Bool) (x : A) (xs : List A) (b : Bool) → q x ≡ b → p x ≡ true → list_all p (filter q xs) ≡ true → list_all p (filter q (x ∷ xs)) ≡ true
  kept_more p q x xs true e first rest = rw e (and_both (p x) (list_all p (filter q xs)) first rest)
  kept_more p q x xs false e first rest = rw e rest

  pub all_kept : (p q : A → Bool) (xs : List A) → list_all p xs ≡ true → list_all p (filter q xs) ≡ true
  all_kept p q [] h = refl
  all_kept p q (x ∷ xs) h = kept_more p q x xs (q x) refl (and_left (p x) (list_all p xs) h) (all_kept p q xs (and_right (p x) (list_all p xs) h))

-- what all kinds keep, the kinds with each name once keep
pub all_firsts : (p : FileKind → Bool) (ks : List FileKind) → list_all p ks ≡ true → list_all p (first_kinds ks) ≡ true
all_firsts p [] h = refl
all_firsts p (k ∷ ks) h =
    and_both (p k) (list_all p (filter (λ later. not (bears k.name later)) (first_kinds ks))) (and_left (p k) (list_all p ks) h)
    (all_kept p (λ later. not (bears k.name later)) (first_kinds ks) (all_firsts p ks (and_right (p k) (list_all p ks) h)))

-- ---- each element makes something

pub is_some_map : {A B : Type 0} (f : A → B) (o : Option A) → is_some o ≡ true → is_some (option_map f o) ≡ true
is_some_map f None h = h
is_some_map f (Some a) h = refl

pub is_some_then : {A B : Type 0} (f : A → Option B) (o : Option A) → is_some o ≡ true → ((a : A) → is_some (f a) ≡ true) → is_some (option_and_then f o) ≡ true
is_some_then f None h each = h
is_some_then f (Some a) h each = each a

pub all_made : {A B : Type 0} (make : A → Option B) (p : A → Bool) → ((a : A) → p a ≡ true → is_some (make a) ≡ true) → (xs : List A) → list_all p xs ≡ true → is_some (all_of make xs) ≡ true
all_made make p each [] h = refl
all_made make p each (x ∷ xs) h =
    is_some_then (λ b. option_map (λ bs. b ∷ bs) (all_of make xs)) (make x) (each x (and_left (p x) (list_all p xs) h))
    (λ b. is_some_map (λ bs. b ∷ bs) (all_of make xs) (all_made make p each xs (and_right (p x) (list_all p xs) h)))

module _ (firsts : List FileKind) where
  pub item_made : (o : FileOperand) → (is_some (number_in firsts o.kind) && is_some o.quantifier) ≡ true → is_some (item_of firsts o) ≡ true
  item_made o h =
      is_some_then (λ k. option_map (λ q. record { kind = k; quantifier = q }) o.quantifier) (number_in firsts o.kind) (and_left (is_some (number_in firsts o.kind)) (is_some o.quantifier) h)
      (λ k. is_some_map (λ q. record { kind = k; quantifier = q }) o.quantifier (and_right (is_some (number_in firsts o.kind)) (is_some o.quantifier) h))

  pub items_made : (operands : List FileOperand) → are_named firsts operands ≡ true → are_quantified operands ≡ true → is_some (all_of (item_of firsts) operands) ≡ true
  items_made operands named known =
      all_made (item_of firsts) (λ o. is_some (number_in firsts o.kind) && is_some o.quantifier) item_made operands
      (all_both (λ o. is_some (number_in firsts o.kind)) (λ o. is_some o.quantifier) operands named known)

  abbrev pub keeps_entry : FileInstruction → Bool
  keeps_entry i = is_some i.opcode && (are_named firsts i.operands && are_quantified i.operands)

  pub entry_made : (i : FileInstruction) → keeps_entry i ≡ true → is_some (entry_from firsts i) ≡ true
  entry_made i h =
      let both = and_right (is_some i.opcode) (are_named firsts i.operands && are_quantified i.operands) h in
      let items = items_made i.operands (and_left (are_named firsts i.operands) (are_quantified i.operands) both) (and_right (are_named firsts i.operands) (are_quantified i.operands) both) in
      is_some_then (λ opcode. option_map (λ its. (opcode, record { name = i.name; operands = its; capabilities = i.capabilities })) (all_of (item_of firsts) i.operands)) i.opcode
      (and_left (is_some i.opcode) (are_named firsts i.operands && are_quantified i.operands) h)
      (λ opcode. is_some_map (λ its. (opcode, record { name = i.name; operands = its; capabilities = i.capabilities })) (all_of (item_of firsts) i.operands) items)

  pub entries_made : (is : List FileInstruction) → has_opcodes is ≡ true → list_all (λ i. are_named firsts i.operands) is ≡ true → list_all (λ i. are_quantified i.operands) is ≡ true
      → is_some (all_of (entry_from firsts) is) ≡ true
  entries_made is opcodes named known =
      all_made (entry_from firsts) keeps_entry entry_made is
      (all_both (λ i. is_some i.opcode) (λ i. are_named firsts i.operands && are_quantified i.operands) is opcodes (all_both (λ i. are_named firsts i.operands) (λ i. are_quantified i.operands) is named known))

  pub enumerant_made : (e : FileEnumerant) → (is_some e.value && are_named firsts e.parameters) ≡ true → is_some (enumerant_from firsts e) ≡ true
  enumerant_made e h =
      let parameters = all_made (parameter_of firsts) (λ o. is_some (number_in firsts o.kind)) (λ o known. known) e.parameters (and_right (is_some e.value) (are_named firsts e.parameters) h) in
      is_some_then (λ value. option_map (λ kinds. record { name = e.name; value = value; parameters = kinds; capabilities = e.capabilities }) (all_of (parameter_of firsts) e.parameters)) e.value
      (and_left (is_some e.value) (are_named firsts e.parameters) h)
      (λ value. is_some_map (λ kinds. record { name = e.name; value = value; parameters = kinds; capabilities = e.capabilities }) (all_of (parameter_of firsts) e.parameters) parameters)

  abbrev pub keeps_sort : FileKind → Bool
  keeps_sort k = has_values k && (names_kinds firsts k && is_known_kind k)

  pub sort_made : (k : FileKind) → keeps_sort k ≡ true → is_some (sort_from firsts k) ≡ true
  sort_made k h =
      let values = and_left (has_values k) (names_kinds firsts k && is_known_kind k) h in
      let both = and_right (has_values k) (names_kinds firsts k && is_known_kind k) h in
      let named = and_left (names_kinds firsts k) (is_known_kind k) both in
      let known = and_right (names_kinds firsts k) (is_known_kind k) both in
      let parameters = and_left (have_named firsts k.enumerants) (are_kinds firsts k.bases) named in
      let bases = all_made (number_in firsts) (λ name. is_some (number_in firsts name)) (λ name there. there) k.bases (and_right (have_named firsts k.enumerants) (are_kinds firsts k.bases) named) in
      let es = all_made (enumerant_from firsts) (λ e. is_some e.value && are_named firsts e.parameters) enumerant_made (filter (is_kept k.category) k.enumerants)
      (all_kept (λ e. is_some e.value && are_named firsts e.parameters) (is_kept k.category) k.enumerants
      (all_both (λ e. is_some e.value) (λ e. are_named firsts e.parameters) k.enumerants values parameters)) in
      is_some_then (λ c. option_and_then (λ bs. option_map (λ found. record { kind = record { name = k.name; category = c; bases = bs }; enumerants = found }) (all_of (enumerant_from firsts) (filter (is_kept k.category) k.enumerants))) (all_of (number_in firsts) k.bases)) k.category
      (and_left (is_some k.category) (have_quantified k.enumerants) known)
      (λ c. is_some_then (λ bs. option_map (λ found. record { kind = record { name = k.name; category = c; bases = bs }; enumerants = found }) (all_of (enumerant_from firsts) (filter (is_kept k.category) k.enumerants))) (all_of (number_in firsts) k.bases) bases
      (λ bs. is_some_map (λ found. record { kind = record { name = k.name; category = c; bases = bs }; enumerants = found }) (all_of (enumerant_from firsts) (filter (is_kept k.category) k.enumerants)) es))

  pub sorts_made : (ks : List FileKind) → list_all has_values ks ≡ true → list_all (names_kinds firsts) ks ≡ true → list_all is_known_kind ks ≡ true → is_some (all_of (sort_from firsts) (first_kinds ks)) ≡ true
  sorts_made ks values named known =
      all_made (sort_from firsts) keeps_sort sort_made (first_kinds ks)
      (all_firsts keeps_sort ks (all_both has_values (λ k. names_kinds firsts k && is_known_kind k) ks values (all_both (names_kinds firsts) is_known_kind ks named known)))

-- ---- what was made

pub some_same : {A : Type 0} {a b : A} → Some a ≡ Some b → a ≡ b
some_same {a = a} h = ap (λ o. unwrap_or o a) h

pub not_some : {A : Type 0} (a : A) {P : Type 0} → None ≡ Some a → P
not_some a h = cc

pub record Parts {A B : Type 0} (make : A → Option B) (x : A) (xs : List A) (ys : List B) : Type 0 where
  pub first : B
  pub rest : List B
  pub first_is : make x ≡ Some first
  pub rest_is : all_of make xs ≡ Some rest
  pub all_is : first ∷ rest ≡ ys

pub split : {A B : Type 0} (make : A → Option B) (x : A) (xs : List A) (ys : List B) (o : Option B) (r : Option (List B)) → make x ≡ o → all_of make xs ≡ r
    → option_and_then (λ b. option_map (λ bs. b ∷ bs) r) o ≡ Some ys → Parts make x xs ys
split make x xs ys None r e f h = not_some ys h
split make x xs ys (Some b) None e f h = not_some ys h
split make x xs ys (Some b) (Some bs) e f h = record { first = b; rest = bs; first_is = e; rest_is = f; all_is = some_same h }

pub parts_of : {A B : Type 0} (make : A → Option B) (x : A) (xs : List A) (ys : List B) → all_of make (x ∷ xs) ≡ Some ys → Parts make x xs ys
parts_of make x xs ys h = split make x xs ys (make x) (all_of make xs) refl refl h

pub made_length : {A B : Type 0} (make : A → Option B) (xs : List A) (ys : List B) → all_of make xs ≡ Some ys → length ys ≡ length xs
made_length make [] ys h = ap length (sym (some_same h))
made_length make (x ∷ xs) ys h =
    let p = parts_of make x xs ys h in
    ap length (sym p.all_is) ∙ ap suc (made_length make xs p.rest p.rest_is)

-- what all elements pass, all that is made passes
pub all_follow : {A B : Type 0} (make : A → Option B) (p : A → Bool) (q : B → Bool) → ((a : A) (b : B) → make a ≡ Some b → p a ≡ true → q b ≡ true) → (xs : List A) (ys : List B)
    → all_of make xs ≡ Some ys → list_all p xs ≡ true → list_all q ys ≡ true
all_follow make p q each [] ys h all = ap (list_all q) (sym (some_same h))
all_follow make p q each (x ∷ xs) ys h all =
    let s = parts_of make x xs ys h in
    ap (list_all q) (sym s.all_is)
    ∙ and_both (q s.first) (list_all q s.rest) (each x s.first s.first_is (and_left (p x) (list_all p xs) all)) (all_follow make p q each xs s.rest s.rest_is (and_right (p x) (list_all p xs) all))

pub next_of : {A : Type 0} (x : A) (xs : List A) (n : ℕ) → slice_get (x ∷ xs) (1 + n) ≡ slice_get xs n
next_of x xs n = let e : 1 + n ≡ suc n = omega arith in ap (slice_get (x ∷ xs)) e

-- the sort made of the first kind that passes a test stands at that kind's place
pub part_found_step : (p : FileKind → Bool) (k : FileKind) (ks : List FileKind) (s : Sort) (ss : List Sort) (b : Bool) → p k ≡ b → (is_part (Some k) ≡ true → is_simple (Some s) ≡ true)
    → (is_part (find p ks) ≡ true → is_simple (slice_get ss (position_or_len p ks)) ≡ true) → is_part (find p (k ∷ ks)) ≡ true → is_simple (slice_get (s ∷ ss) (position_or_len p (k ∷ ks))) ≡ true
part_found_step p k ks s ss true e first rest part = rw e (first (rw e at part))
part_found_step p k ks s ss false e first rest part = rw e (ap is_simple (next_of s ss (position_or_len p ks)) ∙ rest (rw e at part))

pub part_found : (make : FileKind → Option Sort) → ((k : FileKind) (s : Sort) → make k ≡ Some s → is_part (Some k) ≡ true → is_simple (Some s) ≡ true) → (p : FileKind → Bool) (ks : List FileKind) (ss : List Sort)
    → all_of make ks ≡ Some ss → is_part (find p ks) ≡ true → is_simple (slice_get ss (position_or_len p ks)) ≡ true
part_found make same p [] ss h part = absurd (true≢false (sym part))
part_found make same p (k ∷ ks) ss h part =
    let m = parts_of make k ks ss h in
    ap (λ l. is_simple (slice_get l (position_or_len p (k ∷ ks)))) (sym m.all_is)
    ∙ part_found_step p k ks m.first m.rest (p k) refl (same k m.first m.first_is) (part_found make same p ks m.rest m.rest_is) part

pub record SortParts (firsts : List FileKind) (k : FileKind) (s : Sort) : Type 0 where
  pub category_is : k.category ≡ Some s.kind.category
  pub bases_are : all_of (number_in firsts) k.bases ≡ Some s.kind.bases

pub sort_split : (firsts : List FileKind) (k : FileKind) (s : Sort) (c : Option Category) (bs : Option (List ℕ)) (es : Option (List Enumerant)) → k.category ≡ c → all_of (number_in firsts) k.bases ≡ bs
    → option_and_then (λ c. option_and_then (λ bases. option_map (λ found. record { kind = record { name = k.name; category = c; bases = bases }; enumerants = found }) es) bs) c ≡ Some s → SortParts firsts k s
sort_split firsts k s None bs es e f h = not_some s h
sort_split firsts k s (Some c) None es e f h = not_some s h
sort_split firsts k s (Some c) (Some bs) None e f h = not_some s h
sort_split firsts k s (Some c) (Some bs) (Some es) e f h =
    let same = some_same h in
    record { category_is = e ∙ ap (λ (t : Sort). Some t.kind.category) same; bases_are = f ∙ ap (λ (t : Sort). Some t.kind.bases) same }

pub sort_parts : (firsts : List FileKind) (k : FileKind) (s : Sort) → sort_from firsts k ≡ Some s → SortParts firsts k s
sort_parts firsts k s h = sort_split firsts k s k.category (all_of (number_in firsts) k.bases) (all_of (enumerant_from firsts) (filter (is_kept k.category) k.enumerants)) refl refl h

pub simple_part : (o : Option Category) (c : Category) → o ≡ Some c → is_part_category o ≡ true → is_simple_category c ≡ true
simple_part o c e h = by c (ap is_part_category (sym e) ∙ h)
  where
    by : (c : Category) → is_part_category (Some c) ≡ true → is_simple_category c ≡ true
    by category.Id h = refl
    by category.Literal h = refl
    by category.BitEnum h = absurd (true≢false (sym h))
    by category.ValueEnum h = absurd (true≢false (sym h))
    by category.Composite h = absurd (true≢false (sym h))

pub place_is : (b : Bool) (n m : ℕ) → cond b (Some n) None ≡ Some m → n ≡ m
place_is true n m h = some_same h
place_is false n m h = not_some m h

module _ (firsts : List FileKind) (G : Table) (made : all_of (sort_from firsts) firsts ≡ Some G.kinds) where
  pub base_simple : (name : List ℕ) (b : ℕ) → number_in firsts name ≡ Some b → is_part (kind_named firsts name) ≡ true → is_simple (kind_of G b) ≡ true
  base_simple name b number part =
      let place : position_or_len (bears name) firsts ≡ b = place_is (nat_lt (position_or_len (bears name) firsts) (length firsts)) (position_or_len (bears name) firsts) b number in
      ap (λ n. is_simple (slice_get G.kinds n)) (sym place)
      ∙ part_found (sort_from firsts) (λ k s h part. simple_part k.category s.kind.category (sort_parts firsts k s h).category_is part) (bears name) firsts G.kinds made part

  pub bases_sound : (names : List (List ℕ)) (bs : List ℕ) → are_parts firsts names ≡ true → all_of (number_in firsts) names ≡ Some bs → are_bases G bs ≡ true
  bases_sound [] bs parts h = absurd (true≢false (sym parts))
  bases_sound (n ∷ ns) bs parts h =
      let m = parts_of (number_in firsts) n ns bs h in
      ap (are_bases G) (sym m.all_is)
      ∙ all_follow (number_in firsts) (λ name. is_part (kind_named firsts name)) (λ b. is_simple (kind_of G b)) base_simple (n ∷ ns) (m.first ∷ m.rest) (h ∙ ap Some (sym m.all_is)) parts

  pub category_sound : (c : Category) (names : List (List ℕ)) (bs : List ℕ) → composes firsts (Some c) names ≡ true → all_of (number_in firsts) names ≡ Some bs → is_sound_category G bs c ≡ true
  category_sound category.Composite names bs parts h = bases_sound names bs parts h
  category_sound category.Id names bs parts h = refl
  category_sound category.Literal names bs parts h = refl
  category_sound category.BitEnum names bs parts h = refl
  category_sound category.ValueEnum names bs parts h = refl

  pub sort_sound : (k : FileKind) (s : Sort) → sort_from firsts k ≡ Some s → is_composed firsts k ≡ true → is_sound G s ≡ true
  sort_sound k s h composed =
      let p = sort_parts firsts k s h in
      category_sound s.kind.category k.bases s.kind.bases (ap (λ c. composes firsts c k.bases) (sym p.category_is) ∙ composed) p.bases_are

-- what the bases of a file and the number of its kinds make of a table
pub record IsBased (G : Table) : Type 0 where
  pub sound : list_all (is_sound G) G.kinds ≡ true
  pub count : length G.kinds < 2 ^ 32

-- so is the table that a file with right bases makes
pub whole : (ks firsts : List FileKind) (G : Table) → firsts ≡ first_kinds ks → list_all (is_composed firsts) ks ≡ true → all_of (sort_from firsts) firsts ≡ Some G.kinds → length firsts < 2 ^ 32 → IsBased G
whole ks firsts G e composed made few = record {
  sound = all_follow (sort_from firsts) (is_composed firsts) (is_sound G) (sort_sound firsts G made) firsts G.kinds made (ap (list_all (is_composed firsts)) e ∙ all_firsts (is_composed firsts) ks composed);
  count = rw (made_length (sort_from firsts) firsts G.kinds made) few;
}

-- ---- the rules of an unbroken file

pub record Kept (a b c d e : Bool) : Type 0 where
  pub numbers : a ≡ true
  pub kinds : b ≡ true
  pub known : c ≡ true
  pub results : d ≡ true
  pub bases : e ≡ true

pub kept : (a b c d e : Bool) → (if a then (if b then (if c then (if d then (if e then None else Some J7) else Some J6) else Some J5) else Some J4) else Some J3) ≡ None → Kept a b c d e
kept true true true true true h = record { numbers = refl; kinds = refl; known = refl; results = refl; bases = refl }
kept true true true true false h = not_some J7 (sym h)
kept true true true false e h = not_some J6 (sym h)
kept true true false d e h = not_some J5 (sym h)
kept true false c d e h = not_some J4 (sym h)
kept false b c d e h = not_some J3 (sym h)

-- where something can be made, only memory is wanting
pub no_none : {Y : Type 0} (known : Option Y) {P : Type 0} → known ≡ None → is_some known ≡ true → P
no_none None e h = absurd (true≢false (sym h))
no_none (Some y) e h = not_some y (sym e)

pub only_memory : {X Y : Type 0} (view : X → Y) (e : GrammarError) (known : Option Y) → Makes view (Err e) known → is_some known ≡ true → e ≡ J8
only_memory view J1 known h some = no_none known h some
only_memory view J2 known h some = no_none known h some
only_memory view J3 known h some = no_none known h some
only_memory view J4 known h some = no_none known h some
only_memory view J5 known h some = no_none known h some
only_memory view J6 known h some = no_none known h some
only_memory view J7 known h some = no_none known h some
only_memory view J8 known h some = refl

module _ (file : File) (firsts : List FileKind) (numbered : firsts ≡ first_kinds file.kinds) (unbroken : file_breaks file ≡ None) where
  pub rules_kept : Kept (has_numbers file) (has_kinds (first_kinds file.kinds) file) (is_known file) (has_results (first_kinds file.kinds) file) (has_bases (first_kinds file.kinds) file)
  rules_kept = kept (has_numbers file) (has_kinds (first_kinds file.kinds) file) (is_known file) (has_results (first_kinds file.kinds) file) (has_bases (first_kinds file.kinds) file) unbroken

  pub file_entries : is_some (all_of (entry_from firsts) file.instructions) ≡ true
  file_entries =
      let named = ap (λ ks. has_kinds ks file) numbered ∙ rules_kept.kinds in
      entries_made firsts file.instructions
      (and_left (has_opcodes file.instructions) (list_all has_values file.kinds) rules_kept.numbers)
      (and_left (list_all (λ i. are_named firsts i.operands) file.instructions) (list_all (names_kinds firsts) file.kinds) named)
      (and_left (list_all (λ i. are_quantified i.operands) file.instructions) (list_all is_known_kind file.kinds) rules_kept.known)

  pub file_sorts : is_some (all_of (sort_from firsts) firsts) ≡ true
  file_sorts =
      let named = ap (λ ks. has_kinds ks file) numbered ∙ rules_kept.kinds in
      ap (λ ks. is_some (all_of (sort_from firsts) ks)) numbered ∙ sorts_made firsts file.kinds
      (and_right (has_opcodes file.instructions) (list_all has_values file.kinds) rules_kept.numbers)
      (and_right (list_all (λ i. are_named firsts i.operands) file.instructions) (list_all (names_kinds firsts) file.kinds) named)
      (and_right (list_all (λ i. are_quantified i.operands) file.instructions) (list_all is_known_kind file.kinds) rules_kept.known)

  pub file_whole : (G : Table) → all_of (sort_from firsts) firsts ≡ Some G.kinds → length firsts < 2 ^ 32 → IsBased G
  file_whole G made few = whole file.kinds firsts G numbered (ap (λ ks. has_bases ks file) numbered ∙ rules_kept.bases) made few
