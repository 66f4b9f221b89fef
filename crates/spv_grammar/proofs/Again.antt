-- The grammar file of a table reads as the trimmed file, so it gives the same table.
use Rattle.std.proofs.Common.{◌≡◌, ◌∙◌, ℕ, zero, suc, ◌+◌, ◌*◌, ◌/◌, ◌%◌, ◌^◌, ◌<◌, ◌≤◌, Bool, true, false, ◌&&◌, ◌==◌, cond, nat_lt, nat_le, List, [], ◌∷◌, map, length, slice_get, Option, Some, None, option_map, option_and_then, codes, refl, sym, ap, arith, true≢false}
use Rattle.std.specs.Fmt.{digits, digits_onto, digit_glyph}
use Rattle.std.proofs.lemmas.Bool.{lt-ltb, ltb-true}
use Rattle.std.proofs.lemmas.Bool.Decides.{nat_tests}
use Rattle.std.proofs.lemmas.List.{map-id}
use Rattle.std.proofs.lemmas.Slice.Eq.{bytes_eq-Decides}
use Rattle.std.specs.List.{list_all, filter, position_or_len}
use Rattle.serde_json.specs.Data.{unsigned, Data, number, string, object, Members, no_members, put}
use Rattle.serde_json.specs.Find.{get, as_str, as_number}
use Rattle.serde_json.specs.View.{items_of}
use Rattle.spv_table.specs.declared.table.Category.{Category}
use Rattle.spv_table.specs.declared.table.Category.TheVariants as category
use Rattle.spv_table.specs.declared.table.Quantifier.{Quantifier}
use Rattle.spv_table.specs.declared.table.Quantifier.TheVariants as quantifier
use Rattle.spv_table.specs.declared.table.Item as declared
use Rattle.spv_table.specs.declared.table.Entry.{Entry}
use Rattle.spv_table.specs.declared.table.Enumerant.{Enumerant}
use Rattle.spv_table.specs.Table.{Table, Sort}
use Rattle.spv_grammar.specs.declared.file.FileOperand.{FileOperand}
use Rattle.spv_grammar.specs.declared.file.FileInstruction.{FileInstruction}
use Rattle.spv_grammar.specs.declared.file.FileEnumerant.{FileEnumerant}
use Rattle.spv_grammar.specs.declared.file.FileKind.{FileKind}
use Rattle.spv_grammar.specs.declared.file.File.{File}
use Rattle.spv_grammar.specs.File.{each, text_at, optional_items_at, operand_of, operands_at, capabilities_at, whole_below, opcode_at, instruction_of, hex_digit_of, hex_from, hex_number_of, value_in, value_at, enumerant_in, kind_in}
use Rattle.spv_grammar.specs.Kinds.{first_kinds, number_in, bears}
use Rattle.spv_grammar.specs.Rules.{is_one}
use Rattle.spv_grammar.specs.Made.{all_of, item_of, entry_from, parameter_of, enumerant_from, is_kept, fits_category, sort_from}
use Rattle.spv_grammar.specs.Answer.{Gives, IsGiven}
use Rattle.spv_grammar.proofs.Whole.{and_left, and_right, all_both, all_kept, all_firsts, some_same, not_some, parts_of, next_of, place_is, sort_parts}
use Rattle.spv_grammar.proofs.Elements.{kind_parts}
use Rattle.spv_grammar.specs.Tree.{with_list, name_of, kind_name, with_quantifier, operand_tree, parameter_tree, instruction_tree, value_tree, enumerant_tree, kind_tree, grammar_tree}
use Rattle.spv_grammar.proofs.Ranges.{then_parts, map_parts, below, opcode_fits, value_is_small, is_none, owns, is_read, file_read}
use Rattle.spv_grammar.proofs.Trimmed.{trim, trimmed, unbroken_again, table_again}

-- ---- lists

cons_read : {A : Type 0} (o : Option A) (r : Option (List A)) (a : A) (rest : List A) → o ≡ Some a → r ≡ Some rest → option_and_then (λ b. option_map (λ bs. b ∷ bs) r) o ≡ Some (a ∷ rest)
cons_read o r a rest e f = rw (e, f) refl

read_back : {A B C : Type 0} (make : A → Option B) (tree : B → Data) (read : Data → Option C) (g : A → C) (p : A → Bool) → ((a : A) (b : B) → make a ≡ Some b → p a ≡ true → read (tree b) ≡ Some (g a)) → (xs : List A) (ys : List B)
    → all_of make xs ≡ Some ys → list_all p xs ≡ true → each read (items_of (map tree ys)) ≡ Some (map g xs)
read_back make tree read g p one [] ys h all = ap (λ l. each read (items_of (map tree l))) (sym (some_same h))
read_back make tree read g p one (x ∷ xs) ys h all =
    let s = parts_of make x xs ys h in
    ap (λ l. each read (items_of (map tree l))) (sym s.all_is)
    ∙ cons_read (read (tree s.first)) (each read (items_of (map tree s.rest))) (g x) (map g xs) (one x s.first s.first_is (and_left (p x) (list_all p xs) all)) (read_back make tree read g p one xs s.rest s.rest_is (and_right (p x) (list_all p xs) all))

read_same : {A B : Type 0} (make : A → Option B) (tree : B → Data) (read : Data → Option A) (p : A → Bool) → ((a : A) (b : B) → make a ≡ Some b → p a ≡ true → read (tree b) ≡ Some a) → (xs : List A) (ys : List B)
    → all_of make xs ≡ Some ys → list_all p xs ≡ true → each read (items_of (map tree ys)) ≡ Some xs
read_same make tree read p one xs ys h all = read_back make tree read (λ a. a) p one xs ys h all ∙ ap Some (map-id xs)

all_true : {A : Type 0} (xs : List A) → list_all (λ (a : A). true) xs ≡ true
all_true [] = refl
all_true (x ∷ xs) = all_true xs

names_back : (names : List (List ℕ)) → each as_str (items_of (map string names)) ≡ Some names
names_back [] = refl
names_back (n ∷ ns) = ap (option_map (λ (l : List (List ℕ)). n ∷ l)) (names_back ns)

-- ---- numbers

whole_back : (limit n : ℕ) (o : Option ℕ) → o ≡ Some n → below limit o ≡ true → whole_below limit (unsigned n) ≡ o
whole_back limit n o is fits =
    let small : nat_lt n limit ≡ true = ap (below limit) (sym is) ∙ fits in
    rw small (sym is)

glyph_digit : (d : ℕ) → d < 16 → hex_digit_of (digit_glyph false d) ≡ Some d
glyph_digit zero small = refl
glyph_digit (suc zero) small = refl
glyph_digit (suc (suc zero)) small = refl
glyph_digit (suc (suc (suc zero))) small = refl
glyph_digit (suc (suc (suc (suc zero)))) small = refl
glyph_digit (suc (suc (suc (suc (suc zero))))) small = refl
glyph_digit (suc (suc (suc (suc (suc (suc zero)))))) small = refl
glyph_digit (suc (suc (suc (suc (suc (suc (suc zero))))))) small = refl
glyph_digit (suc (suc (suc (suc (suc (suc (suc (suc zero)))))))) small = refl
glyph_digit (suc (suc (suc (suc (suc (suc (suc (suc (suc zero))))))))) small = refl
glyph_digit (suc (suc (suc (suc (suc (suc (suc (suc (suc (suc zero)))))))))) small = refl
glyph_digit (suc (suc (suc (suc (suc (suc (suc (suc (suc (suc (suc zero))))))))))) small = refl
glyph_digit (suc (suc (suc (suc (suc (suc (suc (suc (suc (suc (suc (suc zero)))))))))))) small = refl
glyph_digit (suc (suc (suc (suc (suc (suc (suc (suc (suc (suc (suc (suc (suc zero))))))))))))) small = refl
glyph_digit (suc (suc (suc (suc (suc (suc (suc (suc (suc (suc (suc (suc (suc (suc zero)))))))))))))) small = refl
glyph_digit (suc (suc (suc (suc (suc (suc (suc (suc (suc (suc (suc (suc (suc (suc (suc zero))))))))))))))) small = refl
glyph_digit (suc (suc (suc (suc (suc (suc (suc (suc (suc (suc (suc (suc (suc (suc (suc (suc d)))))))))))))))) small = absurd (omega arith)

digit_more : (n d : ℕ) (acc : List ℕ) → d < 16 → hex_from n (digit_glyph false d ∷ acc) ≡ hex_from (16 * n + d) acc
digit_more n d acc small = ap (option_and_then (λ digit. hex_from (16 * n + digit) acc)) (glyph_digit d small)

hex_step : (k n : ℕ) (acc : List ℕ) (b : Bool) → (n / 16 == 0) ≡ b → hex_from 0 (digits_onto k 16 false (n / 16) (digit_glyph false (n % 16) ∷ acc)) ≡ hex_from (n / 16) (digit_glyph false (n % 16) ∷ acc)
    → hex_from 0 (digits_onto (suc k) 16 false n acc) ≡ hex_from n acc
hex_step k n acc true e h =
    let whole : 16 * 0 + n % 16 ≡ n = grind (arith, nat_tests) in
    rw e (digit_more 0 (n % 16) acc (omega arith) ∙ ap (λ m. hex_from m acc) whole)
hex_step k n acc false e h =
    let whole : 16 * (n / 16) + n % 16 ≡ n = omega arith in
    rw e (h ∙ digit_more (n / 16) (n % 16) acc (omega arith) ∙ ap (λ m. hex_from m acc) whole)

hex_back : (k n : ℕ) (acc : List ℕ) → n < 16 ^ k → hex_from 0 (digits_onto k 16 false n acc) ≡ hex_from n acc
hex_back zero n acc small = let e : 0 ≡ n = omega arith in ap (λ m. hex_from m acc) e
hex_back (suc k) n acc small =
    let less : n / 16 < 16 ^ k = omega arith in
    hex_step k n acc (n / 16 == 0) refl (hex_back k (n / 16) (digit_glyph false (n % 16) ∷ acc) less)

-- how many digits there are
count_step : (k j n : ℕ) (acc : List ℕ) (b : Bool) → (n / 16 == 0) ≡ b → (b ≡ false → length (digits_onto k 16 false (n / 16) (digit_glyph false (n % 16) ∷ acc)) ≤ j + length (digit_glyph false (n % 16) ∷ acc))
    → length (digits_onto (suc k) 16 false n acc) ≤ suc j + length acc
count_step k j n acc true e h = rw e (omega arith)
count_step k j n acc false e h = let l = h refl in rw e (omega arith)

few : (n : ℕ) → (n / 16 == 0) ≡ false → 16 ≤ n
few n e = grind (arith, nat_tests)

digits_few : (k j n : ℕ) (acc : List ℕ) → n < 16 ^ suc j → length (digits_onto k 16 false n acc) ≤ suc j + length acc
digits_few zero j n acc small = omega arith
digits_few (suc k) zero n acc small = count_step k zero n acc (n / 16 == 0) refl (λ e. absurd (let many = few n e in omega arith))
digits_few (suc k) (suc j) n acc small = count_step k (suc j) n acc (n / 16 == 0) refl (λ e. digits_few k j (n / 16) (digit_glyph false (n % 16) ∷ acc) (omega arith))

grow_step : (k n : ℕ) (acc : List ℕ) (b : Bool) → (n / 16 == 0) ≡ b → length (digit_glyph false (n % 16) ∷ acc) ≤ length (digits_onto k 16 false (n / 16) (digit_glyph false (n % 16) ∷ acc)) → length acc < length (digits_onto (suc k) 16 false n acc)
grow_step k n acc true e l = rw e (omega arith)
grow_step k n acc false e l = rw e (omega arith)

digits_grow : (k n : ℕ) (acc : List ℕ) → length acc ≤ length (digits_onto k 16 false n acc)
digits_grow zero n acc = omega arith
digits_grow (suc k) n acc = let l = grow_step k n acc (n / 16 == 0) refl (digits_grow k (n / 16) (digit_glyph false (n % 16) ∷ acc)) in omega arith

digits_some : (k n : ℕ) → 0 < length (digits_onto (suc k) 16 false n [])
digits_some k n = grow_step k n [] (n / 16 == 0) refl (digits_grow k (n / 16) (digit_glyph false (n % 16) ∷ []))

in_range : (n : ℕ) → 0 < n → n ≤ 8 → (nat_lt 0 n && nat_le n 8) ≡ true
in_range n low high = grind (arith, nat_tests)

bits_back : (n : ℕ) → n < 2 ^ 32 → hex_number_of (digits 16 false n) ≡ Some n
unfolding digits
bits_back n small =
    let wide : n < 16 ^ 64 = omega arith in
    let short : length (digits_onto 64 16 false n []) ≤ 8 = digits_few 64 7 n [] (omega arith) in
    let range = in_range (length (digits_onto 64 16 false n [])) (digits_some 63 n) short in
    rw range (hex_back 64 n [] wide)

small_number : (n : ℕ) (o : Option ℕ) → o ≡ Some n → below (2 ^ 32) o ≡ true → n < 2 ^ 32
small_number n o is fits = ltb-true n (2 ^ 32) (ap (below (2 ^ 32)) (sym is) ∙ fits)

value_back : (c : Category) (n : ℕ) (o : Option ℕ) → o ≡ Some n → below (2 ^ 32) o ≡ true → value_in c (value_tree c n) ≡ Some o
value_back category.BitEnum n o is fits = ap Some (bits_back n (small_number n o is fits) ∙ sym is)
value_back category.ValueEnum n o is fits = ap Some (whole_back (2 ^ 32) n o is fits)
value_back category.Id n o is fits = ap Some (whole_back (2 ^ 32) n o is fits)
value_back category.Literal n o is fits = ap Some (whole_back (2 ^ 32) n o is fits)
value_back category.Composite n o is fits = ap Some (whole_back (2 ^ 32) n o is fits)

-- ---- the members of an object

abbrev with_lists : List ℕ → List Data → List Data → Members → Data
with_lists key cs os ms = object (with_list (codes "capabilities") cs (with_list key os ms))

abbrev entry_members : ℕ → List ℕ → Members
entry_members opcode name = put (codes "opcode") (number (unsigned opcode)) (put (codes "opname") (string name) no_members)

abbrev value_members : Data → List ℕ → Members
value_members value name = put (codes "value") value (put (codes "enumerant") (string name) no_members)

-- what is found at the keys of an instruction
record EntryFound (d : Data) (cs os : List Data) (opcode : ℕ) (name : List ℕ) : Type 0 where
  name_at : get (codes "opname") d ≡ Some (string name)
  opcode_is : get (codes "opcode") d ≡ Some (number (unsigned opcode))
  operands_are : optional_items_at (codes "operands") d ≡ Some (items_of os)
  capabilities_are : optional_items_at (codes "capabilities") d ≡ Some (items_of cs)

entry_found : (cs os : List Data) (opcode : ℕ) (name : List ℕ) → EntryFound (with_lists (codes "operands") cs os (entry_members opcode name)) cs os opcode name
entry_found [] [] opcode name = record { name_at = refl; opcode_is = refl; operands_are = refl; capabilities_are = refl }
entry_found [] (o ∷ os) opcode name = record { name_at = refl; opcode_is = refl; operands_are = refl; capabilities_are = refl }
entry_found (c ∷ cs) [] opcode name = record { name_at = refl; opcode_is = refl; operands_are = refl; capabilities_are = refl }
entry_found (c ∷ cs) (o ∷ os) opcode name = record { name_at = refl; opcode_is = refl; operands_are = refl; capabilities_are = refl }

-- and at those of an enumerant
record EnumerantFound (d : Data) (cs os : List Data) (value : Data) (name : List ℕ) : Type 0 where
  name_at : get (codes "enumerant") d ≡ Some (string name)
  value_is : get (codes "value") d ≡ Some value
  parameters_are : optional_items_at (codes "parameters") d ≡ Some (items_of os)
  capabilities_are : optional_items_at (codes "capabilities") d ≡ Some (items_of cs)

enumerant_found : (cs os : List Data) (value : Data) (name : List ℕ) → EnumerantFound (with_lists (codes "parameters") cs os (value_members value name)) cs os value name
enumerant_found [] [] value name = record { name_at = refl; value_is = refl; parameters_are = refl; capabilities_are = refl }
enumerant_found [] (o ∷ os) value name = record { name_at = refl; value_is = refl; parameters_are = refl; capabilities_are = refl }
enumerant_found (c ∷ cs) [] value name = record { name_at = refl; value_is = refl; parameters_are = refl; capabilities_are = refl }
enumerant_found (c ∷ cs) (o ∷ os) value name = record { name_at = refl; value_is = refl; parameters_are = refl; capabilities_are = refl }

-- ---- elements

one_is : (q : Option Quantifier) → is_one q ≡ true → q ≡ Some quantifier.One
one_is None h = absurd (true≢false (sym h))
one_is (Some quantifier.One) h = refl
one_is (Some quantifier.Maybe) h = absurd (true≢false (sym h))
one_is (Some quantifier.Many) h = absurd (true≢false (sym h))

operand_written : (q : Quantifier) (kind : List ℕ) → operand_of (object (with_quantifier q (put (codes "kind") (string kind) no_members))) ≡ Some (record { kind = kind; quantifier = Some q })
operand_written quantifier.One kind = refl
operand_written quantifier.Maybe kind = refl
operand_written quantifier.Many kind = refl

instruction_by : (n : Option (List ℕ)) (o : Option (Option ℕ)) (os : Option (List FileOperand)) (cs : Option (List (List ℕ))) (i : FileInstruction) → n ≡ Some i.name → o ≡ Some i.opcode → os ≡ Some i.operands → cs ≡ Some i.capabilities
    → option_and_then (λ name. option_and_then (λ opcode. option_and_then (λ operands. option_map (λ capabilities. record { name = name; opcode = opcode; operands = operands; capabilities = capabilities }) cs) os) o) n ≡ Some i
instruction_by n o os cs i a b c d = rw (a, b, c, d) refl

enumerant_by : (n : Option (List ℕ)) (v : Option (Option ℕ)) (ps : Option (List FileOperand)) (cs : Option (List (List ℕ))) (e : FileEnumerant) → n ≡ Some e.name → v ≡ Some e.value → ps ≡ Some e.parameters → cs ≡ Some e.capabilities
    → option_and_then (λ name. option_and_then (λ value. option_and_then (λ parameters. option_map (λ capabilities. record { name = name; value = value; parameters = parameters; capabilities = capabilities }) cs) ps) v) n ≡ Some e
enumerant_by n v ps cs e a b c d = rw (a, b, c, d) refl

kind_by : (k : FileKind) (o : Option (List FileEnumerant)) (b : Option (List (List ℕ))) (c : Option Category) → o ≡ Some (filter (is_kept k.category) k.enumerants) → b ≡ Some k.bases → k.category ≡ c
    → option_and_then (λ enumerants. option_map (λ bases. record { name = k.name; category = c; enumerants = enumerants; bases = bases }) b) o ≡ Some (trim k)
kind_by k o b c es bs is = rw (es, bs) (λ i. Some (record { name = k.name; category = sym is i; enumerants = filter (is_kept k.category) k.enumerants; bases = k.bases }))

none_is : {A : Type 0} (xs : List A) → is_none xs ≡ true → [] ≡ xs
none_is [] h = refl
none_is (x ∷ xs) h = absurd (true≢false (sym h))

none_kept : (q : FileEnumerant → Bool) (xs : List FileEnumerant) → is_none xs ≡ true → Some [] ≡ Some (filter q xs)
none_kept q xs h = ap (λ (l : List FileEnumerant). Some (filter q l)) (none_is xs h)

filtered_step : (q : FileEnumerant → Bool) (x : FileEnumerant) (xs : List FileEnumerant) (b : Bool) → q x ≡ b → list_all q (filter q xs) ≡ true → list_all q (filter q (x ∷ xs)) ≡ true
filtered_step q x xs true e h = rw (e, e) h
filtered_step q x xs false e h = rw e h

all_filtered : (q : FileEnumerant → Bool) (xs : List FileEnumerant) → list_all q (filter q xs) ≡ true
all_filtered q [] = refl
all_filtered q (x ∷ xs) = filtered_step q x xs (q x) refl (all_filtered q xs)

is_there : (b : Bool) (n m : ℕ) → cond b (Some n) None ≡ Some m → b ≡ true
is_there true n m h = refl
is_there false n m h = not_some m h

less_before : (n m : ℕ) → nat_lt (1 + n) (suc m) ≡ true → nat_lt n m ≡ true
less_before n m h = let l = ltb-true (1 + n) (suc m) h in lt-ltb n m (omega arith)

-- the kind at the place of a name bears it
name_step : (name : List ℕ) (p : FileKind → Bool) (k : FileKind) (ks : List FileKind) (s : Sort) (ss : List Sort) (b : Bool) → p k ≡ b → (b ≡ true → s.kind.name ≡ name)
    → (nat_lt (position_or_len p ks) (length ks) ≡ true → name_of (slice_get ss (position_or_len p ks)) ≡ name)
    → nat_lt (position_or_len p (k ∷ ks)) (length (k ∷ ks)) ≡ true → name_of (slice_get (s ∷ ss) (position_or_len p (k ∷ ks))) ≡ name
name_step name p k ks s ss true e first rest h = rw e (first refl)
name_step name p k ks s ss false e first rest h = rw e (ap name_of (next_of s ss (position_or_len p ks)) ∙ rest (less_before (position_or_len p ks) (length ks) (rw e at h)))

name_found : (firsts : List FileKind) (name : List ℕ) (ks : List FileKind) (ss : List Sort) → all_of (sort_from firsts) ks ≡ Some ss → nat_lt (position_or_len (bears name) ks) (length ks) ≡ true
    → name_of (slice_get ss (position_or_len (bears name) ks)) ≡ name
name_found firsts name [] ss h less = absurd (let l = ltb-true (position_or_len (bears name) []) 0 less in omega arith)
name_found firsts name (k ∷ ks) ss h less =
    let m = parts_of (sort_from firsts) k ks ss h in
    ap (λ (l : List Sort). name_of (slice_get l (position_or_len (bears name) (k ∷ ks)))) (sym m.all_is)
    ∙ name_step name (bears name) k ks m.first m.rest (bears name k) refl (λ e. (kind_parts firsts k m.first m.first_is).name ∙ sym ((bytes_eq-Decides name k.name).0 e)) (name_found firsts name ks m.rest m.rest_is) less

module _ (firsts : List FileKind) (G : Table) (made : all_of (sort_from firsts) firsts ≡ Some G.kinds) where
  name_back : (name : List ℕ) (n : ℕ) → number_in firsts name ≡ Some n → kind_name G n ≡ name
  name_back name n at =
      let there = is_there (nat_lt (position_or_len (bears name) firsts) (length firsts)) (position_or_len (bears name) firsts) n at in
      let place : position_or_len (bears name) firsts ≡ n = place_is (nat_lt (position_or_len (bears name) firsts) (length firsts)) (position_or_len (bears name) firsts) n at in
      ap (λ (m : ℕ). name_of (slice_get G.kinds m)) (sym place) ∙ name_found firsts name firsts G.kinds made there

  operand_is : (o : FileOperand) (n : ℕ) (q : Quantifier) → number_in firsts o.kind ≡ Some n → o.quantifier ≡ Some q → operand_of (operand_tree G (record { kind = n; quantifier = q })) ≡ Some o
  operand_is o n q at is =
      let same : kind_name G n ≡ o.kind = name_back o.kind n at in
      operand_written q (kind_name G n) ∙ (λ i. Some (record { kind = same i; quantifier = sym is i }))

  operand_back : (o : FileOperand) (i : declared.Item) → item_of firsts o ≡ Some i → true ≡ true → operand_of (operand_tree G i) ≡ Some o
  operand_back o i h _ =
      let t = then_parts (λ k. option_map (λ q. record { kind = k; quantifier = q }) o.quantifier) (number_in firsts o.kind) i h in
      let m = map_parts (λ q. record { kind = t.first; quantifier = q }) o.quantifier i t.gives in
      ap (λ (j : declared.Item). operand_of (operand_tree G j)) (sym m.gives) ∙ operand_is o t.first m.first t.is m.is

  parameter_back : (o : FileOperand) (n : ℕ) → parameter_of firsts o ≡ Some n → is_one o.quantifier ≡ true → operand_of (parameter_tree G n) ≡ Some o
  parameter_back o n h one = operand_is o n quantifier.One h (one_is o.quantifier one)

  instruction_is : (i : FileInstruction) (n : ℕ) (its : List declared.Item) → i.opcode ≡ Some n → all_of (item_of firsts) i.operands ≡ Some its → opcode_fits i ≡ true
      → instruction_of (instruction_tree G (n, record { name = i.name; operands = its; capabilities = i.capabilities })) ≡ Some i
  instruction_is i n its opcode operands fits =
      let d = instruction_tree G (n, record { name = i.name; operands = its; capabilities = i.capabilities }) in
      let f = entry_found (map string i.capabilities) (map (operand_tree G) its) n i.name in
      instruction_by (text_at (codes "opname") d) (opcode_at d) (operands_at (codes "operands") d) (capabilities_at d) i
      (ap (option_and_then as_str) f.name_at)
      (ap (λ (o : Option Data). option_map (whole_below (2 ^ 16)) (option_and_then as_number o)) f.opcode_is ∙ ap Some (whole_back (2 ^ 16) n i.opcode opcode fits))
      (ap (option_and_then (each operand_of)) f.operands_are ∙ read_same (item_of firsts) (operand_tree G) operand_of (λ (o : FileOperand). true) operand_back i.operands its operands (all_true i.operands))
      (ap (option_and_then (each as_str)) f.capabilities_are ∙ names_back i.capabilities)

  instruction_back : (i : FileInstruction) (e : ℕ × Entry) → entry_from firsts i ≡ Some e → opcode_fits i ≡ true → instruction_of (instruction_tree G e) ≡ Some i
  instruction_back i e h fits =
      let t = then_parts (λ opcode. option_map (λ items. (opcode, record { name = i.name; operands = items; capabilities = i.capabilities })) (all_of (item_of firsts) i.operands)) i.opcode e h in
      let m = map_parts (λ items. (t.first, record { name = i.name; operands = items; capabilities = i.capabilities })) (all_of (item_of firsts) i.operands) e t.gives in
      ap (λ (f : ℕ × Entry). instruction_of (instruction_tree G f)) (sym m.gives) ∙ instruction_is i t.first m.first t.is m.is fits

  abbrev stays : Category → FileEnumerant → Bool
  stays c x = is_kept (Some c) x && value_is_small x

  enumerant_is : (c : Category) (x : FileEnumerant) (v : ℕ) (ns : List ℕ) → x.value ≡ Some v → all_of (parameter_of firsts) x.parameters ≡ Some ns → stays c x ≡ true
      → enumerant_in c (enumerant_tree G c (record { name = x.name; value = v; parameters = ns; capabilities = x.capabilities })) ≡ Some x
  enumerant_is c x v ns value parameters h =
      let d = enumerant_tree G c (record { name = x.name; value = v; parameters = ns; capabilities = x.capabilities }) in
      let f = enumerant_found (map string x.capabilities) (map (parameter_tree G) ns) (value_tree c v) x.name in
      let ones = and_left (list_all (λ (o : FileOperand). is_one o.quantifier) x.parameters) (fits_category (Some c) x) (and_left (is_kept (Some c) x) (value_is_small x) h) in
      enumerant_by (text_at (codes "enumerant") d) (value_at c d) (operands_at (codes "parameters") d) (capabilities_at d) x
      (ap (option_and_then as_str) f.name_at)
      (ap (option_and_then (value_in c)) f.value_is ∙ value_back c v x.value value (and_right (is_kept (Some c) x) (value_is_small x) h))
      (ap (option_and_then (each operand_of)) f.parameters_are ∙ read_same (parameter_of firsts) (parameter_tree G) operand_of (λ (o : FileOperand). is_one o.quantifier) parameter_back x.parameters ns parameters ones)
      (ap (option_and_then (each as_str)) f.capabilities_are ∙ names_back x.capabilities)

  enumerant_back : (c : Category) (x : FileEnumerant) (e : Enumerant) → enumerant_from firsts x ≡ Some e → stays c x ≡ true → enumerant_in c (enumerant_tree G c e) ≡ Some x
  enumerant_back c x e h stay =
      let t = then_parts (λ value. option_map (λ kinds. record { name = x.name; value = value; parameters = kinds; capabilities = x.capabilities }) (all_of (parameter_of firsts) x.parameters)) x.value e h in
      let m = map_parts (λ kinds. record { name = x.name; value = t.first; parameters = kinds; capabilities = x.capabilities }) (all_of (parameter_of firsts) x.parameters) e t.gives in
      ap (λ (f : Enumerant). enumerant_in c (enumerant_tree G c f)) (sym m.gives) ∙ enumerant_is c x t.first m.first t.is m.is stay

  enumerants_back : (c : Category) (k : FileKind) (es : List Enumerant) → k.category ≡ Some c → all_of (enumerant_from firsts) (filter (is_kept k.category) k.enumerants) ≡ Some es → list_all value_is_small k.enumerants ≡ true
      → each (enumerant_in c) (items_of (map (enumerant_tree G c) es)) ≡ Some (filter (is_kept k.category) k.enumerants)
  enumerants_back c k es is h small =
      let kept = filter (is_kept k.category) k.enumerants in
      let fit : list_all (is_kept (Some c)) kept ≡ true = ap (λ (o : Option Category). list_all (is_kept o) kept) (sym is) ∙ all_filtered (is_kept k.category) k.enumerants in
      read_same (enumerant_from firsts) (enumerant_tree G c) (enumerant_in c) (stays c) (enumerant_back c) kept es h (all_both (is_kept (Some c)) value_is_small kept fit (all_kept value_is_small (is_kept k.category) k.enumerants small))

  base_back : (name : List ℕ) (n : ℕ) → number_in firsts name ≡ Some n → true ≡ true → as_str (string (kind_name G n)) ≡ Some name
  base_back name n h _ = ap Some (name_back name n h)

  bases_back : (names : List (List ℕ)) (ns : List ℕ) → all_of (number_in firsts) names ≡ Some ns → each as_str (items_of (map (λ (kind : ℕ). string (kind_name G kind)) ns)) ≡ Some names
  bases_back names ns h = read_same (number_in firsts) (λ (kind : ℕ). string (kind_name G kind)) as_str (λ (n : List ℕ). true) base_back names ns h (all_true names)

  kind_is : (k : FileKind) (c : Category) (ns : List ℕ) (es : List Enumerant) → k.category ≡ Some c → all_of (number_in firsts) k.bases ≡ Some ns → all_of (enumerant_from firsts) (filter (is_kept k.category) k.enumerants) ≡ Some es
      → list_all value_is_small k.enumerants ≡ true → owns (Some c) (is_none k.enumerants) (is_none k.bases) ≡ true
      → kind_in (kind_tree G (record { kind = record { name = k.name; category = c; bases = ns }; enumerants = es })) ≡ Some (trim k)
  kind_is k category.BitEnum ns es is bases found small own =
      kind_by k (each (enumerant_in category.BitEnum) (items_of (map (enumerant_tree G category.BitEnum) es))) (Some []) (Some category.BitEnum) (enumerants_back category.BitEnum k es is found small) (ap Some (none_is k.bases own)) is
  kind_is k category.ValueEnum ns es is bases found small own =
      kind_by k (each (enumerant_in category.ValueEnum) (items_of (map (enumerant_tree G category.ValueEnum) es))) (Some []) (Some category.ValueEnum) (enumerants_back category.ValueEnum k es is found small) (ap Some (none_is k.bases own)) is
  kind_is k category.Composite ns es is bases found small own =
      kind_by k (Some []) (each as_str (items_of (map (λ (kind : ℕ). string (kind_name G kind)) ns))) (Some category.Composite) (none_kept (is_kept k.category) k.enumerants own) (bases_back k.bases ns bases) is
  kind_is k category.Id ns es is bases found small own =
      kind_by k (Some []) (Some []) (Some category.Id) (none_kept (is_kept k.category) k.enumerants (and_left (is_none k.enumerants) (is_none k.bases) own)) (ap Some (none_is k.bases (and_right (is_none k.enumerants) (is_none k.bases) own))) is
  kind_is k category.Literal ns es is bases found small own =
      kind_by k (Some []) (Some []) (Some category.Literal) (none_kept (is_kept k.category) k.enumerants (and_left (is_none k.enumerants) (is_none k.bases) own)) (ap Some (none_is k.bases (and_right (is_none k.enumerants) (is_none k.bases) own))) is

  kind_back : (k : FileKind) (s : Sort) → sort_from firsts k ≡ Some s → is_read k ≡ true → kind_in (kind_tree G s) ≡ Some (trim k)
  kind_back k s h read =
      let p = sort_parts firsts k s h in
      let q = kind_parts firsts k s h in
      let own = and_right (list_all value_is_small k.enumerants) (owns k.category (is_none k.enumerants) (is_none k.bases)) read in
      let own_c : owns (Some s.kind.category) (is_none k.enumerants) (is_none k.bases) ≡ true = ap (λ (o : Option Category). owns o (is_none k.enumerants) (is_none k.bases)) (sym p.category_is) ∙ own in
      ap (λ (name : List ℕ). kind_in (kind_tree G (record { kind = record { name = name; category = s.kind.category; bases = s.kind.bases }; enumerants = s.enumerants }))) q.name
      ∙ kind_is k s.kind.category s.kind.bases s.enumerants p.category_is p.bases_are q.enumerants (and_left (list_all value_is_small k.enumerants) (owns k.category (is_none k.enumerants) (is_none k.bases)) read) own_c

-- ---- a file

file_by : (is : Option (List FileInstruction)) (ks : Option (List FileKind)) (file : File) → is ≡ Some file.instructions → ks ≡ Some file.kinds
    → option_and_then (λ instructions. option_map (λ kinds. record { instructions = instructions; kinds = kinds }) ks) is ≡ Some file
file_by is ks file a b = rw (a, b) refl

pub gives_again : (G : Table) → IsGiven G → Gives (grammar_tree G) G
gives_again G given =
    let g = given.1 in
    let file = g.file in
    let firsts = first_kinds file.kinds in
    let r = file_read given.0 file g.is_file in
    record {
      file = trimmed file;
      is_file =
          file_by (each instruction_of (items_of (map (instruction_tree G) G.entries))) (each kind_in (items_of (map (kind_tree G) G.kinds))) (trimmed file)
          (read_same (entry_from firsts) (instruction_tree G) instruction_of opcode_fits (instruction_back firsts G g.table.kinds) file.instructions G.entries g.table.entries r.opcodes)
          (read_back (sort_from firsts) (kind_tree G) kind_in trim is_read (kind_back firsts G g.table.kinds) firsts G.kinds g.table.kinds (all_firsts is_read file.kinds r.kinds));
      unbroken = unbroken_again file g.unbroken;
      table = table_again file G g.table;
    }
