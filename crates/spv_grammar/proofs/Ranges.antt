-- What was read of a grammar file is in range, and a kind has no parts that its category does not read.
use Rattle.std.proofs.Common.{◌≡◌, ◌∙◌, ℕ, suc, ◌+◌, ◌*◌, ◌^◌, ◌<◌, ◌≤◌, Bool, true, false, ◌&&◌, nat_lt, nat_le, if◌then◌else◌, List, [], ◌∷◌, length, Option, Some, None, option_map, option_and_then, codes, refl, sym, ap, subst, arith, lit<}
use Rattle.std.proofs.Math.Nat.{pow-le-pow_right}
use Rattle.std.proofs.lemmas.Bool.{lt-ltb}
use Rattle.std.proofs.lemmas.Bool.Decides.{nat_tests}
use Rattle.std.specs.List.{list_all}
use Rattle.serde_json.specs.Data.{Num, unsigned, negative, float, Data, Items, no_items, item}
use Rattle.serde_json.specs.Find.{get, as_str, as_number}
use Rattle.spv_table.specs.declared.table.Category.{Category}
use Rattle.spv_table.specs.declared.table.Category.TheVariants as category
use Rattle.spv_grammar.specs.declared.file.FileOperand.{FileOperand}
use Rattle.spv_grammar.specs.declared.file.FileInstruction.{FileInstruction}
use Rattle.spv_grammar.specs.declared.file.FileEnumerant.{FileEnumerant}
use Rattle.spv_grammar.specs.declared.file.FileKind.{FileKind}
use Rattle.spv_grammar.specs.declared.file.File.{File}
use Rattle.spv_grammar.specs.File.{each, items_at, text_at, whole_below, opcode_at, operands_at, capabilities_at, instruction_of, hex_digit_of, hex_from, hex_number_of, bit_value_of, value_in, value_at, enumerant_in, enumerants_at, bases_at, category_of, kind_with, kind_in, file_of}
use Rattle.spv_grammar.proofs.Whole.{and_both, some_same, not_some}

-- ---- what gave a value

pub record Then {A B : Type 0} (f : A → Option B) (o : Option A) (b : B) : Type 0 where
  pub first : A
  pub is : o ≡ Some first
  pub gives : f first ≡ Some b

pub then_parts : {A B : Type 0} (f : A → Option B) (o : Option A) (b : B) → option_and_then f o ≡ Some b → Then f o b
then_parts f None b h = not_some b h
then_parts f (Some a) b h = record { first = a; is = refl; gives = h }

pub record Mapped {A B : Type 0} (f : A → B) (o : Option A) (b : B) : Type 0 where
  pub first : A
  pub is : o ≡ Some first
  pub gives : f first ≡ b

pub map_parts : {A B : Type 0} (f : A → B) (o : Option A) (b : B) → option_map f o ≡ Some b → Mapped f o b
map_parts f None b h = not_some b h
map_parts f (Some a) b h = record { first = a; is = refl; gives = some_same h }

pub each_passes : {A : Type 0} (read : Data → Option A) (p : A → Bool) → ((d : Data) (a : A) → read d ≡ Some a → p a ≡ true) → (ds : Items) (xs : List A) → each read ds ≡ Some xs → list_all p xs ≡ true
each_passes read p one no_items xs h = ap (list_all p) (sym (some_same h))
each_passes read p one (item d ds) xs h =
    let t = then_parts (λ a. option_map (λ rest. a ∷ rest) (each read ds)) (read d) xs h in
    let m = map_parts (λ rest. t.first ∷ rest) (each read ds) xs t.gives in
    ap (list_all p) (sym m.gives) ∙ and_both (p t.first) (list_all p m.first) (one d t.first t.is) (each_passes read p one ds m.first m.is)

-- ---- numbers

abbrev pub below : ℕ → Option ℕ → Bool
below limit None = true
below limit (Some n) = nat_lt n limit

if_below : (limit n : ℕ) (b : Bool) → nat_lt n limit ≡ b → below limit (if b then Some n else None) ≡ true
if_below limit n true e = e
if_below limit n false e = refl

whole_fits : (limit : ℕ) (number : Num) → below limit (whole_below limit number) ≡ true
whole_fits limit (unsigned n) = if_below limit n (nat_lt n limit) refl
whole_fits limit (negative z) = refl
whole_fits limit (float x) = refl

digit_small : (c digit : ℕ) → hex_digit_of c ≡ Some digit → digit < 16
digit_small c digit h = grind (arith, nat_tests)

hex_bound : (i n : ℕ) (cs : List ℕ) (v : ℕ) → n < 16 ^ i → hex_from n cs ≡ Some v → v < 16 ^ (i + length cs)
hex_bound i n [] v small h = let same : n ≡ v = some_same h in let e : i + 0 ≡ i = omega arith in rw (e, ← same) small
hex_bound i n (c ∷ cs) v small h =
    let t = then_parts (λ digit. hex_from (16 * n + digit) cs) (hex_digit_of c) v h in
    let digit = digit_small c t.first t.is in
    let more : 16 * n + t.first < 16 ^ suc i = omega arith in
    let e : suc i + length cs ≡ i + length (c ∷ cs) = omega arith in
    subst (λ (k : ℕ). v < 16 ^ k) e (hex_bound (suc i) (16 * n + t.first) cs v more t.gives)

below_from : (limit : ℕ) (o : Option ℕ) → ((v : ℕ) → o ≡ Some v → v < limit) → below limit o ≡ true
below_from limit None h = refl
below_from limit (Some v) h = lt-ltb v limit (h v refl)

below_if : (limit : ℕ) (b : Bool) (o : Option ℕ) → (b ≡ true → below limit o ≡ true) → below limit (if b then o else None) ≡ true
below_if limit true o h = h refl
below_if limit false o h = refl

few_digits : (n : ℕ) → (nat_lt 0 n && nat_le n 8) ≡ true → n ≤ 8
few_digits n h = grind (arith, nat_tests)

number_fits : (digits : List ℕ) → below (2 ^ 32) (hex_number_of digits) ≡ true
number_fits digits =
    below_if (2 ^ 32) (nat_lt 0 (length digits) && nat_le (length digits) 8) (hex_from 0 digits)
    (λ few. below_from (2 ^ 32) (hex_from 0 digits) (λ v h.
    let bound : v < 16 ^ (0 + length digits) = hex_bound 0 0 digits v (lit< tt) h in
    let e : 0 + length digits ≡ length digits = omega arith in
    let under : v < 16 ^ length digits = subst (λ (k : ℕ). v < 16 ^ k) e bound in
    let most : length digits ≤ 8 = few_digits (length digits) few in
    let room : 16 ^ length digits ≤ 16 ^ 8 = pow-le-pow_right (lit< tt) {j = 8} most in
    omega arith))

bits_fit : (s : List ℕ) → below (2 ^ 32) (bit_value_of s) ≡ true
bits_fit [] = refl
bits_fit (z ∷ []) = refl
bits_fit (z ∷ x ∷ digits) = below_if (2 ^ 32) _ (hex_number_of digits) (λ _. number_fits digits)

value_fits : (c : Category) (d : Data) (v : Option ℕ) → value_in c d ≡ Some v → below (2 ^ 32) v ≡ true
value_fits category.BitEnum d v h = let m = map_parts bit_value_of (as_str d) v h in ap (below (2 ^ 32)) (sym m.gives) ∙ bits_fit m.first
value_fits category.ValueEnum d v h = let m = map_parts (whole_below (2 ^ 32)) (as_number d) v h in ap (below (2 ^ 32)) (sym m.gives) ∙ whole_fits (2 ^ 32) m.first
value_fits category.Id d v h = let m = map_parts (whole_below (2 ^ 32)) (as_number d) v h in ap (below (2 ^ 32)) (sym m.gives) ∙ whole_fits (2 ^ 32) m.first
value_fits category.Literal d v h = let m = map_parts (whole_below (2 ^ 32)) (as_number d) v h in ap (below (2 ^ 32)) (sym m.gives) ∙ whole_fits (2 ^ 32) m.first
value_fits category.Composite d v h = let m = map_parts (whole_below (2 ^ 32)) (as_number d) v h in ap (below (2 ^ 32)) (sym m.gives) ∙ whole_fits (2 ^ 32) m.first

-- ---- instructions

abbrev pub opcode_fits : FileInstruction → Bool
opcode_fits i = below (2 ^ 16) i.opcode

instruction_opcode : (n : Option (List ℕ)) (o : Option (Option ℕ)) (os : Option (List FileOperand)) (cs : Option (List (List ℕ))) (i : FileInstruction)
    → option_and_then (λ name. option_and_then (λ opcode. option_and_then (λ operands. option_map (λ capabilities. record { name = name; opcode = opcode; operands = operands; capabilities = capabilities }) cs) os) o) n ≡ Some i → o ≡ Some i.opcode
instruction_opcode None o os cs i h = not_some i h
instruction_opcode (Some n) None os cs i h = not_some i h
instruction_opcode (Some n) (Some o) None cs i h = not_some i h
instruction_opcode (Some n) (Some o) (Some os) None i h = not_some i h
instruction_opcode (Some n) (Some o) (Some os) (Some cs) i h = ap (λ (j : FileInstruction). Some j.opcode) (some_same h)

pub instruction_read : (d : Data) (i : FileInstruction) → instruction_of d ≡ Some i → opcode_fits i ≡ true
instruction_read d i h =
    let o = instruction_opcode (text_at (codes "opname") d) (opcode_at d) (operands_at (codes "operands") d) (capabilities_at d) i h in
    let m = map_parts (whole_below (2 ^ 16)) (option_and_then as_number (get (codes "opcode") d)) i.opcode o in
    ap (below (2 ^ 16)) (sym m.gives) ∙ whole_fits (2 ^ 16) m.first

-- ---- kinds

abbrev pub value_is_small : FileEnumerant → Bool
value_is_small e = below (2 ^ 32) e.value

enumerant_value : (n : Option (List ℕ)) (v : Option (Option ℕ)) (ps : Option (List FileOperand)) (cs : Option (List (List ℕ))) (e : FileEnumerant)
    → option_and_then (λ name. option_and_then (λ value. option_and_then (λ parameters. option_map (λ capabilities. record { name = name; value = value; parameters = parameters; capabilities = capabilities }) cs) ps) v) n ≡ Some e → v ≡ Some e.value
enumerant_value None v ps cs e h = not_some e h
enumerant_value (Some n) None ps cs e h = not_some e h
enumerant_value (Some n) (Some v) None cs e h = not_some e h
enumerant_value (Some n) (Some v) (Some ps) None e h = not_some e h
enumerant_value (Some n) (Some v) (Some ps) (Some cs) e h = ap (λ (j : FileEnumerant). Some j.value) (some_same h)

enumerant_read : (c : Category) (d : Data) (e : FileEnumerant) → enumerant_in c d ≡ Some e → value_is_small e ≡ true
enumerant_read c d e h =
    let v = enumerant_value (text_at (codes "enumerant") d) (value_at c d) (operands_at (codes "parameters") d) (capabilities_at d) e h in
    let t = then_parts (value_in c) (get (codes "value") d) e.value v in
    value_fits c t.first e.value t.gives

abbrev pub is_none : {A : Type 0} → List A → Bool
is_none [] = true
is_none (x ∷ xs) = false

-- of enumerants and bases there are those that the category reads
abbrev pub owns : Option Category → Bool → Bool → Bool
owns (Some category.BitEnum) es bs = bs
owns (Some category.ValueEnum) es bs = bs
owns (Some category.Composite) es bs = es
owns (Some category.Id) es bs = es && bs
owns (Some category.Literal) es bs = es && bs
owns None es bs = es && bs

abbrev pub is_read : FileKind → Bool
is_read k = list_all value_is_small k.enumerants && owns k.category (is_none k.enumerants) (is_none k.bases)

enumerants_small : (c : Category) (o : Option Items) (es : List FileEnumerant) → option_and_then (each (enumerant_in c)) o ≡ Some es → list_all value_is_small es ≡ true
enumerants_small c o es h = let t = then_parts (each (enumerant_in c)) o es h in each_passes (enumerant_in c) value_is_small (enumerant_read c) t.first es t.gives

no_small : (es : List FileEnumerant) → Some [] ≡ Some es → list_all value_is_small es ≡ true
no_small es h = ap (list_all value_is_small) (sym (some_same h))

all_small : (c : Option Category) (d : Data) (es : List FileEnumerant) → enumerants_at c d ≡ Some es → list_all value_is_small es ≡ true
all_small (Some category.BitEnum) d es h = enumerants_small category.BitEnum (items_at (codes "enumerants") d) es h
all_small (Some category.ValueEnum) d es h = enumerants_small category.ValueEnum (items_at (codes "enumerants") d) es h
all_small (Some category.Composite) d es h = no_small es h
all_small (Some category.Id) d es h = no_small es h
all_small (Some category.Literal) d es h = no_small es h
all_small None d es h = no_small es h

none_is : {A : Type 0} (xs : List A) → Some [] ≡ Some xs → is_none xs ≡ true
none_is xs h = ap is_none (sym (some_same h))

own_parts : (c : Option Category) (d : Data) (es : List FileEnumerant) (bs : List (List ℕ)) → enumerants_at c d ≡ Some es → bases_at c d ≡ Some bs → owns c (is_none es) (is_none bs) ≡ true
own_parts (Some category.BitEnum) d es bs e b = none_is bs b
own_parts (Some category.ValueEnum) d es bs e b = none_is bs b
own_parts (Some category.Composite) d es bs e b = none_is es e
own_parts (Some category.Id) d es bs e b = and_both (is_none es) (is_none bs) (none_is es e) (none_is bs b)
own_parts (Some category.Literal) d es bs e b = and_both (is_none es) (is_none bs) (none_is es e) (none_is bs b)
own_parts None d es bs e b = and_both (is_none es) (is_none bs) (none_is es e) (none_is bs b)

kind_split : (c : Option Category) (d : Data) (n : Option (List ℕ)) (es : Option (List FileEnumerant)) (bs : Option (List (List ℕ))) (k : FileKind) → enumerants_at c d ≡ es → bases_at c d ≡ bs
    → option_and_then (λ name. option_and_then (λ enumerants. option_map (λ bases. record { name = name; category = c; enumerants = enumerants; bases = bases }) bs) es) n ≡ Some k → is_read k ≡ true
kind_split c d None es bs k e b h = not_some k h
kind_split c d (Some n) None bs k e b h = not_some k h
kind_split c d (Some n) (Some es) None k e b h = not_some k h
kind_split c d (Some n) (Some es) (Some bs) k e b h =
    ap is_read (sym (some_same h)) ∙ and_both (list_all value_is_small es) (owns c (is_none es) (is_none bs)) (all_small c d es e) (own_parts c d es bs e b)

pub kind_read : (d : Data) (k : FileKind) → kind_in d ≡ Some k → is_read k ≡ true
kind_read d k h =
    let t = then_parts (λ text. kind_with (category_of text) d) (text_at (codes "category") d) k h in
    kind_split (category_of t.first) d (text_at (codes "kind") d) (enumerants_at (category_of t.first) d) (bases_at (category_of t.first) d) k refl refl t.gives

-- ---- a file

pub record IsRead (file : File) : Type 0 where
  pub opcodes : list_all opcode_fits file.instructions ≡ true
  pub kinds : list_all is_read file.kinds ≡ true

pub file_read : (d : Data) (file : File) → file_of d ≡ Some file → IsRead file
file_read d file h =
    let is = option_and_then (each instruction_of) (items_at (codes "instructions") d) in
    let ks = option_and_then (each kind_in) (items_at (codes "operand_kinds") d) in
    let t = then_parts (λ instructions. option_map (λ kinds. record { instructions = instructions; kinds = kinds }) ks) is file h in
    let m = map_parts (λ kinds. record { instructions = t.first; kinds = kinds }) ks file t.gives in
    let i = then_parts (each instruction_of) (items_at (codes "instructions") d) t.first t.is in
    let k = then_parts (each kind_in) (items_at (codes "operand_kinds") d) m.first m.is in
    record {
      opcodes = ap (λ (f : File). list_all opcode_fits f.instructions) (sym m.gives) ∙ each_passes instruction_of opcode_fits instruction_read i.first t.first i.gives;
      kinds = ap (λ (f : File). list_all is_read f.kinds) (sym m.gives) ∙ each_passes kind_in is_read kind_read k.first m.first k.gives;
    }
