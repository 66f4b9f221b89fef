-- What the grammar file of a table holds: the instructions of the file that gave the table, and of its kinds the first of
-- each name, without the enumerants that are dropped. It breaks nothing, and gives the same table.
use Rattle.std.proofs.Common.{◌≡◌, ◌∙◌, ℕ, Bool, true, false, not, ◌&&◌, ◌||◌, if◌then◌else◌, List, [], ◌∷◌, map, Option, Some, None, option_map, option_and_then, is_some, nat_le, count_by, bytes_eq, codes, refl, sym, ap, subst}
use Rattle.std.specs.List.{list_all, filter}
use Rattle.std.proofs.lemmas.Slice.Eq.{bytes_eq-Decides}
use Rattle.spv_table.specs.declared.table.Category.{Category}
use Rattle.spv_table.specs.declared.table.Category.TheVariants as category
use Rattle.spv_table.specs.declared.table.Item.{Item}
use Rattle.spv_table.specs.declared.table.Entry.{Entry}
use Rattle.spv_table.specs.declared.table.Enumerant.{Enumerant}
use Rattle.spv_table.specs.Table.{Table, Sort}
use Rattle.spv_grammar.specs.declared.error.GrammarError.TheVariants.{J3, J4, J5, J6, J7}
use Rattle.spv_grammar.specs.declared.file.FileOperand.{FileOperand}
use Rattle.spv_grammar.specs.declared.file.FileInstruction.{FileInstruction}
use Rattle.spv_grammar.specs.declared.file.FileEnumerant.{FileEnumerant}
use Rattle.spv_grammar.specs.declared.file.FileKind.{FileKind}
use Rattle.spv_grammar.specs.declared.file.File.{File}
use Rattle.spv_grammar.specs.Kinds.{first_kinds, number_in, kind_named, bears, is_result, is_part, is_id}
use Rattle.spv_grammar.specs.Rules.{has_opcodes, has_values, are_named, names_kinds, have_named, are_kinds, are_quantified, have_quantified, is_known_kind, is_one, places_results, has_no_results, are_no_results, composes, is_composed, has_numbers, has_kinds, is_known, has_results, has_bases}
use Rattle.spv_grammar.specs.Made.{all_of, is_kept, IsTable}
use Rattle.spv_grammar.specs.Answer.{file_breaks}
use Rattle.spv_grammar.proofs.Whole.{and_left, and_right, and_both, all_kept, all_firsts, Kept, rules_kept}
use Rattle.spv_grammar.proofs.Elements.{place_made}

-- ---- filters

module _ {A : Type 0} where
  twice_step : (q : A → Bool) (x : A) (xs : List A) (b : Bool) → q x ≡ b → filter q (filter q xs) ≡ filter q xs → filter q (filter q (x ∷ xs)) ≡ filter q (x ∷ xs)
  twice_step q x xs true e h = rw (e, e) (ap (λ (l : List A). x ∷ l) h)
  twice_step q x xs false e h = rw e h

  pub filter_twice : (q : A → Bool) (xs : List A) → filter q (filter q xs) ≡ filter q xs
  filter_twice q [] = refl
  filter_twice q (x ∷ xs) = twice_step q x xs (q x) refl (filter_twice q xs)

  swap_step : (p q : A → Bool) (x : A) (xs : List A) (b c : Bool) → p x ≡ b → q x ≡ c → filter p (filter q xs) ≡ filter q (filter p xs) → filter p (filter q (x ∷ xs)) ≡ filter q (filter p (x ∷ xs))
  swap_step p q x xs true true f e h = rw (e, f, e) (ap (λ (l : List A). x ∷ l) h)
  swap_step p q x xs true false f e h = rw (e, f, e) h
  swap_step p q x xs false true f e h = rw (e, f) h
  swap_step p q x xs false false f e h = rw (e, f) h

  pub filter_swap : (p q : A → Bool) (xs : List A) → filter p (filter q xs) ≡ filter q (filter p xs)
  filter_swap p q [] = refl
  filter_swap p q (x ∷ xs) = swap_step p q x xs (p x) (q x) refl refl (filter_swap p q xs)

-- ---- each name once

abbrev pub other : List ℕ → FileKind → Bool
other name k = not (bears name k)

apart_step : (name : List ℕ) (k : FileKind) (ks : List FileKind) (b : Bool) → bears name k ≡ b → first_kinds (filter (other name) ks) ≡ filter (other name) (first_kinds ks)
    → first_kinds (filter (other name) (k ∷ ks)) ≡ filter (other name) (first_kinds (k ∷ ks))
apart_step name k ks false e h = rw e (ap (λ (l : List FileKind). k ∷ l) (ap (filter (other k.name)) h ∙ filter_swap (other k.name) (other name) (first_kinds ks)))
apart_step name k ks true e h =
    let same : name ≡ k.name = (bytes_eq-Decides name k.name).0 e in
    let twice : filter (other name) (filter (other k.name) (first_kinds ks)) ≡ filter (other name) (first_kinds ks) =
    ap (λ (n : List ℕ). filter (other name) (filter (other n) (first_kinds ks))) (sym same) ∙ filter_twice (other name) (first_kinds ks) in
    rw e (h ∙ sym twice)

apart : (name : List ℕ) (ks : List FileKind) → first_kinds (filter (other name) ks) ≡ filter (other name) (first_kinds ks)
apart name [] = refl
apart name (k ∷ ks) = apart_step name k ks (bears name k) refl (apart name ks)

firsts_twice : (ks : List FileKind) → first_kinds (first_kinds ks) ≡ first_kinds ks
firsts_twice [] = refl
firsts_twice (k ∷ ks) =
    ap (λ (l : List FileKind). k ∷ l)
    (ap (filter (other k.name)) (apart k.name (first_kinds ks)) ∙ filter_twice (other k.name) (first_kinds (first_kinds ks)) ∙ ap (filter (other k.name)) (firsts_twice ks))

-- ---- a kind without the enumerants that are dropped

abbrev pub trim : FileKind → FileKind
trim k = record { name = k.name; category = k.category; enumerants = filter (is_kept k.category) k.enumerants; bases = k.bases }

abbrev pub trimmed : File → File
trimmed file = record { instructions = file.instructions; kinds = map trim (first_kinds file.kinds) }

filter_trim_step : (name : List ℕ) (k : FileKind) (ks : List FileKind) (b : Bool) → bytes_eq name k.name ≡ b → filter (other name) (map trim ks) ≡ map trim (filter (other name) ks)
    → filter (other name) (map trim (k ∷ ks)) ≡ map trim (filter (other name) (k ∷ ks))
filter_trim_step name k ks true e h = rw e h
filter_trim_step name k ks false e h = rw e (ap (λ (l : List FileKind). trim k ∷ l) h)

filter_trim : (name : List ℕ) (ks : List FileKind) → filter (other name) (map trim ks) ≡ map trim (filter (other name) ks)
filter_trim name [] = refl
filter_trim name (k ∷ ks) = filter_trim_step name k ks (bytes_eq name k.name) refl (filter_trim name ks)

firsts_trim : (ks : List FileKind) → first_kinds (map trim ks) ≡ map trim (first_kinds ks)
firsts_trim [] = refl
firsts_trim (k ∷ ks) = ap (λ (l : List FileKind). trim k ∷ l) (ap (filter (other k.name)) (firsts_trim ks) ∙ filter_trim k.name (first_kinds ks))

-- each name stands once already
pub same_firsts : (ks : List FileKind) → first_kinds (map trim (first_kinds ks)) ≡ map trim (first_kinds ks)
same_firsts ks = firsts_trim (first_kinds ks) ∙ ap (map trim) (firsts_twice ks)

all_trim : (ks : List FileKind) → all_of (λ (k : FileKind). Some (trim k)) ks ≡ Some (map trim ks)
all_trim [] = refl
all_trim (k ∷ ks) = ap (option_map (λ (l : List FileKind). trim k ∷ l)) (all_trim ks)

abbrev name_in : Option FileKind → List ℕ
name_in None = []
name_in (Some k) = k.name

trim_made : (name : List ℕ) (k l : FileKind) → Some (trim k) ≡ Some l → bears name l ≡ bears name k
trim_made name k l h = ap (λ (o : Option FileKind). bytes_eq name (name_in o)) (sym h)

number_trim : (ks : List FileKind) (name : List ℕ) → number_in (map trim ks) name ≡ number_in ks name
number_trim ks name = place_made (λ (k : FileKind). Some (trim k)) (bears name) (bears name) (trim_made name) ks (map trim ks) (all_trim ks)

find_step : (name : List ℕ) (k : FileKind) (ks : List FileKind) (b : Bool) → bytes_eq name k.name ≡ b → kind_named (map trim ks) name ≡ option_map trim (kind_named ks name)
    → kind_named (map trim (k ∷ ks)) name ≡ option_map trim (kind_named (k ∷ ks) name)
find_step name k ks true e h = rw e refl
find_step name k ks false e h = rw e h

find_trim : (ks : List FileKind) (name : List ℕ) → kind_named (map trim ks) name ≡ option_map trim (kind_named ks name)
find_trim [] name = refl
find_trim (k ∷ ks) name = find_step name k ks (bytes_eq name k.name) refl (find_trim ks name)

id_trim : (o : Option FileKind) → is_id (option_map trim o) ≡ is_id o
id_trim None = refl
id_trim (Some k) = refl

part_trim : (o : Option FileKind) → is_part (option_map trim o) ≡ is_part o
part_trim None = refl
part_trim (Some k) = refl

-- ---- what rules ask of kinds by their names is the same

abbrev pub is_part_named : List FileKind → List ℕ → Bool
is_part_named ks name = is_part (kind_named ks name)

pub record Same (xs ks : List FileKind) : Type 0 where
  pub numbers : number_in xs ≡ number_in ks
  pub results : is_result xs ≡ is_result ks
  pub parts : is_part_named xs ≡ is_part_named ks

trim_same : (ks : List FileKind) → Same (map trim ks) ks
trim_same ks = record {
  numbers = λ i name. number_trim ks name i;
  results = λ i name. (bytes_eq name (codes "IdResultType") || bytes_eq name (codes "IdResult")) && (ap is_id (find_trim ks name) ∙ id_trim (kind_named ks name)) i;
  parts = λ i name. (ap is_part (find_trim ks name) ∙ part_trim (kind_named ks name)) i;
}

pub file_same : (ks : List FileKind) → Same (first_kinds (map trim (first_kinds ks))) (first_kinds ks)
file_same ks =
    let P : List FileKind → Type 0 = λ xs. Same xs (first_kinds ks) in
    subst P (sym (same_firsts ks)) (trim_same (first_kinds ks))

-- ---- the rules

all_over : (p q : FileKind → Bool) → ((k : FileKind) → p k ≡ true → q (trim k) ≡ true) → (ks : List FileKind) → list_all p ks ≡ true → list_all q (map trim ks) ≡ true
all_over p q each [] h = refl
all_over p q each (k ∷ ks) h = and_both (q (trim k)) (list_all q (map trim ks)) (each k (and_left (p k) (list_all p ks) h)) (all_over p q each ks (and_right (p k) (list_all p ks) h))

over_firsts : (p q : FileKind → Bool) → ((k : FileKind) → p k ≡ true → q (trim k) ≡ true) → (ks : List FileKind) → list_all p ks ≡ true → list_all q (map trim (first_kinds ks)) ≡ true
over_firsts p q each ks h = all_over p q each (first_kinds ks) (all_firsts p ks h)

abbrev named_by : (List ℕ → Option ℕ) → List FileOperand → Bool
named_by number operands = list_all (λ (o : FileOperand). is_some (number o.kind)) operands

abbrev kinds_by : (List ℕ → Option ℕ) → FileKind → Bool
kinds_by number k = list_all (λ (e : FileEnumerant). named_by number e.parameters) k.enumerants && list_all (λ (name : List ℕ). is_some (number name)) k.bases

abbrev places_by : (List ℕ → Bool) → List FileOperand → Bool
places_by result operands =
    nat_le (count_by (λ (o : FileOperand). bytes_eq o.kind (codes "IdResultType") && result o.kind) operands) 1 && nat_le (count_by (λ (o : FileOperand). bytes_eq o.kind (codes "IdResult") && result o.kind) operands) 1 && list_all
    (λ (o : FileOperand). not (result o.kind) || is_one o.quantifier) operands

abbrev free_by : (List ℕ → Bool) → FileKind → Bool
free_by result k =
    list_all (λ (e : FileEnumerant). list_all (λ (o : FileOperand). not (result o.kind)) e.parameters) k.enumerants && list_all (λ (name : List ℕ). not (result name)) k.bases

composed_same : (xs ks : List FileKind) → Same xs ks → (c : Option Category) (names : List (List ℕ)) → composes xs c names ≡ composes ks c names
composed_same xs ks s (Some category.Composite) [] = refl
composed_same xs ks s (Some category.Composite) (n ∷ ns) = ap (λ (part : List ℕ → Bool). list_all part (n ∷ ns)) s.parts
composed_same xs ks s (Some category.BitEnum) names = refl
composed_same xs ks s (Some category.ValueEnum) names = refl
composed_same xs ks s (Some category.Id) names = refl
composed_same xs ks s (Some category.Literal) names = refl
composed_same xs ks s None names = refl

none_broken : (a b c d e : Bool) → a ≡ true → b ≡ true → c ≡ true → d ≡ true → e ≡ true
    → (if a then (if b then (if c then (if d then (if e then None else Some J7) else Some J6) else Some J5) else Some J4) else Some J3) ≡ None
none_broken a b c d e p q r s t = rw (p, q, r, s, t) refl

module _ (file : File) (unbroken : file_breaks file ≡ None) where
  abbrev firsts : List FileKind
  firsts = first_kinds file.kinds

  abbrev again : List FileKind
  again = first_kinds (map trim (first_kinds file.kinds))

  kept : Kept (has_numbers file) (has_kinds (first_kinds file.kinds) file) (is_known file) (has_results (first_kinds file.kinds) file) (has_bases (first_kinds file.kinds) file)
  kept = rules_kept file (first_kinds file.kinds) refl unbroken

  numbers_again : has_numbers (trimmed file) ≡ true
  numbers_again =
      and_both (has_opcodes file.instructions) (list_all has_values (map trim firsts)) (and_left (has_opcodes file.instructions) (list_all has_values file.kinds) kept.numbers)
      (over_firsts has_values has_values (λ k h. all_kept (λ (e : FileEnumerant). is_some e.value) (is_kept k.category) k.enumerants h) file.kinds
      (and_right (has_opcodes file.instructions) (list_all has_values file.kinds) kept.numbers))

  named_trim : (k : FileKind) → names_kinds firsts k ≡ true → names_kinds firsts (trim k) ≡ true
  named_trim k h =
      and_both (have_named firsts (filter (is_kept k.category) k.enumerants)) (are_kinds firsts k.bases)
      (all_kept (λ (e : FileEnumerant). are_named firsts e.parameters) (is_kept k.category) k.enumerants (and_left (have_named firsts k.enumerants) (are_kinds firsts k.bases) h))
      (and_right (have_named firsts k.enumerants) (are_kinds firsts k.bases) h)

  kinds_again : has_kinds again (trimmed file) ≡ true
  kinds_again =
      let s = file_same file.kinds in
      and_both (list_all (λ (i : FileInstruction). are_named again i.operands) file.instructions) (list_all (names_kinds again) (map trim firsts))
      (ap (λ (number : List ℕ → Option ℕ). list_all (λ (i : FileInstruction). named_by number i.operands) file.instructions) s.numbers
      ∙ and_left (list_all (λ (i : FileInstruction). are_named firsts i.operands) file.instructions) (list_all (names_kinds firsts) file.kinds) kept.kinds)
      (ap (λ (number : List ℕ → Option ℕ). list_all (kinds_by number) (map trim firsts)) s.numbers
      ∙ over_firsts (names_kinds firsts) (names_kinds firsts) named_trim file.kinds
      (and_right (list_all (λ (i : FileInstruction). are_named firsts i.operands) file.instructions) (list_all (names_kinds firsts) file.kinds) kept.kinds))

  known_trim : (k : FileKind) → is_known_kind k ≡ true → is_known_kind (trim k) ≡ true
  known_trim k h =
      and_both (is_some k.category) (have_quantified (filter (is_kept k.category) k.enumerants)) (and_left (is_some k.category) (have_quantified k.enumerants) h)
      (all_kept (λ (e : FileEnumerant). are_quantified e.parameters) (is_kept k.category) k.enumerants (and_right (is_some k.category) (have_quantified k.enumerants) h))

  known_again : is_known (trimmed file) ≡ true
  known_again =
      and_both (list_all (λ (i : FileInstruction). are_quantified i.operands) file.instructions) (list_all is_known_kind (map trim firsts))
      (and_left (list_all (λ (i : FileInstruction). are_quantified i.operands) file.instructions) (list_all is_known_kind file.kinds) kept.known)
      (over_firsts is_known_kind is_known_kind known_trim file.kinds
      (and_right (list_all (λ (i : FileInstruction). are_quantified i.operands) file.instructions) (list_all is_known_kind file.kinds) kept.known))

  free_trim : (k : FileKind) → has_no_results firsts k ≡ true → has_no_results firsts (trim k) ≡ true
  free_trim k h =
      let parameters = λ (es : List FileEnumerant). list_all (λ (e : FileEnumerant). are_no_results firsts e.parameters) es in
      let bases = list_all (λ (name : List ℕ). not (is_result firsts name)) k.bases in
      and_both (parameters (filter (is_kept k.category) k.enumerants)) bases
      (all_kept (λ (e : FileEnumerant). are_no_results firsts e.parameters) (is_kept k.category) k.enumerants (and_left (parameters k.enumerants) bases h))
      (and_right (parameters k.enumerants) bases h)

  results_again : has_results again (trimmed file) ≡ true
  results_again =
      let s = file_same file.kinds in
      and_both (list_all (λ (i : FileInstruction). places_results again i.operands) file.instructions) (list_all (has_no_results again) (map trim firsts))
      (ap (λ (result : List ℕ → Bool). list_all (λ (i : FileInstruction). places_by result i.operands) file.instructions) s.results
      ∙ and_left (list_all (λ (i : FileInstruction). places_results firsts i.operands) file.instructions) (list_all (has_no_results firsts) file.kinds) kept.results)
      (ap (λ (result : List ℕ → Bool). list_all (free_by result) (map trim firsts)) s.results
      ∙ over_firsts (has_no_results firsts) (has_no_results firsts) free_trim file.kinds
      (and_right (list_all (λ (i : FileInstruction). places_results firsts i.operands) file.instructions) (list_all (has_no_results firsts) file.kinds) kept.results))

  bases_again : has_bases again (trimmed file) ≡ true
  bases_again =
      over_firsts (is_composed firsts) (is_composed again) (λ k h. composed_same again firsts (file_same file.kinds) k.category k.bases ∙ h) file.kinds kept.bases

  pub unbroken_again : file_breaks (trimmed file) ≡ None
  unbroken_again =
      none_broken (has_numbers (trimmed file)) (has_kinds again (trimmed file)) (is_known (trimmed file)) (has_results again (trimmed file)) (has_bases again (trimmed file))
      numbers_again kinds_again known_again results_again bases_again

-- ---- the table

abbrev item_by : (List ℕ → Option ℕ) → FileOperand → Option Item
item_by number o = option_and_then (λ k. option_map (λ q. record { kind = k; quantifier = q }) o.quantifier) (number o.kind)

abbrev entry_by : (List ℕ → Option ℕ) → FileInstruction → Option (ℕ × Entry)
entry_by number i =
    option_and_then (λ opcode. option_map (λ items. (opcode, record { name = i.name; operands = items; capabilities = i.capabilities })) (all_of (item_by number) i.operands)) i.opcode

abbrev enumerant_by : (List ℕ → Option ℕ) → FileEnumerant → Option Enumerant
enumerant_by number e =
    option_and_then (λ value. option_map (λ kinds. record { name = e.name; value = value; parameters = kinds; capabilities = e.capabilities }) (all_of (λ (o : FileOperand). number o.kind) e.parameters)) e.value

abbrev sort_with : (List ℕ → Option ℕ) → FileKind → List FileEnumerant → Option Sort
sort_with number k es =
    option_and_then
    (λ c. option_and_then (λ bases. option_map (λ found. record { kind = record { name = k.name; category = c; bases = bases }; enumerants = found }) (all_of (enumerant_by number) es)) (all_of number k.bases)) k.category

abbrev sort_by : (List ℕ → Option ℕ) → FileKind → Option Sort
sort_by number k = sort_with number k (filter (is_kept k.category) k.enumerants)

sorts_trim : (number : List ℕ → Option ℕ) (ks : List FileKind) → all_of (sort_by number) (map trim ks) ≡ all_of (sort_by number) ks
sorts_trim number [] = refl
sorts_trim number (k ∷ ks) =
    ap (λ (s : Option Sort). option_and_then (λ b. option_map (λ bs. b ∷ bs) (all_of (sort_by number) (map trim ks))) s) (ap (sort_with number k) (filter_twice (is_kept k.category) k.enumerants))
    ∙ ap (λ (ss : Option (List Sort)). option_and_then (λ b. option_map (λ bs. b ∷ bs) ss) (sort_by number k)) (sorts_trim number ks)

pub table_again : (file : File) (G : Table) → IsTable file G → IsTable (trimmed file) G
table_again file G t =
    let s = file_same file.kinds in
    let xs = first_kinds (map trim (first_kinds file.kinds)) in
    record {
      entries = ap (λ (number : List ℕ → Option ℕ). all_of (entry_by number) file.instructions) s.numbers ∙ t.entries;
      kinds =
          ap (λ (ks : List FileKind). all_of (sort_by (number_in xs)) ks) (same_firsts file.kinds)
          ∙ ap (λ (number : List ℕ → Option ℕ). all_of (sort_by number) (map trim (first_kinds file.kinds))) s.numbers
          ∙ sorts_trim (number_in (first_kinds file.kinds)) (first_kinds file.kinds)
          ∙ t.kinds;
    }
