-- In a table that a grammar file gives, no result kind stands among parameters or bases: rule J6.
use Rattle.std.proofs.Common.{◌≡◌, ◌∙◌, ℕ, Bool, true, false, not, ◌&&◌, ◌||◌, List, [], ◌∷◌, Option, Some, None, option_map, option_and_then, slice_get, length, nat_lt, ◌<◌, ◌^◌, bytes_eq, codes, refl, sym, ap, true≢false}
use Rattle.std.specs.List.{list_all, filter, find, position_or_len}
use Rattle.std.proofs.lemmas.Slice.Eq.{bytes_eq-Decides}
use Rattle.spv_table.specs.declared.table.Category.{Category}
use Rattle.spv_table.specs.declared.table.Category.TheVariants as category
use Rattle.spv_table.specs.declared.table.Enumerant.{Enumerant}
use Rattle.spv_grammar.specs.declared.file.FileOperand.{FileOperand}
use Rattle.spv_grammar.specs.declared.file.FileEnumerant.{FileEnumerant}
use Rattle.spv_grammar.specs.declared.file.FileKind.{FileKind}
use Rattle.spv_grammar.specs.declared.file.File.{File}
use Rattle.spv_table.specs.Table.{Table, Sort}
use Rattle.spv_grammar.specs.Kinds.{first_kinds, number_in, bears, is_id_category, is_result}
use Rattle.spv_grammar.specs.Kinds as kinds
use Rattle.spv_grammar.specs.Rules.{has_no_results, are_no_results, places_results}
use Rattle.spv_grammar.specs.Made.{all_of, parameter_of, enumerant_from, is_kept, sort_from}
use Rattle.spv_grammar.specs.Answer.{IsGiven, file_breaks}
use Rattle.spv_grammar.proofs.Whole.{and_left, and_right, and_both, all_kept, all_firsts, some_same, not_some, parts_of, all_follow, next_of, place_is, rules_kept, file_whole}
use Rattle.spv_table.specs.Table.{is_id, is_other_sort, is_other, has_other_parts, IsWhole}

-- ---- what is made of a kind and of an enumerant

record SortMade (firsts : List FileKind) (k : FileKind) (s : Sort) : Type 0 where
  name_is : k.name ≡ s.kind.name
  category_is : k.category ≡ Some s.kind.category
  bases_are : all_of (number_in firsts) k.bases ≡ Some s.kind.bases
  enumerants_are : all_of (enumerant_from firsts) (filter (is_kept k.category) k.enumerants) ≡ Some s.enumerants

sort_split : (firsts : List FileKind) (k : FileKind) (s : Sort) (c : Option Category) (bs : Option (List ℕ)) (es : Option (List Enumerant)) → k.category ≡ c → all_of (number_in firsts) k.bases ≡ bs
    → all_of (enumerant_from firsts) (filter (is_kept k.category) k.enumerants) ≡ es
    → option_and_then (λ c. option_and_then (λ bases. option_map (λ found. record { kind = record { name = k.name; category = c; bases = bases }; enumerants = found }) es) bs) c ≡ Some s → SortMade firsts k s
sort_split firsts k s None bs es e f g h = not_some s h
sort_split firsts k s (Some c) None es e f g h = not_some s h
sort_split firsts k s (Some c) (Some bs) None e f g h = not_some s h
sort_split firsts k s (Some c) (Some bs) (Some es) e f g h =
    let same = some_same h in
    record {
      name_is = ap (λ (t : Sort). t.kind.name) same;
      category_is = e ∙ ap (λ (t : Sort). Some t.kind.category) same;
      bases_are = f ∙ ap (λ (t : Sort). Some t.kind.bases) same;
      enumerants_are = g ∙ ap (λ (t : Sort). Some t.enumerants) same;
    }

sort_made : (firsts : List FileKind) (k : FileKind) (s : Sort) → sort_from firsts k ≡ Some s → SortMade firsts k s
sort_made firsts k s h = sort_split firsts k s k.category (all_of (number_in firsts) k.bases) (all_of (enumerant_from firsts) (filter (is_kept k.category) k.enumerants)) refl refl refl h

enumerant_split : (firsts : List FileKind) (e : FileEnumerant) (f : Enumerant) (v : Option ℕ) (ps : Option (List ℕ)) → all_of (parameter_of firsts) e.parameters ≡ ps
    → option_and_then (λ value. option_map (λ kinds. record { name = e.name; value = value; parameters = kinds; capabilities = e.capabilities }) ps) v ≡ Some f → all_of (parameter_of firsts) e.parameters ≡ Some f.parameters
enumerant_split firsts e f None ps g h = not_some f h
enumerant_split firsts e f (Some v) None g h = not_some f h
enumerant_split firsts e f (Some v) (Some ps) g h = g ∙ ap (λ (t : Enumerant). Some t.parameters) (some_same h)

parameters_made : (firsts : List FileKind) (e : FileEnumerant) (f : Enumerant) → enumerant_from firsts e ≡ Some f → all_of (parameter_of firsts) e.parameters ≡ Some f.parameters
parameters_made firsts e f h = enumerant_split firsts e f e.value (all_of (parameter_of firsts) e.parameters) refl h

-- ---- a number is that of a result kind only where the name says so

same_id : (c : Category) → is_id c ≡ is_id_category (Some c)
same_id category.Id = refl
same_id category.Literal = refl
same_id category.BitEnum = refl
same_id category.ValueEnum = refl
same_id category.Composite = refl

turned : (a b : Bool) → (b && a) ≡ false → not (a && b) ≡ true
turned true true h = absurd (true≢false h)
turned true false h = refl
turned false b h = refl

only : (a b c : Bool) → not ((a || b) && c) ≡ true → (b && c) ≡ false
only a false c h = refl
only a true false h = refl
only true true true h = absurd (true≢false (sym h))
only false true true h = absurd (true≢false (sym h))

-- whether a kind that a name means is that of a result
abbrev names_result : List ℕ → Option FileKind → Bool
names_result name o = bytes_eq name (codes "IdResult") && kinds.is_id o

first_other : (firsts : List FileKind) (name : List ℕ) (k : FileKind) (s : Sort) → SortMade firsts k s → bears name k ≡ true → names_result name (Some k) ≡ false → is_other_sort (Some s) ≡ true
first_other firsts name k s m e r =
    let same : name ≡ s.kind.name = (bytes_eq-Decides name k.name).0 e ∙ m.name_is in
    let other : (bytes_eq s.kind.name (codes "IdResult") && is_id_category (Some s.kind.category)) ≡ false =
    ap (λ (l : List ℕ). bytes_eq l (codes "IdResult") && is_id_category (Some s.kind.category)) (sym same)
    ∙ (ap (λ (c : Option Category). bytes_eq name (codes "IdResult") && is_id_category c) (sym m.category_is) ∙ r) in
    ap (λ (b : Bool). not (b && bytes_eq s.kind.name (codes "IdResult"))) (same_id s.kind.category)
    ∙ turned (is_id_category (Some s.kind.category)) (bytes_eq s.kind.name (codes "IdResult")) other

found_step : (name : List ℕ) (p : FileKind → Bool) (k : FileKind) (ks : List FileKind) (s : Sort) (ss : List Sort) (b : Bool) → p k ≡ b → (b ≡ true → names_result name (Some k) ≡ false → is_other_sort (Some s) ≡ true)
    → (names_result name (find p ks) ≡ false → is_other_sort (slice_get ss (position_or_len p ks)) ≡ true) → names_result name (find p (k ∷ ks)) ≡ false → is_other_sort (slice_get (s ∷ ss) (position_or_len p (k ∷ ks))) ≡ true
found_step name p k ks s ss true e first rest r = rw e (first refl (rw e at r))
found_step name p k ks s ss false e first rest r = rw e (ap is_other_sort (next_of s ss (position_or_len p ks)) ∙ rest (rw e at r))

found_other : (firsts : List FileKind) (name : List ℕ) (p : FileKind → Bool) → ((k : FileKind) → p k ≡ true → bears name k ≡ true) → (ks : List FileKind) (ss : List Sort) → all_of (sort_from firsts) ks ≡ Some ss
    → names_result name (find p ks) ≡ false → is_other_sort (slice_get ss (position_or_len p ks)) ≡ true
found_other firsts name p bearer [] ss h r = ap (λ (l : List Sort). is_other_sort (slice_get l 0)) (sym (some_same h))
found_other firsts name p bearer (k ∷ ks) ss h r =
    let m = parts_of (sort_from firsts) k ks ss h in
    ap (λ (l : List Sort). is_other_sort (slice_get l (position_or_len p (k ∷ ks)))) (sym m.all_is)
    ∙ found_step name p k ks m.first m.rest (p k) refl (λ e. first_other firsts name k m.first (sort_made firsts k m.first m.first_is) (bearer k e)) (found_other firsts name p bearer ks m.rest m.rest_is) r

module _ (firsts : List FileKind) (G : Table) (made : all_of (sort_from firsts) firsts ≡ Some G.kinds) where
  number_other : (name : List ℕ) (n : ℕ) → number_in firsts name ≡ Some n → not (is_result firsts name) ≡ true → is_other G n ≡ true
  number_other name n number other =
      let place : position_or_len (bears name) firsts ≡ n = place_is (nat_lt (position_or_len (bears name) firsts) (length firsts)) (position_or_len (bears name) firsts) n number in
      let none : names_result name (find (bears name) firsts) ≡ false = only (bytes_eq name (codes "IdResultType")) (bytes_eq name (codes "IdResult")) (kinds.is_id (find (bears name) firsts)) other in
      ap (λ (m : ℕ). is_other_sort (slice_get G.kinds m)) (sym place)
      ∙ found_other firsts name (bears name) (λ k e. e) firsts G.kinds made none

  parameters_other : (e : FileEnumerant) (f : Enumerant) → enumerant_from firsts e ≡ Some f → are_no_results firsts e.parameters ≡ true → list_all (is_other G) f.parameters ≡ true
  parameters_other e f h none =
      all_follow (parameter_of firsts) (λ (o : FileOperand). not (is_result firsts o.kind)) (is_other G) (λ o n number other. number_other o.kind n number other) e.parameters f.parameters (parameters_made firsts e f h) none

  sort_other : (k : FileKind) (s : Sort) → sort_from firsts k ≡ Some s → has_no_results firsts k ≡ true → has_other_parts G s ≡ true
  sort_other k s h none =
      let m = sort_made firsts k s h in
      let parameters = and_left (list_all (λ (e : FileEnumerant). are_no_results firsts e.parameters) k.enumerants) (list_all (λ (name : List ℕ). not (is_result firsts name)) k.bases) none in
      let bases = and_right (list_all (λ (e : FileEnumerant). are_no_results firsts e.parameters) k.enumerants) (list_all (λ (name : List ℕ). not (is_result firsts name)) k.bases) none in
      and_both (list_all (λ (e : Enumerant). list_all (is_other G) e.parameters) s.enumerants) (list_all (is_other G) s.kind.bases)
      (all_follow (enumerant_from firsts) (λ (e : FileEnumerant). are_no_results firsts e.parameters) (λ (f : Enumerant). list_all (is_other G) f.parameters) parameters_other
      (filter (is_kept k.category) k.enumerants) s.enumerants m.enumerants_are (all_kept (λ (e : FileEnumerant). are_no_results firsts e.parameters) (is_kept k.category) k.enumerants parameters))
      (all_follow (number_in firsts) (λ (name : List ℕ). not (is_result firsts name)) (is_other G) number_other k.bases s.kind.bases m.bases_are bases)

kinds_apart : (file : File) (G : Table) → file_breaks file ≡ None → all_of (sort_from (first_kinds file.kinds)) (first_kinds file.kinds) ≡ Some G.kinds → list_all (has_other_parts G) G.kinds ≡ true
kinds_apart file G unbroken made =
    let firsts = first_kinds file.kinds in
    let kept = rules_kept file firsts refl unbroken in
    let none = and_right (list_all (λ i. places_results firsts i.operands) file.instructions) (list_all (has_no_results firsts) file.kinds) kept.results in
    all_follow (sort_from firsts) (has_no_results firsts) (has_other_parts G) (sort_other firsts G made) firsts G.kinds made (all_firsts (has_no_results firsts) file.kinds none)

-- the table that an unbroken file makes is whole
pub made_whole : (file : File) (firsts : List FileKind) (G : Table) → firsts ≡ first_kinds file.kinds → file_breaks file ≡ None → all_of (sort_from firsts) firsts ≡ Some G.kinds → length firsts < 2 ^ 32 → IsWhole G
made_whole file firsts G numbered unbroken made few =
    let based = file_whole file firsts numbered unbroken G made few in
    record {
      sound = based.sound;
      count = based.count;
      apart = kinds_apart file G unbroken (ap (λ (ks : List FileKind). all_of (sort_from ks) ks) (sym numbered) ∙ made);
    }

pub given_apart : (G : Table) → IsGiven G → list_all (has_other_parts G) G.kinds ≡ true
given_apart G given = let g = given.1 in kinds_apart g.file G g.unbroken g.table.kinds
