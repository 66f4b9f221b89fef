-- What a node is, in the code and in the contracts.
use Rattle.std.proofs.Common.{◌≡◌, ℕ, zero, suc, ◌+◌, true, true≢false, List, [], ◌∷◌, drop, slice_get, Bor, Option, Some, None, option_map, option_and_then, is_some, refl, sym, ap, ◌∙◌, arith}
use Rattle.serde_json.specs.Data as serde
use Rattle.serde_json.specs.Data.{Data, Items, Members, Num}
use Rattle.serde_json.specs.Find.{as_str, as_number, as_array, as_object}
use Rattle.serde_json.specs.View.{items_of}
use Rattle.json_tree.specs.View as seen
use Rattle.json_tree.specs.View.{within, paired, members_of, value_before, values, first_of, view, inside, items_view, members_view}
use Rattle.json_tree.specs.inner.Stored.{content_view}
use Rattle.json_tree.specs.declared.content.Content.{Content}
use Rattle.json_tree.specs.declared.content.Content.TheVariants.{Null, Bool, Number, String, Array, Object}
use Rattle.json_tree.proofs.Values.{Value, Parts}

-- what is seen as a text is one
pub is_string : (c : Content) (key : List ℕ) → content_view c ≡ seen.string key → (s : Bor (List ℕ)) × (c ≡ String s) × (s.now ≡ key)
is_string Null key e = absurd (cc)
is_string (Bool b) key e = absurd (cc)
is_string (Number n) key e = absurd (cc)
is_string (String s) key e = (s, refl, cc)
is_string (Array n) key e = absurd (cc)
is_string (Object n) key e = absurd (cc)

-- the value of a node before others
abbrev pub shown : seen.Content → List seen.Content → Data
shown seen.null rest = serde.null
shown (seen.boolean b) rest = serde.boolean b
shown (seen.number n) rest = serde.number n
shown (seen.string s) rest = serde.string s
shown (seen.array n) rest = serde.array (items_view (rest, n))
shown (seen.object n) rest = serde.object (members_view (rest, n))

abbrev both : {A : Type 0} → Option A → Data → Data → Type 0
both o a b = (is_some o ≡ true) × (a ≡ b)

list_shown : (n : ℕ) (o : Option Parts) → is_some (option_map {U = List Value} (λ s. (n, serde.array (items_of s.0)) ∷ s.1) o) ≡ true
    → both (option_map {U = List Data} (λ s. s.0) o) (first_of (option_map (λ s. (n, serde.array (items_of s.0)) ∷ s.1) o)) (serde.array (items_of (seen.all_or_none (option_map (λ s. s.0) o))))
list_shown n None some = absurd (true≢false (sym some))
list_shown n (Some s) some = (refl, refl)

object_shown : (n : ℕ) (s : Parts) (o : Option (List (List ℕ × Data))) → is_some (option_map {U = List Value} (λ ms. (n, serde.object (members_of ms)) ∷ s.1) o) ≡ true
    → both o (first_of (option_map (λ ms. (n, serde.object (members_of ms)) ∷ s.1) o)) (serde.object (members_of (seen.all_or_none o)))
object_shown n s None some = absurd (true≢false (sym some))
object_shown n s (Some ms) some = (refl, refl)

named_shown : (n : ℕ) (o : Option Parts) → is_some (option_and_then {U = List Value} (λ s. option_map (λ ms. (n, serde.object (members_of ms)) ∷ s.1) (paired s.0)) o) ≡ true
    → both (option_and_then paired (option_map (λ s. s.0) o)) (first_of (option_and_then (λ s. option_map (λ ms. (n, serde.object (members_of ms)) ∷ s.1) (paired s.0)) o))
    (serde.object (members_of (seen.all_or_none (option_and_then paired (option_map (λ s. s.0) o)))))
named_shown n None some = absurd (true≢false (sym some))
named_shown n (Some s) some = object_shown n s (paired s.0) some

array_step : (n : ℕ) (o : Option (List Value)) → is_some (option_and_then (value_before (seen.array n)) o) ≡ true
    → both (option_map {U = List Data} (λ s. s.0) (option_and_then (λ vs. within vs n) o)) (first_of (option_and_then (value_before (seen.array n)) o))
    (serde.array (items_of (seen.all_or_none (option_map (λ s. s.0) (option_and_then (λ vs. within vs n) o)))))
array_step n None some = absurd (true≢false (sym some))
array_step n (Some vs) some = list_shown n (within vs n) some

object_step : (n : ℕ) (o : Option (List Value)) → is_some (option_and_then (value_before (seen.object n)) o) ≡ true
    → both (option_and_then paired (option_map (λ s. s.0) (option_and_then (λ vs. within vs n) o))) (first_of (option_and_then (value_before (seen.object n)) o))
    (serde.object (members_of (seen.all_or_none (option_and_then paired (option_map (λ s. s.0) (option_and_then (λ vs. within vs n) o))))))
object_step n None some = absurd (true≢false (sym some))
object_step n (Some vs) some = named_shown n (within vs n) some

shown_step : (c : seen.Content) (rest : List seen.Content) (o : Option (List Value)) → values rest ≡ o → is_some (option_and_then (value_before c) o) ≡ true → first_of (option_and_then (value_before c) o) ≡ shown c rest
shown_step c rest None is some = absurd (true≢false (sym some))
shown_step seen.null rest (Some vs) is some = refl
shown_step (seen.boolean b) rest (Some vs) is some = refl
shown_step (seen.number n) rest (Some vs) is some = refl
shown_step (seen.string s) rest (Some vs) is some = refl
shown_step (seen.array n) rest (Some vs) is some = (array_step n (Some vs) some).1 ∙ ap (λ o. serde.array (items_of (seen.all_or_none (option_map (λ s. s.0) (option_and_then (λ vs. within vs n) o))))) (sym is)
shown_step (seen.object n) rest (Some vs) is some =
    (object_step n (Some vs) some).1 ∙ ap (λ o. serde.object (members_of (seen.all_or_none (option_and_then paired (option_map (λ s. s.0) (option_and_then (λ vs. within vs n) o)))))) (sym is)

pub view_is : (c : seen.Content) (rest : List seen.Content) → is_some (values (c ∷ rest)) ≡ true → view (c ∷ rest) ≡ shown c rest
view_is c rest some = shown_step c rest (values rest) refl some

pub array_inside : (n : ℕ) (rest : List seen.Content) → is_some (values (seen.array n ∷ rest)) ≡ true → is_some (inside (rest, n)) ≡ true
array_inside n rest some = (array_step n (values rest) some).0

pub object_inside : (n : ℕ) (rest : List seen.Content) → is_some (values (seen.object n ∷ rest)) ≡ true → is_some (option_and_then paired (inside (rest, n))) ≡ true
object_inside n rest some = (object_step n (values rest) some).0

-- ---- a node at a place

pub drop_at : (xs : List seen.Content) (i : ℕ) (c : seen.Content) → slice_get xs i ≡ Some c → drop i xs ≡ c ∷ drop (i + 1) xs
drop_at [] i c e = absurd (cc)
drop_at (x ∷ xs) zero c e =
    let head : x ≡ c = cc in
    ap (λ (y : seen.Content). y ∷ xs) head
drop_at (x ∷ xs) (suc i) c e = let sum : suc i + 1 ≡ suc (i + 1) = omega arith in rw sum (drop_at xs i c e)

-- the value of the node at a place
pub view_at : (xs : List seen.Content) (i : ℕ) (c : seen.Content) → is_some (values (drop i xs)) ≡ true → slice_get xs i ≡ Some c → view (drop i xs) ≡ shown c (drop (i + 1) xs)
view_at xs i c some e =
    let split = drop_at xs i c e in
    ap view split ∙ view_is c (drop (i + 1) xs) (ap (λ (l : List seen.Content). is_some (values l)) (sym split) ∙ some)

pub array_at : (xs : List seen.Content) (i n : ℕ) → is_some (values (drop i xs)) ≡ true → slice_get xs i ≡ Some (seen.array n) → is_some (inside (drop (i + 1) xs, n)) ≡ true
array_at xs i n some e = array_inside n (drop (i + 1) xs) (ap (λ (l : List seen.Content). is_some (values l)) (sym (drop_at xs i (seen.array n) e)) ∙ some)

pub object_at : (xs : List seen.Content) (i n : ℕ) → is_some (values (drop i xs)) ≡ true → slice_get xs i ≡ Some (seen.object n) → is_some (option_and_then paired (inside (drop (i + 1) xs, n))) ≡ true
object_at xs i n some e = object_inside n (drop (i + 1) xs) (ap (λ (l : List seen.Content). is_some (values l)) (sym (drop_at xs i (seen.object n) e)) ∙ some)

-- ---- of another sort

pub no_text : (c : Content) (rest : List seen.Content) → ((s : Bor (List ℕ)) → c ≡ String s → ⊥) → as_str (shown (content_view c) rest) ≡ None
no_text Null rest other = refl
no_text (Bool b) rest other = refl
no_text (Number n) rest other = refl
no_text (String s) rest other = absurd (other s refl)
no_text (Array n) rest other = refl
no_text (Object n) rest other = refl

pub no_number : (c : Content) (rest : List seen.Content) → ((n : _) → c ≡ Number n → ⊥) → as_number (shown (content_view c) rest) ≡ None
no_number Null rest other = refl
no_number (Bool b) rest other = refl
no_number (Number n) rest other = absurd (other n refl)
no_number (String s) rest other = refl
no_number (Array n) rest other = refl
no_number (Object n) rest other = refl

pub no_array : (c : Content) (rest : List seen.Content) → ((n : ℕ) → c ≡ Array n → ⊥) → as_array (shown (content_view c) rest) ≡ None
no_array Null rest other = refl
no_array (Bool b) rest other = refl
no_array (Number n) rest other = refl
no_array (String s) rest other = refl
no_array (Array n) rest other = absurd (other n refl)
no_array (Object n) rest other = refl

pub no_object : (c : Content) (rest : List seen.Content) → ((n : ℕ) → c ≡ Object n → ⊥) → as_object (shown (content_view c) rest) ≡ None
no_object Null rest other = refl
no_object (Bool b) rest other = refl
no_object (Number n) rest other = refl
no_object (String s) rest other = refl
no_object (Array n) rest other = refl
no_object (Object n) rest other = absurd (other n refl)
