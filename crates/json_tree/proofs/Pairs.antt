-- Members that come one after another: of equal keys the last value stays.
use Rattle.std.proofs.Common.{◌≡◌, ℕ, true, false, List, [], ◌∷◌, ◌++◌, Option, Some, None, option_map, option_and_then, bytes_eq, true≢false, refl, sym, ap, ◌∙◌}
use Rattle.std.proofs.lemmas.Slice.Eq.{bytes_eq-Decides}
use Rattle.serde_json.specs.Data.{Data, Members, no_members, put}
use Rattle.serde_json.specs.Find.{get_member, as_str}
use Rattle.serde_json.specs.Data as serde
use Rattle.serde_json.proofs.Views.{get_member-put, get_member-put_other}
use Rattle.json_tree.specs.View.{paired, members_from, members_of}

from_push : (ms : List (List ℕ × Data)) (m : List ℕ × Data) (found : Members) → members_from (ms ++ m ∷ []) found ≡ put m.0 m.1 (members_from ms found)
from_push [] m found = refl
from_push (n ∷ ms) m found = from_push ms m (put n.0 n.1 found)

pub members_of-push : (ms : List (List ℕ × Data)) (m : List ℕ × Data) → members_of (ms ++ m ∷ []) ≡ put m.0 m.1 (members_of ms)
members_of-push ms m = from_push ms m no_members

-- the last member has the name, or those before it are looked into
pub last_named : (name : List ℕ) (ms : List (List ℕ × Data)) (m : List ℕ × Data) → bytes_eq m.0 name ≡ true → get_member name (members_of (ms ++ m ∷ [])) ≡ Some m.1
last_named name ms m e =
    let same : m.0 ≡ name = (bytes_eq-Decides m.0 name).0 e in
    ap (get_member name) (members_of-push ms m) ∙ ap (λ k. get_member name (put k m.1 (members_of ms))) same ∙ get_member-put name m.1 (members_of ms)

pub last_other : (name : List ℕ) (ms : List (List ℕ × Data)) (m : List ℕ × Data) → bytes_eq m.0 name ≡ false → get_member name (members_of (ms ++ m ∷ [])) ≡ get_member name (members_of ms)
last_other name ms m e =
    let other = λ (h : name ≡ m.0). absurd (true≢false (sym ((bytes_eq-Decides m.0 name).1 (sym h)) ∙ e)) in
    ap (get_member name) (members_of-push ms m) ∙ get_member-put_other name m.0 m.1 (members_of ms) other

paired_last : (k : List ℕ) (v : Data) (o p : Option (List (List ℕ × Data))) (ms : List (List ℕ × Data)) (m : List ℕ × Data) → ((l : List (List ℕ × Data)) → o ≡ Some l → p ≡ Some (l ++ m ∷ []))
    → option_map (λ l. (k, v) ∷ l) o ≡ Some ms → option_map (λ l. (k, v) ∷ l) p ≡ Some (ms ++ m ∷ [])
paired_last k v None p ms m more e = absurd (cc)
paired_last k v (Some l) p ms m more e =
    let same : (k, v) ∷ l ≡ ms = cc in
    ap (option_map (λ l. (k, v) ∷ l)) (more l refl) ∙ ap (λ (xs : List (List ℕ × Data)). Some (xs ++ m ∷ [])) same

paired_with : (o : Option (List ℕ)) (v : Data) (r s : Option (List (List ℕ × Data))) (ms : List (List ℕ × Data)) (m : List ℕ × Data) → ((l : List (List ℕ × Data)) → r ≡ Some l → s ≡ Some (l ++ m ∷ []))
    → option_and_then (λ key. option_map (λ l. (key, v) ∷ l) r) o ≡ Some ms → option_and_then (λ key. option_map (λ l. (key, v) ∷ l) s) o ≡ Some (ms ++ m ∷ [])
paired_with None v r s ms m more e = absurd (cc)
paired_with (Some k) v r s ms m more e = paired_last k v r s ms m more e

-- one more member is one more pair
pub paired-push : (ds : List Data) (ms : List (List ℕ × Data)) (key : List ℕ) (d : Data) → paired ds ≡ Some ms → paired (ds ++ serde.string key ∷ d ∷ []) ≡ Some (ms ++ (key, d) ∷ [])
paired-push [] ms key d e =
    let none : [] ≡ ms = cc in
    ap (λ (l : List (List ℕ × Data)). Some (l ++ (key, d) ∷ [])) none
paired-push (k ∷ []) ms key d e = absurd (cc)
paired-push (k ∷ v ∷ ds) ms key d e = paired_with (as_str k) v (paired ds) (paired (ds ++ serde.string key ∷ d ∷ [])) ms (key, d) (λ l is. paired-push ds l key d is) e
