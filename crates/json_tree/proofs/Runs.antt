-- Nodes that are added while a text is read.
use Rattle.std.proofs.Common.{◌≡◌, ℕ, suc, ◌+◌, ◌-◌, ◌<◌, true, List, [], ◌∷◌, ◌++◌, length, map, slice_set, Option, Some, None, option_map, option_and_then, is_some, Result, Ok, Err, refl, sym, ap, ap₂, ◌∙◌, arith, append_assoc, append-nil, length-append}
use Rattle.std.specs.Prelude.{OnOk}
use Rattle.json.specs.Token.{Token}
use Rattle.json.specs.Json.{parse_map}
use Rattle.serde_json.specs.Data as serde
use Rattle.serde_json.specs.Data.{Data, Items, no_items, item}
use Rattle.serde_json.specs.View.{items_of}
use Rattle.json_tree.specs.View.{Content, array, object, within, paired, members_of, value_before, values, first_of, view}
use Rattle.json_tree.specs.inner.Run.{total, IsRun, AddsOne}
use Rattle.json_tree.proofs.Values.{Value, within_zero, within_first}

abbrev pub datas : List Value → List Data
datas vs = map (λ v. v.1) vs

total-append : (vs ws : List Value) → total (vs ++ ws) ≡ total vs + total ws
total-append [] ws = omega arith
total-append (v ∷ vs) ws = let rest = total-append vs ws in omega arith

pub no_run : IsRun [] []
no_run = record { count = refl; runs = λ rest ws e. e }

pub run_append : (a b : List Content) (vs ws : List Value) → IsRun a vs → IsRun b ws → IsRun (a ++ b) (vs ++ ws)
run_append a b vs ws p q =
    let long = length-append a b in
    let sum = total-append vs ws in
    let first = p.count in
    let second = q.count in
    record {
      count = omega arith;
      runs = λ rest us e. ap values (append_assoc a b rest) ∙ p.runs (b ++ rest) (ws ++ us) (q.runs rest us e) ∙ ap (λ (l : List Value). Some l) (sym (append_assoc vs ws us));
    }

pub leaf_run : (c : Content) (d : Data) → ((ws : List Value) → value_before c ws ≡ Some ((0, d) ∷ ws)) → IsRun (c ∷ []) ((0, d) ∷ [])
leaf_run c d f = record { count = omega arith; runs = λ rest ws e. ap (option_and_then (value_before c)) e ∙ f ws }

within_all : (vs ws : List Value) → within (vs ++ ws) (total vs) ≡ Some (datas vs, ws)
within_all [] ws = within_zero ws
within_all (v ∷ vs) ws =
    let sum : suc v.0 + total vs ≡ suc (v.0 + total vs) = omega arith in
    let rest : (v.0 + total vs) - v.0 ≡ total vs = omega arith in
    ap (within (v ∷ (vs ++ ws))) sum ∙ within_first v (vs ++ ws) (v.0 + total vs) (datas vs, ws) (omega arith) (ap (within (vs ++ ws)) rest ∙ within_all vs ws)

pub array_run : (own : List Content) (vs : List Value) → IsRun own vs → IsRun (array (length own) ∷ own) ((length own, serde.array (items_of (datas vs))) ∷ [])
array_run own vs p = record {
  count = omega arith;
  runs = λ rest ws e. ap (option_and_then (value_before (array (length own)))) (p.runs rest ws e)
      ∙ ap (option_map (λ s. (length own, serde.array (items_of s.0)) ∷ s.1)) (ap (within (vs ++ ws)) p.count ∙ within_all vs ws);
}

pub object_run : (own : List Content) (vs : List Value) (ms : List (List ℕ × Data)) → IsRun own vs → paired (datas vs) ≡ Some ms → IsRun (object (length own) ∷ own) ((length own, serde.object (members_of ms)) ∷ [])
object_run own vs ms p named = record {
  count = omega arith;
  runs = λ rest ws e. ap (option_and_then (value_before (object (length own)))) (p.runs rest ws e)
      ∙ ap (option_and_then (λ s. option_map (λ ms. (length own, serde.object (members_of ms)) ∷ s.1) (paired s.0))) (ap (within (vs ++ ws)) p.count ∙ within_all vs ws)
      ∙ ap (option_map (λ ms. (length own, serde.object (members_of ms)) ∷ ws)) named;
}

-- ---- the bracket's node, once all that lies in it is known

set_at : (old inner : List Content) (c d : Content) → slice_set (old ++ c ∷ inner) (length old) d ≡ old ++ d ∷ inner
set_at [] inner c d = refl
set_at (x ∷ old) inner c d = ap (λ (xs : List Content). x ∷ xs) (set_at old inner c d)

pub closed : (old inner : List Content) (c : Content) (f : ℕ → Content) → slice_set ((old ++ c ∷ []) ++ inner) (length old) (f (length ((old ++ c ∷ []) ++ inner) - length old - 1)) ≡ old ++ f (length inner) ∷ inner
closed old inner c f =
    let split = append_assoc old (c ∷ []) inner in
    let long : length ((old ++ c ∷ []) ++ inner) - length old - 1 ≡ length inner = omega (arith, ap length split, length-append old (c ∷ inner)) in
    ap₂ (λ (xs : List Content) (n : ℕ). slice_set xs (length old) (f n)) split long ∙ set_at old inner c (f (length inner))

pub closed_at : (old inner all : List Content) (c : Content) (f : ℕ → Content) → all ≡ (old ++ c ∷ []) ++ inner → (place : ℕ) → place ≡ length old → slice_set all place (f (length all - place - 1)) ≡ old ++ f (length inner) ∷ inner
closed_at old inner all c f is place at = ap₂ (λ (xs : List Content) (n : ℕ). slice_set xs n (f (length xs - n - 1))) is at ∙ closed old inner c f

pub on_ok : {A E : Type 0} {P Q : Type 0} (r : Result A E) → OnOk r P → (P → Q) → OnOk r Q
on_ok (Ok a) p f = f p
on_ok (Err e) p f = tt

-- ---- items before others

abbrev pub items_before : List Data → Items → Items
items_before [] rest = rest
items_before (d ∷ ds) rest = item d (items_before ds rest)

pub items_before-no_items : (ds : List Data) → items_before ds no_items ≡ items_of ds
items_before-no_items [] = refl
items_before-no_items (d ∷ ds) = ap (item d) (items_before-no_items ds)

items_push : (ds : List Data) (d : Data) (rest : Items) → items_before ds (item d rest) ≡ items_before (ds ++ d ∷ []) rest
items_push [] d rest = refl
items_push (e ∷ ds) d rest = ap (item e) (items_push ds d rest)

pub one_more_item : (ds : List Data) (d : Data) (r : Option (Items × List Token)) → parse_map (items_before ds) (parse_map (item d) r) ≡ parse_map (items_before (ds ++ d ∷ [])) r
one_more_item ds d None = refl
one_more_item ds d (Some p) = ap (λ rest. Some (rest, p.1)) (items_push ds d p.0)

pub none_before : (r : Option (Items × List Token)) → r ≡ parse_map (λ a. a) r
none_before None = refl
none_before (Some p) = refl

-- ---- values

pub datas-push : (vs : List Value) (v : Value) → datas (vs ++ v ∷ []) ≡ datas vs ++ v.1 ∷ []
datas-push [] v = refl
datas-push (w ∷ vs) v = ap (λ (ds : List Data). w.1 ∷ ds) (datas-push vs v)

pub datas-push_two : (vs : List Value) (v w : Value) → datas (vs ++ v ∷ w ∷ []) ≡ datas vs ++ v.1 ∷ w.1 ∷ []
datas-push_two [] v w = refl
datas-push_two (u ∷ vs) v w = ap (λ (ds : List Data). u.1 ∷ ds) (datas-push_two vs v w)

pub two_more : (base inner : List Content) (c : Content) (own : List Content) → ((base ++ inner) ++ c ∷ []) ++ own ≡ base ++ (inner ++ c ∷ own)
two_more base inner c own = append_assoc (base ++ inner) (c ∷ []) own ∙ append_assoc base inner (c ∷ own)

-- the nodes of one value are a tree
pub record Whole (own : List Content) (d : Data) : Type 0 where
  pub some : is_some (values own) ≡ true
  pub long : 0 < length own
  pub is : view own ≡ d

pub whole_run : (own : List Content) (n : ℕ) (d : Data) → IsRun own ((n, d) ∷ []) → Whole own d
whole_run own n d p =
    let all = ap values (sym (append-nil own)) ∙ p.runs [] [] refl in
    let count = p.count in
    record { some = ap is_some all; long = omega arith; is = ap first_of all }

pub whole_alone : (old new : List Content) (d : Data) → old ≡ [] → AddsOne old d new → Whole new d
whole_alone old new d none a =
    let w = whole_run a.own a.inner d a.run in
    let alone : new ≡ a.own = a.added ∙ ap (λ (cs : List Content). cs ++ a.own) none in
    record { some = ap (λ (cs : List Content). is_some (values cs)) alone ∙ w.some; long = rw alone w.long; is = ap view alone ∙ w.is }
