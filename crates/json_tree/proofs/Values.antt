-- The values that nodes are, one after another.
use Rattle.std.proofs.Common.{◌≡◌, ℕ, zero, suc, ◌+◌, ◌-◌, ◌≤◌, ◌<◌, Bool, true, false, cond, nat_le, List, [], ◌∷◌, ◌++◌, length, drop, Option, Some, None, option_map, option_and_then, is_some, slice_get, IfSome, true≢false, refl, sym, ap, ◌∙◌, arith, zero-add, add-zero}
use Rattle.std.proofs.lemmas.Bool.Decides.{nat_tests}
use Rattle.serde_json.specs.Data as serde
use Rattle.serde_json.specs.Data.{Data, Items}
use Rattle.serde_json.specs.View.{items_of}
use Rattle.serde_json.specs.Find.{as_str}
use Rattle.json_tree.specs.View.{Content, null, boolean, number, string, array, object, nodes_in, within, paired, members_of, value_before, values, first_of, view, inside, items_left, members_left, all_or_none}

abbrev pub Value : Type 0
Value = ℕ × Data

abbrev pub Parts : Type 0
Parts = List Data × List Value

some_same : {A : Type 0} {a b : A} → Some a ≡ Some b → a ≡ b
some_same e = cc

pub within_zero : (vs : List Value) → within vs 0 ≡ Some ([], vs)
within_zero [] = refl
within_zero (v ∷ vs) = refl

abbrev with_first : Data → Option Parts → Option Parts
with_first d o = option_map (λ s. (d ∷ s.0, s.1)) o

-- what `within` does with a value in front
pub record First (v : Value) (vs : List Value) (n : ℕ) (s : Parts) : Type 0 where
  pub rest : Parts
  pub fits : v.0 ≤ n
  pub is : within vs (n - v.0) ≡ Some rest
  pub whole : s ≡ (v.1 ∷ rest.0, rest.1)

with_first-some : (d : Data) (o : Option Parts) (s : Parts) → with_first d o ≡ Some s → (r : Parts) × (o ≡ Some r) × (s ≡ (d ∷ r.0, r.1))
with_first-some d None s e = absurd (cc)
with_first-some d (Some r) s e = (r, refl, sym (some_same e))

first_step : (v : Value) (vs : List Value) (n : ℕ) (s : Parts) (b : Bool) → nat_le v.0 n ≡ b → cond b (with_first v.1 (within vs (n - v.0))) None ≡ Some s → First v vs n s
first_step v vs n s false t e = absurd (cc)
first_step v vs n s true t e = let r = with_first-some v.1 (within vs (n - v.0)) s e in record { rest = r.0; fits = grind (arith, nat_tests, t); is = r.1; whole = r.2 }

pub first_within : (v : Value) (vs : List Value) (n : ℕ) (s : Parts) → within (v ∷ vs) (suc n) ≡ Some s → First v vs n s
first_within v vs n s e = first_step v vs n s (nat_le v.0 n) refl e

pub within_first : (v : Value) (vs : List Value) (n : ℕ) (r : Parts) → v.0 ≤ n → within vs (n - v.0) ≡ Some r → within (v ∷ vs) (suc n) ≡ Some (v.1 ∷ r.0, r.1)
within_first v vs n r fits e =
    let t : nat_le v.0 n ≡ true = grind (arith, nat_tests) in
    rw (t, e)

-- so many nodes, and then so many more
pub within_more : (vs ws us : List Value) (is js : List Data) (k j : ℕ) → within vs k ≡ Some (is, ws) → within ws j ≡ Some (js, us) → within vs (k + j) ≡ Some (is ++ js, us)
within_more [] ws us is js zero j e f =
    let s = some_same e in
    rw zero-add (ap (λ (l : List Value). within l j) (ap (λ (p : Parts). p.1) s) ∙ f ∙ ap (λ (l : List Data). Some (l ++ js, us)) (ap (λ (p : Parts). p.0) s))
within_more [] ws us is js (suc k) j e f = absurd (cc)
within_more (v ∷ vs) ws us is js zero j e f =
    let s = some_same e in
    rw zero-add (ap (λ (l : List Value). within l j) (ap (λ (p : Parts). p.1) s) ∙ f ∙ ap (λ (l : List Data). Some (l ++ js, us)) (ap (λ (p : Parts). p.0) s))
within_more (v ∷ vs) ws us is js (suc k) j e f =
    let first = first_within v vs k (is, ws) e in
    let whole = first.whole in
    let is_rest = first.is in
    let rest = within_more vs ws us first.rest.0 js (k - v.0) j (is_rest ∙ ap (λ (l : List Value). Some (first.rest.0, l)) (sym (ap (λ (p : Parts). p.1) whole))) f in
    let moved : (k + j) - v.0 ≡ (k - v.0) + j = omega (arith, first.fits) in
    let more = within_first v vs (k + j) (first.rest.0 ++ js, us) (omega (arith, first.fits)) (ap (within vs) moved ∙ rest) in
    let sum : suc k + j ≡ suc (k + j) = omega arith in
    ap (within (v ∷ vs)) sum ∙ more ∙ ap (λ (l : List Data). Some (l ++ js, us)) (sym (ap (λ (p : Parts). p.0) whole))

-- ---- what follows a node in a list of values

pub record Before (c : Content) (cs : List Content) (vs : List Value) : Type 0 where
  pub rest : List Value
  pub below : List Data
  pub after : List Value
  pub is_rest : values cs ≡ Some rest
  pub inner : within rest (nodes_in c) ≡ Some (below, after)
  pub first : Value
  pub count : first.0 ≡ nodes_in c
  pub whole : vs ≡ first ∷ after

leaf : (c : Content) (cs : List Content) (ws vs : List Value) (d : Data) → values cs ≡ Some ws → nodes_in c ≡ 0 → Some ((0, d) ∷ ws) ≡ Some vs → Before c cs vs
leaf c cs ws vs d rest none e = record {
  rest = ws;
  below = [];
  after = ws;
  is_rest = rest;
  inner = ap (within ws) none ∙ within_zero ws;
  first = (0, d);
  count = sym none;
  whole = sym (some_same e);
}

listed : (n : ℕ) (cs : List Content) (ws vs : List Value) (o : Option Parts) → values cs ≡ Some ws → within ws n ≡ o → option_map (λ s. (n, serde.array (items_of s.0)) ∷ s.1) o ≡ Some vs → Before (array n) cs vs
listed n cs ws vs None rest is e = absurd (cc)
listed n cs ws vs (Some s) rest is e = record {
  rest = ws;
  below = s.0;
  after = s.1;
  is_rest = rest;
  inner = is;
  first = (n, serde.array (items_of s.0));
  count = refl;
  whole = sym (some_same e);
}

keyed : (n : ℕ) (cs : List Content) (ws vs : List Value) (s : Parts) (ms : Option (List (List ℕ × Data))) → values cs ≡ Some ws → within ws n ≡ Some s
    → option_map (λ ms. (n, serde.object (members_of ms)) ∷ s.1) ms ≡ Some vs → Before (object n) cs vs
keyed n cs ws vs s None rest is e = absurd (cc)
keyed n cs ws vs s (Some ms) rest is e = record {
  rest = ws;
  below = s.0;
  after = s.1;
  is_rest = rest;
  inner = is;
  first = (n, serde.object (members_of ms));
  count = refl;
  whole = sym (some_same e);
}

named : (n : ℕ) (cs : List Content) (ws vs : List Value) (o : Option Parts) → values cs ≡ Some ws → within ws n ≡ o
    → option_and_then (λ s. option_map (λ ms. (n, serde.object (members_of ms)) ∷ s.1) (paired s.0)) o ≡ Some vs → Before (object n) cs vs
named n cs ws vs None rest is e = absurd (cc)
named n cs ws vs (Some s) rest is e = keyed n cs ws vs s (paired s.0) rest is e

before_step : (c : Content) (cs : List Content) (vs : List Value) (o : Option (List Value)) → values cs ≡ o → option_and_then (value_before c) o ≡ Some vs → Before c cs vs
before_step c cs vs None is e = absurd (cc)
before_step null cs vs (Some ws) is e = leaf null cs ws vs serde.null is refl e
before_step (boolean b) cs vs (Some ws) is e = leaf (boolean b) cs ws vs (serde.boolean b) is refl e
before_step (number n) cs vs (Some ws) is e = leaf (number n) cs ws vs (serde.number n) is refl e
before_step (string s) cs vs (Some ws) is e = leaf (string s) cs ws vs (serde.string s) is refl e
before_step (array n) cs vs (Some ws) is e = listed n cs ws vs (within ws n) is refl e
before_step (object n) cs vs (Some ws) is e = named n cs ws vs (within ws n) is refl e

pub before : (c : Content) (cs : List Content) (vs : List Value) → values (c ∷ cs) ≡ Some vs → Before c cs vs
before c cs vs e = before_step c cs vs (values cs) refl e

-- behind so many nodes come the values that are left of theirs
pub record Behind (cs : List Content) (n : ℕ) (r : List Value) : Type 0 where
  pub left : values (drop n cs) ≡ Some r
  pub room : n ≤ length cs

pub behind : (cs : List Content) (vs r : List Value) (i : List Data) (n : ℕ) → values cs ≡ Some vs → within vs n ≡ Some (i, r) → Behind cs n r
behind [] vs r i zero e f =
    let none : vs ≡ [] = sym (some_same e) in
    let same = some_same (sym f ∙ ap (λ (l : List Value). within l 0) none) in
    record { left = ap (λ (l : List Value). Some l) (sym (ap (λ (p : Parts). p.1) same)); room = omega arith }
behind [] vs r i (suc n) e f = absurd (let none : vs ≡ [] = sym (some_same e) in let same = sym f ∙ ap (λ (l : List Value). within l (suc n)) none in cc)
behind (c ∷ cs) vs r i zero e f =
    let same = some_same (sym (within_zero vs) ∙ f) in
    record { left = e ∙ ap (λ (l : List Value). Some l) (ap (λ (p : Parts). p.1) same); room = omega arith }
behind (c ∷ cs) vs r i (suc n) e f =
    let b = before c cs vs e in
    let first = first_within b.first b.after n (i, r) (ap (λ (l : List Value). within l (suc n)) (sym b.whole) ∙ f) in
    let fits = first.fits in
    let count = b.count in
    let last = ap (λ (p : Parts). p.1) first.whole in
    let inner = first.is ∙ ap (λ (l : List Value). Some (first.rest.0, l)) (sym last) in
    let sum : b.first.0 + (n - b.first.0) ≡ n = omega arith in
    let both = within_more b.rest b.after r b.below first.rest.0 b.first.0 (n - b.first.0) (ap (within b.rest) count ∙ b.inner) inner in
    let there = behind cs b.rest r (b.below ++ first.rest.0) n b.is_rest (ap (within b.rest) (sym sum) ∙ both) in
    let room = there.room in
    record { left = there.left; room = omega arith }

-- ---- items and members, one after another

pub record Opened (cs : List Content) (n : ℕ) (ds : List Data) : Type 0 where
  pub values_are : List Value
  pub is_values : values cs ≡ Some values_are
  pub after : List Value
  pub is_within : within values_are n ≡ Some (ds, after)

opened_parts : (cs : List Content) (n : ℕ) (ds : List Data) (vs : List Value) (o : Option Parts) → values cs ≡ Some vs → within vs n ≡ o → option_map (λ s. s.0) o ≡ Some ds → Opened cs n ds
opened_parts cs n ds vs None is w e = absurd (cc)
opened_parts cs n ds vs (Some s) is w e =
    let same = some_same e in
    record { values_are = vs; is_values = is; after = s.1; is_within = w ∙ ap (λ (l : List Data). Some (l, s.1)) same }

opened_values : (cs : List Content) (n : ℕ) (ds : List Data) (o : Option (List Value)) → values cs ≡ o → option_map (λ s. s.0) (option_and_then (λ vs. within vs n) o) ≡ Some ds → Opened cs n ds
opened_values cs n ds None is e = absurd (cc)
opened_values cs n ds (Some vs) is e = opened_parts cs n ds vs (within vs n) is refl e

pub opened : (cs : List Content) (n : ℕ) (ds : List Data) → inside (cs, n) ≡ Some ds → Opened cs n ds
opened cs n ds e = opened_values cs n ds (values cs) refl e

pub inside_is : (cs : List Content) (n : ℕ) (vs after : List Value) (ds : List Data) → values cs ≡ Some vs → within vs n ≡ Some (ds, after) → inside (cs, n) ≡ Some ds
inside_is cs n vs after ds e f = rw (e, f)

-- the first of the values in so many nodes, and those after it
pub record Step (cs : List Content) (n : ℕ) (ds : List Data) : Type 0 where
  pub first : Content
  pub rest : List Content
  pub is : cs ≡ first ∷ rest
  pub fits : nodes_in first ≤ n
  pub room : nodes_in first ≤ length rest
  pub others : List Data
  pub whole : ds ≡ view cs ∷ others
  pub more : inside (drop (nodes_in first) rest, n - nodes_in first) ≡ Some others

step_values : (cs : List Content) (n : ℕ) (ds : List Data) (vs : List Value) (after : List Value) → values cs ≡ Some vs → within vs (suc n) ≡ Some (ds, after) → Step cs n ds
step_values [] n ds vs after e f = absurd (let none : vs ≡ [] = sym (some_same e) in let same = sym f ∙ ap (λ (l : List Value). within l (suc n)) none in cc)
step_values (c ∷ cs) n ds vs after e f =
    let b = before c cs vs e in
    let first = first_within b.first b.after n (ds, after) (ap (λ (l : List Value). within l (suc n)) (sym b.whole) ∙ f) in
    let fits = first.fits in
    let count = b.count in
    let there = behind cs b.rest b.after b.below (nodes_in c) b.is_rest b.inner in
    let room = there.room in
    let moved : n - b.first.0 ≡ n - nodes_in c = omega arith in
    let seen : view (c ∷ cs) ≡ b.first.1 = ap first_of (e ∙ ap (λ (l : List Value). Some l) b.whole) in
    record {
      first = c;
      rest = cs;
      is = refl;
      fits = omega arith;
      room = room;
      others = first.rest.0;
      whole = ap (λ (p : Parts). p.0) first.whole ∙ ap (λ (d : Data). d ∷ first.rest.0) (sym seen);
      more = inside_is (drop (nodes_in c) cs) (n - nodes_in c) b.after first.rest.1 first.rest.0 there.left (ap (within b.after) (sym moved) ∙ first.is);
    }

pub step : (cs : List Content) (n : ℕ) (ds : List Data) → inside (cs, suc n) ≡ Some ds → Step cs n ds
step cs n ds e = let o = opened cs (suc n) ds e in step_values cs n ds o.values_are o.after o.is_values o.is_within

-- something where there is something
pub some_of : {A : Type 0} (o : Option A) → is_some o ≡ true → (a : A) × (o ≡ Some a)
some_of None e = absurd (true≢false (sym e))
some_of (Some a) e = (a, refl)

pub none_inside : (cs : List Content) (ds : List Data) → inside (cs, 0) ≡ Some ds → ds ≡ []
none_inside cs ds e =
    let o = opened cs 0 ds e in
    let same = some_same (sym o.is_within ∙ within_zero o.values_are) in
    ap (λ (p : Parts). p.0) same

-- ---- places in a list of nodes

pub drop_first : (xs : List Content) (i : ℕ) (c : Content) (rest : List Content) → drop i xs ≡ c ∷ rest → (i < length xs) × (slice_get xs i ≡ Some c) × (drop (suc i) xs ≡ rest)
drop_first [] zero c rest e = absurd (cc)
drop_first [] (suc i) c rest e = absurd (cc)
drop_first (x ∷ xs) zero c rest e =
    let head : x ≡ c = cc in
    (omega arith, ap (λ (y : Content). Some y) head, cc)
drop_first (x ∷ xs) (suc i) c rest e =
    let later = drop_first xs i c rest e in
    let less = later.0 in
    (omega arith, later.1, later.2)

pub drop_drop : (xs : List Content) (i j : ℕ) → drop j (drop i xs) ≡ drop (i + j) xs
drop_drop xs zero j = rw zero-add
drop_drop [] (suc i) zero = rw add-zero
drop_drop [] (suc i) (suc j) = let sum : suc i + suc j ≡ suc (i + suc j) = omega arith in rw sum
drop_drop (x ∷ xs) (suc i) j = let sum : suc i + j ≡ suc (i + j) = omega arith in rw sum (drop_drop xs i j)

-- what the next item is, by its place
pub record Turn (xs : List Content) (place left next : ℕ) : Type 0 where
  pub falls : place < next
  pub fits : next - place ≤ left
  pub whole : items_left (drop place xs, left) ≡ view (drop place xs) ∷ items_left (drop next xs, left - (next - place))
  pub more : is_some (inside (drop next xs, left - (next - place))) ≡ true

turn_step : (xs : List Content) (place n next : ℕ) (ds : List Data) → inside (drop place xs, suc n) ≡ Some ds → IfSome (slice_get xs place) (λ c. next ≡ place + 1 + nodes_in c) → Turn xs place (suc n) next
turn_step xs place n next ds e after =
    let s = step (drop place xs) n ds e in
    let at = drop_first xs place s.first s.rest s.is in
    let end : next ≡ place + 1 + nodes_in s.first = rw at.1 at after in
    let fits = s.fits in
    let left : suc n - (next - place) ≡ n - nodes_in s.first = omega arith in
    let sum : suc place + nodes_in s.first ≡ next = omega arith in
    let moved : drop (nodes_in s.first) s.rest ≡ drop next xs = ap (drop (nodes_in s.first)) (sym at.2) ∙ drop_drop xs (suc place) (nodes_in s.first) ∙ ap (λ k. drop k xs) sum in
    let more : inside (drop next xs, suc n - (next - place)) ≡ Some s.others = rw (left, ← moved) s.more in
    let first : items_left (drop place xs, suc n) ≡ ds = ap all_or_none e in
    record {
      falls = omega arith;
      fits = omega arith;
      whole = first ∙ s.whole ∙ ap (λ (l : List Data). view (drop place xs) ∷ l) (sym (ap all_or_none more));
      more = ap is_some more;
    }

pub turn : (xs : List Content) (place left next : ℕ) → is_some (inside (drop place xs, left)) ≡ true → 0 < left → IfSome (slice_get xs place) (λ c. next ≡ place + 1 + nodes_in c) → Turn xs place left next
turn xs place zero next e some after = absurd (omega arith)
turn xs place (suc n) next e some after = let d = some_of (inside (drop place xs, suc n)) e in turn_step xs place n next d.0 d.1 after

pub no_items_left : (cs : List Content) (n : ℕ) → is_some (inside (cs, n)) ≡ true → n ≡ 0 → items_left (cs, n) ≡ []
no_items_left cs n e z =
    let d = some_of (inside (cs, n)) e in
    let none : inside (cs, 0) ≡ Some d.0 = ap (λ k. inside (cs, k)) (sym z) ∙ d.1 in
    ap all_or_none d.1 ∙ none_inside cs d.0 none

-- ---- a member: a text, and the value after it

no_list : (n : ℕ) (o : Option Parts) (key : List ℕ) → as_str (first_of (option_map (λ s. (n, serde.array (items_of s.0)) ∷ s.1) o)) ≡ Some key → ⊥
no_list n None key e = cc
no_list n (Some s) key e = cc

no_members_here : (n : ℕ) (s : Parts) (ms : Option (List (List ℕ × Data))) (key : List ℕ) → as_str (first_of (option_map (λ ms. (n, serde.object (members_of ms)) ∷ s.1) ms)) ≡ Some key → ⊥
no_members_here n s None key e = cc
no_members_here n s (Some ms) key e = cc

no_object : (n : ℕ) (o : Option Parts) (key : List ℕ)
    → as_str (first_of (option_and_then (λ s. option_map (λ ms. (n, serde.object (members_of ms)) ∷ s.1) (paired s.0)) o)) ≡ Some key → ⊥
no_object n None key e = cc
no_object n (Some s) key e = no_members_here n s (paired s.0) key e

text_step : (c : Content) (cs : List Content) (o : Option (List Value)) (key : List ℕ) → as_str (first_of (option_and_then (value_before c) o)) ≡ Some key → c ≡ string key
text_step c cs None key e = absurd (cc)
text_step null cs (Some ws) key e = absurd (cc)
text_step (boolean b) cs (Some ws) key e = absurd (cc)
text_step (number n) cs (Some ws) key e = absurd (cc)
text_step (string s) cs (Some ws) key e = ap string (some_same e)
text_step (array n) cs (Some ws) key e = absurd (no_list n (within ws n) key e)
text_step (object n) cs (Some ws) key e = absurd (no_object n (within ws n) key e)

-- a key before a value and members
pub record Keyed (k : Data) (others : List Data) (ms : List (List ℕ × Data)) : Type 0 where
  pub key : List ℕ
  pub is_key : as_str k ≡ Some key
  pub value : Data
  pub rest : List Data
  pub are : others ≡ value ∷ rest
  pub left : List (List ℕ × Data)
  pub paired_rest : paired rest ≡ Some left
  pub whole : ms ≡ (key, value) ∷ left

keyed_rest : (k d : Data) (ds : List Data) (ms : List (List ℕ × Data)) (key : List ℕ) (o : Option (List (List ℕ × Data))) → as_str k ≡ Some key → paired ds ≡ o → option_map (λ l. (key, d) ∷ l) o ≡ Some ms → Keyed k (d ∷ ds) ms
keyed_rest k d ds ms key None is rest e = absurd (cc)
keyed_rest k d ds ms key (Some left) is rest e = record {
  key = key;
  is_key = is;
  value = d;
  rest = ds;
  are = refl;
  left = left;
  paired_rest = rest;
  whole = sym (some_same e);
}

keyed_key : (k d : Data) (ds : List Data) (ms : List (List ℕ × Data)) (o : Option (List ℕ)) → as_str k ≡ o → option_and_then (λ key. option_map (λ l. (key, d) ∷ l) (paired ds)) o ≡ Some ms → Keyed k (d ∷ ds) ms
keyed_key k d ds ms None is e = absurd (cc)
keyed_key k d ds ms (Some key) is e = keyed_rest k d ds ms key (paired ds) is refl e

pub keyed_parts : (k : Data) (others : List Data) (ms : List (List ℕ × Data)) → paired (k ∷ others) ≡ Some ms → Keyed k others ms
keyed_parts k [] ms e = absurd (cc)
keyed_parts k (d ∷ ds) ms e = keyed_key k d ds ms (as_str k) refl e

-- what the next member is, by its place
pub record Member (xs : List Content) (place left : ℕ) : Type 0 where
  pub key : List ℕ
  pub at_key : slice_get xs place ≡ Some (string key)
  pub room : place + 1 < length xs
  pub value_whole : is_some (values (drop (place + 1) xs)) ≡ true
  pub value : Content
  pub at_value : slice_get xs (place + 1) ≡ Some value
  pub fits : nodes_in value + 2 ≤ left
  pub others : List Data
  pub more : inside (drop (place + 2 + nodes_in value) xs, left - (nodes_in value + 2)) ≡ Some others
  pub others_left : List (List ℕ × Data)
  pub paired_more : paired others ≡ Some others_left
  pub whole : members_left (drop place xs, left) ≡ (key, view (drop (place + 1) xs)) ∷ others_left

member_value : (xs rest : List Content) (place n : ℕ) (key : List ℕ) (d : Data) (ds : List Data) (ls : List (List ℕ × Data)) → slice_get xs place ≡ Some (string key) → drop (suc place) xs ≡ rest → inside (rest, n) ≡ Some (d ∷ ds) → paired ds ≡ Some ls
    → members_left (drop place xs, suc n) ≡ (key, d) ∷ ls → Member xs place (suc n)
member_value xs rest place zero key d ds ls at is e p w = absurd (let none = none_inside rest (d ∷ ds) e in cc)
member_value xs rest place (suc n) key d ds ls at is e p w =
    let s = step rest n (d ∷ ds) e in
    let o = opened rest (suc n) (d ∷ ds) e in
    let there = drop_first xs (suc place) s.first s.rest (is ∙ s.is) in
    let next : suc place ≡ place + 1 = omega arith in
    let less : suc place < length xs = there.0 in
    let fits = s.fits in
    let heads : d ≡ view rest = cc (s.whole) in
    let tails : ds ≡ s.others = cc (s.whole) in
    let is_rest : drop (place + 1) xs ≡ rest = rw (← next) is in
    let left : suc (suc n) - (nodes_in s.first + 2) ≡ n - nodes_in s.first = omega arith in
    let sum : suc (suc place) + nodes_in s.first ≡ place + 2 + nodes_in s.first = omega arith in
    let moved : drop (nodes_in s.first) s.rest ≡ drop (place + 2 + nodes_in s.first) xs = ap (drop (nodes_in s.first)) (sym there.2) ∙ drop_drop xs (suc (suc place)) (nodes_in s.first) ∙ ap (λ k. drop k xs) sum in
    record {
      key = key;
      at_key = at;
      room = omega arith;
      value_whole = ap (λ (cs : List Content). is_some (values cs)) is_rest ∙ ap is_some o.is_values;
      value = s.first;
      at_value = ap (slice_get xs) (sym next) ∙ there.1;
      fits = omega arith;
      others = ds;
      more = rw (left, ← moved) (s.more ∙ ap (λ (l : List Data). Some l) (sym tails));
      others_left = ls;
      paired_more = p;
      whole = w ∙ ap (λ (v : Data). (key, v) ∷ ls) (heads ∙ ap view (sym is_rest));
    }

member_step : (xs : List Content) (place n : ℕ) (ds : List Data) (ms : List (List ℕ × Data)) → inside (drop place xs, suc n) ≡ Some ds → paired ds ≡ Some ms → Member xs place (suc n)
member_step xs place n ds ms e p =
    let cs = drop place xs in
    let s = step cs n ds e in
    let k = keyed_parts (view cs) s.others ms (ap paired (sym s.whole) ∙ p) in
    let seen : as_str (view (s.first ∷ s.rest)) ≡ Some k.key = ap (λ (l : List Content). as_str (view l)) (sym s.is) ∙ k.is_key in
    let text : s.first ≡ string k.key = text_step s.first s.rest (values s.rest) k.key seen in
    let there = drop_first xs place s.first s.rest s.is in
    let none : nodes_in s.first ≡ 0 = ap nodes_in text in
    let same : n - 0 ≡ n = omega arith in
    let after : inside (drop (nodes_in s.first) s.rest, n - nodes_in s.first) ≡ inside (s.rest, n) = ap (λ (j : ℕ). inside (drop j s.rest, n - j)) none ∙ ap (λ (j : ℕ). inside (s.rest, j)) same in
    let more : inside (s.rest, n) ≡ Some (k.value ∷ k.rest) = sym after ∙ s.more ∙ ap (λ (l : List Data). Some l) k.are in
    let all : members_left (cs, suc n) ≡ (k.key, k.value) ∷ k.left = ap (λ o. all_or_none (option_and_then paired o)) e ∙ ap all_or_none p ∙ k.whole in
    member_value xs s.rest place n k.key k.value k.rest k.left (there.1 ∙ ap (λ (c : Content). Some c) text) there.2 more k.paired_rest all

some_pairs : (o : Option (List Data)) → is_some (option_and_then paired o) ≡ true → (ds : List Data) × (ms : List (List ℕ × Data)) × (o ≡ Some ds) × (paired ds ≡ Some ms)
some_pairs None e = absurd (true≢false (sym e))
some_pairs (Some ds) e = let p = some_of (paired ds) e in (ds, p.0, refl, p.1)

pub member : (xs : List Content) (place left : ℕ) → is_some (option_and_then paired (inside (drop place xs, left))) ≡ true → ¬ (left ≡ 0) → Member xs place left
member xs place zero e some = absurd (some refl)
member xs place (suc n) e some = let p = some_pairs (inside (drop place xs, suc n)) e in member_step xs place n p.0 p.1 p.2 p.3

pub no_members_left : (cs : List Content) (n : ℕ) → is_some (option_and_then paired (inside (cs, n))) ≡ true → n ≡ 0 → members_left (cs, n) ≡ []
no_members_left cs n e z =
    let p = some_pairs (inside (cs, n)) e in
    let none : inside (cs, 0) ≡ Some p.0 = ap (λ k. inside (cs, k)) (sym z) ∙ p.2 in
    let empty = none_inside cs p.0 none in
    let same : Some p.1 ≡ Some [] = sym p.3 ∙ ap paired empty in
    ap (λ o. all_or_none (option_and_then paired o)) p.2 ∙ ap all_or_none (p.3 ∙ same)

-- the next member is taken
pub record MemberTurn (xs : List Content) (place left next : ℕ) (key : List ℕ) : Type 0 where
  pub falls : place < next
  pub fits : next - place ≤ left
  pub whole : members_left (drop place xs, left) ≡ (key, view (drop (place + 1) xs)) ∷ members_left (drop next xs, left - (next - place))
  pub more : is_some (option_and_then paired (inside (drop next xs, left - (next - place)))) ≡ true

pub member_turn : (xs : List Content) (place left next : ℕ) (key : List ℕ) → is_some (option_and_then paired (inside (drop place xs, left))) ≡ true → ¬ (left ≡ 0) → slice_get xs place ≡ Some (string key)
    → IfSome (slice_get xs (place + 1)) (λ c. next ≡ place + 1 + 1 + nodes_in c) → MemberTurn xs place left next key
member_turn xs place left next key e some at after =
    let m = member xs place left e some in
    let same : m.key ≡ key = cc (m.at_key) in
    let fits = m.fits in
    let end : next ≡ place + 1 + 1 + nodes_in m.value = rw m.at_value at after in
    let to : place + 2 + nodes_in m.value ≡ next = omega arith in
    let rest : left - (nodes_in m.value + 2) ≡ left - (next - place) = omega arith in
    let more : inside (drop next xs, left - (next - place)) ≡ Some m.others = ap (λ (j : ℕ). inside (drop next xs, j)) (sym rest) ∙ ap (λ (j : ℕ). inside (drop j xs, left - (nodes_in m.value + 2))) (sym to) ∙ m.more in
    let those : members_left (drop next xs, left - (next - place)) ≡ m.others_left = ap (λ o. all_or_none (option_and_then paired o)) more ∙ ap all_or_none m.paired_more in
    record {
      falls = omega arith;
      fits = omega arith;
      whole = m.whole ∙ ap (λ (k : List ℕ). (k, view (drop (place + 1) xs)) ∷ m.others_left) same ∙ ap (λ (l : List (List ℕ × Data)). (key, view (drop (place + 1) xs)) ∷ l) (sym those);
      more = ap (λ o. is_some (option_and_then paired o)) more ∙ ap is_some m.paired_more;
    }
