-- The kinds, each name once, as a list grows at its end.
use Rattle.std.proofs.Common.{◌≡◌, ℕ, zero, suc, ◌<◌, ◌+◌, Bool, true, false, not, if◌then◌else◌, nat_eq, true≢false, List, [], ◌∷◌, ◌++◌, Option, Some, refl, sym, ap, ◌∙◌, filter, map, length, take, get_or, length-append, position, add-one, add-zero, arith}
use Rattle.std.proofs.lemmas.List.{length-map, map-append}
use Rattle.std.specs.List.{list_any, position_or_len, position_from}
use Rattle.std.specs.Option.{option_eq}
use Rattle.std.proofs.lemmas.Bool.Decides.{nat_tests}
use Rattle.std.specs.Str.{bytes_eq}
use Rattle.std.specs.Cmp.Lexicographic.{nat_list_eq_equiv}
use Rattle.std.proofs.lemmas.List.Elements.{filter-append}
use Rattle.std.proofs.lemmas.Map.Views.{any-filter_same}
use Rattle.std.proofs.lemmas.Grind.{common_steps}
use Rattle.std.proofs.Math.Seq.{take-suc}
use Rattle.spv_table.proofs.Backward.{position_from-zero}
use Rattle.spv_grammar.specs.declared.file.FileKind.{FileKind}
use Rattle.spv_grammar.specs.declared.numbers.First.{First}
use Rattle.spv_grammar.specs.Kinds.{bears, first_kinds, number_in}

-- the kinds with one more at the end, if no kind has its name
abbrev pub with_kind : List FileKind → FileKind → List FileKind
with_kind firsts k = if list_any (bears k.name) firsts then firsts else firsts ++ k ∷ []

pub other_name : (x y k : List ℕ) → bytes_eq x y ≡ false → bytes_eq x k ≡ true → not (bytes_eq y k) ≡ true
other_name x y k differ same =
    let e : bytes_eq y k ≡ false = nat_list_eq_equiv.symm y k ∙ sym (nat_list_eq_equiv.congr x k y same) ∙ differ in
    ap not e

abbrev pub others : FileKind → FileKind → Bool
others y later = not (bears y.name later)

-- a kind after the first: it goes last, or was there
pub later_kind : (firsts grown : List FileKind) (y x : FileKind) (same there : Bool) → grown ≡ with_kind firsts x → bytes_eq x.name y.name ≡ same → list_any (bears x.name) firsts ≡ there
    → y ∷ filter (others y) grown ≡ with_kind (y ∷ filter (others y) firsts) x
later_kind firsts grown y x true true g e f = rw (g, f, e) refl
later_kind firsts grown y x true false g e f =
    let back : bytes_eq y.name x.name ≡ true = nat_list_eq_equiv.symm y.name x.name ∙ e in
    rw (g, f, e) (rw (filter-append (others y) firsts (x ∷ []), back) (grind (arith, common_steps)))
later_kind firsts grown y x false true g e f =
    let kept = any-filter_same (bears x.name) (others y) true (λ k same. other_name x.name y.name k.name e same) firsts in
    rw (g, f, e, kept, f) refl
later_kind firsts grown y x false false g e f =
    let kept = any-filter_same (bears x.name) (others y) true (λ k same. other_name x.name y.name k.name e same) firsts in
    let back : bytes_eq y.name x.name ≡ false = nat_list_eq_equiv.symm y.name x.name ∙ e in
    rw (g, f, e, kept, f) (rw (filter-append (others y) firsts (x ∷ []), back) (grind (arith, common_steps)))

pub first_kinds-append : (ks : List FileKind) (x : FileKind) → first_kinds (ks ++ x ∷ []) ≡ with_kind (first_kinds ks) x
first_kinds-append [] x = refl
first_kinds-append (y ∷ ks) x = later_kind (first_kinds ks) (first_kinds (ks ++ x ∷ [])) y x (bytes_eq x.name y.name) (list_any (bears x.name) (first_kinds ks)) (first_kinds-append ks x) refl refl

pub first_kinds_more : (kinds : List FileKind) (i : ℕ) (d : FileKind) → i < length kinds → first_kinds (take (i + 1) kinds) ≡ with_kind (first_kinds (take i kinds)) (get_or kinds i d)
first_kinds_more kinds i d h =
    let e : take (i + 1) kinds ≡ take i kinds ++ get_or kinds i d ∷ [] = rw add-one (take-suc kinds i d h) in
    rw (e, first_kinds-append (take i kinds) (get_or kinds i d)) refl

pub any_map : {X Y : Type 0} (p : Y → Bool) (f : X → Y) (xs : List X) → list_any p (map f xs) ≡ list_any (λ x. p (f x)) xs
any_map p f [] = refl
any_map p f (x ∷ xs) = rw (any_map p f xs) refl

pub position_or_len-map : {X Y : Type 0} (p : Y → Bool) (f : X → Y) (xs : List X) → position_or_len p (map f xs) ≡ position_or_len (λ x. p (f x)) xs
position_or_len-map p f [] = refl
position_or_len-map p f (x ∷ xs) = grind (arith, common_steps, position_or_len-map p f xs)

pub position-map : {X Y : Type 0} (p : Y → Bool) (f : X → Y) (xs : List X) → position p (map f xs) ≡ position (λ x. p (f x)) xs
position-map p f xs = rw (position_or_len-map p f xs, length-map) refl

-- a name has the number that its place among the first kinds tells
pub number_of_first : (firsts : List First) (name : List ℕ) → position (λ f. bytes_eq name f.kind.now.name) firsts ≡ number_in (map (λ f. f.kind.now) firsts) name
number_of_first firsts name = sym (position-map (bears name) (λ (f : First). f.kind.now) firsts)

-- ---- a kind is the first with its name where its place is the first of the name

any_first_step : (name : List ℕ) (y : FileKind) (firsts ks : List FileKind) (same : Bool) → bytes_eq name y.name ≡ same → list_any (bears name) firsts ≡ list_any (bears name) ks
    → list_any (bears name) (y ∷ filter (others y) firsts) ≡ list_any (bears name) (y ∷ ks)
any_first_step name y firsts ks true e rest = rw e refl
any_first_step name y firsts ks false e rest =
    let kept = any-filter_same (bears name) (others y) true (λ k same. other_name name y.name k.name e same) firsts in
    rw (e, kept, rest) refl

-- the same names are borne by the first kinds
any_first : (name : List ℕ) (ks : List FileKind) → list_any (bears name) (first_kinds ks) ≡ list_any (bears name) ks
any_first name [] = refl
any_first name (y ∷ ks) = any_first_step name y (first_kinds ks) ks (bytes_eq name y.name) refl (any_first name ks)

new_step : (p : FileKind → Bool) (n i : ℕ) (x : FileKind) (xs : List FileKind) (b : Bool) → p x ≡ b → list_any p (x ∷ take i xs) ≡ false → (list_any p (take i xs) ≡ false → position_from p (n + 1) xs ≡ Some (n + 1 + i))
    → position_from p n (x ∷ xs) ≡ Some (n + suc i)
new_step p n i x xs true e none rest = absurd (true≢false (rw e at none))
new_step p n i x xs false e none rest =
    let sum : n + 1 + i ≡ n + suc i = omega arith in
    rw e (rest (rw e at none) ∙ ap (λ m. Some m) sum)

new_place : (p : FileKind → Bool) (n : ℕ) (ks : List FileKind) (i : ℕ) (d : FileKind) → i < length ks → p (get_or ks i d) ≡ true → list_any p (take i ks) ≡ false → position_from p n ks ≡ Some (n + i)
new_place p n [] i d less is none = absurd (omega arith)
new_place p n (x ∷ xs) zero d less is none = rw (is, add-zero) refl
new_place p n (x ∷ xs) (suc i) d less is none = new_step p n i x xs (p x) refl none (λ rest. new_place p (n + 1) xs i d (omega arith) is rest)

old_step : (p : FileKind → Bool) (n i : ℕ) (x : FileKind) (xs : List FileKind) (b : Bool) → p x ≡ b → list_any p (x ∷ take i xs) ≡ true → (list_any p (take i xs) ≡ true → (j : ℕ) × (j < i) × (position_from p (n + 1) xs ≡ Some (n + 1 + j)))
    → (j : ℕ) × (j < suc i) × (position_from p n (x ∷ xs) ≡ Some (n + j))
old_step p n i x xs true e some rest = (0, omega arith, rw (e, add-zero) refl)
old_step p n i x xs false e some rest =
    let r = rest (rw e at some) in
    let j = r.0 in
    let less = r.1 in
    let sum : n + 1 + j ≡ n + suc j = omega arith in
    (suc j, omega arith, rw e (r.2 ∙ ap (λ m. Some m) sum))

old_place : (p : FileKind → Bool) (n : ℕ) (ks : List FileKind) (i : ℕ) → list_any p (take i ks) ≡ true → (j : ℕ) × (j < i) × (position_from p n ks ≡ Some (n + j))
old_place p n ks zero some = absurd (true≢false (sym some))
old_place p n [] (suc i) some = absurd (true≢false (sym some))
old_place p n (x ∷ xs) (suc i) some = old_step p n i x xs (p x) refl some (λ rest. old_place p (n + 1) xs i rest)

abbrev pub is_at : ℕ → Option ℕ → Bool
is_at i r = option_eq nat_eq r (Some i)

decide_first : (ks : List FileKind) (i : ℕ) (k : FileKind) → i < length ks → k ≡ get_or ks i k → (b there : Bool) → is_at i (position (bears k.name) ks) ≡ b → list_any (bears k.name) (take i ks) ≡ there → there ≡ not b
decide_first ks i k less is true true at some =
    let j = old_place (bears k.name) 0 ks i some in
    let before = j.1 in
    let sum : 0 + j.0 ≡ j.0 = omega arith in
    let place : position (bears k.name) ks ≡ Some j.0 = sym (position_from-zero (bears k.name) ks) ∙ j.2 ∙ ap (λ m. Some m) sum in
    let same : nat_eq j.0 i ≡ true = sym (ap (is_at i) place) ∙ at in
    let equal : j.0 ≡ i = grind (arith, nat_tests, same) in
    absurd (omega arith)
decide_first ks i k less is true false at some = refl
decide_first ks i k less is false true at some = refl
decide_first ks i k less is false false at some =
    let bearer : bears k.name (get_or ks i k) ≡ true = ap (bears k.name) (sym is) ∙ nat_list_eq_equiv.refl k.name in
    let sum : 0 + i ≡ i = omega arith in
    let place : position (bears k.name) ks ≡ Some i = sym (position_from-zero (bears k.name) ks) ∙ new_place (bears k.name) 0 ks i k less bearer some ∙ ap (λ m. Some m) sum in
    let same : nat_eq i i ≡ false = sym (ap (is_at i) place) ∙ at in
    absurd (grind (arith, nat_tests, same))

turned : (b : Bool) (firsts : List FileKind) (k : FileKind) → (if not b then firsts else firsts ++ k ∷ []) ≡ (if b then firsts ++ k ∷ [] else firsts)
turned true firsts k = refl
turned false firsts k = refl

-- the first kinds up to the next kind
pub next_first : (ks : List FileKind) (i : ℕ) (k : FileKind) (b : Bool) → i < length ks → k ≡ get_or ks i k → is_at i (position (bears k.name) ks) ≡ b → first_kinds (take (i + 1) ks) ≡ (if b then first_kinds (take i ks) ++ k ∷ [] else first_kinds (take i ks))
next_first ks i k b less is at =
    let known : list_any (bears k.name) (first_kinds (take i ks)) ≡ not b = any_first k.name (take i ks) ∙ decide_first ks i k less is b (list_any (bears k.name) (take i ks)) at refl in
    first_kinds_more ks i k less ∙ ap (with_kind (first_kinds (take i ks))) (sym is) ∙ rw known (turned b (first_kinds (take i ks)) k)

-- one more kind goes last
pub record Pushed (olds grown : List First) (ks : List FileKind) (k : FileKind) : Type 0 where
  pub kinds : map (λ f. f.kind.now) grown ≡ ks ++ k ∷ []
  pub long : length grown ≡ length olds + 1

pub pushed_first : (olds grown : List First) (f : First) (ks : List FileKind) → grown ≡ olds ++ f ∷ [] → map (λ f. f.kind.now) olds ≡ ks → Pushed olds grown ks f.kind.now
pushed_first olds grown f ks is same = record {
  kinds = ap (map (λ f. f.kind.now)) is ∙ map-append (λ (f : First). f.kind.now) olds (f ∷ []) ∙ ap (λ (l : List FileKind). l ++ f.kind.now ∷ []) same;
  long = ap length is ∙ length-append olds (f ∷ []);
}
