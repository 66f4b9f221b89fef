-- The tree of a table's grammar file as it is built, and that it has no float and is not deep.
use Rattle.std.proofs.Common.{◌≡◌, ◌∙◌, ℕ, ◌+◌, ◌<◌, ◌≤◌, zero, suc, Bool, true, false, ◌||◌, List, [], ◌∷◌, ◌++◌, map, take, slice_get, length, Some, None, Vec, Global, codes, Ordering, Less, Equal, Greater, refl, sym, ap, arith}
use Rattle.std.specs.Prelude.{Result, Ok, Err, IfOk, String, string_bytes}
use Rattle.std.specs.Ordering.{match_ordering}
use Rattle.std.proofs.lemmas.List.{map-append, take_more}
use Rattle.std.proofs.lemmas.Option.{none-some, slice_get_within, get_or_from_slice_get}
use Rattle.serde_json.specs.Data.{Data, number, unsigned, string, array, object, Items, Members, no_members, member, put, depth, items_depth, members_depth}
use Rattle.serde_json.specs.View.{view, items_of}
use Rattle.serde_json.specs.Read.{read, max_depth}
use Rattle.serde_json.specs.Written.{has_float, items_have_float, members_have_float, compact_text}
use Rattle.serde_json.specs.declared.value.Value.{Value, Array}
use Rattle.serde_json.proofs.Views.{view-Array}
use Rattle.spv_table.specs.declared.table.Category.{Category}
use Rattle.spv_table.specs.declared.table.Category.TheVariants as category
use Rattle.spv_table.specs.declared.table.Quantifier.{Quantifier}
use Rattle.spv_table.specs.declared.table.Quantifier.TheVariants as quantifier
use Rattle.spv_table.specs.declared.table.Entry.{Entry}
use Rattle.spv_table.specs.declared.table.Enumerant.{Enumerant}
use Rattle.spv_table.specs.declared.table.Item as declared
use Rattle.spv_table.specs.Table.{Table, Sort}
use Rattle.spv_grammar.specs.Tree.{with_list, kind_name, with_quantifier, operand_tree, parameter_tree, instruction_tree, value_tree, enumerant_tree, with_parts, category_text, kind_tree, grammar_tree}
use Rattle.spv_builtin.specs.Text.{IsGrammarText}

-- one more element
pub one_more : {A : Type 0} (f : A → Data) (xs : List A) (i : ℕ) (x : A) (vs ws : List Value) (v : Value) → slice_get xs i ≡ Some x → map view vs ≡ map f (take i xs) → view v ≡ f x → ws ≡ vs ++ v ∷ []
    → map view ws ≡ map f (take (i + 1) xs)
one_more f xs i x vs ws v at so is grown =
    let front : take (i + 1) xs ≡ take i xs ++ x ∷ [] = rw (take_more xs i x (slice_get_within xs i x at), get_or_from_slice_get xs i x x at) refl in
    ap (map view) grown ∙ map-append view vs (v ∷ []) ∙ ap (λ (ds : List Data). ds ++ view v ∷ []) so ∙ ap (λ (d : Data). map f (take i xs) ++ d ∷ []) is
    ∙ sym (map-append f (take i xs) (x ∷ [])) ∙ ap (map f) (sym front)

-- before the end of a list there is an element
pub never_past : {A : Type 0} (xs : List A) (i : ℕ) → None ≡ slice_get xs i → i < length xs → ⊥
never_past [] i e h = omega (arith, h)
never_past (x ∷ xs) zero e h = none-some x e
never_past (x ∷ xs) (suc i) e h = never_past xs i e (omega (arith, h))

-- a list that is not empty is put
pub some_put : (key : List ℕ) (v : Vec Value Global) (ms : Members) → (v.items ≡ [] → ⊥) → put key (view (Array v)) ms ≡ with_list key (map view v.items) ms
some_put key v ms some = ap (λ (d : Data). put key d ms) (view-Array v) ∙ by v.items some
  where
    by : (vs : List Value) → (vs ≡ [] → ⊥) → put key (array (items_of (map view vs))) ms ≡ with_list key (map view vs) ms
    by [] some = absurd (some refl)
    by (w ∷ ws) some = refl

-- ---- no float, and at most so deep

pub record Fits (n : ℕ) (d : Data) : Type 0 where
  pub whole : has_float d ≡ false
  pub shallow : depth d ≤ n

pub record AllFit (n : ℕ) (ds : Items) : Type 0 where
  pub whole : items_have_float ds ≡ false
  pub shallow : items_depth ds ≤ n

pub record MembersFit (n : ℕ) (ms : Members) : Type 0 where
  pub whole : members_have_float ms ≡ false
  pub shallow : members_depth ms ≤ n

or_false : (a b : Bool) → a ≡ false → b ≡ false → (a || b) ≡ false
or_false a b g h = rw (g, h) refl

or_left : (a b : Bool) → (a || b) ≡ false → a ≡ false
or_left true b h = h
or_left false b h = refl

or_right : (a b : Bool) → (a || b) ≡ false → b ≡ false
or_right true true h = h
or_right true false h = refl
or_right false b h = h

at_order : (o : Ordering) (n : ℕ) (a b c : Members) → MembersFit n a → MembersFit n b → MembersFit n c → MembersFit n (match_ordering o a b c)
at_order Less n a b c p q r = p
at_order Equal n a b c p q r = q
at_order Greater n a b c p q r = r

more : (n : ℕ) (k : List ℕ) (d : Data) (ms : Members) → Fits n d → MembersFit n ms → MembersFit n (member k d ms)
more n k d ms f fs =
    record { whole = or_false (has_float d) (members_have_float ms) f.whole fs.whole; shallow = let a = f.shallow in let b = fs.shallow in omega arith }

pub put_fits : (n : ℕ) (k : List ℕ) (d : Data) (ms : Members) → Fits n d → MembersFit n ms → MembersFit n (put k d ms)
put_fits n k d no_members f fs = more n k d no_members f fs
put_fits n k d (member l e ms) f fs =
    let first : Fits n e = record { whole = or_left (has_float e) (members_have_float ms) fs.whole; shallow = let a = fs.shallow in omega arith } in
    let rest : MembersFit n ms = record { whole = or_right (has_float e) (members_have_float ms) fs.whole; shallow = let a = fs.shallow in omega arith } in
    at_order _ n (member k d (member l e ms)) (member l d ms) (member l e (put k d ms)) (more n k d (member l e ms) f fs) (more n l d ms f rest) (more n l e (put k d ms) first (put_fits n k d ms f rest))

pub none_fit : (n : ℕ) → MembersFit n no_members
none_fit n = record { whole = refl; shallow = omega arith }

pub all_fit : {A : Type 0} (n : ℕ) (f : A → Data) → ((a : A) → Fits n (f a)) → (xs : List A) → AllFit n (items_of (map f xs))
all_fit n f each [] = record { whole = refl; shallow = omega arith }
all_fit n f each (x ∷ xs) =
    let first = each x in
    let rest = all_fit n f each xs in
    record { whole = or_false (has_float (f x)) (items_have_float (items_of (map f xs))) first.whole rest.whole; shallow = let a = first.shallow in let b = rest.shallow in omega arith }

pub array_fits : {A : Type 0} (n : ℕ) (f : A → Data) → ((a : A) → Fits n (f a)) → (xs : List A) → Fits (suc n) (array (items_of (map f xs)))
array_fits n f each xs = let h = all_fit n f each xs in record { whole = h.whole; shallow = let a = h.shallow in omega arith }

pub list_fits : {A : Type 0} (n : ℕ) (f : A → Data) → ((a : A) → Fits n (f a)) → (key : List ℕ) (xs : List A) (ms : Members) → MembersFit (suc n) ms → MembersFit (suc n) (with_list key (map f xs) ms)
list_fits n f each key [] ms fs = fs
list_fits n f each key (x ∷ xs) ms fs = put_fits (suc n) key (array (items_of (map f (x ∷ xs)))) ms (array_fits n f each (x ∷ xs)) fs

pub object_fits : (n : ℕ) (ms : Members) → MembersFit n ms → Fits (suc n) (object ms)
object_fits n ms fs = record { whole = fs.whole; shallow = let a = fs.shallow in omega arith }

pub string_fits : (n : ℕ) (s : List ℕ) → Fits n (string s)
string_fits n s = record { whole = refl; shallow = omega arith }

pub number_fits : (n m : ℕ) → Fits n (number (unsigned m))
number_fits n m = record { whole = refl; shallow = omega arith }

-- ---- the trees of a table

quantifier_fits : (n : ℕ) (q : Quantifier) (ms : Members) → MembersFit n ms → MembersFit n (with_quantifier q ms)
quantifier_fits n quantifier.One ms fs = fs
quantifier_fits n quantifier.Maybe ms fs = put_fits n (codes "quantifier") (string (codes "?")) ms (string_fits n (codes "?")) fs
quantifier_fits n quantifier.Many ms fs = put_fits n (codes "quantifier") (string (codes "*")) ms (string_fits n (codes "*")) fs

module _ (G : Table) where
  operand_fits : (i : declared.Item) → Fits 1 (operand_tree G i)
  operand_fits i = object_fits 0 _ (quantifier_fits 0 i.quantifier _ (put_fits 0 _ _ _ (string_fits 0 _) (none_fit 0)))

  parameter_fits : (kind : ℕ) → Fits 1 (parameter_tree G kind)
  parameter_fits kind = operand_fits (record { kind = kind; quantifier = quantifier.One })

  instruction_fits : (e : ℕ × Entry) → Fits 3 (instruction_tree G e)
  instruction_fits e =
      object_fits 2 _ (list_fits 1 string (string_fits 1) (codes "capabilities") e.1.capabilities _ (list_fits 1 (operand_tree G) operand_fits (codes "operands") e.1.operands _
      (put_fits 2 (codes "opcode") _ _ (number_fits 2 e.0) (put_fits 2 (codes "opname") _ _ (string_fits 2 e.1.name) (none_fit 2)))))

  value_fits : (n : ℕ) (c : Category) (value : ℕ) → Fits n (value_tree c value)
  value_fits n category.BitEnum value = string_fits n _
  value_fits n category.ValueEnum value = number_fits n value
  value_fits n category.Id value = number_fits n value
  value_fits n category.Literal value = number_fits n value
  value_fits n category.Composite value = number_fits n value

  enumerant_fits : (c : Category) (e : Enumerant) → Fits 3 (enumerant_tree G c e)
  enumerant_fits c e =
      object_fits 2 _ (list_fits 1 string (string_fits 1) (codes "capabilities") e.capabilities _ (list_fits 1 (parameter_tree G) parameter_fits (codes "parameters") e.parameters _
      (put_fits 2 (codes "value") _ _ (value_fits 2 c e.value) (put_fits 2 (codes "enumerant") _ _ (string_fits 2 e.name) (none_fit 2)))))

  parts_fit : (s : Sort) (c : Category) (ms : Members) → MembersFit 4 ms → MembersFit 4 (with_parts G s c ms)
  parts_fit s category.BitEnum ms fs = put_fits 4 _ _ _ (array_fits 3 (enumerant_tree G category.BitEnum) (enumerant_fits category.BitEnum) s.enumerants) fs
  parts_fit s category.ValueEnum ms fs = put_fits 4 _ _ _ (array_fits 3 (enumerant_tree G category.ValueEnum) (enumerant_fits category.ValueEnum) s.enumerants) fs
  parts_fit s category.Composite ms fs = put_fits 4 _ _ _ (array_fits 3 (λ (kind : ℕ). string (kind_name G kind)) (λ kind. string_fits 3 _) s.kind.bases) fs
  parts_fit s category.Id ms fs = fs
  parts_fit s category.Literal ms fs = fs

  kind_fits : (s : Sort) → Fits 5 (kind_tree G s)
  kind_fits s =
      object_fits 4 _ (parts_fit s s.kind.category _
      (put_fits 4 (codes "category") _ _ (string_fits 4 (category_text s.kind.category)) (put_fits 4 (codes "kind") _ _ (string_fits 4 s.kind.name) (none_fit 4))))

  pub grammar_fits : Fits 7 (grammar_tree G)
  grammar_fits =
      let instructions : Fits 4 (array (items_of (map (instruction_tree G) G.entries))) = array_fits 3 (instruction_tree G) instruction_fits G.entries in
      object_fits 6 _ (put_fits 6 (codes "instructions") _ _ (record { whole = instructions.whole; shallow = let a = instructions.shallow in omega arith })
      (put_fits 6 (codes "operand_kinds") _ _ (array_fits 5 (kind_tree G) kind_fits G.kinds) (none_fit 6)))

-- ---- the text

both_ok : {T E : Type 0} (r : Result T E) (P Q R : T → Type 0) → ((t : T) → P t → Q t → R t) → IfOk r P → IfOk r Q → IfOk r R
both_ok (Ok t) P Q R f p q = f t p q
both_ok (Err e) P Q R f p q = p

pub text_is : {E : Type 0} (G : Table) (d : Data) (r : Result (String Global) E) → d ≡ grammar_tree G
    → IfOk r (λ s. has_float d ≡ false → string_bytes s ≡ compact_text d) → IfOk r (λ s. depth d ≤ max_depth → read (string_bytes s) ≡ Some d) → IfOk r (λ s. IsGrammarText G (string_bytes s))
text_is G d r is text back =
    let fits = grammar_fits G in
    let whole : has_float d ≡ false = ap has_float is ∙ fits.whole in
    let shallow : depth d ≤ max_depth = let e = ap depth is in let f = fits.shallow in omega arith in
    both_ok r (λ s. has_float d ≡ false → string_bytes s ≡ compact_text d) (λ s. depth d ≤ max_depth → read (string_bytes s) ≡ Some d) (λ s. IsGrammarText G (string_bytes s))
    (λ s t b. record { compact = t whole ∙ ap compact_text is; reads_back = b shallow ∙ ap Some is }) text back
