-- An operand fits what a kind asks for exactly where words spell it there, and then by its own words.
use Rattle.std.proofs.Common.{◌≡◌, ◌∙◌, ◌≤◌, ◌<◌, ◌+◌, ◌*◌, ◌/◌, ◌%◌, ℕ, List, [], ◌∷◌, Option, Some, None, Bool, true}
use Rattle.std.proofs.Common.{false, not, ◌&&◌, ◌||◌, nat_eq, nat_le, if◌then◌else◌, map, refl, sym, ap, arith}
use Rattle.std.specs.Prelude.{is_some, unwrap_or}
use Rattle.std.specs.List.{list_any, AllByRecursion}
use Rattle.std.proofs.lemmas.Bool.Decides.{nat_tests}
use Rattle.spv_table.specs.Table.{Table, kind_of}
use Rattle.spv_table.specs.declared.form.Leaf as declared
use Rattle.spv_table.specs.declared.form.Leaf.TheVariants as leaf
use Rattle.spv_module.specs.Operand.{Plain, OfType, Result, Id, Word, Number, Text, Value, Mask, Argument, Mention}
use Rattle.spv_module.specs.Operand.{Context}
use Rattle.spv_module.specs.Width.{context_width}
use Rattle.spv_module.specs.Shape.{Slot, Shape, alone, AsType, AsResult, AsId, AsWord, AsNumber, AsText, AsValue}
use Rattle.spv_module.specs.Shape.{AsMask, AsNothing, shape_of}
use Rattle.spv_module.specs.Spelling.{Takes, HoldsText, AreZeros, parameters_of, mask_parameters}
use Rattle.spv_inst.specs.Reading.{enumerants_at}
use Rattle.spv_inst.specs.inner.Pending.{opened_kinds}
use Rattle.spv_inst.specs.inner.Written.{text_words, operand_words, fits_width, is_without_zero, is_fit, HasText}
use Rattle.spv_table.specs.declared.form.Form.TheVariants.{Leaf}
use Rattle.spv_table.specs.inner.Form.{form_at}
use Rattle.spv_inst.proofs.Shapes.{leaf_shape, shape_leaf}
use Rattle.spv_inst.proofs.Masks.{whole_mask}
use Rattle.spv_inst.proofs.Bases.{and_first, and_second}

eq_by : (a b : ℕ) → nat_eq a b ≡ true → a ≡ b
eq_by a b e = grind (arith, nat_tests)

eq_of : (a b : ℕ) → a ≡ b → nat_eq a b ≡ true
eq_of a b e = grind (arith, nat_tests)

le_by : (a b : ℕ) → nat_le a b ≡ true → a ≤ b
le_by a b e = grind (arith, nat_tests)

gt_by : (a b : ℕ) → nat_le a b ≡ false → b < a
gt_by a b e = grind (arith, nat_tests)

le_of : (a b : ℕ) → a ≤ b → nat_le a b ≡ true
le_of a b e = grind (arith, nat_tests)

gt_of : (a b : ℕ) → b < a → nat_le a b ≡ false
gt_of a b e = grind (arith, nat_tests)

-- the words of a text hold it
record Spelled (t : List ℕ) : Type 0 where
  pub padding : List ℕ
  pub holds : HoldsText (text_words t) t padding
  pub zeros : AreZeros padding

four : (a b c d : ℕ) → a < 256 → b < 256 → c < 256 → d < 256
    → (a + 256 * b + 65536 * c + 16777216 * d < 4294967296) × ((a + 256 * b + 65536 * c + 16777216 * d) % 256 ≡ a)
    × ((a + 256 * b + 65536 * c + 16777216 * d) / 256 % 256 ≡ b)
    × ((a + 256 * b + 65536 * c + 16777216 * d) / 65536 % 256 ≡ c)
    × ((a + 256 * b + 65536 * c + 16777216 * d) / 16777216 % 256 ≡ d)
four a b c d la lb lc ld = (omega arith, omega arith, omega arith, omega arith, omega arith)

three : (a b c : ℕ) → a < 256 → b < 256 → c < 256
    → (a + 256 * b + 65536 * c < 4294967296) × ((a + 256 * b + 65536 * c) % 256 ≡ a)
    × ((a + 256 * b + 65536 * c) / 256 % 256 ≡ b)
    × ((a + 256 * b + 65536 * c) / 65536 % 256 ≡ c) × ((a + 256 * b + 65536 * c) / 16777216 % 256 ≡ 0)
three a b c la lb lc = (omega arith, omega arith, omega arith, omega arith, omega arith)

two : (a b : ℕ) → a < 256 → b < 256
    → (a + 256 * b < 4294967296) × ((a + 256 * b) % 256 ≡ a) × ((a + 256 * b) / 256 % 256 ≡ b)
    × ((a + 256 * b) / 65536 % 256 ≡ 0) × ((a + 256 * b) / 16777216 % 256 ≡ 0)
two a b la lb = (omega arith, omega arith, omega arith, omega arith, omega arith)

one : (a : ℕ) → a < 256
    → (a < 4294967296) × (a % 256 ≡ a) × (a / 256 % 256 ≡ 0) × (a / 65536 % 256 ≡ 0) × (a / 16777216 % 256 ≡ 0)
one a la = (omega arith, omega arith, omega arith, omega arith, omega arith)

cells : (a b c d e f g h : ℕ) (xs : List ℕ) → a ≡ e → b ≡ f → c ≡ g → d ≡ h → a ∷ b ∷ c ∷ d ∷ xs ≡ e ∷ f ∷ g ∷ h ∷ xs
cells a b c d e f g h xs i j k l = cc

not_zero : (b : ℕ) (t : List ℕ) → is_without_zero (b ∷ t) ≡ true → (b ≡ 0 → ⊥) × (is_without_zero t ≡ true)
not_zero b t e = split (nat_eq b 0) refl e
  where
    split : (x : Bool) → nat_eq b 0 ≡ x → not (x || list_any (λ b. nat_eq b 0) t) ≡ true
        → (b ≡ 0 → ⊥) × (is_without_zero t ≡ true)
    split true f e = cc
    split false f e = ((λ z. let g = eq_of b 0 z in cc), e)

spelled_more : (a b c d : ℕ) (t : List ℕ) → a < 256 → b < 256 → c < 256 → d < 256 → (a ≡ 0 → ⊥) → (b ≡ 0 → ⊥)
    → (c ≡ 0 → ⊥) → (d ≡ 0 → ⊥) → Spelled t → Spelled (a ∷ b ∷ c ∷ d ∷ t)
spelled_more a b c d t la lb lc ld na nb nc nd s =
    let f = four a b c d la lb lc ld in
    record {
      padding = s.padding;
      holds = record {
        words = (f.0, s.holds.words);
        octets = cells _ _ _ _ _ _ _ _ _ f.1 f.2 f.3 f.4 ∙ ap (λ bs. a ∷ b ∷ c ∷ d ∷ bs) s.holds.octets;
        no_zero = (na, (nb, (nc, (nd, s.holds.no_zero))));
        short = s.holds.short;
      };
      zeros = s.zeros;
    }

text_spelled : (t : List ℕ) → AllByRecursion (λ b. b < 256) t → is_without_zero t ≡ true → Spelled t
text_spelled [] h e = record {
  padding = 0 ∷ 0 ∷ 0 ∷ [];
  holds = record { words = (omega arith, tt); octets = refl; no_zero = tt; short = omega arith };
  zeros = (refl, (refl, (refl, tt)));
}
text_spelled (a ∷ []) h e =
    let f = one a h.0 in
    let n = not_zero a [] e in
    record {
      padding = 0 ∷ 0 ∷ [];
      holds = record {
        words = (f.0, tt);
        octets = cells _ _ _ _ _ _ _ _ _ f.1 f.2 f.3 f.4;
        no_zero = (n.0, tt);
        short = omega arith;
      };
      zeros = (refl, (refl, tt));
    }
text_spelled (a ∷ b ∷ []) h e =
    let f = two a b h.0 h.1.0 in
    let n = not_zero a (b ∷ []) e in
    let m = not_zero b [] n.1 in
    record {
      padding = 0 ∷ [];
      holds = record {
        words = (f.0, tt);
        octets = cells _ _ _ _ _ _ _ _ _ f.1 f.2 f.3 f.4;
        no_zero = (n.0, (m.0, tt));
        short = omega arith;
      };
      zeros = (refl, tt);
    }
text_spelled (a ∷ b ∷ c ∷ []) h e =
    let f = three a b c h.0 h.1.0 h.1.1.0 in
    let n = not_zero a (b ∷ c ∷ []) e in
    let m = not_zero b (c ∷ []) n.1 in
    let l = not_zero c [] m.1 in
    record {
      padding = [];
      holds = record {
        words = (f.0, tt);
        octets = cells _ _ _ _ _ _ _ _ _ f.1 f.2 f.3 f.4;
        no_zero = (n.0, (m.0, (l.0, tt)));
        short = omega arith;
      };
      zeros = tt;
    }
text_spelled (a ∷ b ∷ c ∷ d ∷ t) h e =
    let n = not_zero a (b ∷ c ∷ d ∷ t) e in
    let m = not_zero b (c ∷ d ∷ t) n.1 in
    let l = not_zero c (d ∷ t) m.1 in
    let k = not_zero d t l.1 in
    spelled_more a b c d t h.0 h.1.0 h.1.1.0 h.1.1.1.0 n.0 m.0 l.0 k.0 (text_spelled t h.1.1.1.1 k.1)

-- a number of a width
number_takes : (k : ℕ) (w : Option ℕ) (low high words : ℕ) → fits_width w high words ≡ true
    → Takes k (AsNumber w) (Number low high words) (operand_words (Number low high words)) []
number_takes k None low high words e = cc
number_takes k (Some w) low high words e = split (nat_le w 32) refl e
  where
    narrow : (high words : ℕ) → w ≤ 32 → high ≡ 0 → words ≡ 1
        → Takes k (AsNumber (Some w)) (Number low high words) (operand_words (Number low high words)) []
    narrow high words l f g = rw (f, g) (Takes.narrow w low l)

    wide : (words : ℕ) → 32 < w → words ≡ 2
        → Takes k (AsNumber (Some w)) (Number low high words) (operand_words (Number low high words)) []
    wide words l g = rw g (Takes.wide w low high l)

    split : (b : Bool) → nat_le w 32 ≡ b → (if b then nat_eq high 0 && nat_eq words 1 else nat_eq words 2) ≡ true
        → Takes k (AsNumber (Some w)) (Number low high words) (operand_words (Number low high words)) []
    split true l f = narrow high words (le_by w 32 l) (eq_by high 0 (and_first (nat_eq high 0) (nat_eq words 1) f))
        (eq_by words 1 (and_second (nat_eq high 0) (nat_eq words 1) f))
    split false l f = wide words (gt_by w 32 l) (eq_by words 2 f)

some_from : (o : Option (List ℕ)) → is_some o ≡ true → o ≡ Some (unwrap_or o [])
some_from None e = cc
some_from (Some ks) e = refl

value_takes : (G : Table) (k j x : ℕ) → j ≡ k → is_some (parameters_of (enumerants_at (kind_of G k)) x) ≡ true
    → Takes k (AsValue (enumerants_at (kind_of G k))) (Value j x) (x ∷ []) (map alone (opened_kinds G (Value j x)))
value_takes G k j x e h =
    rw e (Takes.value (enumerants_at (kind_of G k)) x _ (some_from (parameters_of (enumerants_at (kind_of G k)) x) h))

mask_takes : (G : Table) (k j x : ℕ) → j ≡ k → is_some (mask_parameters (enumerants_at (kind_of G k)) x) ≡ true
    → Takes k (AsMask (enumerants_at (kind_of G k))) (Mask j x) (x ∷ []) (map alone (opened_kinds G (Mask j x)))
mask_takes G k j x e h =
    let s = some_from (mask_parameters (enumerants_at (kind_of G k)) x) h in
    let w = whole_mask G k x _ s in
    rw (e, w) (Takes.mask (enumerants_at (kind_of G k)) x _ s)

-- by the shape
abbrev Taken : Table → ℕ → Shape → Plain → Type 0
Taken G k sh o = Takes k sh o (operand_words o) (map alone (opened_kinds G o))

type_fit : (G : Table) (k : ℕ) (o : Plain) → is_fit k AsType o ≡ true → Taken G k AsType o
type_fit G k (OfType x) e = Takes.result_type x
type_fit G k (Result x) e = cc
type_fit G k (Id x) e = cc
type_fit G k (Word x) e = cc
type_fit G k (Argument x) e = cc
type_fit G k (Mention x) e = cc
type_fit G k (Number low high words) e = cc
type_fit G k (Text t) e = cc
type_fit G k (Value j x) e = cc
type_fit G k (Mask j x) e = cc

result_fit : (G : Table) (k : ℕ) (o : Plain) → is_fit k AsResult o ≡ true → Taken G k AsResult o
result_fit G k (OfType x) e = cc
result_fit G k (Result x) e = Takes.result x
result_fit G k (Id x) e = cc
result_fit G k (Word x) e = cc
result_fit G k (Argument x) e = cc
result_fit G k (Mention x) e = cc
result_fit G k (Number low high words) e = cc
result_fit G k (Text t) e = cc
result_fit G k (Value j x) e = cc
result_fit G k (Mask j x) e = cc

id_fit : (G : Table) (k : ℕ) (o : Plain) → is_fit k AsId o ≡ true → Taken G k AsId o
id_fit G k (OfType x) e = cc
id_fit G k (Result x) e = cc
id_fit G k (Id x) e = Takes.id x
id_fit G k (Word x) e = cc
id_fit G k (Argument x) e = cc
id_fit G k (Mention x) e = cc
id_fit G k (Number low high words) e = cc
id_fit G k (Text t) e = cc
id_fit G k (Value j x) e = cc
id_fit G k (Mask j x) e = cc

word_fit : (G : Table) (k : ℕ) (o : Plain) → is_fit k AsWord o ≡ true → Taken G k AsWord o
word_fit G k (OfType x) e = cc
word_fit G k (Result x) e = cc
word_fit G k (Id x) e = cc
word_fit G k (Word x) e = Takes.word x
word_fit G k (Argument x) e = cc
word_fit G k (Mention x) e = cc
word_fit G k (Number low high words) e = cc
word_fit G k (Text t) e = cc
word_fit G k (Value j x) e = cc
word_fit G k (Mask j x) e = cc

number_fit : (G : Table) (k : ℕ) (w : Option ℕ) (o : Plain) → is_fit k (AsNumber w) o ≡ true → Taken G k (AsNumber w) o
number_fit G k w (OfType x) e = cc
number_fit G k w (Result x) e = cc
number_fit G k w (Id x) e = cc
number_fit G k w (Word x) e = cc
number_fit G k w (Argument x) e = cc
number_fit G k w (Mention x) e = cc
number_fit G k w (Number low high words) e = number_takes k w low high words e
number_fit G k w (Text t) e = cc
number_fit G k w (Value j x) e = cc
number_fit G k w (Mask j x) e = cc

text_fit : (G : Table) (k : ℕ) (o : Plain) → HasText o → is_fit k AsText o ≡ true → Taken G k AsText o
text_fit G k (OfType x) h e = cc
text_fit G k (Result x) h e = cc
text_fit G k (Id x) h e = cc
text_fit G k (Word x) h e = cc
text_fit G k (Argument x) h e = cc
text_fit G k (Mention x) h e = cc
text_fit G k (Number low high words) h e = cc
text_fit G k (Text t) h e = let s = text_spelled t h.1 e in Takes.text t (text_words t) s.padding s.holds s.zeros h.0
text_fit G k (Value j x) h e = cc
text_fit G k (Mask j x) h e = cc

value_fit : (G : Table) (k : ℕ) (o : Plain) → is_fit k (AsValue (enumerants_at (kind_of G k))) o ≡ true
    → Taken G k (AsValue (enumerants_at (kind_of G k))) o
value_fit G k (OfType x) e = cc
value_fit G k (Result x) e = cc
value_fit G k (Id x) e = cc
value_fit G k (Word x) e = cc
value_fit G k (Argument x) e = cc
value_fit G k (Mention x) e = cc
value_fit G k (Number low high words) e = cc
value_fit G k (Text t) e = cc
value_fit G k (Value j x) e = value_takes G k j x (eq_by j k (and_first (nat_eq j k) _ e)) (and_second (nat_eq j k) _ e)
value_fit G k (Mask j x) e = cc

mask_fit : (G : Table) (k : ℕ) (o : Plain) → is_fit k (AsMask (enumerants_at (kind_of G k))) o ≡ true
    → Taken G k (AsMask (enumerants_at (kind_of G k))) o
mask_fit G k (OfType x) e = cc
mask_fit G k (Result x) e = cc
mask_fit G k (Id x) e = cc
mask_fit G k (Word x) e = cc
mask_fit G k (Argument x) e = cc
mask_fit G k (Mention x) e = cc
mask_fit G k (Number low high words) e = cc
mask_fit G k (Text t) e = cc
mask_fit G k (Value j x) e = cc
mask_fit G k (Mask j x) e = mask_takes G k j x (eq_by j k (and_first (nat_eq j k) _ e)) (and_second (nat_eq j k) _ e)

nothing_fit : (G : Table) (k : ℕ) (o : Plain) → is_fit k AsNothing o ≡ true → Taken G k AsNothing o
nothing_fit G k (OfType x) e = cc
nothing_fit G k (Result x) e = cc
nothing_fit G k (Id x) e = cc
nothing_fit G k (Word x) e = cc
nothing_fit G k (Argument x) e = cc
nothing_fit G k (Mention x) e = cc
nothing_fit G k (Number low high words) e = cc
nothing_fit G k (Text t) e = cc
nothing_fit G k (Value j x) e = cc
nothing_fit G k (Mask j x) e = cc

integer_fit : (G : Table) (k : ℕ) (w : Option ℕ) (b : Bool) (o : Plain)
    → is_fit k (if b then AsNumber w else AsWord) o ≡ true → Taken G k (if b then AsNumber w else AsWord) o
integer_fit G k w true o e = number_fit G k w o e
integer_fit G k w false o e = word_fit G k o e

leaf_fit : (G : Table) (k : ℕ) (c : Context) (paired : Bool) (l : declared.Leaf) (o : Plain) → HasText o
    → is_fit k (leaf_shape c paired (enumerants_at (kind_of G k)) l) o ≡ true
    → Taken G k (leaf_shape c paired (enumerants_at (kind_of G k)) l) o
leaf_fit G k c paired leaf.ResultType o h e = type_fit G k o e
leaf_fit G k c paired leaf.Result o h e = result_fit G k o e
leaf_fit G k c paired leaf.Id o h e = id_fit G k o e
leaf_fit G k c paired leaf.Integer o h e = integer_fit G k _ _ o e
leaf_fit G k c paired leaf.Word o h e = word_fit G k o e
leaf_fit G k c paired leaf.ContextNumber o h e = number_fit G k (context_width c) o e
leaf_fit G k c paired leaf.Text o h e = text_fit G k o h e
leaf_fit G k c paired leaf.Value o h e = value_fit G k o e
leaf_fit G k c paired leaf.Mask o h e = mask_fit G k o e
leaf_fit G k c paired leaf.Nothing o h e = nothing_fit G k o e

pub fit_takes : (G : Table) (k : ℕ) (c : Context) (paired : Bool) (l : declared.Leaf) (sh : Shape) (o : Plain)
    → sh ≡ leaf_shape c paired (enumerants_at (kind_of G k)) l → HasText o
    → is_fit k sh o ≡ true → Takes k sh o (operand_words o) (map alone (opened_kinds G o))
fit_takes G k c paired l sh o s h e =
    let f : is_fit k (leaf_shape c paired (enumerants_at (kind_of G k)) l) o ≡ true = sym (ap (λ z. is_fit k z o) s)
    ∙ e in
    rw s (leaf_fit G k c paired l o h f)

-- what takes an operand fits it
without_zero_more : (b : ℕ) (t : List ℕ) (x : Bool) → (b ≡ 0 → ⊥) → is_without_zero t ≡ true → nat_eq b 0 ≡ x
    → not (x || list_any (λ b. nat_eq b 0) t) ≡ true
without_zero_more b t true n h f = absurd (n (eq_by b 0 f))
without_zero_more b t false n h f = h

without_zero : (t : List ℕ) → AllByRecursion (λ b. b ≡ 0 → ⊥) t → is_without_zero t ≡ true
without_zero [] h = refl
without_zero (b ∷ t) h = without_zero_more b t (nat_eq b 0) h.0 (without_zero t h.1) refl

pub takes_fit : (k : ℕ) (sh : Shape) (o : Plain) (ws : List ℕ) (ss : List Slot) → Takes k sh o ws ss
    → is_fit k sh o ≡ true
takes_fit k _ _ _ _ (Takes.result_type x) = refl
takes_fit k _ _ _ _ (Takes.result x) = refl
takes_fit k _ _ _ _ (Takes.id x) = refl
takes_fit k _ _ _ _ (Takes.word x) = refl
takes_fit k _ _ _ _ (Takes.narrow w x h) = let e = le_of w 32 h in rw e refl
takes_fit k _ _ _ _ (Takes.wide w x y h) = let e = gt_of w 32 h in rw e refl
takes_fit k _ _ _ _ (Takes.text t ws p h z u) = without_zero t h.no_zero
takes_fit k _ _ _ _ (Takes.value es x ks h) = let e = eq_of k k refl in rw (e, h) refl
takes_fit k _ _ _ _ (Takes.mask es x ks h) = let e = eq_of k k refl in rw (e, h) refl

pub unfit_takes : (k : ℕ) (sh : Shape) (o : Plain) → is_fit k sh o ≡ false → (ws : List ℕ) (ss : List Slot)
    → Takes k sh o ws ss → ⊥
unfit_takes k sh o e ws ss t = let f = takes_fit k sh o ws ss t in cc

-- by an equal shape
pub by_shape : (k : ℕ) (sh th : Shape) (o : Plain) (r : Bool) → sh ≡ th → r ≡ is_fit k th o → r ≡ is_fit k sh o
by_shape k sh th o r e f = f ∙ sym (ap (λ z. is_fit k z o) e)

-- by the leaf that a kind asks for
pub by_leaf : (G : Table) (c : Context) (kind : ℕ) (paired : Bool) (l m : declared.Leaf) (o : Plain) (r : Bool)
    → form_at (kind_of G kind) ≡ Leaf l → l ≡ m
    → r ≡ is_fit kind (leaf_shape c paired (enumerants_at (kind_of G kind)) m) o
    → r ≡ is_fit kind (shape_of G c (record { kind = kind; paired = paired })) o
by_leaf G c kind paired l m o r e f h =
    by_shape kind _ _ o r (shape_leaf G c (record { kind = kind; paired = paired }) l m e f) h
