-- What a token is for the shapes of ids and numbers.
use Rattle.std.proofs.Common.{◌≡◌, ◌≢◌, ◌++◌, ◌∙◌, ◌<◌, ◌≤◌, ◌+◌, ◌*◌, ◌/◌, ◌%◌, ◌^◌, ℕ, List, [], ◌∷◌, Option, Some}
use Rattle.std.proofs.Common.{None, Bool, true, false, nat_eq, nat_le, length, take, drop, refl, sym, ap, arith}
use Rattle.std.specs.Prelude.{decimal, codes, Err}
use Rattle.std.proofs.lemmas.List.{append_cancel_left}
use Rattle.spv_table.specs.Table.{Table}
use Rattle.spv_module.specs.Operand.{Plain, OfType, Result, Id, Word, Number}
use Rattle.spv_module.specs.Shape.{Slot, Shape, AsType, AsResult, AsId, AsWord, AsNumber}
use Rattle.spv_module.specs.Spelling.{Takes}
use Rattle.spv_inst.specs.inner.Written.{fits_width}
use Rattle.spv_lines.specs.Digits.{is_number, hex_digits, IsLarge}
use Rattle.spv_lines.specs.Operand.{IsRead}
use Rattle.spv_lines.specs.Line.{AreWords}
use Rattle.spv_lines.specs.Refusal.{place_of}
use Rattle.spv_lines.proofs.Numbers.{decimal_number}
use Rattle.spv_lines.proofs.Large.{place, same_place, no_place, narrow_limit, wide_limit}
use Rattle.spv_lines.proofs.Tokens.{length-hex}
use Rattle.spv_lines.specs.declared.misread.Misread.{Misread}
use Rattle.spv_lines.specs.declared.misread.Misread.TheVariants.{IllFormed, TooLarge}
use Rattle.spv_lines.specs.inner.Answer.{IsBelow, IsBehind, IsTaken, IsOver, IsNone, IsToken}

-- what a refused token is
abbrev pub Refused : Table → Bool → ℕ → Shape → List ℕ → Misread → Type 0
Refused G hex k sh t why = IsToken G hex k sh t (Err why)

-- a number behind a mark
pub over_marked : (hex : Bool) (sh : Shape) (mark : ℕ) (t : List ℕ)
    → place_of hex sh ≡ Some (place (mark ∷ []) (2 ^ 32)) → IsOver hex sh t
    → (ds : List ℕ) × (t ≡ mark ∷ ds) × IsLarge (2 ^ 32) ds
over_marked hex sh mark t p v =
    let s = same_place (place (mark ∷ []) (2 ^ 32)) v.place (sym p ∙ v.placed) in
    let a = v.all in
    let b = v.large in
    let f : t ≡ mark ∷ v.digits = rw (← s) at a in
    let l : IsLarge (2 ^ 32) v.digits = rw (← s) at b in
    (v.digits, f, l)

pub marked_refused : (G : Table) (hex : Bool) (k : ℕ) (sh : Shape) (mark : ℕ) (t : List ℕ) (why : Misread)
    → place_of hex sh ≡ Some (place (mark ∷ []) (2 ^ 32))
    → ((o : Plain) (ws : List ℕ) (ss : List Slot) → Takes k sh o ws ss → AreWords ws → IsRead G hex o t
    → (x : ℕ) × (x < 4294967296) × (t ≡ mark ∷ decimal x))
    → IsBehind mark t (Err why) → Refused G hex k sh t why
marked_refused G hex k sh mark t TooLarge p f b =
    record { place = place (mark ∷ []) (2 ^ 32); digits = b.0; placed = p; large = b.2; all = b.1 }
marked_refused G hex k sh mark t IllFormed p f b = record {
  untaken = λ o ws ss h w r. let x = f o ws ss h w r in let l = x.1 in
      b (decimal x.0) x.2 (decimal_number x.0 (omega arith));
  not_over = λ v. let d = over_marked hex sh mark t p v in b d.0 d.1 d.2.number;
}

type_read : (G : Table) (hex : Bool) (k : ℕ) (t : List ℕ) (o : Plain) (ws : List ℕ) (ss : List Slot)
    → Takes k AsType o ws ss → AreWords ws → IsRead G hex o t → (x : ℕ) × (x < 4294967296) × (t ≡ 37 ∷ decimal x)
type_read G hex k t _ _ _ (Takes.result_type x) w r = (x, w.0, r)

result_read : (G : Table) (hex : Bool) (k : ℕ) (t : List ℕ) (o : Plain) (ws : List ℕ) (ss : List Slot)
    → Takes k AsResult o ws ss → AreWords ws → IsRead G hex o t → (x : ℕ) × (x < 4294967296) × (t ≡ 37 ∷ decimal x)
result_read G hex k t _ _ _ (Takes.result x) w r = (x, w.0, r)

id_read : (G : Table) (hex : Bool) (k : ℕ) (t : List ℕ) (o : Plain) (ws : List ℕ) (ss : List Slot)
    → Takes k AsId o ws ss → AreWords ws → IsRead G hex o t → (x : ℕ) × (x < 4294967296) × (t ≡ 37 ∷ decimal x)
id_read G hex k t _ _ _ (Takes.id x) w r = (x, w.0, r)

pub type_taken : (G : Table) (hex : Bool) (k x : ℕ) (t : List ℕ) → (x < 2 ^ 32) × (t ≡ 37 ∷ decimal x)
    → IsTaken G hex k AsType t (OfType x)
type_taken G hex k x t h = let l = h.0 in record { fit = refl; text = tt; small = (omega arith, tt); read = h.1 }

pub result_taken : (G : Table) (hex : Bool) (k x : ℕ) (t : List ℕ) → (x < 2 ^ 32) × (t ≡ 37 ∷ decimal x)
    → IsTaken G hex k AsResult t (Result x)
result_taken G hex k x t h = let l = h.0 in record { fit = refl; text = tt; small = (omega arith, tt); read = h.1 }

pub id_taken : (G : Table) (hex : Bool) (k x : ℕ) (t : List ℕ) → (x < 2 ^ 32) × (t ≡ 37 ∷ decimal x)
    → IsTaken G hex k AsId t (Id x)
id_taken G hex k x t h = let l = h.0 in record { fit = refl; text = tt; small = (omega arith, tt); read = h.1 }

pub type_refused : (G : Table) (hex : Bool) (k : ℕ) (t : List ℕ) (why : Misread) → IsBehind 37 t (Err why)
    → Refused G hex k AsType t why
type_refused G hex k t why b = marked_refused G hex k AsType 37 t why refl (type_read G hex k t) b

pub result_refused : (G : Table) (hex : Bool) (k : ℕ) (t : List ℕ) (why : Misread) → IsBehind 37 t (Err why)
    → Refused G hex k AsResult t why
result_refused G hex k t why b = marked_refused G hex k AsResult 37 t why refl (result_read G hex k t) b

pub id_refused : (G : Table) (hex : Bool) (k : ℕ) (t : List ℕ) (why : Misread) → IsBehind 37 t (Err why)
    → Refused G hex k AsId t why
id_refused G hex k t why b = marked_refused G hex k AsId 37 t why refl (id_read G hex k t) b

-- a number alone
over_alone : (hex : Bool) (sh : Shape) (limit : ℕ) (t : List ℕ) → place_of hex sh ≡ Some (place [] limit)
    → IsOver hex sh t → IsLarge limit t
over_alone hex sh limit t p v =
    let s = same_place (place [] limit) v.place (sym p ∙ v.placed) in
    let a = v.all in
    let b = v.large in
    let f : t ≡ v.digits = rw (← s) at a in
    let l : IsLarge limit v.digits = rw (← s) at b in
    rw f l

number_so : (t : List ℕ) (x : ℕ) → x < 2 ^ 64 → t ≡ decimal x → is_number t ≡ true
number_so t x h e = ap is_number e ∙ decimal_number x h

not_both : (t : List ℕ) → is_number t ≡ true → is_number t ≡ false → ⊥
not_both t e f = cc

pub alone_refused : (G : Table) (hex : Bool) (k : ℕ) (sh : Shape) (limit : ℕ) (t : List ℕ) (why : Misread)
    → place_of hex sh ≡ Some (place [] limit)
    → ((o : Plain) (ws : List ℕ) (ss : List Slot) → Takes k sh o ws ss → AreWords ws → IsRead G hex o t
    → (x : ℕ) × (x < 2 ^ 64) × (t ≡ decimal x))
    → IsBelow limit t (Err why) → Refused G hex k sh t why
alone_refused G hex k sh limit t TooLarge p f b =
    record { place = place [] limit; digits = t; placed = p; large = b; all = refl }
alone_refused G hex k sh limit t IllFormed p f b = record {
  untaken = λ o ws ss h w r. let x = f o ws ss h w r in not_both t (number_so t x.0 x.1 x.2) b;
  not_over = λ v. not_both t (over_alone hex sh limit t p v).number b;
}

word_read : (G : Table) (hex : Bool) (k : ℕ) (t : List ℕ) (o : Plain) (ws : List ℕ) (ss : List Slot)
    → Takes k AsWord o ws ss → AreWords ws → IsRead G hex o t → (x : ℕ) × (x < 2 ^ 64) × (t ≡ decimal x)
word_read G hex k t _ _ _ (Takes.word x) w r = let l = w.0 in (x, omega arith, r)

pub word_taken : (G : Table) (hex : Bool) (k x : ℕ) (t : List ℕ) → (x < 2 ^ 32) × (t ≡ decimal x)
    → IsTaken G hex k AsWord t (Word x)
word_taken G hex k x t h = let l = h.0 in record { fit = refl; text = tt; small = (omega arith, tt); read = h.1 }

pub word_refused : (G : Table) (hex : Bool) (k : ℕ) (t : List ℕ) (why : Misread) → IsBelow (2 ^ 32) t (Err why)
    → Refused G hex k AsWord t why
word_refused G hex k t why b = alone_refused G hex k AsWord (2 ^ 32) t why refl (word_read G hex k t) b

number_read : (G : Table) (k w : ℕ) (t : List ℕ) (o : Plain) (ws : List ℕ) (ss : List Slot)
    → Takes k (AsNumber (Some w)) o ws ss → AreWords ws → IsRead G false o t → (x : ℕ) × (x < 2 ^ 64) × (t ≡ decimal x)
number_read G k w t _ _ _ (Takes.narrow _ x n) h r = let l = h.0 in (x + 4294967296 * 0, omega arith, r)
number_read G k w t _ _ _ (Takes.wide _ x y n) h r = let l = h.0 in let m = h.1.0 in
    (x + 4294967296 * y, omega arith, r)

narrow_place : (w : ℕ) → w ≤ 32 → place_of false (AsNumber (Some w)) ≡ Some (place [] (2 ^ 32))
narrow_place w h = let e = narrow_limit w h in rw e refl

wide_place : (w : ℕ) → 32 < w → place_of false (AsNumber (Some w)) ≡ Some (place [] (2 ^ 64))
wide_place w h = let e = wide_limit w h in rw e refl

narrow_fit : (w : ℕ) → w ≤ 32 → fits_width (Some w) 0 1 ≡ true
narrow_fit w h = let e = narrow_limit w h in rw e refl

wide_fit : (w y : ℕ) → 32 < w → fits_width (Some w) y 2 ≡ true
wide_fit w y h = let e = wide_limit w h in rw e refl

pub narrow_taken : (G : Table) (k w x : ℕ) (t : List ℕ) → w ≤ 32 → (x < 2 ^ 32) × (t ≡ decimal x)
    → IsTaken G false k (AsNumber (Some w)) t (Number x 0 1)
narrow_taken G k w x t n h = let l = h.0 in let z : x ≡ x + 4294967296 * 0 = omega arith in
    record { fit = narrow_fit w n; text = tt; small = (omega arith, tt); read = h.1 ∙ ap decimal z }

pub narrow_refused : (G : Table) (k w : ℕ) (t : List ℕ) (why : Misread) → w ≤ 32 → IsBelow (2 ^ 32) t (Err why)
    → Refused G false k (AsNumber (Some w)) t why
narrow_refused G k w t why n b =
    alone_refused G false k (AsNumber (Some w)) (2 ^ 32) t why (narrow_place w n) (number_read G k w t) b

pub wide_taken : (G : Table) (k w x : ℕ) (t : List ℕ) → 32 < w → (x < 2 ^ 64) × (t ≡ decimal x)
    → IsTaken G false k (AsNumber (Some w)) t (Number (x % 4294967296) (x / 4294967296) 2)
wide_taken G k w x t n h =
    let l = h.0 in
    let low : x % 4294967296 < 4294967296 = omega arith in
    let high : x / 4294967296 < 4294967296 = omega arith in
    let z : x ≡ x % 4294967296 + 4294967296 * (x / 4294967296) = omega arith in
    record { fit = wide_fit w (x / 4294967296) n; text = tt; small = (low, (high, tt)); read = h.1 ∙ ap decimal z }

pub wide_refused : (G : Table) (k w : ℕ) (t : List ℕ) (why : Misread) → 32 < w → IsBelow (2 ^ 64) t (Err why)
    → Refused G false k (AsNumber (Some w)) t why
wide_refused G k w t why n b =
    alone_refused G false k (AsNumber (Some w)) (2 ^ 64) t why (wide_place w n) (number_read G k w t) b

-- in hexadecimal
hex_place : (w : ℕ) → place_of true (AsNumber (Some w)) ≡ None
hex_place w = refl

no_hex_over : (w : ℕ) (t : List ℕ) → IsOver true (AsNumber (Some w)) t → ⊥
no_hex_over w t v = no_place v.place v.placed

pub narrow_eight : (G : Table) (k w x : ℕ) (t ds : List ℕ) → w ≤ 32 → t ≡ 48 ∷ 120 ∷ ds
    → (x < 2 ^ 32) × (ds ≡ hex_digits 8 x) → IsTaken G true k (AsNumber (Some w)) t (Number x 0 1)
narrow_eight G k w x t ds n e h = let l = h.0 in
    record { fit = narrow_fit w n; text = tt; small = (omega arith, tt); read = e ∙ ap (λ z. 48 ∷ 120 ∷ z) h.1 }

pub wide_sixteen : (G : Table) (k w x y : ℕ) (t ds : List ℕ) → 32 < w → t ≡ 48 ∷ 120 ∷ ds
    → (x < 2 ^ 32) × (y < 2 ^ 32) × (ds ≡ hex_digits 8 y ++ hex_digits 8 x)
    → IsTaken G true k (AsNumber (Some w)) t (Number x y 2)
wide_sixteen G k w x y t ds n e h =
    let l = h.0 in
    let m = h.1 in
    let low : x < 4294967296 = omega arith in
    let high : y < 4294967296 = omega arith in
    record { fit = wide_fit w y n; text = tt; small = (low, (high, tt)); read = e ∙ ap (λ z. 48 ∷ 120 ∷ z) h.2 }

pub no_hexadecimal : (G : Table) (k w : ℕ) (t : List ℕ) → ((ds : List ℕ) → t ≡ 48 ∷ 120 ∷ ds → ⊥)
    → IsNone G true k (AsNumber (Some w)) t
no_hexadecimal G k w t n = record { untaken = wrong; not_over = no_hex_over w t }
  where
    wrong : (o : Plain) (ws : List ℕ) (ss : List Slot) → Takes k (AsNumber (Some w)) o ws ss → AreWords ws
        → IsRead G true o t → ⊥
    wrong _ _ _ (Takes.narrow _ x f) h r = n (hex_digits 8 x) r
    wrong _ _ _ (Takes.wide _ x y f) h r = n (hex_digits 8 y ++ hex_digits 8 x) r

pub no_eight : (G : Table) (k w : ℕ) (t ds : List ℕ) → w ≤ 32 → t ≡ 48 ∷ 120 ∷ ds
    → ((x : ℕ) → x < 2 ^ 32 → ds ≡ hex_digits 8 x → ⊥) → IsNone G true k (AsNumber (Some w)) t
no_eight G k w t ds n e d = record { untaken = wrong; not_over = no_hex_over w t }
  where
    wrong : (o : Plain) (ws : List ℕ) (ss : List Slot) → Takes k (AsNumber (Some w)) o ws ss → AreWords ws
        → IsRead G true o t → ⊥
    wrong _ _ _ (Takes.narrow _ x f) h r = let l = h.0 in
        d x (omega arith) (append_cancel_left (codes "0x") ds (hex_digits 8 x) (sym e ∙ r))
    wrong _ _ _ (Takes.wide _ x y f) h r = omega arith

two_eights : (t ds : List ℕ) (x y : ℕ) → t ≡ 48 ∷ 120 ∷ ds → t ≡ codes "0x" ++ (hex_digits 8 y ++ hex_digits 8 x)
    → ds ≡ hex_digits 8 y ++ hex_digits 8 x
two_eights t ds x y e r = append_cancel_left (codes "0x") ds (hex_digits 8 y ++ hex_digits 8 x) (sym e ∙ r)

pub no_wide : (G : Table) (k w : ℕ) (t ds : List ℕ) → 32 < w → t ≡ 48 ∷ 120 ∷ ds
    → ((x y : ℕ) → x < 2 ^ 32 → y < 2 ^ 32 → ds ≡ hex_digits 8 y ++ hex_digits 8 x → ⊥)
    → IsNone G true k (AsNumber (Some w)) t
no_wide G k w t ds n e d = record { untaken = wrong; not_over = no_hex_over w t }
  where
    wrong : (o : Plain) (ws : List ℕ) (ss : List Slot) → Takes k (AsNumber (Some w)) o ws ss → AreWords ws
        → IsRead G true o t → ⊥
    wrong _ _ _ (Takes.narrow _ x f) h r = omega arith
    wrong _ _ _ (Takes.wide _ x y f) h r = let l = h.0 in let m = h.1.0 in
        d x y (omega arith) (omega arith) (two_eights t ds x y e r)

-- sixteen digits are eight and eight
pub halves_of : (ds xs ys : List ℕ) → ds ≡ xs ++ ys → length xs ≡ 8 → (take 8 ds ≡ xs) × (drop 8 ds ≡ ys)
halves_of ds xs ys e l = (
  ap (take 8) e ∙ (ap (λ n. take n (xs ++ ys)) (sym l) ∙ Rattle.std.proofs.Math.Seq.take-append_seam xs ys),
  ap (drop 8) e ∙ (ap (λ n. drop n (xs ++ ys)) (sym l) ∙ Rattle.std.proofs.Math.Seq.drop-append_seam xs ys),
)

pub sixteen : (ds : List ℕ) (x y : ℕ) → ds ≡ hex_digits 8 y ++ hex_digits 8 x
    → (length ds ≡ 16) × (take 8 ds ≡ hex_digits 8 y) × (drop 8 ds ≡ hex_digits 8 x)
sixteen ds x y e =
    let h = halves_of ds (hex_digits 8 y) (hex_digits 8 x) e (length-hex 8 y) in
    let a = length-hex 8 y in
    let b = length-hex 8 x in
    let n = Rattle.std.proofs.Common.length-append (hex_digits 8 y) (hex_digits 8 x) in
    let l : length ds ≡ 16 = ap length e ∙ (omega (arith, n, a, b)) in
    (l, h.0, h.1)

-- a number that is no word
pub over_word : (t : List ℕ) (x : ℕ) → (x < 2 ^ 64) × (t ≡ decimal x) → 4294967296 ≤ x → IsLarge (2 ^ 32) t
over_word t x h l =
    let e = h.1 in
    let m = h.0 in
    rw e (record { number = decimal_number x m; large = large x m l })
  where
    large : (x : ℕ) → x < 2 ^ 64 → 4294967296 ≤ x → 2 ^ 32 ≤ Rattle.spv_lines.specs.Digits.value (decimal x)
    large x m l = let v = Rattle.spv_lines.proofs.Numbers.decimal_value x m in omega (arith, v)

pub over_large : (t : List ℕ) → IsLarge (2 ^ 64) t → IsLarge (2 ^ 32) t
over_large t l = let k = l.large in record { number = l.number; large = omega arith }

pub short_refused : (t : List ℕ) (why : Misread) → IsBelow (2 ^ 64) t (Err why) → IsBelow (2 ^ 32) t (Err why)
short_refused t TooLarge b = over_large t b
short_refused t IllFormed b = b

pub sixteen_of : (ds front back : List ℕ) (x y : ℕ) → front ≡ take 8 ds → back ≡ drop 8 ds
    → (y < 2 ^ 32) × (front ≡ hex_digits 8 y) → (x < 2 ^ 32) × (back ≡ hex_digits 8 x)
    → (x < 2 ^ 32) × (y < 2 ^ 32) × (ds ≡ hex_digits 8 y ++ hex_digits 8 x)
sixteen_of ds front back x y e f h g = (
  g.0,
  h.0,
  sym (Rattle.std.proofs.lemmas.List.take-append-drop 8 ds)
      ∙ (ap (λ z. z ++ drop 8 ds) (sym e ∙ h.1) ∙ ap (λ z. hex_digits 8 y ++ z) (sym f ∙ g.1)),
)
