-- Whatever words are left, a shape takes some or refuses them.
use Rattle.std.proofs.Common.{◌≡◌, ◌≢◌, ◌++◌, ◌⊎◌, inl, inr, ◌<◌, ◌≤◌, ◌/◌, ◌%◌, ℕ, zero, suc, List, [], ◌∷◌, Option}
use Rattle.std.proofs.Common.{Some, None, Bool, true, false, length, refl, ap, arith}
use Rattle.std.proofs.lemmas.Str.{IsUtf8-from_is_utf8, is_utf8-from_IsUtf8}
use Rattle.std.specs.Str.{is_utf8}
use Rattle.std.specs.Prelude.{IsUtf8}
use Rattle.std.specs.List.{AllByRecursion}
use Rattle.spv_module.specs.Operand.{OfType, Result, Id, Word, Number, Text, Value, Mask}
use Rattle.spv_module.specs.Shape.{Shape, AsType, AsResult, AsId, AsWord, AsNumber, AsText, AsValue, AsMask, AsParts}
use Rattle.spv_module.specs.Shape.{AsNothing}
use Rattle.spv_table.specs.declared.table.Enumerant.{Enumerant}
use Rattle.spv_module.specs.Spelling.{octets_of, HoldsText, AreZeros, Takes, parameters_of, mask_parameters}
use Rattle.spv_module.specs.declared.fault.Rule.TheVariants.{I4, I6, I7, I8, I9, I10, I11, I12}
use Rattle.spv_module.specs.Refusal.{ShapeRefuses, IsLeaf, Meets}

-- the words up to the first zero octet, or none has one
data Found : List ℕ → Type 0 where
  found : (ws us t p : List ℕ) → HoldsText ws t p → Found (ws ++ us)
  nowhere : (us : List ℕ) → AllByRecursion (λ b. b ≢ 0) (octets_of us) → Found us

zero_or : (n : ℕ) → (n ≡ 0) ⊎ (n ≢ 0)
zero_or zero = inl refl
zero_or (suc n) = inr (λ e. omega arith)

holds_one : (w : ℕ) (t p : List ℕ) → w < 4294967296 → octets_of (w ∷ []) ≡ t ++ (0 ∷ p) → AllByRecursion (λ b. b ≢ 0) t
    → length p < 4 → HoldsText (w ∷ []) t p
holds_one w t p l e z s = record { words = (l, tt); octets = e; no_zero = z; short = s }

found_more : (w : ℕ) (us : List ℕ) → w < 4294967296 → w % 256 ≢ 0 → w / 256 % 256 ≢ 0 → w / 65536 % 256 ≢ 0
    → w / 16777216 % 256 ≢ 0 → Found us → Found (w ∷ us)
found_more w _ l a b c d (found ws us t p h) =
    found (w ∷ ws) us ((w % 256) ∷ (w / 256 % 256) ∷ (w / 65536 % 256) ∷ (w / 16777216 % 256) ∷ t) p
    (record {
      words = (l, h.words);
      octets = ap (λ bs. (w % 256) ∷ (w / 256 % 256) ∷ (w / 65536 % 256) ∷ (w / 16777216 % 256) ∷ bs) h.octets;
      no_zero = (a, (b, (c, (d, h.no_zero))));
      short = h.short;
    })
found_more w _ l a b c d (nowhere us z) = nowhere (w ∷ us) (a, (b, (c, (d, z))))

find_4 : (w : ℕ) (us : List ℕ) → w < 4294967296 → w % 256 ≢ 0 → w / 256 % 256 ≢ 0 → w / 65536 % 256 ≢ 0
    → (w / 16777216 % 256 ≡ 0) ⊎ (w / 16777216 % 256 ≢ 0) → Found us → Found (w ∷ us)
find_4 w us l a b c (inl e) f =
    found (w ∷ []) us ((w % 256) ∷ (w / 256 % 256) ∷ (w / 65536 % 256) ∷ []) []
    (holds_one w _ _ l (ap (λ x. (w % 256) ∷ (w / 256 % 256) ∷ (w / 65536 % 256) ∷ x ∷ []) e) (a, (b, (c, tt)))
    (omega arith))
find_4 w us l a b c (inr d) f = found_more w us l a b c d f

find_3 : (w : ℕ) (us : List ℕ) → w < 4294967296 → w % 256 ≢ 0 → w / 256 % 256 ≢ 0
    → (w / 65536 % 256 ≡ 0) ⊎ (w / 65536 % 256 ≢ 0) → Found us → Found (w ∷ us)
find_3 w us l a b (inl e) f =
    found (w ∷ []) us ((w % 256) ∷ (w / 256 % 256) ∷ []) ((w / 16777216 % 256) ∷ [])
    (holds_one w _ _ l (ap (λ x. (w % 256) ∷ (w / 256 % 256) ∷ x ∷ (w / 16777216 % 256) ∷ []) e) (a, (b, tt))
    (omega arith))
find_3 w us l a b (inr c) f = find_4 w us l a b c (zero_or (w / 16777216 % 256)) f

find_2 : (w : ℕ) (us : List ℕ) → w < 4294967296 → w % 256 ≢ 0 → (w / 256 % 256 ≡ 0) ⊎ (w / 256 % 256 ≢ 0) → Found us
    → Found (w ∷ us)
find_2 w us l a (inl e) f =
    found (w ∷ []) us ((w % 256) ∷ []) ((w / 65536 % 256) ∷ (w / 16777216 % 256) ∷ [])
    (holds_one w _ _ l (ap (λ x. (w % 256) ∷ x ∷ (w / 65536 % 256) ∷ (w / 16777216 % 256) ∷ []) e) (a, tt)
    (omega arith))
find_2 w us l a (inr b) f = find_3 w us l a b (zero_or (w / 65536 % 256)) f

find_1 : (w : ℕ) (us : List ℕ) → w < 4294967296 → (w % 256 ≡ 0) ⊎ (w % 256 ≢ 0) → Found us → Found (w ∷ us)
find_1 w us l (inl e) f =
    found (w ∷ []) us [] ((w / 256 % 256) ∷ (w / 65536 % 256) ∷ (w / 16777216 % 256) ∷ [])
    (holds_one w [] _ l (ap (λ x. x ∷ (w / 256 % 256) ∷ (w / 65536 % 256) ∷ (w / 16777216 % 256) ∷ []) e) tt
    (omega arith))
find_1 w us l (inr a) f = find_2 w us l a (zero_or (w / 256 % 256)) f

find : (us : List ℕ) → AllByRecursion (λ w. w < 4294967296) us → Found us
find [] l = nowhere [] tt
find (w ∷ us) l = find_1 w us l.0 (zero_or (w % 256)) (find us l.1)

zeros_more : (x : ℕ) (p : List ℕ) → (x ≡ 0) ⊎ (x ≢ 0) → AreZeros p ⊎ (AreZeros p → ⊥)
    → AreZeros (x ∷ p) ⊎ (AreZeros (x ∷ p) → ⊥)
zeros_more x p (inl e) (inl z) = inl (e, z)
zeros_more x p (inl e) (inr z) = inr (λ h. z h.1)
zeros_more x p (inr e) z = inr (λ h. e h.0)

zeros_or : (p : List ℕ) → AreZeros p ⊎ (AreZeros p → ⊥)
zeros_or [] = inl tt
zeros_or (x ∷ p) = zeros_more x p (zero_or x) (zeros_or p)

utf8_or : (t : List ℕ) → IsUtf8 t ⊎ (IsUtf8 t → ⊥)
utf8_or t = go (is_utf8 t) refl
  where
    go : (b : Bool) → is_utf8 t ≡ b → IsUtf8 t ⊎ (IsUtf8 t → ⊥)
    go true e = inl (IsUtf8-from_is_utf8 t e)
    go false e = inr (λ u. let f = is_utf8-from_IsUtf8 t u in cc)

no_words : (t p : List ℕ) → HoldsText [] t p → ⊥
no_words [] p h = let o = h.octets in cc
no_words (x ∷ t) p h = let o = h.octets in cc

text_meets : (k : ℕ) (ws us t p : List ℕ) → HoldsText ws t p → AreZeros p ⊎ (AreZeros p → ⊥) → IsUtf8 t ⊎ (IsUtf8 t → ⊥)
    → Meets k AsText (ws ++ us)
text_meets k ws us t p h (inl z) (inl u) = Meets.taken (Text t) ws [] us (Takes.text t ws p h z u)
text_meets k ws us t p h (inl z) (inr u) = Meets.refused (ws ++ us) I10 0 (ShapeRefuses.no_text t ws p us h z u)
text_meets k [] us t p h (inr z) u = absurd (no_words t p h)
text_meets k (w ∷ ws) us t p h (inr z) u =
    Meets.refused ((w ∷ ws) ++ us) I9 (length ws) (ShapeRefuses.padded t (w ∷ ws) p us (length ws) h z (omega arith))

string_meets : (k u : ℕ) (us : List ℕ) (vs : List ℕ) → vs ≡ u ∷ us → Found vs → Meets k AsText vs
string_meets k u us _ e (found ws vs t p h) = text_meets k ws vs t p h (zeros_or p) (utf8_or t)
string_meets k u us _ e (nowhere vs z) = rw e (Meets.refused (u ∷ us) I8 0 (ShapeRefuses.endless u us (rw e at z)))

number_meets : (k w u : ℕ) (us : List ℕ) → (w ≤ 32) ⊎ (32 < w) → Meets k (AsNumber (Some w)) (u ∷ us)
number_meets k w u us (inl l) = Meets.taken (Number u 0 1) (u ∷ []) [] us (Takes.narrow w u l)
number_meets k w u [] (inr l) = Meets.refused (u ∷ []) I4 1 (ShapeRefuses.half w u l)
number_meets k w u (v ∷ us) (inr l) = Meets.taken (Number u v 2) (u ∷ v ∷ []) [] us (Takes.wide w u v l)

suc_order : (w n : ℕ) → (w ≤ n) ⊎ (n < w) → (suc w ≤ suc n) ⊎ (suc n < suc w)
suc_order w n (inl h) = inl (omega arith)
suc_order w n (inr h) = inr (omega arith)

compare : (w n : ℕ) → (w ≤ n) ⊎ (n < w)
compare zero n = inl (omega arith)
compare (suc w) zero = inr (omega arith)
compare (suc w) (suc n) = suc_order w n (compare w n)

order : (w : ℕ) → (w ≤ 32) ⊎ (32 < w)
order w = compare w 32

value_meets : (k : ℕ) (es : List Enumerant) (u : ℕ) (us : List ℕ) (o : Option (List ℕ)) → parameters_of es u ≡ o
    → Meets k (AsValue es) (u ∷ us)
value_meets k es u us None e = Meets.refused (u ∷ us) I6 0 (ShapeRefuses.unknown_value es u us e)
value_meets k es u us (Some ks) e = Meets.taken (Value k u) (u ∷ []) _ us (Takes.value es u ks e)

mask_meets : (k : ℕ) (es : List Enumerant) (u : ℕ) (us : List ℕ) (o : Option (List ℕ)) → mask_parameters es u ≡ o
    → Meets k (AsMask es) (u ∷ us)
mask_meets k es u us None e = Meets.refused (u ∷ us) I7 0 (ShapeRefuses.unknown_bit es u us e)
mask_meets k es u us (Some ks) e = Meets.taken (Mask k u) (u ∷ []) _ us (Takes.mask es u ks e)

pub leaf_meets : (k : ℕ) (sh : Shape) (us : List ℕ) → IsLeaf sh → AllByRecursion (λ w. w < 4294967296) us
    → Meets k sh us
leaf_meets k sh [] h l = Meets.refused [] I4 0 (ShapeRefuses.missing sh h)
leaf_meets k AsType (u ∷ us) h l = Meets.taken (OfType u) (u ∷ []) [] us (Takes.result_type u)
leaf_meets k AsResult (u ∷ us) h l = Meets.taken (Result u) (u ∷ []) [] us (Takes.result u)
leaf_meets k AsId (u ∷ us) h l = Meets.taken (Id u) (u ∷ []) [] us (Takes.id u)
leaf_meets k AsWord (u ∷ us) h l = Meets.taken (Word u) (u ∷ []) [] us (Takes.word u)
leaf_meets k (AsNumber None) (u ∷ us) h l = Meets.refused (u ∷ us) I11 0 (ShapeRefuses.no_width u us)
leaf_meets k (AsNumber (Some w)) (u ∷ us) h l = number_meets k w u us (order w)
leaf_meets k AsText (u ∷ us) h l = string_meets k u us (u ∷ us) refl (find (u ∷ us) l)
leaf_meets k (AsValue es) (u ∷ us) h l = value_meets k es u us (parameters_of es u) refl
leaf_meets k (AsMask es) (u ∷ us) h l = mask_meets k es u us (mask_parameters es u) refl
leaf_meets k (AsParts ss) (u ∷ us) h l = absurd h
leaf_meets k AsNothing (u ∷ us) h l = Meets.refused (u ∷ us) I12 0 (ShapeRefuses.no_form u us)
