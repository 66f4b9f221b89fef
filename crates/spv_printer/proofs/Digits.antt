-- Numbers at the end of a buffer.
use Rattle.std.proofs.Common.{◌≡◌, ◌++◌, ◌∙◌, ◌<◌, ◌≤◌, ◌+◌, ◌-◌, ◌^◌, ℕ, List, [], ◌∷◌, length, drop, set, ap, arith}
use Rattle.std.proofs.Common.{length-set}
use Rattle.std.specs.Prelude.{decimal}
use Rattle.std.specs.Str.{IsUtf8, IsAscii}
use Rattle.std.proofs.lemmas.Fmt.{length-decimal-le, IsAscii-decimal}
use Rattle.std.proofs.lemmas.List.{drop-set}
use Rattle.std.proofs.lemmas.Str.{IsUtf8-from_ascii, IsAscii-append}
use Rattle.std.proofs.lemmas.Str.Ascii.{IsAscii-cons, IsAscii-nil}
use Rattle.spv_lines.specs.Operand.{id_text}

-- a word has at most ten digits
pub short_word : (n : ℕ) → n < 2 ^ 32 → length (decimal n) ≤ 10
short_word n h = length-decimal-le 10 n (omega arith) (omega arith) (omega arith)

-- a mark in front of what stands at the end
pub marked : (xs : List ℕ) (at m : ℕ) (t : List ℕ) → 0 < at → at ≤ length xs → drop at xs ≡ t
    → drop (at - 1) (set xs (at - 1) m) ≡ m ∷ t
marked xs at m t h l e =
    let f : at - 1 + 1 ≡ at = omega arith in
    drop-set xs (at - 1) m (omega arith) ∙ ap (λ z. m ∷ z) (ap (λ i. drop i xs) f ∙ e)

pub twice_marked : (xs : List ℕ) (at m n : ℕ) (t : List ℕ) → 1 < at → at ≤ length xs → drop at xs ≡ t
    → drop (at - 2) (set (set xs (at - 1) m) (at - 2) n) ≡ n ∷ m ∷ t
twice_marked xs at m n t h l e =
    let a = marked xs at m t (omega arith) l e in
    let f : at - 2 ≡ (at - 1) - 1 = omega arith in
    let k = length-set xs (at - 1) m in
    let b = marked (set xs (at - 1) m) (at - 1) n (m ∷ t) (omega arith) (omega (arith, k)) a in
    rw f b

id_ascii : (n : ℕ) → n < 2 ^ 64 → IsAscii (id_text n)
id_ascii n h = IsAscii-cons 37 (decimal n) (omega arith) (IsAscii-decimal n h)

pub id_utf8 : (n : ℕ) → n < 2 ^ 64 → IsUtf8 (32 ∷ id_text n)
id_utf8 n h = IsUtf8-from_ascii (32 ∷ id_text n) (IsAscii-cons 32 (id_text n) (omega arith) (id_ascii n h))

pub word_utf8 : (n : ℕ) → n < 2 ^ 64 → IsUtf8 (32 ∷ decimal n)
word_utf8 n h = IsUtf8-from_ascii (32 ∷ decimal n) (IsAscii-cons 32 (decimal n) (omega arith) (IsAscii-decimal n h))

equals_ascii : IsAscii (32 ∷ 61 ∷ 32 ∷ [])
equals_ascii = IsAscii-cons 32 (61 ∷ 32 ∷ []) (omega arith)
    (IsAscii-cons 61 (32 ∷ []) (omega arith) (IsAscii-cons 32 [] (omega arith) IsAscii-nil))

pub front_utf8 : (n : ℕ) → n < 2 ^ 64 → IsUtf8 (id_text n ++ (32 ∷ 61 ∷ 32 ∷ []))
front_utf8 n h = IsUtf8-from_ascii (id_text n ++ (32 ∷ 61 ∷ 32 ∷ []))
    (IsAscii-append (id_text n) (32 ∷ 61 ∷ 32 ∷ []) (id_ascii n h) equals_ascii)

-- room for the digits of a word and marks in front
pub fits_room : (n m k : ℕ) → m ≡ n → n < 2 ^ 32 → 10 ≤ k → length (decimal m) ≤ k
fits_room n m k e h l = let s = short_word n h in rw e (omega arith)

pub marks_room : (n m r k : ℕ) → m ≡ n → n < 2 ^ 32 → 12 ≤ k → r + length (decimal m) ≡ k → 2 ≤ r
marks_room n m r k e h l s = let t = short_word n h in let u : r + length (decimal n) ≡ k = rw e at s in omega arith
