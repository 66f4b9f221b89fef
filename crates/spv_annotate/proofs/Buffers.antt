-- Texts that stand at the end of a buffer.
use Rattle.std.proofs.Common.{◌≡◌, ◌++◌, ◌∙◌, ◌<◌, ◌≤◌, ◌+◌, ◌^◌, ℕ, List, [], ◌∷◌, length, drop, drop-drop, refl, true}
use Rattle.std.proofs.Common.{ap, arith, append_assoc, append-nil, sym, length-append, length-drop}
use Rattle.std.specs.Prelude.{codes, decimal, nat_lt}
use Rattle.std.specs.List.{list_all}
use Rattle.std.specs.Str.{IsUtf8}
use Rattle.std.proofs.lemmas.Fmt.{IsAscii-decimal}
use Rattle.std.proofs.lemmas.List.{drop-append-le}
use Rattle.std.proofs.lemmas.Str.{IsUtf8-append, IsUtf8-from_ascii}
use Rattle.spv_printer.proofs.Digits.{short_word}
use Rattle.std.proofs.Common.{zero, suc}
use Rattle.spv_annotate.specs.Notes.{column, place_text}
use Rattle.spv_annotate.proofs.Small.{ascii_by, both}

-- a number leaves room
pub room_left : (n m r k : ℕ) → m ≡ n → n < 2 ^ 32 → r + length (decimal m) ≡ k → k ≤ r + 10
room_left n m r k e h s = let t = short_word n h in let u : r + length (decimal n) ≡ k = rw e at s in omega arith

pub number_utf8 : (n : ℕ) → n < 2 ^ 64 → IsUtf8 (decimal n)
number_utf8 n h = IsUtf8-from_ascii (decimal n) (IsAscii-decimal n h)

-- what stands at the very end
none_there : (d : List ℕ) → length d ≡ 0 → d ≡ []
none_there [] n = refl
none_there (b ∷ d) n = absurd cc

pub at_end : (new x d : List ℕ) (start end : ℕ) → drop start new ≡ x ++ d → start + length x ≡ end → length new ≡ end
    → drop start new ≡ x
at_end new x d start end e s l =
    let a = length-drop start new in
    let b : length (drop start new) ≡ length (x ++ d) = ap length e in
    let f = length-append x d in
    let n : length d ≡ 0 = omega (arith, a, b, f, s, l) in
    e ∙ (ap (λ z. x ++ z) (none_there d n) ∙ append-nil x)

-- and what stands before it
pub before_end : (old new x y : List ℕ) (start end : ℕ) → drop start new ≡ x ++ drop end old → drop end old ≡ y
    → drop start new ≡ x ++ y
before_end old new x y start end e f = e ∙ ap (λ z. x ++ z) f

pub text_utf8 : (t : List ℕ) → list_all (λ b. nat_lt b 128) t ≡ true → IsUtf8 t
text_utf8 t h = IsUtf8-from_ascii t (ascii_by t h)

-- so is what is left of a text
pub dropped_utf8 : (k : ℕ) (t : List ℕ) → list_all (λ b. nat_lt b 128) t ≡ true → IsUtf8 (drop k t)
dropped_utf8 k t h = text_utf8 (drop k t) (rest k t h)
  where
    rest : (k : ℕ) (t : List ℕ) → list_all (λ b. nat_lt b 128) t ≡ true → list_all (λ b. nat_lt b 128) (drop k t) ≡ true
    rest zero t h = h
    rest (suc k) [] h = h
    rest (suc k) (b ∷ t) h = rest k t (both (nat_lt b 128) (list_all (λ b. nat_lt b 128) t) h).1

pub four_behind : (a b c d : List ℕ) → a ++ (b ++ (c ++ d)) ≡ ((a ++ b) ++ c) ++ d
four_behind a b c d = sym (append_assoc (a ++ b) c d ∙ append_assoc a b (c ++ d))

-- spaces up to the column of comments but for some, and the numbers of an instruction and of its first word

pub place_left : (buffer : List ℕ) (left omitted at word : ℕ) → drop left buffer ≡ column ++ place_text at word
    → omitted < 48 → drop (left + omitted) buffer ≡ drop omitted column ++ place_text at word
place_left buffer left omitted at word e few =
    let n : length column ≡ 48 = refl in
    sym (drop-drop omitted left buffer) ∙ (ap (drop omitted) e
    ∙ drop-append-le omitted column (place_text at word) (omega (arith, n, few)))

pub place_utf8 : (omitted at word : ℕ) → at < 2 ^ 64 → word < 2 ^ 64
    → IsUtf8 (drop omitted column ++ place_text at word)
place_utf8 omitted at word h k =
    let a = IsUtf8-append (codes "; inst " ++ decimal at) (codes " word ")
    (IsUtf8-append (codes "; inst ") (decimal at) (text_utf8 (codes "; inst ") refl) (number_utf8 at h))
    (text_utf8 (codes " word ") refl) in
    IsUtf8-append (drop omitted column) (place_text at word) (dropped_utf8 omitted column refl)
    (IsUtf8-append _ (decimal word) a (number_utf8 word k))
