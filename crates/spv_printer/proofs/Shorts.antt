-- Short texts in quotes, put straight from words.
use Rattle.std.proofs.Common.{◌≡◌, ◌++◌, ◌∙◌, ◌<◌, ◌≤◌, ◌+◌, ℕ, List, [], ◌∷◌, length, take, set, ap, arith}
use Rattle.std.proofs.Common.{append_assoc, get_or}
use Rattle.std.specs.Prelude.{IsUtf8}
use Rattle.std.specs.Str.{IsAscii}
use Rattle.std.specs.List.{AllByRecursion}
use Rattle.std.proofs.lemmas.Str.{IsUtf8-from_ascii}
use Rattle.std.proofs.lemmas.Str.Ascii.{IsAscii-cons, IsAscii-nil}
use Rattle.std.proofs.lemmas.List.{take_more, take_more_set}
use Rattle.spv_lines.specs.Operand.{escaped, quoted}
use Rattle.std.proofs.Common.{drop, length-append, length-drop, length-set, length-take-le}
use Rattle.std.proofs.Math.Seq.{take-length}
use Rattle.spv_printer.proofs.Drafts.{front_copied, quoted_begun}

ascii_by : (bs : List ℕ) → AllByRecursion (λ b. b < 128) bs → IsAscii bs
ascii_by [] h = IsAscii-nil
ascii_by (b ∷ bs) h = IsAscii-cons b bs h.0 (ascii_by bs h.1)

pub all_snoc : (P : ℕ → Type 0) (xs : List ℕ) (b : ℕ) → AllByRecursion P xs → P b → AllByRecursion P (xs ++ (b ∷ []))
all_snoc P [] b h p = (p, tt)
all_snoc P (x ∷ xs) b h p = (h.0, all_snoc P xs b h.1 p)

-- octets of ASCII are UTF-8
pub ascii_utf8 : (bs : List ℕ) → AllByRecursion (λ b. b < 128) bs → IsUtf8 bs
ascii_utf8 bs h = IsUtf8-from_ascii bs (ascii_by bs h)

-- one octet more
pub copied_next : (old buffer octets : List ℕ) (at count : ℕ) → at + count < length buffer → count < length octets
    → take (at + count) buffer ≡ take at old ++ take count octets
    → take (at + (count + 1)) (set buffer (at + count) (get_or octets count 0)) ≡ take at old ++ take (count + 1) octets
copied_next old buffer octets at count h l e =
    let i : at + (count + 1) ≡ at + count + 1 = omega arith in
    let m = take_more octets count 0 l in
    let b = get_or octets count 0 in
    rw (i, m) (take_more_set buffer (at + count) b h
    ∙ (ap (λ z. z ++ (b ∷ [])) e ∙ append_assoc (take at old) (take count octets) (b ∷ [])))

-- the quotes around the octets
pub quotes_put : (old copied octets : List ℕ) (at count : ℕ) → at + 96 ≤ length old → at + 2 + count < length copied
    → escaped octets ≡ octets
    → take (at + 2 + count) copied ≡ take (at + 2) (set (set old at 32) (at + 1) 34) ++ octets
    → take (at + 3 + count) (set copied (at + 2 + count) 34) ≡ take at old ++ (32 ∷ quoted octets)
quotes_put old copied octets at count r h q e =
    let i : at + 3 + count ≡ at + 2 + count + 1 = omega arith in
    let z : at + 2 + 0 ≡ at + 2 = omega arith in
    let b : take (at + 2) (set (set old at 32) (at + 1) 34) ≡ take at old
    ++ (32 ∷ 34 ∷ []) = rw z at (quoted_begun old at r) in
    let f : take (at + 2 + count) copied ≡ take at old ++ (32 ∷ 34 ∷ octets) = e
    ∙ (ap (λ z. z ++ octets) b ∙ append_assoc (take at old) (32 ∷ 34 ∷ []) octets) in
    rw (i, q) (take_more_set copied (at + 2 + count) 34 h
    ∙ (ap (λ z. z ++ (34 ∷ [])) f ∙ append_assoc (take at old) (32 ∷ 34 ∷ octets) (34 ∷ [])))

-- a text that is copied between quotes
pub short_put : (old octets text rest : List ℕ) (k at : ℕ) → at + 96 ≤ length old → length octets ≤ 64
    → escaped text ≡ text → octets ≡ text
    → rest ≡ drop k (drop (at + 2) (set (set old at 32) (at + 1) 34)) → k ≡ length octets
    → take (at + 3 + length octets) (set (take (at + 2) (set (set old at 32) (at + 1) 34) ++ (octets ++ rest))
    (at + 2 + length octets) 34) ≡ take at old ++ (32 ∷ quoted text)
short_put old octets text rest k at r f q v e m =
    let a = length-set old at 32 in
    let b = length-set (set old at 32) (at + 1) 34 in
    let marked = set (set old at 32) (at + 1) 34 in
    let w : escaped octets ≡ octets = rw v q in
    let t = length-take-le (at + 2) marked (omega arith) in
    let l = length-append (take (at + 2) marked) (octets ++ rest) in
    let n = length-append octets rest in
    let d = length-drop (at + 2) marked in
    let g = length-drop k (drop (at + 2) marked) in
    let s = ap length e in
    let h : at + 2 + length octets < length (take (at + 2) marked ++ (octets ++ rest)) = omega arith in
    let c = front_copied marked octets rest (at + 2) (length octets) (omega arith) (omega arith)
    ∙ ap (λ z. take (at + 2) marked ++ z) (take-length octets) in
    rw (← v) (quotes_put old (take (at + 2) marked ++ (octets ++ rest)) octets at (length octets) r h w c)
