-- A text in quotes, written from one escaped octet to the next.
use Rattle.std.proofs.Common.{◌≡◌, ◌≢◌, ◌++◌, ◌∙◌, ◌<◌, ◌+◌, ℕ, zero, suc, List, [], ◌∷◌, true, nat_eq, length, take}
use Rattle.std.proofs.Common.{drop, get_or, refl, sym, ap, arith, append_assoc, append-nil}
use Rattle.std.specs.Prelude.{codes, if◌then◌else◌}
use Rattle.std.proofs.lemmas.Bool.Decides.{nat_tests}
use Rattle.memchr.specs.Find.{is_byte3}
use Rattle.spv_lines.specs.Operand.{escaped}
use Rattle.spv_lines.proofs.Tokens.{Escape, escape_of}

cut : (xs : List ℕ) (i : ℕ) → i < length xs → xs ≡ take i xs ++ (get_or xs i 0 ∷ drop (i + 1) xs)
cut [] i l = absurd (omega arith)
cut (x ∷ xs) zero l = refl
cut (x ∷ xs) (suc i) l = let m : i < length xs = omega arith in let e : suc i + 1 ≡ suc (i + 1) = omega arith in
    rw e (ap (λ z. x ∷ z) (cut xs i m))

-- an octet as it stands in quotes
abbrev pub mark : ℕ → List ℕ
mark b = if nat_eq b 34 then codes "\\\"" else (if nat_eq b 92 then codes "\\\\" else (if nat_eq b 10 then codes "\\n" else b ∷ []))

pub escaped-append : (a b : List ℕ) → escaped (a ++ b) ≡ escaped a ++ escaped b
escaped-append [] b = refl
escaped-append (x ∷ a) b =
    ap (λ z. mark x ++ z) (escaped-append a b) ∙ sym (append_assoc (mark x) (escaped a) (escaped b))

marked_by : (b : ℕ) → (is_byte3 34 92 10 b ≡ true → ⊥) → (b ≢ 34) × (b ≢ 92) × (b ≢ 10)
marked_by b h = (λ e. h (rw e refl), λ e. h (rw e refl), λ e. h (rw e refl))

plain_out : (b : ℕ) (t out : List ℕ) → Escape b t out → (b ≢ 34) × (b ≢ 92) × (b ≢ 10) → out ≡ b ∷ escaped t
plain_out b t out (Escape.quote e f) h = absurd (h.0 e)
plain_out b t out (Escape.slash e f) h = absurd (h.1 e)
plain_out b t out (Escape.feed e f) h = absurd (h.2 e)
plain_out b t out (Escape.plain n m k f) h = f

pub plain_escaped : (t : List ℕ) → ((k : ℕ) → k < length t → is_byte3 34 92 10 (get_or t k 0) ≡ true → ⊥)
    → escaped t ≡ t
plain_escaped [] h = refl
plain_escaped (b ∷ t) h =
    plain_out b t (escaped (b ∷ t)) (escape_of b t) (marked_by b (h 0 (omega arith)))
    ∙ ap (λ z. b ∷ z) (plain_escaped t (λ k l. h (suc k) (omega arith)))

front_same : (xs : List ℕ) (i k : ℕ) → k < length (take i xs) → (get_or (take i xs) k 0 ≡ get_or xs k 0) × (k < i)
front_same [] zero k l = absurd (omega arith)
front_same [] (suc i) k l = absurd (omega arith)
front_same (x ∷ xs) zero k l = absurd (omega arith)
front_same (x ∷ xs) (suc i) zero l = (refl, omega arith)
front_same (x ∷ xs) (suc i) (suc k) l = let m : k < length (take i xs) = omega arith in let r = front_same xs i k m in
    (r.0, (let n = r.1 in omega arith))

pub escaped_at : (xs : List ℕ) (i : ℕ) → i < length xs
    → ((k : ℕ) → k < i → is_byte3 34 92 10 (get_or xs k 0) ≡ true → ⊥)
    → escaped xs ≡ take i xs ++ (mark (get_or xs i 0) ++ escaped (drop (i + 1) xs))
escaped_at xs i l h =
    let p : escaped (take i xs) ≡ take i xs = plain_escaped (take i xs)
    (λ k m e. let r = front_same xs i k m in h k r.1 (sym (ap (is_byte3 34 92 10) r.0) ∙ e)) in
    ap escaped (cut xs i l) ∙ (escaped-append (take i xs) (get_or xs i 0 ∷ drop (i + 1) xs)
    ∙ ap (λ z. z ++ (mark (get_or xs i 0) ++ escaped (drop (i + 1) xs))) p)

pub quoted_more : (xs : List ℕ) (i : ℕ) (goal out more m : List ℕ) → i < length xs
    → ((k : ℕ) → k < i → is_byte3 34 92 10 (get_or xs k 0) ≡ true → ⊥) → m ≡ escaped (get_or xs i 0 ∷ [])
    → out ++ (escaped xs ++ (34 ∷ [])) ≡ goal → more ≡ (out ++ take i xs) ++ m
    → more ++ (escaped (drop (i + 1) xs) ++ (34 ∷ [])) ≡ goal
quoted_more xs i goal out more m l h n e f =
    let a = escaped_at xs i l h in
    let t = take i xs in
    let d = escaped (drop (i + 1) xs) in
    let g : more ++ (d ++ (34 ∷ [])) ≡ ((out ++ t) ++ mark (get_or xs i 0))
    ++ (d ++ (34 ∷ [])) =
    ap (λ z. z ++ (d ++ (34 ∷ []))) (f ∙ ap (λ z. (out ++ t) ++ z) (n ∙ append-nil (mark (get_or xs i 0)))) in
    let k : ((out ++ t) ++ mark (get_or xs i 0)) ++ (d ++ (34 ∷ [])) ≡ out
    ++ ((t ++ (mark (get_or xs i 0) ++ d)) ++ (34 ∷ [])) = simp append_assoc in
    let j : out ++ ((t ++ (mark (get_or xs i 0) ++ d)) ++ (34 ∷ [])) ≡ out
    ++ (escaped xs ++ (34 ∷ [])) = ap (λ z. out ++ (z ++ (34 ∷ []))) (sym a) in
    g ∙ (k ∙ (j ∙ e))

pub marked_ascii : (b : ℕ) → is_byte3 34 92 10 b ≡ true → b < 128
marked_ascii b h = grind (arith, nat_tests)

pub quoted_end : (xs goal out mid last : List ℕ)
    → ((k : ℕ) → k < length xs → is_byte3 34 92 10 (get_or xs k 0) ≡ true → ⊥) → out ++ (escaped xs ++ (34 ∷ [])) ≡ goal
    → mid ≡ out ++ xs → last ≡ mid ++ (34 ∷ []) → last ≡ goal
quoted_end xs goal out mid last h e f g =
    let a = plain_escaped xs h in
    let b : last ≡ out ++ (xs ++ (34 ∷ [])) = g ∙ (ap (λ z. z ++ (34 ∷ [])) f ∙ append_assoc out xs (34 ∷ [])) in
    b ∙ (ap (λ z. out ++ (z ++ (34 ∷ []))) (sym a) ∙ e)
