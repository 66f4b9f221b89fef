-- A text in HTML, written from one escaped byte to the next.
use Rattle.std.proofs.Common.{◌≡◌, ◌++◌, ◌∙◌, ◌<◌, ◌+◌, ℕ, zero, suc, List, [], ◌∷◌, true, length, take, drop, get_or}
use Rattle.std.proofs.Common.{refl, sym, ap, arith, append_assoc}
use Rattle.std.proofs.lemmas.Bool.Decides.{nat_tests}
use Rattle.std.proofs.lemmas.List.Concat.{flat_map-append}
use Rattle.spv_annotate.specs.Html.{escaped, escaped_byte, is_marked}

cut : (xs : List ℕ) (i : ℕ) → i < length xs → xs ≡ take i xs ++ (get_or xs i 0 ∷ drop (i + 1) xs)
cut [] i l = absurd (omega arith)
cut (x ∷ xs) zero l = refl
cut (x ∷ xs) (suc i) l = let m : i < length xs = omega arith in let e : suc i + 1 ≡ suc (i + 1) = omega arith in
    rw e (ap (λ z. x ∷ z) (cut xs i m))

-- a byte that is not marked stands as it is
pub plain_byte : (b : ℕ) → (is_marked b ≡ true → ⊥) → escaped_byte b ≡ b ∷ []
plain_byte b h = grind (arith, nat_tests)

pub plain_escaped : (t : List ℕ) → ((k : ℕ) → k < length t → is_marked (get_or t k 0) ≡ true → ⊥) → escaped t ≡ t
plain_escaped [] h = refl
plain_escaped (b ∷ t) h =
    ap (λ z. z ++ escaped t) (plain_byte b (h 0 (omega arith)))
    ∙ ap (λ z. b ∷ z) (plain_escaped t (λ k l. h (suc k) (omega arith)))

front_same : (xs : List ℕ) (i k : ℕ) → k < length (take i xs) → (get_or (take i xs) k 0 ≡ get_or xs k 0) × (k < i)
front_same [] zero k l = absurd (omega arith)
front_same [] (suc i) k l = absurd (omega arith)
front_same (x ∷ xs) zero k l = absurd (omega arith)
front_same (x ∷ xs) (suc i) zero l = (refl, omega arith)
front_same (x ∷ xs) (suc i) (suc k) l = let m : k < length (take i xs) = omega arith in let r = front_same xs i k m in
    (r.0, (let n = r.1 in omega arith))

escaped_at : (xs : List ℕ) (i : ℕ) → i < length xs → ((k : ℕ) → k < i → is_marked (get_or xs k 0) ≡ true → ⊥)
    → escaped xs ≡ take i xs ++ (escaped_byte (get_or xs i 0) ++ escaped (drop (i + 1) xs))
escaped_at xs i l h =
    let p : escaped (take i xs) ≡ take i xs = plain_escaped (take i xs)
    (λ k m e. let r = front_same xs i k m in h k r.1 (sym (ap is_marked r.0) ∙ e)) in
    ap escaped (cut xs i l) ∙ (flat_map-append escaped_byte (take i xs) (get_or xs i 0 ∷ drop (i + 1) xs)
    ∙ ap (λ z. z ++ (escaped_byte (get_or xs i 0) ++ escaped (drop (i + 1) xs))) p)

pub escaped_more : (xs : List ℕ) (i : ℕ) (goal out more m : List ℕ) → i < length xs
    → ((k : ℕ) → k < i → is_marked (get_or xs k 0) ≡ true → ⊥)
    → m ≡ escaped_byte (get_or xs i 0) → out ++ escaped xs ≡ goal → more ≡ (out ++ take i xs) ++ m
    → more ++ escaped (drop (i + 1) xs) ≡ goal
escaped_more xs i goal out more m l h n e f =
    let a = escaped_at xs i l h in
    let t = take i xs in
    let b = escaped_byte (get_or xs i 0) in
    let d = escaped (drop (i + 1) xs) in
    let g : more ++ d ≡ ((out ++ t) ++ b) ++ d = ap (λ z. z ++ d) (f ∙ ap (λ z. (out ++ t) ++ z) n) in
    let k : ((out ++ t) ++ b) ++ d ≡ out ++ (t ++ (b ++ d)) = simp append_assoc in
    g ∙ (k ∙ (ap (λ z. out ++ z) (sym a) ∙ e))

pub marked_ascii : (b : ℕ) → is_marked b ≡ true → b < 128
marked_ascii b h = grind (arith, nat_tests)

pub escaped_end : (xs goal out last : List ℕ) → ((k : ℕ) → k < length xs → is_marked (get_or xs k 0) ≡ true → ⊥)
    → out ++ escaped xs ≡ goal → last ≡ out ++ xs → last ≡ goal
escaped_end xs goal out last h e f = f ∙ (ap (λ z. out ++ z) (sym (plain_escaped xs h)) ∙ e)
