-- The words of a text, four octets at a time.
use Rattle.std.proofs.Common.{◌≡◌, ◌≤◌, ◌<◌, ◌++◌, ◌∙◌, ◌+◌, ◌-◌, ◌*◌, ℕ, List, [], ◌∷◌, length, drop, get_or, refl, ap}
use Rattle.std.proofs.Common.{arith, append_assoc, length-drop, add-zero}
use Rattle.std.proofs.lemmas.List.{drop_more, get_or-drop}
use Rattle.spv_inst.specs.inner.Written.{text_words}

-- four octets more
text_four : (t : List ℕ) (at : ℕ) → at + 4 ≤ length t
    → text_words (drop at t) ≡ (get_or t at 0 + 256 * get_or t (at + 1) 0 + 65536 * get_or t
    (at + 2) 0 + 16777216 * get_or t (at + 3) 0) ∷ text_words (drop (at + 4) t)
text_four t at h =
    let a = drop_more t at 0 (omega arith) in
    let b = drop_more t (at + 1) 0 (omega arith) in
    let c = drop_more t (at + 2) 0 (omega arith) in
    let d = drop_more t (at + 3) 0 (omega arith) in
    let i : (at + 1) + 1 ≡ at + 2 = omega arith in
    let j : (at + 2) + 1 ≡ at + 3 = omega arith in
    let k : (at + 3) + 1 ≡ at + 4 = omega arith in
    rw (a, b, i, c, j, d, k) refl

pub text_step : (front words next t : List ℕ) (at w : ℕ) → words ++ text_words (drop at t) ≡ front → at + 4 ≤ length t
    → w ≡ get_or t at 0 + 256 * get_or t (at + 1) 0 + 65536 * get_or t (at + 2) 0 + 16777216 * get_or t (at + 3) 0
    → next ≡ words ++ (w ∷ [])
    → next ++ text_words (drop (at + 4) t) ≡ front
text_step front words next t at w i h e n =
    let f = text_four t at h in
    rw (n, e, append_assoc words (_ ∷ []) (text_words (drop (at + 4) t))) (rw f at i)

-- the last word
text_rest : (xs : List ℕ) → length xs < 4
    → text_words xs ≡ (get_or xs 0 0 + 256 * get_or xs 1 0 + 65536 * get_or xs 2 0 + 16777216 * 0) ∷ []
text_rest [] h = refl
text_rest (a ∷ []) h = let e : a ≡ a + 256 * 0 + 65536 * 0 + 16777216 * 0 = omega arith in ap (λ w. w ∷ []) e
text_rest (a ∷ b ∷ []) h = let e : a + 256 * b ≡ a + 256 * b + 65536 * 0 + 16777216 * 0 = omega arith in
    ap (λ w. w ∷ []) e
text_rest (a ∷ b ∷ c ∷ []) h = let e : a + 256 * b + 65536 * c ≡ a + 256 * b + 65536 * c + 16777216 * 0 = omega arith in
    ap (λ w. w ∷ []) e
text_rest (a ∷ b ∷ c ∷ d ∷ t) h = absurd (omega arith)

pub text_last : (front words next t : List ℕ) (at w : ℕ) → words ++ text_words (drop at t) ≡ front → at ≤ length t
    → length t - at < 4
    → w ≡ get_or t at 0 + 256 * get_or t (at + 1) 0 + 65536 * get_or t (at + 2) 0 + 16777216 * 0
    → next ≡ words ++ (w ∷ []) → next ≡ front
text_last front words next t at w i h l e n =
    let m : length (drop at t) < 4 = rw (length-drop at t) l in
    let f = text_rest (drop at t) m in
    let z : get_or (drop at t) 0 0 ≡ get_or t at 0 = get_or-drop at t 0 0 ∙ ap (λ k. get_or t k 0) (add-zero at) in
    let y : get_or (drop at t) 1 0 ≡ get_or t (at + 1) 0 = get_or-drop at t 1 0 in
    let x : get_or (drop at t) 2 0 ≡ get_or t (at + 2) 0 = get_or-drop at t 2 0 in
    let g : text_words (drop at t) ≡ (get_or t at 0 + 256 * get_or t (at + 1) 0 + 65536 * get_or t
    (at + 2) 0 + 16777216 * 0) ∷ [] = rw (z, y, x) at f in
    rw (n, e) (rw g at i)
