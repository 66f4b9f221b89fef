-- Hexadecimal digits, read.
use Rattle.std.proofs.Common.{◌≡◌, ◌≢◌, ◌++◌, ◌∙◌, ◌⊎◌, inl, inr, ◌<◌, ◌≤◌, ◌+◌, ◌-◌, ◌*◌, ◌/◌, ◌%◌, ◌^◌, ℕ, zero, suc}
use Rattle.std.proofs.Common.{List, [], ◌∷◌, nat_lt, if◌then◌else◌, refl, sym, ap, arith}
use Rattle.std.proofs.Math.Nat.{pow-succ'}
use Rattle.std.proofs.lemmas.Bool.Decides.{nat_tests}
use Rattle.spv_lines.specs.Digits.{hex_digit, hex_digits}
use Rattle.spv_lines.proofs.Marked.{below_or_not, lists_same_or_not}

abbrev unhex : ℕ → ℕ
unhex b = if nat_lt b 58 then b - 48 else b - 87

abbrev hex_after : ℕ → List ℕ → ℕ
hex_after n [] = n
hex_after n (b ∷ bs) = hex_after (16 * n + unhex b) bs

unhex_digit : (d : ℕ) → d < 16 → unhex (hex_digit d) ≡ d
unhex_digit d h = grind (arith, nat_tests)

after_push : (n b : ℕ) (bs : List ℕ) → hex_after n (bs ++ (b ∷ [])) ≡ 16 * hex_after n bs + unhex b
after_push n b [] = refl
after_push n b (x ∷ bs) = after_push (16 * n + unhex x) b bs

hex_back : (n x : ℕ) → x < 16 ^ n → hex_after 0 (hex_digits n x) ≡ x
unfolding hex_digits
hex_back zero x h = omega arith
hex_back (suc n) x h =
    let e = pow-succ' 16 n in
    let l : x / 16 < 16 ^ n = omega (arith, e) in
    let m : x % 16 < 16 = omega arith in
    let i = hex_back n (x / 16) l in
    let u = unhex_digit (x % 16) m in
    let p = after_push 0 (hex_digit (x % 16)) (hex_digits n (x / 16)) in
    p ∙ (let f : 16 * hex_after 0 (hex_digits n (x / 16)) + unhex (hex_digit (x % 16)) ≡ 16 * (x / 16) + x % 16 = rw
    (i, u) refl in f ∙ (let g : 16 * (x / 16) + x % 16 ≡ x = omega arith in g))

-- eight digits, read or not
pub eight : (ds : List ℕ)
    → ((x : ℕ) × (x < 4294967296) × (ds ≡ hex_digits 8 x)) ⊎ ((x : ℕ) → x < 4294967296 → ds ≡ hex_digits 8 x → ⊥)
eight ds = step (below_or_not (hex_after 0 ds) 4294967296) (lists_same_or_not ds (hex_digits 8 (hex_after 0 ds)))
  where
    step : (hex_after 0 ds < 4294967296) ⊎ (4294967296 ≤ hex_after 0 ds)
        → (ds ≡ hex_digits 8 (hex_after 0 ds)) ⊎ (ds ≢ hex_digits 8 (hex_after 0 ds))
        → ((x : ℕ) × (x < 4294967296) × (ds ≡ hex_digits 8 x)) ⊎ ((x : ℕ) → x < 4294967296 → ds ≡ hex_digits 8 x → ⊥)
    step (inl l) (inl e) = inl (hex_after 0 ds, l, e)
    step (inl l) (inr n) =
        inr (λ x h e. let b = hex_back 8 x (omega arith) in let f : hex_after 0 ds ≡ x = ap (hex_after 0) e ∙ b in
        n (e ∙ ap (hex_digits 8) (sym f)))
    step (inr l) k = inr (λ x h e. let b = hex_back 8 x (omega arith) in
        let f : hex_after 0 ds ≡ x = ap (hex_after 0) e ∙ b in omega arith)
