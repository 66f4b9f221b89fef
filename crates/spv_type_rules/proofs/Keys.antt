-- An instruction without its result is told by its key.
use Rattle.std.proofs.Common.{◌≡◌, ◌+◌, ℕ, List, [], ◌∷◌, ◌++◌, refl, sym, ap, map, arith, nat_eq, true, false}
use Rattle.std.proofs.lemmas.Bool.{eq-eqb}
use Rattle.spv_module.specs.Operand.{Plain, OfType, Result, Id, Word, Number, Text, Value, Mask, Argument, Mention}
use Rattle.spv_module.specs.Operand.{PlainInst}
use Rattle.spv_type_forms.specs.Parts.{after_result}
use Rattle.spv_type_rules.specs.inner.Repeat.{AreAlike}
use Rattle.spv_type_rules.specs.inner.Key.{operand_numbers, all_numbers, key_of}

same_text : (s t us vs : List ℕ) → (map (λ b. b + 1) s ++ 0 ∷ []) ++ us ≡ (map (λ b. b + 1) t ++ 0 ∷ []) ++ vs
    → (s ≡ t) × (us ≡ vs)
same_text [] [] us vs e = (refl, cc)
same_text [] (b ∷ t) us vs e = absurd (let no : 0 ≡ b + 1 = cc in omega arith)
same_text (a ∷ s) [] us vs e = absurd (let no : a + 1 ≡ 0 = cc in omega arith)
same_text (a ∷ s) (b ∷ t) us vs e =
    let h : a + 1 ≡ b + 1 = cc in
    let same : a ≡ b = omega arith in
    let rest = same_text s t us vs cc in
    (rw (same, rest.0) refl, rest.1)

apart : (m n : ℕ) (us vs : List ℕ) → nat_eq m n ≡ false → m ∷ us ≡ n ∷ vs → ⊥
apart m n us vs h e = let same : m ≡ n = cc in let yes : nat_eq m n ≡ true = eq-eqb m n same in cc

-- one operand, and what follows it
same_front : (o p : Plain) (us vs : List ℕ) → operand_numbers o ++ us ≡ operand_numbers p ++ vs → (o ≡ p) × (us ≡ vs)
same_front (OfType x) (OfType x') us vs e = let h0 : x ≡ x' = cc in let rest : us ≡ vs = cc in (rw (h0) refl, rest)
same_front (OfType x) (Result x') us vs e = absurd (apart 0 1 _ _ refl e)
same_front (OfType x) (Id x') us vs e = absurd (apart 0 2 _ _ refl e)
same_front (OfType x) (Word x') us vs e = absurd (apart 0 3 _ _ refl e)
same_front (OfType x) (Number l' h' w') us vs e = absurd (apart 0 4 _ _ refl e)
same_front (OfType x) (Text t') us vs e = absurd (apart 0 5 _ _ refl e)
same_front (OfType x) (Value k' x') us vs e = absurd (apart 0 6 _ _ refl e)
same_front (OfType x) (Mask k' x') us vs e = absurd (apart 0 7 _ _ refl e)
same_front (OfType x) (Argument x') us vs e = absurd (apart 0 8 _ _ refl e)
same_front (OfType x) (Mention x') us vs e = absurd (apart 0 9 _ _ refl e)
same_front (Result x) (OfType x') us vs e = absurd (apart 1 0 _ _ refl e)
same_front (Result x) (Result x') us vs e = let h0 : x ≡ x' = cc in let rest : us ≡ vs = cc in (rw (h0) refl, rest)
same_front (Result x) (Id x') us vs e = absurd (apart 1 2 _ _ refl e)
same_front (Result x) (Word x') us vs e = absurd (apart 1 3 _ _ refl e)
same_front (Result x) (Number l' h' w') us vs e = absurd (apart 1 4 _ _ refl e)
same_front (Result x) (Text t') us vs e = absurd (apart 1 5 _ _ refl e)
same_front (Result x) (Value k' x') us vs e = absurd (apart 1 6 _ _ refl e)
same_front (Result x) (Mask k' x') us vs e = absurd (apart 1 7 _ _ refl e)
same_front (Result x) (Argument x') us vs e = absurd (apart 1 8 _ _ refl e)
same_front (Result x) (Mention x') us vs e = absurd (apart 1 9 _ _ refl e)
same_front (Id x) (OfType x') us vs e = absurd (apart 2 0 _ _ refl e)
same_front (Id x) (Result x') us vs e = absurd (apart 2 1 _ _ refl e)
same_front (Id x) (Id x') us vs e = let h0 : x ≡ x' = cc in let rest : us ≡ vs = cc in (rw (h0) refl, rest)
same_front (Id x) (Word x') us vs e = absurd (apart 2 3 _ _ refl e)
same_front (Id x) (Number l' h' w') us vs e = absurd (apart 2 4 _ _ refl e)
same_front (Id x) (Text t') us vs e = absurd (apart 2 5 _ _ refl e)
same_front (Id x) (Value k' x') us vs e = absurd (apart 2 6 _ _ refl e)
same_front (Id x) (Mask k' x') us vs e = absurd (apart 2 7 _ _ refl e)
same_front (Id x) (Argument x') us vs e = absurd (apart 2 8 _ _ refl e)
same_front (Id x) (Mention x') us vs e = absurd (apart 2 9 _ _ refl e)
same_front (Word x) (OfType x') us vs e = absurd (apart 3 0 _ _ refl e)
same_front (Word x) (Result x') us vs e = absurd (apart 3 1 _ _ refl e)
same_front (Word x) (Id x') us vs e = absurd (apart 3 2 _ _ refl e)
same_front (Word x) (Word x') us vs e = let h0 : x ≡ x' = cc in let rest : us ≡ vs = cc in (rw (h0) refl, rest)
same_front (Word x) (Number l' h' w') us vs e = absurd (apart 3 4 _ _ refl e)
same_front (Word x) (Text t') us vs e = absurd (apart 3 5 _ _ refl e)
same_front (Word x) (Value k' x') us vs e = absurd (apart 3 6 _ _ refl e)
same_front (Word x) (Mask k' x') us vs e = absurd (apart 3 7 _ _ refl e)
same_front (Word x) (Argument x') us vs e = absurd (apart 3 8 _ _ refl e)
same_front (Word x) (Mention x') us vs e = absurd (apart 3 9 _ _ refl e)
same_front (Number l h w) (OfType x') us vs e = absurd (apart 4 0 _ _ refl e)
same_front (Number l h w) (Result x') us vs e = absurd (apart 4 1 _ _ refl e)
same_front (Number l h w) (Id x') us vs e = absurd (apart 4 2 _ _ refl e)
same_front (Number l h w) (Word x') us vs e = absurd (apart 4 3 _ _ refl e)
same_front (Number l h w) (Number l' h' w') us vs e = let h0 : l ≡ l' = cc in let h1 : h ≡ h' = cc in
    let h2 : w ≡ w' = cc in let rest : us ≡ vs = cc in (rw (h0, h1, h2) refl, rest)
same_front (Number l h w) (Text t') us vs e = absurd (apart 4 5 _ _ refl e)
same_front (Number l h w) (Value k' x') us vs e = absurd (apart 4 6 _ _ refl e)
same_front (Number l h w) (Mask k' x') us vs e = absurd (apart 4 7 _ _ refl e)
same_front (Number l h w) (Argument x') us vs e = absurd (apart 4 8 _ _ refl e)
same_front (Number l h w) (Mention x') us vs e = absurd (apart 4 9 _ _ refl e)
same_front (Text t) (OfType x') us vs e = absurd (apart 5 0 _ _ refl e)
same_front (Text t) (Result x') us vs e = absurd (apart 5 1 _ _ refl e)
same_front (Text t) (Id x') us vs e = absurd (apart 5 2 _ _ refl e)
same_front (Text t) (Word x') us vs e = absurd (apart 5 3 _ _ refl e)
same_front (Text t) (Number l' h' w') us vs e = absurd (apart 5 4 _ _ refl e)
same_front (Text t) (Text t') us vs e = let two = same_text t t' us vs cc in (ap Text two.0, two.1)
same_front (Text t) (Value k' x') us vs e = absurd (apart 5 6 _ _ refl e)
same_front (Text t) (Mask k' x') us vs e = absurd (apart 5 7 _ _ refl e)
same_front (Text t) (Argument x') us vs e = absurd (apart 5 8 _ _ refl e)
same_front (Text t) (Mention x') us vs e = absurd (apart 5 9 _ _ refl e)
same_front (Value k x) (OfType x') us vs e = absurd (apart 6 0 _ _ refl e)
same_front (Value k x) (Result x') us vs e = absurd (apart 6 1 _ _ refl e)
same_front (Value k x) (Id x') us vs e = absurd (apart 6 2 _ _ refl e)
same_front (Value k x) (Word x') us vs e = absurd (apart 6 3 _ _ refl e)
same_front (Value k x) (Number l' h' w') us vs e = absurd (apart 6 4 _ _ refl e)
same_front (Value k x) (Text t') us vs e = absurd (apart 6 5 _ _ refl e)
same_front (Value k x) (Value k' x') us vs e = let h0 : k ≡ k' = cc in let h1 : x ≡ x' = cc in
    let rest : us ≡ vs = cc in (rw (h0, h1) refl, rest)
same_front (Value k x) (Mask k' x') us vs e = absurd (apart 6 7 _ _ refl e)
same_front (Value k x) (Argument x') us vs e = absurd (apart 6 8 _ _ refl e)
same_front (Value k x) (Mention x') us vs e = absurd (apart 6 9 _ _ refl e)
same_front (Mask k x) (OfType x') us vs e = absurd (apart 7 0 _ _ refl e)
same_front (Mask k x) (Result x') us vs e = absurd (apart 7 1 _ _ refl e)
same_front (Mask k x) (Id x') us vs e = absurd (apart 7 2 _ _ refl e)
same_front (Mask k x) (Word x') us vs e = absurd (apart 7 3 _ _ refl e)
same_front (Mask k x) (Number l' h' w') us vs e = absurd (apart 7 4 _ _ refl e)
same_front (Mask k x) (Text t') us vs e = absurd (apart 7 5 _ _ refl e)
same_front (Mask k x) (Value k' x') us vs e = absurd (apart 7 6 _ _ refl e)
same_front (Mask k x) (Mask k' x') us vs e = let h0 : k ≡ k' = cc in let h1 : x ≡ x' = cc in let rest : us ≡ vs = cc in
    (rw (h0, h1) refl, rest)
same_front (Mask k x) (Argument x') us vs e = absurd (apart 7 8 _ _ refl e)
same_front (Mask k x) (Mention x') us vs e = absurd (apart 7 9 _ _ refl e)
same_front (Argument x) (OfType x') us vs e = absurd (apart 8 0 _ _ refl e)
same_front (Argument x) (Result x') us vs e = absurd (apart 8 1 _ _ refl e)
same_front (Argument x) (Id x') us vs e = absurd (apart 8 2 _ _ refl e)
same_front (Argument x) (Word x') us vs e = absurd (apart 8 3 _ _ refl e)
same_front (Argument x) (Number l' h' w') us vs e = absurd (apart 8 4 _ _ refl e)
same_front (Argument x) (Text t') us vs e = absurd (apart 8 5 _ _ refl e)
same_front (Argument x) (Value k' x') us vs e = absurd (apart 8 6 _ _ refl e)
same_front (Argument x) (Mask k' x') us vs e = absurd (apart 8 7 _ _ refl e)
same_front (Argument x) (Argument x') us vs e = let h0 : x ≡ x' = cc in let rest : us ≡ vs = cc in (rw (h0) refl, rest)
same_front (Argument x) (Mention x') us vs e = absurd (apart 8 9 _ _ refl e)
same_front (Mention x) (OfType x') us vs e = absurd (apart 9 0 _ _ refl e)
same_front (Mention x) (Result x') us vs e = absurd (apart 9 1 _ _ refl e)
same_front (Mention x) (Id x') us vs e = absurd (apart 9 2 _ _ refl e)
same_front (Mention x) (Word x') us vs e = absurd (apart 9 3 _ _ refl e)
same_front (Mention x) (Number l' h' w') us vs e = absurd (apart 9 4 _ _ refl e)
same_front (Mention x) (Text t') us vs e = absurd (apart 9 5 _ _ refl e)
same_front (Mention x) (Value k' x') us vs e = absurd (apart 9 6 _ _ refl e)
same_front (Mention x) (Mask k' x') us vs e = absurd (apart 9 7 _ _ refl e)
same_front (Mention x) (Argument x') us vs e = absurd (apart 9 8 _ _ refl e)
same_front (Mention x) (Mention x') us vs e = let h0 : x ≡ x' = cc in let rest : us ≡ vs = cc in (rw (h0) refl, rest)

not_empty : (p : Plain) (vs : List ℕ) → operand_numbers p ++ vs ≡ [] → ⊥
not_empty (OfType x) vs e = cc
not_empty _ vs e = cc

same_operands : (os ps : List Plain) → all_numbers os ≡ all_numbers ps → os ≡ ps
same_operands [] [] e = refl
same_operands [] (p ∷ ps) e = absurd (not_empty p (all_numbers ps) (sym e))
same_operands (o ∷ os) [] e = absurd (not_empty o (all_numbers os) e)
same_operands (o ∷ os) (p ∷ ps) e =
    let two = same_front o p (all_numbers os) (all_numbers ps) e in
    rw (two.0, same_operands os ps two.1) refl

pub one_key : (i j : PlainInst) → key_of i ≡ key_of j → AreAlike i j
one_key i j e =
    let opcode : i.opcode ≡ j.opcode = cc in
    let rest : all_numbers (after_result i.operands) ≡ all_numbers (after_result j.operands) = cc in
    (opcode, same_operands (after_result i.operands) (after_result j.operands) rest)

pub same_key : (i j : PlainInst) → AreAlike i j → key_of i ≡ key_of j
same_key i j a = rw (a.0, a.1) refl
