-- A text in quotes at the front: there or not.
use Rattle.std.proofs.Common.{◌≡◌, ◌≢◌, ◌++◌, ◌∙◌, ◌⊎◌, inl, inr, ℕ, List, [], ◌∷◌, refl, sym, ap, arith, append_assoc}
use Rattle.spv_lines.specs.Operand.{escaped, quoted}
use Rattle.spv_lines.proofs.Tame.{Both}
use Rattle.spv_lines.proofs.Tokens.{Escape, escape_of, first_same}
use Rattle.spv_lines.proofs.Marked.{same_or_not}

-- an escaped text and its closing quote stand at the front
pub data Closes (u : List ℕ) : Type 0 where
  found : (t rest : List ℕ) → u ≡ escaped t ++ (34 ∷ rest) → Closes u
  none : ((t rest : List ℕ) → u ≡ escaped t ++ (34 ∷ rest) → ⊥) → Closes u

-- how a text that closes may begin
pub data Begins (u : List ℕ) : Type 0 where
  ends : (rest : List ℕ) → u ≡ 34 ∷ rest → Begins u
  quote : (t rest : List ℕ) → u ≡ 92 ∷ 34 ∷ (escaped t ++ (34 ∷ rest)) → Begins u
  slash : (t rest : List ℕ) → u ≡ 92 ∷ 92 ∷ (escaped t ++ (34 ∷ rest)) → Begins u
  feed : (t rest : List ℕ) → u ≡ 92 ∷ 110 ∷ (escaped t ++ (34 ∷ rest)) → Begins u
  plain : (b : ℕ) (t rest : List ℕ) → b ≢ 34 → b ≢ 92 → b ≢ 10 → u ≡ b ∷ (escaped t ++ (34 ∷ rest)) → Begins u

pub begins : (u t rest : List ℕ) → u ≡ escaped t ++ (34 ∷ rest) → Begins u
begins u [] rest e = Begins.ends rest e
begins u (b ∷ t) rest e = step (escaped (b ∷ t)) (escape_of b t) e
  where
    step : (out : List ℕ) → Escape b t out → u ≡ out ++ (34 ∷ rest) → Begins u
    step out (Escape.quote d f) e = Begins.quote t rest (e ∙ ap (λ o. o ++ (34 ∷ rest)) f)
    step out (Escape.slash d f) e = Begins.slash t rest (e ∙ ap (λ o. o ++ (34 ∷ rest)) f)
    step out (Escape.feed d f) e = Begins.feed t rest (e ∙ ap (λ o. o ++ (34 ∷ rest)) f)
    step out (Escape.plain n m k f) e = Begins.plain b t rest n m k (e ∙ ap (λ o. o ++ (34 ∷ rest)) f)

escaped_one : (b : ℕ) (t rest out : List ℕ) → Escape b t out → b ≡ 34
    → out ++ (34 ∷ rest) ≡ 92 ∷ 34 ∷ (escaped t ++ (34 ∷ rest))
escaped_one b t rest out (Escape.quote d f) e = ap (λ o. o ++ (34 ∷ rest)) f
escaped_one b t rest out (Escape.slash d f) e = absurd (omega arith)
escaped_one b t rest out (Escape.feed d f) e = absurd (omega arith)
escaped_one b t rest out (Escape.plain n m k f) e = absurd (n e)

plain_one : (b : ℕ) (t rest out : List ℕ) → Escape b t out → b ≢ 34 → b ≢ 92 → b ≢ 10
    → out ++ (34 ∷ rest) ≡ b ∷ (escaped t ++ (34 ∷ rest))
plain_one b t rest out (Escape.quote d f) n m k = absurd (n d)
plain_one b t rest out (Escape.slash d f) n m k = absurd (m d)
plain_one b t rest out (Escape.feed d f) n m k = absurd (k d)
plain_one b t rest out (Escape.plain x y z f) n m k = ap (λ o. o ++ (34 ∷ rest)) f

heads_of : (a b : ℕ) (x y : List ℕ) → a ∷ x ≡ b ∷ y → Both (a ≡ b) (x ≡ y)
heads_of = first_same

-- the second octet of an escape, and what stands behind it
pair : (c : ℕ) (u : List ℕ) → Closes u → (c ≡ 34) ⊎ (c ≢ 34) → (c ≡ 92) ⊎ (c ≢ 92) → (c ≡ 110) ⊎ (c ≢ 110)
    → Closes (92 ∷ c ∷ u)
pair c u (Closes.found t rest e) (inl i) y z = Closes.found (34 ∷ t) rest (rw i (ap (λ v. 92 ∷ 34 ∷ v) e))
pair c u (Closes.found t rest e) (inr i) (inl j) z = Closes.found (92 ∷ t) rest (rw j (ap (λ v. 92 ∷ 92 ∷ v) e))
pair c u (Closes.found t rest e) (inr i) (inr j) (inl k) = Closes.found (10 ∷ t) rest (rw k (ap (λ v. 92 ∷ 110 ∷ v) e))
pair c u (Closes.found t rest e) (inr i) (inr j) (inr k) = Closes.none (λ s r f. wrong (begins (92 ∷ c ∷ u) s r f))
  where
    wrong : Begins (92 ∷ c ∷ u) → ⊥
    wrong (Begins.ends r f) = let g = (heads_of 92 34 (c ∷ u) r f).first in omega arith
    wrong (Begins.quote s r f) =
        i (heads_of c 34 u (escaped s ++ (34 ∷ r))
        (heads_of 92 92 (c ∷ u) (34 ∷ (escaped s ++ (34 ∷ r))) f).second).first
    wrong (Begins.slash s r f) =
        j (heads_of c 92 u (escaped s ++ (34 ∷ r))
        (heads_of 92 92 (c ∷ u) (92 ∷ (escaped s ++ (34 ∷ r))) f).second).first
    wrong (Begins.feed s r f) =
        k (heads_of c 110 u (escaped s ++ (34 ∷ r))
        (heads_of 92 92 (c ∷ u) (110 ∷ (escaped s ++ (34 ∷ r))) f).second).first
    wrong (Begins.plain b s r n m o f) = m (sym (heads_of 92 b (c ∷ u) (escaped s ++ (34 ∷ r)) f).first)
pair c u (Closes.none n) x y z = Closes.none (λ s r f. wrong (begins (92 ∷ c ∷ u) s r f))
  where
    wrong : Begins (92 ∷ c ∷ u) → ⊥
    wrong (Begins.ends r f) = let g = (heads_of 92 34 (c ∷ u) r f).first in omega arith
    wrong (Begins.quote s r f) =
        n s r (heads_of c 34 u (escaped s ++ (34 ∷ r))
        (heads_of 92 92 (c ∷ u) (34 ∷ (escaped s ++ (34 ∷ r))) f).second).second
    wrong (Begins.slash s r f) =
        n s r (heads_of c 92 u (escaped s ++ (34 ∷ r))
        (heads_of 92 92 (c ∷ u) (92 ∷ (escaped s ++ (34 ∷ r))) f).second).second
    wrong (Begins.feed s r f) =
        n s r (heads_of c 110 u (escaped s ++ (34 ∷ r))
        (heads_of 92 92 (c ∷ u) (110 ∷ (escaped s ++ (34 ∷ r))) f).second).second
    wrong (Begins.plain b s r k m o f) = m (sym (heads_of 92 b (c ∷ u) (escaped s ++ (34 ∷ r)) f).first)

single : (b : ℕ) (u : List ℕ) → Closes u → b ≢ 34 → b ≢ 92 → (b ≡ 10) ⊎ (b ≢ 10) → Closes (b ∷ u)
single b u (Closes.found t rest e) n m (inr k) =
    Closes.found (b ∷ t) rest (ap (λ v. b ∷ v) e ∙ sym (plain_one b t rest (escaped (b ∷ t)) (escape_of b t) n m k))
single b u c n m (inl k) = Closes.none (λ s r f. wrong (begins (b ∷ u) s r f))
  where
    wrong : Begins (b ∷ u) → ⊥
    wrong (Begins.ends r f) = n (heads_of b 34 u r f).first
    wrong (Begins.quote s r f) = m (heads_of b 92 u (34 ∷ (escaped s ++ (34 ∷ r))) f).first
    wrong (Begins.slash s r f) = m (heads_of b 92 u (92 ∷ (escaped s ++ (34 ∷ r))) f).first
    wrong (Begins.feed s r f) = m (heads_of b 92 u (110 ∷ (escaped s ++ (34 ∷ r))) f).first
    wrong (Begins.plain x s r h i o f) = o (sym (heads_of b x u (escaped s ++ (34 ∷ r)) f).first ∙ k)
single b u (Closes.none c) n m (inr k) = Closes.none (λ s r f. wrong (begins (b ∷ u) s r f))
  where
    wrong : Begins (b ∷ u) → ⊥
    wrong (Begins.ends r f) = n (heads_of b 34 u r f).first
    wrong (Begins.quote s r f) = m (heads_of b 92 u (34 ∷ (escaped s ++ (34 ∷ r))) f).first
    wrong (Begins.slash s r f) = m (heads_of b 92 u (92 ∷ (escaped s ++ (34 ∷ r))) f).first
    wrong (Begins.feed s r f) = m (heads_of b 92 u (110 ∷ (escaped s ++ (34 ∷ r))) f).first
    wrong (Begins.plain x s r h i o f) = c s r (heads_of b x u (escaped s ++ (34 ∷ r)) f).second

lone : (b : ℕ) → (b ≡ 34) ⊎ (b ≢ 34) → Closes (b ∷ [])
lone b (inl e) = Closes.found [] [] (rw e refl)
lone b (inr n) = Closes.none (λ s r f. wrong (begins (b ∷ []) s r f))
  where
    no_cell : (x : ℕ) (xs ys : List ℕ) → [] ≡ xs ++ (x ∷ ys) → ⊥
    no_cell x [] ys e = cc
    no_cell x (z ∷ xs) ys e = cc

    wrong : Begins (b ∷ []) → ⊥
    wrong (Begins.ends r f) = n (heads_of b 34 [] r f).first
    wrong (Begins.quote s r f) = let g = (heads_of b 92 [] (34 ∷ (escaped s ++ (34 ∷ r))) f).second in cc
    wrong (Begins.slash s r f) = let g = (heads_of b 92 [] (92 ∷ (escaped s ++ (34 ∷ r))) f).second in cc
    wrong (Begins.feed s r f) = let g = (heads_of b 92 [] (110 ∷ (escaped s ++ (34 ∷ r))) f).second in cc
    wrong (Begins.plain x s r h i o f) = no_cell 34 (escaped s) r (heads_of b x [] (escaped s ++ (34 ∷ r)) f).second

two : (b c : ℕ) (u : List ℕ) → Closes u → Closes (c ∷ u) → (b ≡ 34) ⊎ (b ≢ 34) → (b ≡ 92) ⊎ (b ≢ 92)
    → Closes (b ∷ c ∷ u)
two b c u x y (inl e) z = Closes.found [] (c ∷ u) (ap (λ v. v ∷ c ∷ u) e)
two b c u x y (inr n) (inl e) = rw e (pair c u x (same_or_not c 34) (same_or_not c 92) (same_or_not c 110))
two b c u x y (inr n) (inr m) = single b (c ∷ u) y n m (same_or_not b 10)

pub closes : (u : List ℕ) → Closes u
closes [] = Closes.none (λ s r f. no_cell 34 (escaped s) r f)
  where
    no_cell : (x : ℕ) (xs ys : List ℕ) → [] ≡ xs ++ (x ∷ ys) → ⊥
    no_cell x [] ys e = cc
    no_cell x (z ∷ xs) ys e = cc
closes (b ∷ []) = lone b (same_or_not b 34)
closes (b ∷ c ∷ u) = two b c u (closes u) (closes (c ∷ u)) (same_or_not b 34) (same_or_not b 92)

-- a text in quotes stands at the front, or none does
pub data Quotes (u : List ℕ) : Type 0 where
  found : (t rest : List ℕ) → u ≡ quoted t ++ rest → Quotes u
  none : ((t rest : List ℕ) → u ≡ quoted t ++ rest → ⊥) → Quotes u

pub open_quote : (t rest : List ℕ) → quoted t ++ rest ≡ 34 ∷ (escaped t ++ (34 ∷ rest))
open_quote t rest = ap (λ v. 34 ∷ v) (append_assoc (escaped t) (34 ∷ []) rest)

pub quotes : (u : List ℕ) → Quotes u
quotes [] = Quotes.none (λ t rest e. let f = e ∙ open_quote t rest in cc)
quotes (b ∷ u) = step (same_or_not b 34) (closes u)
  where
    step : (b ≡ 34) ⊎ (b ≢ 34) → Closes u → Quotes (b ∷ u)
    step (inl e) (Closes.found t rest f) =
        Quotes.found t rest (let g : b ∷ u ≡ 34 ∷ (escaped t ++ (34 ∷ rest)) = cc in g ∙ sym (open_quote t rest))
    step (inl e) (Closes.none n) =
        Quotes.none (λ t rest f. n t rest (heads_of b 34 u (escaped t ++ (34 ∷ rest)) (f ∙ open_quote t rest)).second)
    step (inr n) c = Quotes.none (λ t rest f. n
        (heads_of b 34 u (escaped t ++ (34 ∷ rest)) (f ∙ open_quote t rest)).first)
