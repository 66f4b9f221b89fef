-- What is kept while a text in quotes is read.
use Rattle.std.proofs.Common.{◌≡◌, ◌≢◌, ◌++◌, ◌∙◌, ◌<◌, ℕ, zero, suc, List, [], ◌∷◌, true, length, take, drop, get_or}
use Rattle.std.proofs.Common.{refl, sym, ap, arith, append_assoc, append-nil}
use Rattle.memchr.specs.Find.{is_byte3}
use Rattle.std.proofs.lemmas.Bool.Decides.{nat_tests}
use Rattle.spv_lines.specs.Operand.{escaped, quoted}
use Rattle.spv_lines.proofs.Tokens.{first_same}
use Rattle.spv_lines.proofs.Quotes.{Begins, begins, open_quote}
use Rattle.spv_lines.specs.inner.Quoted.{IsEscape, quote, slash, feed}

-- Behind an opening quote: what is read so far, and what is left of the text.
pub record Within (u out rest : List ℕ) : Type 0 where
  pub forward : (t v : List ℕ) → rest ≡ escaped t ++ (34 ∷ v) → u ≡ escaped (out ++ t) ++ (34 ∷ v)
  pub back : (t v : List ℕ) → u ≡ escaped t ++ (34 ∷ v) → (s w : List ℕ) × (rest ≡ escaped s ++ (34 ∷ w))

pub within_first : (u : List ℕ) → Within u [] u
within_first u = record { forward = λ t v e. e; back = λ t v e. (t, v, e) }

plain_by : (b : ℕ) → (is_byte3 34 92 10 b ≡ true → ⊥) → (b ≢ 34) × (b ≢ 92) × (b ≢ 10)
plain_by b h = (λ e. h (rw e refl), λ e. h (rw e refl), λ e. h (rw e refl))

-- a plain octet at the front
plain_forward : (b : ℕ) (t : List ℕ) → (b ≢ 34) × (b ≢ 92) × (b ≢ 10) → escaped (b ∷ t) ≡ b ∷ escaped t
plain_forward b t n = by (escaped (b ∷ t)) (Rattle.spv_lines.proofs.Tokens.escape_of b t)
  where
    by : (out : List ℕ) → Rattle.spv_lines.proofs.Tokens.Escape b t out → out ≡ b ∷ escaped t
    by out (Rattle.spv_lines.proofs.Tokens.Escape.quote e f) = absurd (n.0 e)
    by out (Rattle.spv_lines.proofs.Tokens.Escape.slash e f) = absurd (n.1 e)
    by out (Rattle.spv_lines.proofs.Tokens.Escape.feed e f) = absurd (n.2 e)
    by out (Rattle.spv_lines.proofs.Tokens.Escape.plain x y z f) = f

plain_back : (b : ℕ) (u : List ℕ) → (b ≢ 34) × (b ≢ 92) × (b ≢ 10) → Begins (b ∷ u)
    → (s w : List ℕ) × (u ≡ escaped s ++ (34 ∷ w))
plain_back b u n (Begins.ends r e) = absurd (n.0 (first_same b 34 u r e).first)
plain_back b u n (Begins.quote t r e) = absurd (n.1 (first_same b 92 u (34 ∷ (escaped t ++ (34 ∷ r))) e).first)
plain_back b u n (Begins.slash t r e) = absurd (n.1 (first_same b 92 u (92 ∷ (escaped t ++ (34 ∷ r))) e).first)
plain_back b u n (Begins.feed t r e) = absurd (n.1 (first_same b 92 u (110 ∷ (escaped t ++ (34 ∷ r))) e).first)
plain_back b u n (Begins.plain c t r x y z e) = (t, r, (first_same b c u (escaped t ++ (34 ∷ r)) e).second)

-- octets that are all plain at the front
chunk_forward : (xs t : List ℕ) → ((k : ℕ) → k < length xs → is_byte3 34 92 10 (get_or xs k 0) ≡ true → ⊥)
    → escaped (xs ++ t) ≡ xs ++ escaped t
chunk_forward [] t h = refl
chunk_forward (b ∷ xs) t h =
    plain_forward b (xs ++ t) (plain_by b (h 0 (omega arith)))
    ∙ ap (λ z. b ∷ z) (chunk_forward xs t (λ k l. h (suc k) (omega arith)))

chunk_back : (xs more s w : List ℕ) → ((k : ℕ) → k < length xs → is_byte3 34 92 10 (get_or xs k 0) ≡ true → ⊥)
    → xs ++ more ≡ escaped s ++ (34 ∷ w) → (s w : List ℕ) × (more ≡ escaped s ++ (34 ∷ w))
chunk_back [] more s w h e = (s, w, e)
chunk_back (b ∷ xs) more s w h e =
    let r = plain_back b (xs ++ more) (plain_by b (h 0 (omega arith))) (begins (b ∷ (xs ++ more)) s w e) in
    chunk_back xs more r.0 r.1 (λ k l. h (suc k) (omega arith)) r.2

pub within_plain : (u out rest xs more : List ℕ) → Within u out rest → rest ≡ xs ++ more
    → ((k : ℕ) → k < length xs → is_byte3 34 92 10 (get_or xs k 0) ≡ true → ⊥) → Within u (out ++ xs) more
within_plain u out rest xs more h e n = record {
  forward = λ t v f.
      let g : rest ≡ escaped (xs ++ t) ++ (34 ∷ v) = e
      ∙ (ap (λ z. xs ++ z) f ∙ (sym (append_assoc xs (escaped t) (34 ∷ v))
      ∙ ap (λ z. z ++ (34 ∷ v)) (sym (chunk_forward xs t n)))) in
      h.forward (xs ++ t) v g ∙ ap (λ z. escaped z ++ (34 ∷ v)) (sym (append_assoc out xs t));
  back = λ t v f. let r = h.back t v f in chunk_back xs more r.0 r.1 n (sym e ∙ r.2);
}

-- an escape at the front
escape_forward : (b c : ℕ) (t : List ℕ) → IsEscape b c → escaped (c ∷ t) ≡ 92 ∷ b ∷ escaped t
escape_forward _ _ t quote = refl
escape_forward _ _ t slash = refl
escape_forward _ _ t feed = refl

escape_back : (b : ℕ) (more : List ℕ) → Begins (92 ∷ b ∷ more) → (s w : List ℕ) × (more ≡ escaped s ++ (34 ∷ w))
escape_back b more (Begins.ends r e) = let z = (first_same 92 34 (b ∷ more) r e).first in absurd (omega arith)
escape_back b more (Begins.quote t r e) = (
  t,
  r,
  (first_same b 34 more (escaped t ++ (34 ∷ r))
      (first_same 92 92 (b ∷ more) (34 ∷ (escaped t ++ (34 ∷ r))) e).second).second,
)
escape_back b more (Begins.slash t r e) = (
  t,
  r,
  (first_same b 92 more (escaped t ++ (34 ∷ r))
      (first_same 92 92 (b ∷ more) (92 ∷ (escaped t ++ (34 ∷ r))) e).second).second,
)
escape_back b more (Begins.feed t r e) = (
  t,
  r,
  (first_same b 110 more (escaped t ++ (34 ∷ r))
      (first_same 92 92 (b ∷ more) (110 ∷ (escaped t ++ (34 ∷ r))) e).second).second,
)
escape_back b more (Begins.plain c t r x y z e) =
    absurd (y (sym (first_same 92 c (b ∷ more) (escaped t ++ (34 ∷ r)) e).first))

pub within_escape : (u out rest more : List ℕ) (b c : ℕ) → Within u out rest → IsEscape b c → rest ≡ 92 ∷ b ∷ more
    → Within u (out ++ (c ∷ [])) more
within_escape u out rest more b c h m e = record {
  forward = λ t v f.
      let g : rest ≡ escaped (c ∷ t) ++ (34 ∷ v) = e
      ∙ (ap (λ z. 92 ∷ b ∷ z) f ∙ ap (λ z. z ++ (34 ∷ v)) (sym (escape_forward b c t m))) in
      h.forward (c ∷ t) v g ∙ ap (λ z. escaped z ++ (34 ∷ v)) (sym (append_assoc out (c ∷ []) t));
  back = λ t v f. let r = h.back t v f in escape_back b more (begins (92 ∷ b ∷ more) r.0 r.1 (sym e ∙ r.2));
}

-- the closing quote
pub within_end : (u out rest v text : List ℕ) → Within u out rest → rest ≡ 34 ∷ v → text ≡ 34 ∷ u
    → text ≡ quoted out ++ v
within_end u out rest v text h e f =
    let g = h.forward [] v e in
    let k : u ≡ escaped out ++ (34 ∷ v) = g ∙ ap (λ z. escaped z ++ (34 ∷ v)) (append-nil out) in
    f ∙ (ap (λ z. 34 ∷ z) k ∙ sym (open_quote out v))

inside : (text u t v : List ℕ) → text ≡ 34 ∷ u → text ≡ quoted t ++ v → u ≡ escaped t ++ (34 ∷ v)
inside text u t v f e = (first_same 34 34 u (escaped t ++ (34 ∷ v)) (sym f ∙ (e ∙ open_quote t v))).second

is_marked : (b : ℕ) → is_byte3 34 92 10 b ≡ true → (b ≢ 34) → (b ≢ 92) → (b ≢ 10) → ⊥
is_marked b h n m k = grind (arith, nat_tests)

-- what stands in no quotes
pub within_wrong : (u out rest text : List ℕ) → Within u out rest → text ≡ 34 ∷ u → 0 < length rest
    → is_byte3 34 92 10 (get_or rest 0 0) ≡ true
    → ((v : List ℕ) → rest ≡ 34 ∷ v → ⊥) → ((b c : ℕ) (v : List ℕ) → IsEscape b c → rest ≡ 92 ∷ b ∷ v → ⊥)
    → (t v : List ℕ) → text ≡ quoted t ++ v → ⊥
within_wrong u out rest text h f l m n k t v e =
    let r = h.back t v (inside text u t v f e) in
    by (begins rest r.0 r.1 r.2)
  where
    plain : (rest : List ℕ) (b : ℕ) (w : List ℕ) → is_byte3 34 92 10 (get_or rest 0 0) ≡ true → rest ≡ b ∷ w → b ≢ 34
        → b ≢ 92 → b ≢ 10 → ⊥
    plain rest b w m e x y z = let m' : is_byte3 34 92 10 b ≡ true = rw e at m in is_marked b m' x y z

    by : Begins rest → ⊥
    by (Begins.ends r e) = n r e
    by (Begins.quote t r e) = k 34 34 (escaped t ++ (34 ∷ r)) quote e
    by (Begins.slash t r e) = k 92 92 (escaped t ++ (34 ∷ r)) slash e
    by (Begins.feed t r e) = k 110 10 (escaped t ++ (34 ∷ r)) feed e
    by (Begins.plain b t r x y z e) = plain rest b (escaped t ++ (34 ∷ r)) m e x y z

mark_in : (xs rest v : List ℕ) → rest ≡ xs ++ (34 ∷ v)
    → ((k : ℕ) → k < length rest → is_byte3 34 92 10 (get_or rest k 0) ≡ true → ⊥) → ⊥
mark_in [] rest v e h = by rest e h
  where
    by : (rest : List ℕ) → rest ≡ 34 ∷ v → ((k : ℕ) → k < length rest → is_byte3 34 92 10 (get_or rest k 0) ≡ true → ⊥)
        → ⊥
    by [] e h = cc
    by (b ∷ rest) e h = let z : b ≡ 34 = cc in h 0 (omega arith) (rw z refl)
mark_in (x ∷ xs) [] v e h = cc
mark_in (x ∷ xs) (b ∷ rest) v e h = let f : rest ≡ xs ++ (34 ∷ v) = cc in
    mark_in xs rest v f (λ k l. h (suc k) (omega arith))

pub within_none : (u out rest text : List ℕ) → Within u out rest → text ≡ 34 ∷ u
    → ((k : ℕ) → k < length rest → is_byte3 34 92 10 (get_or rest k 0) ≡ true → ⊥) → (t v : List ℕ)
    → text ≡ quoted t ++ v → ⊥
within_none u out rest text h f n t v e = let r = h.back t v (inside text u t v f e) in
    mark_in (escaped r.0) rest r.1 r.2 n

pub no_quote : (text t v : List ℕ) → ((u : List ℕ) → text ≡ 34 ∷ u → ⊥) → text ≡ quoted t ++ v → ⊥
no_quote text t v n e = n (escaped t ++ (34 ∷ v)) (e ∙ open_quote t v)

-- the octets before the first mark
pub plain_front : (xs : List ℕ) (i : ℕ) → ((k : ℕ) → k < i → is_byte3 34 92 10 (get_or xs k 0) ≡ true → ⊥) → (k : ℕ)
    → k < length (take i xs) → is_byte3 34 92 10 (get_or (take i xs) k 0) ≡ true → ⊥
plain_front xs i h k l e = let r = front_same xs i k l in h k r.1 (sym (ap (is_byte3 34 92 10) r.0) ∙ e)
  where
    front_same : (xs : List ℕ) (i k : ℕ) → k < length (take i xs) → (get_or (take i xs) k 0 ≡ get_or xs k 0) × (k < i)
    front_same [] zero k l = absurd (omega arith)
    front_same [] (suc i) k l = absurd (omega arith)
    front_same (x ∷ xs) zero k l = absurd (omega arith)
    front_same (x ∷ xs) (suc i) zero l = (refl, omega arith)
    front_same (x ∷ xs) (suc i) (suc k) l = let m : k < length (take i xs) = omega arith in
        let r = front_same xs i k m in (r.0, (let n = r.1 in omega arith))

-- what is read up to the first mark
pub within_cut : (u out new rest front back : List ℕ) (at : ℕ) → Within u out rest → front ≡ take at rest
    → back ≡ drop at rest → ((k : ℕ) → k < at → is_byte3 34 92 10 (get_or rest k 0) ≡ true → ⊥) → new ≡ out ++ front
    → Within u new back
within_cut u out new rest front back at h e f n g =
    let s : rest ≡ take at rest ++ drop at rest = sym (Rattle.std.proofs.lemmas.List.take-append-drop at rest) in
    let s' : rest ≡ front ++ back = rw (e, f) s in
    let m : (k : ℕ) → k < length front → is_byte3 34 92 10 (get_or front k 0) ≡ true
    → ⊥ = rw e (plain_front rest at n) in
    rw g (within_plain u out rest front back h s' m)

-- the mark at the front of what is behind
pub mark_at : (rest back : List ℕ) (at : ℕ) → at < length rest → back ≡ drop at rest
    → is_byte3 34 92 10 (get_or rest at 0) ≡ true → (0 < length back) × (is_byte3 34 92 10 (get_or back 0 0) ≡ true)
mark_at rest back at l e m = rw e (by rest at l m)
  where
    by : (rest : List ℕ) (at : ℕ) → at < length rest → is_byte3 34 92 10 (get_or rest at 0) ≡ true
        → (0 < length (drop at rest)) × (is_byte3 34 92 10 (get_or (drop at rest) 0 0) ≡ true)
    by [] zero l m = absurd (omega arith)
    by [] (suc at) l m = absurd (omega arith)
    by (b ∷ rest) zero l m = (omega arith, m)
    by (b ∷ rest) (suc at) l m = by rest at (omega arith) m

pub escape_ascii : (b c : ℕ) → IsEscape b c → c < 128
escape_ascii _ _ quote = omega arith
escape_ascii _ _ slash = omega arith
escape_ascii _ _ feed = omega arith

pub escape_step : (u out rest more new : List ℕ) (b c : ℕ) → Within u out rest → IsEscape b c → rest ≡ 92 ∷ b ∷ more
    → new ≡ out ++ (c ∷ []) → Within u new more
escape_step u out rest more new b c h m e f = rw f (within_escape u out rest more b c h m e)
