use Rattle.std.proofs.Common.{◌≡◌, ◌≤◌, ◌<◌, ◌++◌, ◌%◌, ◌+◌, ◌*◌, ◌^◌, ◌∙◌, sym, ap, refl, subst, arith, ℕ, List, [], ◌∷◌, length, slice_index, take, drop, get_or, take-add}
use Rattle.std.proofs.lemmas.List.{length-take-le, take-append-drop, take_at}
use Rattle.std.specs.List.{All, AllByRecursion}
use Rattle.std.proofs.lemmas.Grind.{same_number_lists}
use Rattle.std.proofs.lemmas.List.Elements.{All-from_recursion, recursion_from_All, All-from_get_or}
use Rattle.spv_words.proofs.Groups.{length-words_of, at-words_of}
use Rattle.spv_words.specs.declared.words.Order.{Order}
use Rattle.spv_words.specs.declared.words.Order.TheVariants.{Little, Big}
use Rattle.spv_words.specs.Words.{StandFor, words_of, word_of, turned}
use Rattle.spv_words.specs.Header.{magic_number, IsModule, StandInOrder}

-- each is a byte
abbrev pub Octets : List ℕ → Type 0
Octets bs = All (λ b. b < 256) bs

-- whole groups of bytes stand for their words
pub words-stand : (o : Order) (bs : List ℕ) → Octets bs → length bs % 4 ≡ 0 → StandFor o bs (words_of o bs)
words-stand o bs os h = let l = length-words_of o bs in record {
  octets = os;
  whole = omega (arith, l);
  each = λ k lt. at-words_of o bs k (4 * k) refl lt;
}

-- the words that bytes stand for
pub stands-words : (o : Order) (bs ws : List ℕ) → StandFor o bs ws → ws ≡ words_of o bs
stands-words o bs ws s =
    let l = length-words_of o bs in
    let w = s.whole in
    same_number_lists ws (words_of o bs) (omega arith) (λ k lt. s.each k lt ∙ sym (at-words_of o bs k (4 * k) refl (omega arith)))

-- and those bytes are whole groups
pub stands-groups : (o : Order) (bs ws : List ℕ) → StandFor o bs ws → length bs % 4 ≡ 0
stands-groups o bs ws s = let w = s.whole in omega arith

pub length-turned : (bs : List ℕ) → length bs % 4 ≡ 0 → length (turned bs) ≡ length bs
length-turned [] h = refl
length-turned (a ∷ []) h = absurd (omega arith)
length-turned (a ∷ b ∷ []) h = absurd (omega arith)
length-turned (a ∷ b ∷ c ∷ []) h = absurd (omega arith)
length-turned (a ∷ b ∷ c ∷ d ∷ rest) h = let r = length-turned rest (omega arith) in omega arith

pub octets-turned : (bs : List ℕ) → AllByRecursion (λ b. b < 256) bs → AllByRecursion (λ b. b < 256) (turned bs)
octets-turned [] h = tt
octets-turned (a ∷ []) h = tt
octets-turned (a ∷ b ∷ []) h = tt
octets-turned (a ∷ b ∷ c ∷ []) h = tt
octets-turned (a ∷ b ∷ c ∷ d ∷ rest) h = (h.1.1.1.0, (h.1.1.0, (h.1.0, (h.0, octets-turned rest h.1.1.1.1))))

pub All-turned : (bs : List ℕ) → Octets bs → Octets (turned bs)
All-turned bs os = All-from_recursion (λ b. b < 256) (turned bs) (octets-turned bs (recursion_from_All (λ b. b < 256) bs os))

-- turned bytes are the same words in the other order
pub little-turned : (bs : List ℕ) → words_of Little (turned bs) ≡ words_of Big bs
little-turned [] = refl
little-turned (a ∷ []) = refl
little-turned (a ∷ b ∷ []) = refl
little-turned (a ∷ b ∷ c ∷ []) = refl
little-turned (a ∷ b ∷ c ∷ d ∷ rest) = ap (λ ws. word_of Big a b c d ∷ ws) (little-turned rest)

pub big-turned : (bs : List ℕ) → words_of Big (turned bs) ≡ words_of Little bs
big-turned [] = refl
big-turned (a ∷ []) = refl
big-turned (a ∷ b ∷ []) = refl
big-turned (a ∷ b ∷ c ∷ []) = refl
big-turned (a ∷ b ∷ c ∷ d ∷ rest) = ap (λ ws. word_of Little a b c d ∷ ws) (big-turned rest)

pub turned-append : (x y : List ℕ) → length x % 4 ≡ 0 → turned (x ++ y) ≡ turned x ++ turned y
turned-append [] y h = refl
turned-append (a ∷ []) y h = absurd (omega arith)
turned-append (a ∷ b ∷ []) y h = absurd (omega arith)
turned-append (a ∷ b ∷ c ∷ []) y h = absurd (omega arith)
turned-append (a ∷ b ∷ c ∷ d ∷ x) y h = ap (λ ws. d ∷ c ∷ b ∷ a ∷ ws) (turned-append x y (omega arith))

-- the bytes of a little image stand for its words in the other order when turned
pub stands-turned : (bs ws : List ℕ) → StandFor Little bs ws → StandFor Big (turned bs) ws
stands-turned bs ws s =
    let g = stands-groups Little bs ws s in
    let l = length-turned bs g in
    let q = words-stand Big (turned bs) (All-turned bs s.octets) (omega arith) in
    subst (λ (vs : List ℕ). StandFor Big (turned bs) vs) (big-turned bs ∙ sym (stands-words Little bs ws s)) q

-- the two orders never both tell the magic number
two_orders : (a b c d : ℕ) → a < 256 → b < 256 → c < 256 → d < 256 → word_of Little a b c d ≡ magic_number → word_of Big a b c d ≡ magic_number → ⊥
two_orders a b c d la lb lc ld e f = omega arith

first_word : (o : Order) (bs ws : List ℕ) → StandInOrder o bs ws → 5 ≤ length bs → word_of o (slice_index bs 0) (slice_index bs 1) (slice_index bs 2) (slice_index bs 3) ≡ magic_number
first_word o bs ws t h = let w = t.stands.whole in sym (t.stands.each 0 (omega arith)) ∙ t.magic

pub one_order : (o p : Order) (bs ws vs : List ℕ) → 5 ≤ length bs → StandInOrder o bs ws → StandInOrder p bs vs → o ≡ p
one_order Little Little bs ws vs h t u = refl
one_order Big Big bs ws vs h t u = refl
one_order Little Big bs ws vs h t u =
    let os = t.stands.octets in
    absurd (two_orders _ _ _ _ (os 0 0 (omega arith)) (os 1 0 (omega arith)) (os 2 0 (omega arith)) (os 3 0 (omega arith)) (first_word Little bs ws t h) (first_word Big bs vs u h))
one_order Big Little bs ws vs h t u =
    let os = t.stands.octets in
    absurd (two_orders _ _ _ _ (os 0 0 (omega arith)) (os 1 0 (omega arith)) (os 2 0 (omega arith)) (os 3 0 (omega arith)) (first_word Little bs vs u h) (first_word Big bs ws t h))

-- bytes tell one order and one list of words
pub one_telling : (o p : Order) (bs ws vs : List ℕ) → 5 ≤ length bs → StandInOrder o bs ws → StandInOrder p bs vs → (o ≡ p) × (ws ≡ vs)
one_telling o p bs ws vs h t u =
    let e = one_order o p bs ws vs h t u in
    (e, stands-words o bs ws t.stands ∙ ap (λ (q : Order). words_of q bs) e ∙ sym (stands-words p bs vs u.stands))

pub module-tells : (o : Order) (bs ws : List ℕ) → IsModule o bs ws → StandInOrder o bs ws
module-tells o bs ws m = record { stands = m.stands; magic = m.header.magic }

pub module-long : (o : Order) (bs ws : List ℕ) → IsModule o bs ws → 20 ≤ length bs
module-long o bs ws m = let w = m.stands.whole in let f = m.header.five in omega arith

-- the bytes of a slice
pub octets-fit : (bs : List ℕ) → ((i : ℕ) → get_or bs i 0 < 256) → Octets bs
octets-fit bs h = All-from_get_or (λ b. b < 256) bs 0 (λ i lt. h i)

-- four bytes are told by their word
quad : (o : Order) (a b c d e f g h : ℕ) → a < 256 → b < 256 → c < 256 → d < 256 → e < 256 → f < 256 → g < 256 → h < 256
    → word_of o a b c d ≡ word_of o e f g h → (a ≡ e) × (b ≡ f) × (c ≡ g) × (d ≡ h)
quad Little a b c d e f g h la lb lc ld le lf lg lh s = (omega arith, omega arith, omega arith, omega arith)
quad Big a b c d e f g h la lb lc ld le lf lg lh s = (omega arith, omega arith, omega arith, omega arith)

same_heads : {v w : ℕ} {vs ws : List ℕ} → (v ∷ vs ≡ w ∷ ws) → v ≡ w
same_heads e = cc

same_tails : {v w : ℕ} {vs ws : List ℕ} → (v ∷ vs ≡ w ∷ ws) → vs ≡ ws
same_tails e = cc

same_bytes : (o : Order) (bs cs : List ℕ) → AllByRecursion (λ b. b < 256) bs → AllByRecursion (λ b. b < 256) cs → length bs % 4 ≡ 0 → length cs % 4 ≡ 0
    → words_of o bs ≡ words_of o cs → bs ≡ cs
same_bytes o [] [] hb hc gb gc s = refl
same_bytes o [] (e ∷ []) hb hc gb gc s = absurd (omega arith)
same_bytes o [] (e ∷ f ∷ []) hb hc gb gc s = absurd (omega arith)
same_bytes o [] (e ∷ f ∷ g ∷ []) hb hc gb gc s = absurd (omega arith)
same_bytes o [] (e ∷ f ∷ g ∷ h ∷ cs) hb hc gb gc s = cc
same_bytes o (a ∷ []) cs hb hc gb gc s = absurd (omega arith)
same_bytes o (a ∷ b ∷ []) cs hb hc gb gc s = absurd (omega arith)
same_bytes o (a ∷ b ∷ c ∷ []) cs hb hc gb gc s = absurd (omega arith)
same_bytes o (a ∷ b ∷ c ∷ d ∷ bs) [] hb hc gb gc s = cc
same_bytes o (a ∷ b ∷ c ∷ d ∷ bs) (e ∷ []) hb hc gb gc s = absurd (omega arith)
same_bytes o (a ∷ b ∷ c ∷ d ∷ bs) (e ∷ f ∷ []) hb hc gb gc s = absurd (omega arith)
same_bytes o (a ∷ b ∷ c ∷ d ∷ bs) (e ∷ f ∷ g ∷ []) hb hc gb gc s = absurd (omega arith)
same_bytes o (a ∷ b ∷ c ∷ d ∷ bs) (e ∷ f ∷ g ∷ h ∷ cs) hb hc gb gc s =
    let q = quad o a b c d e f g h hb.0 hb.1.0 hb.1.1.0 hb.1.1.1.0 hc.0 hc.1.0 hc.1.1.0 hc.1.1.1.0 (same_heads s) in
    let r : bs ≡ cs = same_bytes o bs cs hb.1.1.1.1 hc.1.1.1.1 (omega arith) (omega arith) (same_tails s) in
    cc (q.0, q.1, q.2, q.3, r)

pub one_spelling : (o : Order) (bs cs ws : List ℕ) → StandFor o bs ws → StandFor o cs ws → bs ≡ cs
one_spelling o bs cs ws s t =
    same_bytes o bs cs (recursion_from_All (λ b. b < 256) bs s.octets) (recursion_from_All (λ b. b < 256) cs t.octets)
    (stands-groups o bs ws s) (stands-groups o cs ws t) (sym (stands-words o bs ws s) ∙ stands-words o cs ws t)

-- turned bytes of a beginning
pub turned-take : (bs : List ℕ) (n : ℕ) → n % 4 ≡ 0 → n ≤ length bs → take n (turned bs) ≡ turned (take n bs)
turned-take bs n g h =
    let long : length (take n bs) ≡ n = length-take-le n bs h in
    let size : length (turned (take n bs)) ≡ n = length-turned (take n bs) (rw long g) ∙ long in
    let parts : turned bs ≡ turned (take n bs) ++ turned (drop n bs) = ap turned (sym (take-append-drop n bs)) ∙ turned-append (take n bs) (drop n bs) (rw long g) in
    rw parts (take_at (turned (take n bs)) (turned (drop n bs)) n size)

-- and of the part after it
pub turned-part : (bs : List ℕ) (at n : ℕ) → at % 4 ≡ 0 → n % 4 ≡ 0 → at + n ≤ length bs
    → take at (turned bs) ++ turned (take n (drop at bs)) ≡ take (at + n) (turned bs)
turned-part bs at n g m h =
    let long : length (take at bs) ≡ at = length-take-le at bs (omega arith) in
    let front = turned-take bs at g (omega arith) in
    let whole = turned-take bs (at + n) (omega arith) h in
    rw (front, whole, take-add at n bs) (sym (turned-append (take at bs) (take n (drop at bs)) (rw long g)))

-- words of four bytes fit 32 bits
word_fits : (o : Order) (a b c d : ℕ) → a < 256 → b < 256 → c < 256 → d < 256 → word_of o a b c d < 2 ^ 32
word_fits Little a b c d la lb lc ld = omega arith
word_fits Big a b c d la lb lc ld = omega arith

words_fit : (o : Order) (bs : List ℕ) → AllByRecursion (λ b. b < 256) bs → AllByRecursion (λ w. w < 2 ^ 32) (words_of o bs)
words_fit o [] h = tt
words_fit o (a ∷ []) h = tt
words_fit o (a ∷ b ∷ []) h = tt
words_fit o (a ∷ b ∷ c ∷ []) h = tt
words_fit o (a ∷ b ∷ c ∷ d ∷ bs) h = (word_fits o a b c d h.0 h.1.0 h.1.1.0 h.1.1.1.0, words_fit o bs h.1.1.1.1)

pub words-fit : (o : Order) (bs ws : List ℕ) → StandFor o bs ws → All (λ w. w < 2 ^ 32) ws
words-fit o bs ws s =
    rw (stands-words o bs ws s) (All-from_recursion (λ w. w < 2 ^ 32) (words_of o bs) (words_fit o bs (recursion_from_All (λ b. b < 256) bs s.octets)))

pub ruleset fitting = (words-fit)
