use Rattle.std.proofs.Common.{◌≡◌, ◌≤◌, ◌<◌, ◌++◌, ◌%◌, ◌/◌, ◌+◌, ◌*◌, ◌∙◌, sym, ap, refl, arith, ℕ, List, [], ◌∷◌, length, take, drop, get_or, slice_index, append_assoc}
use Rattle.std.proofs.lemmas.Grind.{common_steps}
use Rattle.std.proofs.lemmas.List.{drop_more}
use Rattle.std.proofs.lemmas.Slice.{take-put_mid, drop-put_mid}
use Rattle.byteorder.specs.Endian.{little_number, big_number}
use Rattle.spv_words.proofs.Groups.{length-words_of, at-words_of}
use borrow.Rule.Slice.PartMut.{put_mid}
use Rattle.spv_words.specs.declared.words.Order.TheVariants.{Little, Big}
use Rattle.spv_words.specs.Words.{words_of, word_of, turned}

-- the bytes up to a place are turned
pub record Turned (old new : List ℕ) (at : ℕ) : Type 0 where
  pub same : length new ≡ length old
  pub whole : at % 4 ≡ 0
  pub fits : at ≤ length new
  pub octets : (i : ℕ) → get_or new i 0 < 256
  pub done : turned old ≡ take at new ++ turned (drop at new)

-- the four bytes at a place
abbrev pub four : List ℕ → ℕ → List ℕ
four bs i = get_or bs i 0 ∷ get_or bs (i + 1) 0 ∷ get_or bs (i + 2) 0 ∷ get_or bs (i + 3) 0 ∷ []

pub drop-four : (bs : List ℕ) (i : ℕ) → i + 4 ≤ length bs → drop i bs ≡ four bs i ++ drop (i + 4) bs
drop-four bs i h =
    let a = drop_more bs i 0 (omega arith) in
    let b = drop_more bs (i + 1) 0 (omega arith) in
    let c = drop_more bs (i + 2) 0 (omega arith) in
    let d = drop_more bs (i + 3) 0 (omega arith) in
    grind (arith, a, b, c, d)

pub part-four : (bs : List ℕ) (i k : ℕ) → k ≡ 4 → i + 4 ≤ length bs → take k (drop i bs) ≡ four bs i
part-four bs i k e h = rw (e, drop-four bs i h) refl

pub little_at : (bs : List ℕ) (n i k : ℕ) → i ≡ n * 4 → k ≡ 4 → 4 * n + 4 ≤ length bs → little_number 4 (take k (drop i bs)) ≡ slice_index (words_of Little bs) n
little_at bs n i k e f h =
    let l = length-words_of Little bs in
    rw (part-four bs i k f (omega arith), at-words_of Little bs n i (omega arith) (omega arith)) (omega arith)

pub big_at : (bs : List ℕ) (n i k : ℕ) → i ≡ n * 4 → k ≡ 4 → 4 * n + 4 ≤ length bs → big_number 4 (take k (drop i bs)) ≡ slice_index (words_of Big bs) n
big_at bs n i k e f h =
    let l = length-words_of Big bs in
    rw (part-four bs i k f (omega arith), at-words_of Big bs n i (omega arith) (omega arith)) (omega arith)

-- the bytes of a word, the lowest first
pub digits : (a b c d w : ℕ) → a < 256 → b < 256 → c < 256 → d < 256 → w ≡ word_of Big a b c d
    → (w % 256 ≡ d) × (w / 256 % 256 ≡ c) × (w / 65536 % 256 ≡ b) × (w / 16777216 % 256 ≡ a)
digits a b c d w la lb lc ld e = (omega arith, omega arith, omega arith, omega arith)

pub turn_step : (old bs ys rest : List ℕ) (at k w : ℕ) → Turned old bs at → at + 4 ≤ length bs → k ≡ 4
    → ((i : ℕ) → get_or (put_mid at k bs ys) i 0 < 256)
    → w ≡ word_of Big (get_or bs at 0) (get_or bs (at + 1) 0) (get_or bs (at + 2) 0) (get_or bs (at + 3) 0)
    → ys ≡ w % 256 ∷ w / 256 % 256 ∷ w / 65536 % 256 ∷ w / 16777216 % 256 ∷ rest → length rest ≡ 0
    → Turned old (put_mid at k bs ys) (at + 4)
turn_step old bs ys (x ∷ rest) at k w t h e os word is none = absurd (omega arith)
turn_step old bs ys [] at k w t h e os word is none =
    let size : length ys ≡ 4 = rw is refl in
    let g = digits _ _ _ _ w (t.octets at) (t.octets (at + 1)) (t.octets (at + 2)) (t.octets (at + 3)) word in
    let front : take (at + 4) (put_mid at k bs ys) ≡ take at bs ++ ys = take-put_mid at k bs ys (at + 4) (omega arith) (omega arith) in
    let back : drop (at + 4) (put_mid at k bs ys) ≡ drop (at + 4) bs = drop-put_mid at k bs ys (at + 4) (omega arith) (omega arith) (omega arith) in
    let long : length (put_mid at k bs ys) ≡ length bs = grind (arith, common_steps) in
    let other : turned (drop at bs) ≡ ys ++ turned (drop (at + 4) bs) = rw (drop-four bs at h, is, g.0, g.1, g.2, g.3) refl in
    record {
      same = omega (arith, t.same);
      whole = omega (arith, t.whole);
      fits = omega arith;
      octets = os;
      done = rw (front, back) (t.done ∙ (ap (λ x. take at bs ++ x) other ∙ sym (append_assoc (take at bs) ys (turned (drop (at + 4) bs)))));
    }
