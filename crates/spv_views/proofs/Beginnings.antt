-- The words before an instruction that is malformed.
use Rattle.std.proofs.Common.{◌≡◌, ◌≤◌, ◌<◌, ◌+◌, ◌-◌, ◌/◌, ◌++◌, ◌∙◌, ℕ, zero, suc, List, [], ◌∷◌, length, take}
use Rattle.std.proofs.Common.{drop, refl, sym, ap, subst, inl, inr, ◌⊎◌, arith, append_assoc, append-nil, length-append}
use Rattle.std.specs.Prelude.{slice_index}
use Rattle.std.proofs.lemmas.List.{length-drop}
use Rattle.spv_words.specs.Header.{IsHeader}
use Rattle.spv_words.specs.declared.words.Header.{Header}
use Rattle.spv_inst.specs.Outcome.{IsHeaderOf}
use Rattle.spv_table.specs.Table.{Table}
use Rattle.spv_module.specs.Operand.{PlainInst}
use Rattle.spv_module.specs.Instruction.{IsInstruction, Listing, first_word}
use Rattle.spv_module.specs.Malformed.{FailsAt, IsMalformed}
use Rattle.spv_module.specs.declared.fault.Rule.{Rule}
use Rattle.spv_views.specs.inner.Beginning.{IsDeadAt, IsOnWay}

-- Parts of lists.

pub take_more : (xs : List ℕ) (k : ℕ) → k < length xs → take (k + 1) xs ≡ take k xs ++ (slice_index xs k ∷ [])
take_more [] k l = absurd (omega arith)
take_more (x ∷ xs) zero l = refl
take_more (x ∷ xs) (suc k) l = let n : suc k + 1 ≡ suc (k + 1) = omega arith in
    rw n (ap (λ z. x ∷ z) (take_more xs k (omega arith)))

pub take_index : (xs : List ℕ) (n k : ℕ) → k < n → slice_index (take n xs) k ≡ slice_index xs k
take_index xs zero k l = absurd (omega arith)
take_index [] (suc n) k l = refl
take_index (x ∷ xs) (suc n) zero l = refl
take_index (x ∷ xs) (suc n) (suc k) l = take_index xs n k (omega arith)

drop_index : (n : ℕ) (xs : List ℕ) (k : ℕ) → slice_index (drop n xs) k ≡ slice_index xs (n + k)
drop_index zero xs k = let e : 0 + k ≡ k = omega arith in ap (slice_index xs) (sym e)
drop_index (suc n) [] k = refl
drop_index (suc n) (x ∷ xs) k = let e : suc n + k ≡ suc (n + k) = omega arith in
    drop_index n xs k ∙ ap (slice_index (x ∷ xs)) (sym e)

index_behind : (xs : List ℕ) (y : ℕ) (ys : List ℕ) → slice_index (xs ++ (y ∷ ys)) (length xs) ≡ y
index_behind [] y ys = refl
index_behind (x ∷ xs) y ys = index_behind xs y ys

take_front : (xs ys : List ℕ) → take (length xs) (xs ++ ys) ≡ xs
take_front [] ys = refl
take_front (x ∷ xs) ys = ap (λ z. x ∷ z) (take_front xs ys)

take_none : (k : ℕ) → take {A = ℕ} k [] ≡ []
take_none zero = refl
take_none (suc k) = refl

drop_take : (n k : ℕ) (xs : List ℕ) → drop n (take (n + k) xs) ≡ take k (drop n xs)
drop_take zero k xs = let e : 0 + k ≡ k = omega arith in ap (λ j. take j xs) e
drop_take (suc n) k [] = ap (drop (suc n)) (take_none (suc n + k)) ∙ sym (take_none k)
drop_take (suc n) k (x ∷ xs) = let e : suc n + k ≡ suc (n + k) = omega arith in rw e (drop_take n k xs)

take_count : (k : ℕ) (xs : List ℕ) → (length (take k xs) ≡ k) ⊎ (length (take k xs) ≡ length xs)
take_count zero xs = inl refl
take_count (suc k) [] = inr refl
take_count (suc k) (x ∷ xs) = elim (take_count k xs) [
  | inl e ↦ inl (ap (λ n. suc n) e)
  | inr e ↦ inr (ap (λ n. suc n) e)
]

length_take : (k : ℕ) (xs : List ℕ) → 5 ≤ k → 5 ≤ length xs → 5 ≤ length (take k xs)
length_take k xs a b = elim (take_count k xs) [
  | inl e ↦ omega (arith, a, e)
  | inr e ↦ omega (arith, b, e)
]

-- the header is that of the words
pub header_kept : (ws : List ℕ) (n : ℕ) → 5 ≤ n → IsHeader ws → IsHeader (take n ws)
header_kept ws n l h = record {
  five = length_take n ws l h.five;
  magic = take_index ws n 0 (omega arith) ∙ h.magic;
  version = take_index ws n 1 (omega arith) ∙ h.version;
  bound_least = (let b = h.bound_least in rw (take_index ws n 3 (omega arith)) b);
  bound_most = (let b = h.bound_most in rw (take_index ws n 3 (omega arith)) b);
  schema = take_index ws n 4 (omega arith) ∙ h.schema;
}

-- Steps to the instruction that is malformed.

record IsStep (G : Table) (before : List PlainInst) (ws : List ℕ) (rule : Rule) (k : ℕ) : Type 0 where
  i : PlainInst
  us : List ℕ
  vs : List ℕ
  word : ℕ
  inst : IsInstruction G before i us
  rest : FailsAt G (before ++ (i ∷ [])) vs rule (k - 1) word
  all : ws ≡ us ++ vs

step_of : (G : Table) (before : List PlainInst) (ws : List ℕ) (rule : Rule) (k n : ℕ) → FailsAt G before ws rule k n
    → 0 < k → IsStep G before ws rule k
step_of G _ _ _ _ _ (FailsAt.here before ws code n m) l = absurd (omega arith)
step_of G _ _ _ _ _ (FailsAt.later before i ws vs code k n a b) l =
    let e : suc k - 1 ≡ k = omega arith in
    record {
      i = i;
      us = ws;
      vs = vs;
      word = n;
      inst = a;
      rest = subst (λ z. FailsAt G (before ++ (i ∷ [])) vs code z n) (sym e) b;
      all = refl;
    }

here_of : (G : Table) (before : List PlainInst) (ws : List ℕ) (rule : Rule) (k n : ℕ) → FailsAt G before ws rule k n
    → k ≡ 0 → IsMalformed G before ws rule n
here_of G _ _ _ _ _ (FailsAt.here before ws code n m) e = m
here_of G _ _ _ _ _ (FailsAt.later before i ws vs code k n a b) e = absurd (omega (arith, e))

-- one instruction more
listing_more : (G : Table) (b is : List PlainInst) (ws : List ℕ) (i : PlainInst) (vs : List ℕ) → Listing G b is ws
    → IsInstruction G (b ++ is) i vs → Listing G b (is ++ (i ∷ [])) (ws ++ vs)
listing_more G _ _ _ i vs (Listing.end b) a =
    let a' : IsInstruction G b i vs = rw append-nil at a in
    rw (← append-nil vs) (Listing.more b i [] vs [] a' (Listing.end (b ++ (i ∷ []))))
listing_more G _ _ _ i vs (Listing.more b j is us ws h l) a =
    let a' : IsInstruction G ((b ++ (j ∷ [])) ++ is) i vs = rw (append_assoc b (j ∷ []) is) a in
    rw (append_assoc us ws vs) (Listing.more b j (is ++ (i ∷ [])) us (ws ++ vs) h
    (listing_more G (b ++ (j ∷ [])) is ws i vs l a'))

-- how many words are told
told : (i : PlainInst) (us further : List ℕ) (w : ℕ) → i.opcode < 65536 → us ≡ first_word i.opcode further ∷ further
    → w ≡ first_word i.opcode further → w / 65536 ≡ length us
told i us further w o e f = let l : length us ≡ suc (length further) = ap length e in omega (arith, o, f, l)

pub record IsMoved (G : Table) (words : List ℕ) (rule : Rule) (left at w : ℕ) : Type 0 where
  pub within : at < length words
  pub way : IsOnWay G words rule (left - 1) (at + w / 65536)

pub on_step : (G : Table) (words : List ℕ) (rule : Rule) (left at w : ℕ) → IsOnWay G words rule left at → 0 < left
    → w ≡ slice_index words at → IsMoved G words rule left at w
on_step G words rule left at w o l f =
    let s = step_of G o.insts o.rest rule left o.word o.fails l in
    let us = s.us in
    let x = first_word s.i.opcode s.inst.further in
    let a : drop 5 words ≡ o.part ++ (us ++ s.vs) = o.all ∙ ap (λ z. o.part ++ z) s.all in
    let p = o.place in
    let e : slice_index words at ≡ x =
    ap (slice_index words) p ∙ (sym (drop_index 5 words (length o.part))
    ∙ (ap (λ z. slice_index z (length o.part)) (a ∙ ap (λ z. o.part ++ (z ++ s.vs)) s.inst.spelled)
    ∙ index_behind o.part x (s.inst.further ++ s.vs))) in
    let t : w / 65536 ≡ length us = told s.i us s.inst.further w s.inst.opcode s.inst.spelled (f ∙ e) in
    let n = ap length a in
    let d = length-drop 5 words in
    let m = length-append o.part (us ++ s.vs) in
    let k = length-append us s.vs in
    let z : length us ≡ suc (length s.inst.further) = ap length s.inst.spelled in
    let j = length-append o.part us in
    record {
      within = omega (arith, n, d, m, k, z, p);
      way = record {
        insts = o.insts ++ (s.i ∷ []);
        part = o.part ++ us;
        rest = s.vs;
        word = s.word;
        listing = listing_more G [] o.insts o.part s.i us o.listing s.inst;
        fails = s.rest;
        all = a ∙ sym (append_assoc o.part us s.vs);
        place = omega (arith, p, t, j);
      };
    }

pub on_end : (G : Table) (words : List ℕ) (rule : Rule) (left at : ℕ) → IsOnWay G words rule left at → left ≡ 0
    → IsDeadAt G words rule at
on_end G words rule left at o e = record {
  insts = o.insts;
  part = o.part;
  rest = o.rest;
  word = o.word;
  listing = o.listing;
  malformed = here_of G o.insts o.rest rule left o.word o.fails e;
  all = o.all;
  place = o.place;
}

pub on_begin : (G : Table) (words : List ℕ) (rule : Rule) (left n : ℕ) → FailsAt G [] (drop 5 words) rule left n
    → IsOnWay G words rule left 5
on_begin G words rule left n h = record {
  insts = [];
  part = [];
  rest = drop 5 words;
  word = n;
  listing = Listing.end [];
  fails = h;
  all = refl;
  place = refl;
}

-- the place is one of the words
pub dead_within : (G : Table) (words : List ℕ) (rule : Rule) (at : ℕ) → 5 ≤ length words → IsDeadAt G words rule at
    → at ≤ length words
dead_within G words rule at five h =
    let n = ap length h.all in
    let d = length-drop 5 words in
    let m = length-append h.part h.rest in
    let p = h.place in
    omega (arith, n, d, m, p, five)

pub dead_least : (G : Table) (words : List ℕ) (rule : Rule) (at : ℕ) → IsDeadAt G words rule at → 5 ≤ at
dead_least G words rule at h = let p = h.place in omega (arith, p)

-- the words up to there, behind the header
pub part_of : (G : Table) (words start : List ℕ) (rule : Rule) (at : ℕ) (h : IsDeadAt G words rule at)
    → start ≡ take at words → drop 5 start ≡ h.part
part_of G words start rule at h e =
    ap (drop 5) (e ∙ ap (λ k. take k words) h.place)
    ∙ (drop_take 5 (length h.part) words ∙ (ap (take (length h.part)) h.all ∙ take_front h.part h.rest))

-- the header of a beginning is that of the words
pub headed : (words start : List ℕ) (at : ℕ) (h : Header) → 5 ≤ at → start ≡ take at words → IsHeaderOf start h
    → IsHeaderOf words h
headed words start at h l e o =
    let same = λ (k : ℕ) (m : k < at). ap (λ z. slice_index z k) e ∙ take_index words at k m in
    record {
      version = o.version ∙ same 1 (omega arith);
      generator = o.generator ∙ same 2 (omega arith);
      bound = o.bound ∙ same 3 (omega arith);
      schema = o.schema ∙ same 4 (omega arith);
    }
