-- Where encoding stops, and that it does not where there is an image.
use Rattle.std.proofs.Common.{◌≡◌, ◌++◌, ◌∙◌, ◌<◌, ◌≤◌, ◌+◌, ◌⊎◌, inl, inr, ℕ, zero, suc, List, [], ◌∷◌, Some, map}
use Rattle.std.proofs.Common.{length, drop, refl, sym, ap, arith, append_assoc, append-nil, length-append}
use Rattle.spv_words.specs.declared.words.Header.{Header}
use Rattle.spv_words.specs.Header.{IsHeader, greatest_length}
use Rattle.spv_table.specs.declared.table.Entry.{Entry}
use Rattle.spv_table.specs.Table.{Table, entry_of, pattern_of}
use Rattle.spv_module.specs.declared.module.Module.{Module}
use Rattle.spv_printer.specs.declared.encode_error.EncodeCode.{EncodeCode}
use Rattle.spv_printer.specs.declared.encode_error.EncodeCode.TheVariants.{N1, N2, N3, Memory}
use Rattle.spv_module.specs.Operand.{PlainInst, start}
use Rattle.spv_module.specs.Module.{plain_insts}
use Rattle.spv_module.specs.Spelling.{Match}
use Rattle.spv_module.specs.Instruction.{IsInstruction, Listing, IsListing}
use Rattle.spv_inst.specs.Flat.{due}
use Rattle.spv_inst.specs.Outcome.{IsHeaderOf}
use Rattle.spv_inst.specs.Limits.{HeaderFits, greatest_count}
use Rattle.spv_printer.specs.Encoding.{Prevents, StopsAt, RefusesModule, IsImageOf}
use Rattle.spv_inst.specs.inner.Written.{header_words}
use Rattle.spv_inst.proofs.Joined.{match_flat}
use Rattle.spv_inst.proofs.Flat.{spelled_once}
use Rattle.spv_inst.proofs.Lists.{listing_once}

-- a listing cut at an instruction
record Cut (G : Table) (b before : List PlainInst) (i : PlainInst) (ws : List ℕ) : Type 0 where
  pub front : List ℕ
  pub words : List ℕ
  pub rest : List ℕ
  pub all : ws ≡ front ++ (words ++ rest)
  pub listed : Listing G b before front
  pub spelled : IsInstruction G (b ++ before) i words

inst_moved : (G : Table) (b : List PlainInst) (i j : PlainInst) (ws : List ℕ) → i ≡ j → IsInstruction G b i ws
    → IsInstruction G (b ++ []) j ws
inst_moved G b i j ws e a = rw (append-nil, ← e) a

cut_more : (G : Table) (b before : List PlainInst) (i j p : PlainInst) (us vs : List ℕ) → j ≡ p → IsInstruction G b j us
    → Cut G (b ++ (j ∷ [])) before i vs → Cut G b (p ∷ before) i (us ++ vs)
cut_more G b before i j p us vs e a r = record {
  front = us ++ r.front;
  words = r.words;
  rest = r.rest;
  all = ap (λ zs. us ++ zs) r.all ∙ sym (append_assoc us r.front (r.words ++ r.rest));
  listed = rw (← e) (Listing.more b j before us r.front a r.listed);
  spelled = rw (← e, ← append_assoc b (j ∷ []) before) r.spelled;
}

cut : (G : Table) (b is : List PlainInst) (ws : List ℕ) → Listing G b is ws
    → (before : List PlainInst) (i : PlainInst) (later : List PlainInst) → is ≡ before ++ (i ∷ later)
    → Cut G b before i ws
cut G _ _ _ (Listing.end b) [] i later e = cc
cut G _ _ _ (Listing.end b) (p ∷ before) i later e = cc
cut G _ _ _ (Listing.more b j is us vs a l) [] i later e =
    let f : j ≡ i = cc in
    record {
      front = [];
      words = us;
      rest = vs;
      all = refl;
      listed = Listing.end b;
      spelled = inst_moved G b j i us f a;
    }
cut G _ _ _ (Listing.more b j is us vs a l) (p ∷ before) i later e =
    let f : j ≡ p = cc in
    let g : is ≡ before ++ (i ∷ later) = cc in
    cut_more G b before i j p us vs f a (cut G (b ++ (j ∷ [])) is vs l before i later g)

same_further : (G : Table) (before : List PlainInst) (i : PlainInst) (a b : Entry) (us vs : List ℕ)
    → entry_of G i.opcode ≡ Some a → entry_of G i.opcode ≡ Some b
    → Match G (start before i.opcode) (pattern_of a) i.operands us
    → Match G (start before i.opcode) (pattern_of b) i.operands vs → us ≡ vs
same_further G before i a b us vs e f m n =
    let g : b ≡ a = cc in
    let n' : Match G (start before i.opcode) (pattern_of a) i.operands vs = rw g at n in
    let c = start before i.opcode in
    spelled_once G c (map due (pattern_of a)) i.operands i.operands us vs
    (match_flat G c (pattern_of a) i.operands us m) (match_flat G c (pattern_of a) i.operands vs n') refl

-- an instruction that is spelled, within the limits, is not hindered
pub not_prevented : (G : Table) (before : List PlainInst) (i : PlainInst) (ws : List ℕ) (written : ℕ)
    (code : EncodeCode) → IsInstruction G before i ws → written + length ws ≤ greatest_length
    → Prevents code G before written i → ⊥
not_prevented G before i ws written N1 a l h = h
not_prevented G before i ws written N2 a l h = h a.entry a.further a.known a.matches
not_prevented G before i ws written N3 a l h = too_long h.long
  where
    same : h.further ≡ a.further
    same = same_further G before i h.entry a.entry h.further a.further h.known a.known h.matches a.matches

    sizes : (length h.further ≡ length a.further) × (length ws ≡ length a.further + 1)
    sizes = (ap length same, ap length a.spelled ∙ omega arith)

    too_long : (greatest_count < length h.further + 1) ⊎ (greatest_length < written + (length h.further + 1)) → ⊥
    too_long (inl x) = let s = sizes.0 in let n = a.count in omega arith
    too_long (inr x) = let s = sizes.0 in let t = sizes.1 in omega arith
not_prevented G before i ws written Memory a l h = h

pub not_stopped : (G : Table) (is : List PlainInst) (ws : List ℕ) (code : EncodeCode) (n : ℕ) → IsListing G is ws
    → 5 + length ws ≤ greatest_length → StopsAt G is code n → ⊥
not_stopped G is ws code n l short s =
    let c = cut G [] is ws l s.before s.inst s.later s.all in
    let e = listing_once G [] s.before s.before c.front s.words c.listed s.spelled refl in
    let f : length c.front ≡ length s.words = ap length e in
    let g : length ws ≡ length (c.front ++ (c.words ++ c.rest)) = ap length c.all in
    let h = length-append c.front (c.words ++ c.rest) in
    let k = length-append c.words c.rest in
    not_prevented G s.before s.inst c.words (5 + length s.words) code c.spelled (omega arith) s.prevented

-- of two fronts the longer goes on as the shorter does
record Longer (xs ys : List PlainInst) (x : PlainInst) : Type 0 where
  pub between : List PlainInst
  pub longer : ys ≡ xs ++ (x ∷ between)

longer_more : (xs ys : List PlainInst) (x z w : PlainInst) → z ≡ w → Longer xs ys x → Longer (z ∷ xs) (w ∷ ys) x
longer_more xs ys x z w e r = let f = r.longer in record { between = r.between; longer = cc }

longer : (xs ys us vs : List PlainInst) (x y : PlainInst) → xs ++ (x ∷ us) ≡ ys ++ (y ∷ vs) → length xs < length ys
    → Longer xs ys x
longer [] [] us vs x y e h = absurd (omega arith)
longer [] (w ∷ ys) us vs x y e h = let f : w ≡ x = cc in record { between = ys; longer = ap (λ z. z ∷ ys) f }
longer (z ∷ xs) [] us vs x y e h = absurd (omega arith)
longer (z ∷ xs) (w ∷ ys) us vs x y e h =
    let f : z ≡ w = cc in
    let g : xs ++ (x ∷ us) ≡ ys ++ (y ∷ vs) = cc in
    longer_more xs ys x z w f (longer xs ys us vs x y g (omega arith))

same_fronts : (xs ys us vs : List PlainInst) (x y : PlainInst) → xs ++ (x ∷ us) ≡ ys ++ (y ∷ vs) → length xs ≡ length ys
    → (xs ≡ ys) × (x ≡ y)
same_fronts [] [] us vs x y e h = (refl, cc)
same_fronts [] (w ∷ ys) us vs x y e h = absurd (omega arith)
same_fronts (z ∷ xs) [] us vs x y e h = absurd (omega arith)
same_fronts (z ∷ xs) (w ∷ ys) us vs x y e h =
    let f : z ≡ w = cc in
    let g : xs ++ (x ∷ us) ≡ ys ++ (y ∷ vs) = cc in
    let r = same_fronts xs ys us vs x y g (omega arith) in
    let p = r.0 in
    (cc, r.1)

-- a list does not stop before the place where it stops
not_earlier : (G : Table) (is : List PlainInst) (a b : EncodeCode) (k l : ℕ) → StopsAt G is a k → StopsAt G is b l
    → k < l → ⊥
not_earlier G is a b k l s t h =
    let n = s.number in
    let m = t.number in
    let g : length s.before < length t.before = omega arith in
    let r = longer s.before t.before s.later t.later s.inst t.inst (sym s.all ∙ t.all) g in
    not_stopped G t.before t.words a k t.spelled t.short
    (record {
      before = s.before;
      inst = s.inst;
      later = r.between;
      words = s.words;
      all = r.longer;
      number = s.number;
      spelled = s.spelled;
      short = s.short;
      prevented = s.prevented;
    })

one_code : (G : Table) (before : List PlainInst) (i : PlainInst) (x y : ℕ) (a b : EncodeCode) → Prevents a G before x i
    → Prevents b G before y i → a ≡ b
one_code G before i x y N1 b h g = absurd h
one_code G before i x y N2 N1 h g = absurd g
one_code G before i x y N2 N2 h g = refl
one_code G before i x y N2 N3 h g = absurd (h g.entry g.further g.known g.matches)
one_code G before i x y N2 Memory h g = absurd g
one_code G before i x y N3 N1 h g = absurd g
one_code G before i x y N3 N2 h g = absurd (g h.entry h.further h.known h.matches)
one_code G before i x y N3 N3 h g = refl
one_code G before i x y N3 Memory h g = absurd g
one_code G before i x y Memory b h g = absurd h

apart : (k l : ℕ) → (k < l) ⊎ ((l < k) ⊎ (k ≡ l))
apart zero zero = inr (inr refl)
apart zero (suc l) = inl (omega arith)
apart (suc k) zero = inr (inl (omega arith))
apart (suc k) (suc l) = apart_more k l (apart k l)
  where
    apart_more : (k l : ℕ) → (k < l) ⊎ ((l < k) ⊎ (k ≡ l)) → (suc k < suc l) ⊎ ((suc l < suc k) ⊎ (suc k ≡ suc l))
    apart_more k l (inl h) = inl (omega arith)
    apart_more k l (inr (inl h)) = inr (inl (omega arith))
    apart_more k l (inr (inr h)) = inr (inr (omega arith))

pub stop_once : (G : Table) (is : List PlainInst) (a b : EncodeCode) (k l : ℕ) → StopsAt G is a k → StopsAt G is b l
    → (a ≡ b) × (k ≡ l)
stop_once G is a b k l s t = by_order (apart k l)
  where
    by_order : (k < l) ⊎ ((l < k) ⊎ (k ≡ l)) → (a ≡ b) × (k ≡ l)
    by_order (inl h) = absurd (not_earlier G is a b k l s t h)
    by_order (inr (inl h)) = absurd (not_earlier G is b a l k t s h)
    by_order (inr (inr h)) =
        let n = s.number in
        let m = t.number in
        let g : length s.before ≡ length t.before = omega arith in
        let r = same_fronts s.before t.before s.later t.later s.inst t.inst (sym s.all ∙ t.all) g in
        let q : Prevents b G s.before (5 + length t.words) s.inst = rw (r.0, r.1) t.prevented in
        (one_code G s.before s.inst (5 + length s.words) (5 + length t.words) a b s.prevented q, h)

-- a header's words
front_is : (ws : List ℕ) (h : Header) → IsHeader ws → IsHeaderOf ws h → ws ≡ header_words h ++ drop 5 ws
front_is [] h f s = let n = f.five in absurd (omega arith)
front_is (a ∷ []) h f s = let n = f.five in absurd (omega arith)
front_is (a ∷ b ∷ []) h f s = let n = f.five in absurd (omega arith)
front_is (a ∷ b ∷ c ∷ []) h f s = let n = f.five in absurd (omega arith)
front_is (a ∷ b ∷ c ∷ d ∷ []) h f s = let n = f.five in absurd (omega arith)
front_is (a ∷ b ∷ c ∷ d ∷ e ∷ ws) h f s =
    let m : a ≡ 119734787 = f.magic in
    let v : h.version ≡ b = s.version in
    let g : h.generator ≡ c = s.generator in
    let n : h.bound ≡ d = s.bound in
    let z : h.schema ≡ e = s.schema in
    cc

pub image_once : (G : Table) (m : Module) (ws vs : List ℕ) → IsImageOf G m ws → IsImageOf G m vs → ws ≡ vs
image_once G m ws vs i j =
    let e = listing_once G [] (plain_insts m) (plain_insts m) (drop 5 ws) (drop 5 vs) i.spelled j.spelled refl in
    front_is ws m.header i.header i.same ∙
    (ap (λ zs. header_words m.header ++ zs) e ∙ sym (front_is vs m.header j.header j.same))

fits_so : (ws : List ℕ) (h : Header) → IsHeader ws → IsHeaderOf ws h → HeaderFits h
fits_so ws h f s =
    let d = s.bound in
    let l = f.bound_least in
    let g = f.bound_most in
    record {
      version = s.version ∙ f.version;
      bound_least = omega arith;
      bound_most = omega arith;
      schema = s.schema
          ∙ f.schema;
    }

words_in : (ws : List ℕ) (h : Header) → IsHeader ws → IsHeaderOf ws h → 5 + length (drop 5 ws) ≡ length ws
words_in ws h f s = sym (ap length (front_is ws h f s) ∙ omega arith)

pub not_refused : (G : Table) (m : Module) (ws : List ℕ) (code : EncodeCode) (n : ℕ) → IsImageOf G m ws
    → length ws ≤ greatest_length → RefusesModule code G m n → code ≡ Memory
not_refused G m ws N1 n i l r = absurd (r.1 (fits_so ws m.header i.header i.same))
not_refused G m ws N2 n i l r = let w = words_in ws m.header i.header i.same in
    absurd (not_stopped G (plain_insts m) (drop 5 ws) N2 n i.spelled (omega arith) r.1)
not_refused G m ws N3 n i l r = let w = words_in ws m.header i.header i.same in
    absurd (not_stopped G (plain_insts m) (drop 5 ws) N3 n i.spelled (omega arith) r.1)
not_refused G m ws Memory n i l r = refl
