-- The shown line of an instruction begins no comment, is not empty and ends in no space.
use Rattle.std.proofs.Common.{◌≡◌, ◌≢◌, ◌++◌, ◌<◌, ◌+◌, ◌*◌, ◌^◌, ℕ, suc, List, [], ◌∷◌, Option, Some, None, Bool, true}
use Rattle.std.proofs.Common.{false, refl, sym, ap, arith, subst, map}
use Rattle.std.proofs.Common.{length, ◌/◌, ◌%◌, length-append}
use Rattle.std.specs.Prelude.{decimal, codes}
use Rattle.std.proofs.lemmas.Fmt.{decimal_nonempty}
use Rattle.std.specs.List.{AllByRecursion}
use Rattle.spv_module.specs.Instruction.{IsInstruction, Listing, first_word}
use Rattle.spv_lines.specs.Text.{ShownLines}
use Rattle.spv_annotate.specs.Document.{IsSpelled}
use Rattle.spv_inst.proofs.Flat.{spelled_once}
use Rattle.spv_inst.proofs.Joined.{match_flat}
use Rattle.spv_inst.specs.inner.Flat.{Matches}
use Rattle.spv_lines.specs.Digits.{hex_digit, hex_digits}
use Rattle.spv_lines.proofs.Once.{entry_once, forget}
use Rattle.spv_lines.proofs.Back.{NoFeed}
use Rattle.spv_lines.proofs.Large.{mask_some}
use Rattle.spv_lines.proofs.Showing.{AreLines, line_back}
use Rattle.spv_table.specs.Table.{Table, kind_of, pattern_of}
use Rattle.spv_table.specs.Lookups.{opcode_named, value_named}
use Rattle.spv_module.specs.Operand.{Plain, PlainInst, Result, Context, and_then, result_in, start}
use Rattle.spv_module.specs.Shape.{Slot, Shape, shape_of}
use Rattle.spv_module.specs.Spelling.{Takes}
use Rattle.spv_inst.specs.Flat.{Due, ManyOf, OneOf, due}
use Rattle.spv_inst.specs.Reading.{enumerants_at}
use Rattle.spv_lines.specs.Name.{AreNamesOf, Names, NamesMask, is_plain, joined, mask_values}
use Rattle.spv_lines.specs.Operand.{IsRead, Shown, escaped, id_text, is_float, quoted, number_text}
use Rattle.spv_lines.specs.Written.{Piece, Written}
use Rattle.spv_lines.specs.Line.{AreWords, IsShownLine, shown_name, shown_result}
use Rattle.spv_lines.proofs.Back.{inst_name_back, written_back}
use Rattle.spv_lines.proofs.Reading.{all_split, result_small}
use Rattle.spv_annotate.specs.Bare.{Outside}
use Rattle.spv_annotate.proofs.Inks.{AreInk, decimal_ink, id_ink, masks_ink, names_ink, narrow_ink, wide_ink}
use Rattle.spv_annotate.proofs.Cleans.{IsClean, clean-append, ink_clean, quoted_clean, space_clean}
use Rattle.spv_annotate.proofs.Ends.{last-append, last_of, ink_last_some}

-- a token: no comment begins in it, and it ends in no space, whatever stands before it
pub record IsToken (t : List ℕ) : Type 0 where
  pub clean : IsClean Outside Outside t
  pub last : (d : ℕ) → last_of d t ≢ 32

ink_token : (t : List ℕ) → t ≢ [] → AreInk t → IsToken t
ink_token t n h = record { clean = ink_clean t h; last = λ d. ink_last_some d t n h }

quoted_token : (t : List ℕ) → IsToken (quoted t)
quoted_token t = record {
  clean = quoted_clean t;
  last = λ d. rw (last-append 34 (escaped t) (34 ∷ [])) (λ e. omega arith);
}

-- no token is empty
decimal_some : (n : ℕ) → n < 2 ^ 64 → decimal n ≢ []
decimal_some n h e = let l = decimal_nonempty n h in let m : length (decimal n) ≡ 0 = ap length e in omega arith

hex_some : (n x : ℕ) → hex_digits (suc n) x ≢ []
unfolding hex_digits
hex_some n x e =
    let m : length (hex_digits n (x / 16) ++ (hex_digit (x % 16) ∷ [])) ≡ 0 = ap length e in
    let l = length-append (hex_digits n (x / 16)) (hex_digit (x % 16) ∷ []) in omega arith

narrow_some : (hex : Bool) (x : ℕ) → x < 4294967296 → number_text hex x 0 1 ≢ []
narrow_some true x h e = cc
narrow_some false x h e = decimal_some (x + 4294967296 * 0) (omega arith) e

wide_some : (hex : Bool) (low high : ℕ) → low < 4294967296 → high < 4294967296 → number_text hex low high 2 ≢ []
wide_some true low high h g e = cc
wide_some false low high h g e = decimal_some (low + 4294967296 * high) (omega arith) e

plain_some : (t : List ℕ) → is_plain t ≡ true → t ≢ []
plain_some t h e = let f : is_plain [] ≡ true = subst (λ (z : List ℕ). is_plain z ≡ true) e h in cc

names_some : (lookup : List ℕ → Option ℕ) (x : ℕ) (t : List ℕ) → Names lookup x t → t ≢ []
names_some lookup x _ (Names.named t n) e = plain_some t n.plain e
names_some lookup x _ Names.numbered e = cc

joined_some : (lookup : List ℕ → Option ℕ) (xs : List ℕ) (ts : List (List ℕ)) → AreNamesOf lookup xs ts → xs ≢ []
    → joined ts ≢ []
joined_some lookup [] ts h n e = n refl
joined_some lookup (x ∷ xs) [] h n e = absurd h
joined_some lookup (x ∷ xs) ([] ∷ ts) h n e = plain_some [] h.0.plain refl
joined_some lookup (x ∷ xs) ((b ∷ t) ∷ []) h n e = cc
joined_some lookup (x ∷ xs) ((b ∷ t) ∷ u ∷ ts) h n e = cc

masks_some : (lookup : List ℕ → Option ℕ) (x : ℕ) (t : List ℕ) → x < 4294967296 → NamesMask lookup x t → t ≢ []
masks_some lookup x _ h (NamesMask.named ts n) e = joined_some lookup (mask_values x) ts n (mask_some x h) e
masks_some lookup x _ h NamesMask.numbered e = cc

names_token : (lookup : List ℕ → Option ℕ) (x : ℕ) (t : List ℕ) → x < 4294967296 → Names lookup x t → IsToken t
names_token lookup x t h n = ink_token t (names_some lookup x t n) (names_ink lookup x t h n)

token : (G : Table) (hex : Bool) (k : ℕ) (sh : Shape) (o : Plain) (ws : List ℕ) (ss : List Slot) (a : List ℕ)
    → Takes k sh o ws ss → AreWords ws → IsRead G hex o a → IsToken a
token G hex k _ _ _ _ a (Takes.result_type x) h e = rw e (ink_token (id_text x) (λ z. cc) (id_ink x h.0))
token G hex k _ _ _ _ a (Takes.result x) h e = rw e (ink_token (id_text x) (λ z. cc) (id_ink x h.0))
token G hex k _ _ _ _ a (Takes.id x) h e = rw e (ink_token (id_text x) (λ z. cc) (id_ink x h.0))
token G hex k _ _ _ _ a (Takes.word x) h e = let l = h.0 in
    rw e (ink_token (decimal x) (decimal_some x (omega arith)) (decimal_ink x (omega arith)))
token G hex k _ _ _ _ a (Takes.narrow w x n) h e =
    rw e (ink_token (number_text hex x 0 1) (narrow_some hex x h.0) (narrow_ink hex x h.0))
token G hex k _ _ _ _ a (Takes.wide w x y n) h e =
    rw e (ink_token (number_text hex x y 2) (wide_some hex x y h.0 h.1.0) (wide_ink hex x y h.0 h.1.0))
token G hex k _ _ _ _ a (Takes.text s ws p n z v) h e = rw e (quoted_token s)
token G hex k _ _ _ _ a (Takes.value es x ks n) h e = names_token (value_named (enumerants_at (kind_of G k))) x a h.0 e
token G hex k _ _ _ _ a (Takes.mask es x ks n) h e =
    let lookup = value_named (enumerants_at (kind_of G k)) in
    ink_token a (masks_some lookup x a h.0 e) (masks_ink lookup x a h.0 e)

-- what stands behind the name of a line
record IsTail (t : List ℕ) : Type 0 where
  clean : IsClean Outside Outside t
  last : (d : ℕ) → d ≢ 32 → last_of d t ≢ 32

tail_more : (a t : List ℕ) → IsToken a → IsTail t → IsTail ((32 ∷ a) ++ t)
tail_more a t h g = record {
  clean = clean-append Outside Outside Outside (32 ∷ a) t
      (clean-append Outside Outside Outside (32 ∷ []) a space_clean h.clean) g.clean;
  last = λ d n. rw (last-append d (32 ∷ a) t) (g.last (last_of 32 a) (h.last 32));
}

written_tail : (G : Table) (r : Option ℕ) (c : Context) (ds : List Due) (os : List Plain) (us t : List ℕ)
    → Written (IsRead G) G r c ds os us t → AreWords us → IsTail t
written_tail G r _ _ _ _ _ (Written.end c) h = record { clean = IsClean.end Outside; last = λ d n. n }
written_tail G r _ _ _ _ _ (Written.take c s ds _ ws ss _ os us t k (Piece.result x n e) m) h =
    written_tail G r (and_then c (Result x)) (map OneOf ss ++ ds) os us t m (all_split ws us h).second
written_tail G r _ _ _ _ _ (Written.take c s ds _ ws ss _ os us t k (Piece.other o a n e) m) h =
    let g = all_split ws us h in
    tail_more a t (token G (is_float G c s) s.kind (shape_of G c s) o ws ss a k g.first e)
    (written_tail G r (and_then c o) (map OneOf ss ++ ds) os us t m g.second)
written_tail G r _ _ _ _ _ (Written.parts c s ds ss os us t k m) h = written_tail G r c (map OneOf ss ++ ds) os us t m h
written_tail G r _ _ _ _ _ (Written.no_maybe c s ds os t m) h = written_tail G r c ds os [] t m h
written_tail G r _ _ _ _ _ (Written.maybe c s ds os u us t m) h = written_tail G r c (OneOf s ∷ ds) os (u ∷ us) t m h
written_tail G r _ _ _ _ _ (Written.no_many c s ds os t m) h = written_tail G r c ds os [] t m h
written_tail G r _ _ _ _ _ (Written.many c s ds os u us t m) h =
    written_tail G r c (OneOf s ∷ ManyOf s ∷ ds) os (u ∷ us) t m h

-- the text of a result in front
result_clean : (r : Option ℕ) → ((x : ℕ) → r ≡ Some x → x < 4294967296) → IsClean Outside Outside (shown_result r)
result_clean None h = IsClean.end Outside
result_clean (Some x) h =
    clean-append Outside Outside Outside (id_text x) (codes " = ") (ink_clean (id_text x) (id_ink x (h x refl)))
    (IsClean.more Outside Outside 32 (61 ∷ 32 ∷ []) refl
    (IsClean.more Outside Outside 61 (32 ∷ []) refl space_clean))

-- A line that begins no comment, is not empty and ends in no space; it has no line feed either.
pub record IsQuiet (line : List ℕ) : Type 0 where
  pub clean : IsClean Outside Outside line
  pub last : last_of 33 line ≢ 32
  pub some : line ≢ []
  pub feedless : NoFeed line

some_behind : (a b : List ℕ) → b ≢ [] → (a ++ b) ≢ []
some_behind [] b n e = n e
some_behind (x ∷ a) b n e = cc

some_before : (a b : List ℕ) → a ≢ [] → (a ++ b) ≢ []
some_before [] b n e = n refl
some_before (x ∷ a) b n e = cc

pub line_quiet : (G : Table) (before : List PlainInst) (i : PlainInst) (further words line : List ℕ)
    → IsShownLine G before i further line → IsInstruction G before i words → AreWords words
    → IsQuiet line
line_quiet G before i further words line a b w =
    let c = start before i.opcode in
    let e = entry_once G i.opcode i.opcode b.entry a.entry refl b.known a.known in
    let m : Matches G c (map due (pattern_of b.entry)) i.operands b.further = match_flat G c
    (pattern_of b.entry) i.operands b.further b.matches in
    let m' : Matches G c (map due (pattern_of a.entry)) i.operands b.further = rw (← e) m in
    let n = forget (Shown G) G (result_in i.operands) c
    (map due (pattern_of a.entry)) i.operands further a.operands a.written in
    let f : further ≡ b.further = spelled_once G c
    (map due (pattern_of a.entry)) i.operands i.operands further b.further n m' refl in
    let v : AreWords (first_word i.opcode b.further ∷ b.further) = rw b.spelled at w in
    let small : AreWords b.further = v.1 in
    let wr : Written (IsRead G) G (result_in i.operands) c (map due (pattern_of a.entry)) i.operands further a.operands
    = written_back G (result_in i.operands) c (map due (pattern_of a.entry)) i.operands further a.operands a.written in
    let wr' : Written (IsRead G) G (result_in i.operands) c
    (map due (pattern_of a.entry)) i.operands b.further a.operands = rw f at wr in
    let rs : (y : ℕ) → result_in i.operands ≡ Some y
    → y < 4294967296 = λ y g. result_small G c (map due (pattern_of a.entry)) i.operands b.further y m' small g in
    let o = b.opcode in
    let name = shown_name G i.opcode a.entry in
    let nm = names_token (opcode_named G.entries) i.opcode name (omega arith) (inst_name_back G i.opcode a.entry) in
    let tail = written_tail G (result_in i.operands) c
    (map due (pattern_of a.entry)) i.operands b.further a.operands wr' small in
    let front = shown_result (result_in i.operands) in
    let cl = clean-append Outside Outside Outside front (name ++ a.operands) (result_clean (result_in i.operands) rs)
    (clean-append Outside Outside Outside name a.operands nm.clean tail.clean) in
    let la : last_of 33 (front ++ (name ++ a.operands)) ≢ 32 =
    rw (last-append 33 front (name ++ a.operands)) (rw (last-append (last_of 33 front) name a.operands)
    (tail.last (last_of (last_of 33 front) name) (nm.last (last_of 33 front)))) in
    let so = some_behind front (name ++ a.operands)
    (some_before name a.operands (names_some (opcode_named G.entries) i.opcode name
    (inst_name_back G i.opcode a.entry))) in
    let bk = line_back G before i further words line a b w in
    record {
      clean = subst (λ (z : List ℕ). IsClean Outside Outside z) (sym a.all) cl;
      last = subst (λ (z : List ℕ). last_of 33 z ≢ 32) (sym a.all) la;
      some = subst (λ (z : List ℕ). z ≢ []) (sym a.all) so;
      feedless = bk.feedless;
    }

-- all lines are
abbrev pub AreQuiet : List (List ℕ) → Type 0
AreQuiet ls = AllByRecursion IsQuiet ls

rest_moved : (G : Table) (before : List PlainInst) (i j : PlainInst) (is : List PlainInst) (vs : List ℕ) → i ≡ j
    → Listing G (before ++ (j ∷ [])) is vs → Listing G (before ++ (i ∷ [])) is vs
rest_moved G before i j is vs e m = rw e m

inst_moved : (G : Table) (before : List PlainInst) (i j : PlainInst) (ws : List ℕ) → i ≡ j → IsInstruction G before j ws
    → IsInstruction G before i ws
inst_moved G before i j ws e m = rw e m

lines_quiet : (G : Table) (before is js : List PlainInst) (ls : List (List ℕ)) (words : List ℕ)
    → ShownLines G before is ls → Listing G before js words → is ≡ js → AreWords words
    → AreQuiet ls
lines_quiet G _ _ _ _ _ (ShownLines.end before) (Listing.end _) e h = tt
lines_quiet G _ _ _ _ _ (ShownLines.end before) (Listing.more _ j js ws vs b n) e h = cc
lines_quiet G _ _ _ _ _ (ShownLines.more before i is us l ls a m) (Listing.end _) e h = cc
lines_quiet G _ _ _ _ _ (ShownLines.more before i is us l ls a m) (Listing.more _ j js ws vs b n) e h =
    let p : i ≡ j = cc in
    let q : is ≡ js = cc in
    let k = all_split ws vs h in (
      line_quiet G before i us ws l a (inst_moved G before i j ws p b) k.first,
      lines_quiet G (before ++ (i ∷ [])) is js ls vs m (rest_moved G before i j js vs p n) q k.second,
    )

pub shown_quiet : (G : Table) (is : List PlainInst) (ls : List (List ℕ)) → ShownLines G [] is ls → IsSpelled G is
    → AreQuiet ls
shown_quiet G is ls a s = lines_quiet G [] is is ls s.words a s.listed refl s.small

pub quiet_lines : (ls : List (List ℕ)) → AreQuiet ls → AreLines ls
quiet_lines [] h = tt
quiet_lines (l ∷ ls) h = (h.0.feedless, quiet_lines ls h.1)

-- there are as many lines as instructions
pub shown_count : (G : Table) (before is : List PlainInst) (ls : List (List ℕ)) → ShownLines G before is ls
    → length ls ≡ length is
shown_count G _ _ _ (ShownLines.end before) = refl
shown_count G _ _ _ (ShownLines.more before i is us l ls a m) =
    ap (λ n. suc n) (shown_count G (before ++ (i ∷ [])) is ls m)
