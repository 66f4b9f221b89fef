-- A shown text is read as what it shows.
use Rattle.std.proofs.Common.{◌≡◌, ◌≢◌, ◌++◌, ◌∙◌, ◌<◌, ◌≤◌, ◌+◌, ◌^◌, ℕ, List, [], ◌∷◌, Option, Some, None, Bool, true}
use Rattle.std.proofs.Common.{false, not, ◌&&◌, nat_eq, length, map, option_map, refl, ap, arith, append_assoc}
use Rattle.std.specs.Prelude.{decimal, codes}
use Rattle.std.specs.List.{list_all}
use Rattle.std.proofs.lemmas.Bool.Decides.{nat_tests}
use Rattle.spv_words.specs.declared.words.Header.{Header}
use Rattle.spv_table.specs.Table.{Table, pattern_of}
use Rattle.spv_table.specs.Lookups.{opcode_named}
use Rattle.spv_module.specs.Operand.{PlainInst, start, result_in}
use Rattle.spv_inst.specs.Flat.{due}
use Rattle.spv_inst.specs.inner.Flat.{Matches}
use Rattle.spv_module.specs.Instruction.{IsInstruction, Listing, IsListing, first_word}
use Rattle.spv_words.specs.Header.{greatest_length}
use Rattle.spv_inst.specs.Limits.{HeaderFits}
use Rattle.spv_inst.proofs.Joined.{match_flat}
use Rattle.spv_inst.proofs.Flat.{spelled_once}
use Rattle.spv_lines.specs.Name.{is_plain, is_name_octet, Names}
use Rattle.spv_lines.specs.Operand.{Shown, IsRead, id_text}
use Rattle.spv_lines.specs.Written.{Written}
use Rattle.spv_lines.specs.Line.{AreWords, Parts, parts_of, parts_behind, before_space, from_space, begins_equals}
use Rattle.spv_lines.specs.Line.{begins_percent, cut_at_equals, shown_result, shown_name, IsShownLine, IsReadLine}
use Rattle.spv_lines.specs.Text.{header_lines, lines_of, ended, ShownLines, IsShownText, ReadLines, IsReadText}
use Rattle.spv_lines.specs.Refusal.{IsBreak, at_end, at_space}
use Rattle.spv_lines.proofs.Tame.{Both, AreTame, decimal_tame}
use Rattle.spv_lines.proofs.Pieces.{id_tame, names_tame}
use Rattle.spv_lines.proofs.Once.{forget, entry_once}
use Rattle.spv_lines.proofs.Reading.{written_break, all_split, result_small}
use Rattle.spv_lines.proofs.Back.{written_back, text_of, inst_name_back, NoFeed, feedless-append, tame_feedless}
use Rattle.spv_lines.proofs.Back.{written_feedless}

eq_no : (a b : ℕ) → a ≢ b → nat_eq a b ≡ false
eq_no a b n = grind (arith, nat_tests)

not_percent : (b : ℕ) → is_name_octet b ≡ true → nat_eq b 37 ≡ false
not_percent b h = grind (arith, nat_tests)

and_first : (a b : Bool) → (a && b) ≡ true → a ≡ true
and_first true b h = refl
and_first false b h = cc

-- a name does not begin as a result does
pub no_percent : (lookup : List ℕ → Option ℕ) (x : ℕ) (t u : List ℕ) → Names lookup x t
    → begins_percent (t ++ u) ≡ false
no_percent lookup x _ u (Names.named t n) = plainly t n.plain
  where
    plainly : (t : List ℕ) → is_plain t ≡ true → begins_percent (t ++ u) ≡ false
    plainly [] h = cc
    plainly (b ∷ t) h = not_percent b (and_first (is_name_octet b) (list_all is_name_octet t) h)
no_percent lookup x _ u Names.numbered = refl

-- a token and what follows it
pub token_before : (t u : List ℕ) → AreTame t → IsBreak u → before_space (t ++ u) ≡ t
token_before [] _ h at_end = refl
token_before [] _ h (at_space u) = refl
token_before (b ∷ t) u h k = let l = h.0 in let e : nat_eq b 32 ≡ false = eq_no b 32 (λ z. omega arith) in
    rw e (ap (λ z. b ∷ z) (token_before t u h.1 k))

pub token_behind : (t u : List ℕ) → AreTame t → IsBreak u → from_space (t ++ u) ≡ u
token_behind [] _ h at_end = refl
token_behind [] _ h (at_space u) = refl
token_behind (b ∷ t) u h k = let l = h.0 in let e : nat_eq b 32 ≡ false = eq_no b 32 (λ z. omega arith) in
    rw e (token_behind t u h.1 k)

no_equals : (b : ℕ) (t : List ℕ) → nat_eq b 32 ≡ false → begins_equals (b ∷ t) ≡ false
no_equals b [] e = refl
no_equals b (c ∷ []) e = refl
no_equals b (c ∷ d ∷ t) e = rw e refl

pub cut_behind : (a u : List ℕ) → AreTame a
    → cut_at_equals (a ++ (32 ∷ 61 ∷ 32 ∷ u)) ≡ Some (record { front = a; back = u })
cut_behind [] u h = refl
cut_behind (b ∷ a) u h =
    let l = h.0 in
    let e = no_equals b (a ++ (32 ∷ 61 ∷ 32 ∷ u)) (eq_no b 32 (λ z. omega arith)) in
    let r = cut_behind a u h.1 in
    rw (e, r) refl

abbrev parts : Option (List ℕ) → List ℕ → List ℕ → Parts
parts r n o = record { result = r; name = n; operands = o }

-- the parts of a line that is put together
pub parts_joined : (r : Option ℕ) (lookup : List ℕ → Option ℕ) (x : ℕ) (name operands : List ℕ)
    → ((y : ℕ) → r ≡ Some y → y < 4294967296) → x < 4294967296 → Names lookup x name → IsBreak operands
    → parts_of (shown_result r ++ (name ++ operands)) ≡ Some
    (record { result = option_map id_text r; name = name; operands = operands })
parts_joined None lookup x name operands h g n k =
    let e = no_percent lookup x name operands n in
    let a = token_before name operands (names_tame lookup x name g n) k in
    let b = token_behind name operands (names_tame lookup x name g n) k in
    rw (e, a, b) refl
parts_joined (Some y) lookup x name operands h g n k =
    let a = token_before name operands (names_tame lookup x name g n) k in
    let b = token_behind name operands (names_tame lookup x name g n) k in
    let c = cut_behind (id_text y) (name ++ operands) (id_tame y (h y refl)) in
    let d : (id_text y ++ (32 ∷ 61 ∷ 32 ∷ [])) ++ (name ++ operands) ≡ id_text y
    ++ (32 ∷ 61 ∷ 32 ∷ (name ++ operands)) = append_assoc (id_text y) (32 ∷ 61 ∷ 32 ∷ []) (name ++ operands) in
    let e : cut_at_equals ((id_text y ++ (32 ∷ 61 ∷ 32 ∷ [])) ++ (name ++ operands)) ≡ Some
    (record { front = id_text y; back = name ++ operands }) = ap cut_at_equals d ∙ c in
    ap (option_map (λ h. parts_behind (Some h.front) h.back)) e ∙ rw (a, b) refl

-- what an instruction's words make of its shown line
pub record ReadBack (G : Table) (before : List PlainInst) (i : PlainInst) (words line : List ℕ) : Type 0 where
  pub further : List ℕ
  pub spelled : words ≡ first_word i.opcode further ∷ further
  pub count : length further + 1 < 65536
  pub read : IsReadLine G before i further line
  pub feedless : NoFeed line

pub line_back : (G : Table) (before : List PlainInst) (i : PlainInst) (further words line : List ℕ)
    → IsShownLine G before i further line → IsInstruction G before i words → AreWords words
    → ReadBack G before i words line
line_back G before i further words line a b w =
    let c = start before i.opcode in
    let e = entry_once G i.opcode i.opcode b.entry a.entry refl b.known a.known in
    let m : Matches G c (map due (pattern_of b.entry)) i.operands b.further = match_flat G c
    (pattern_of b.entry) i.operands b.further b.matches in
    let m' : Matches G c (map due (pattern_of a.entry)) i.operands b.further = rw (← e) m in
    let n = forget (Shown G) G (result_in i.operands) c
    (map due (pattern_of a.entry)) i.operands further a.operands a.written in
    let f : further ≡ b.further = spelled_once G c
    (map due (pattern_of a.entry)) i.operands i.operands further b.further n m' refl in
    let v : AreWords (first_word i.opcode b.further ∷ b.further) = rw b.spelled at w in
    let small : AreWords b.further = v.1 in
    let wr : Written (IsRead G) G (result_in i.operands) c (map due (pattern_of a.entry)) i.operands further a.operands
    = written_back G (result_in i.operands) c (map due (pattern_of a.entry)) i.operands further a.operands a.written in
    let wr' : Written (IsRead G) G (result_in i.operands) c
    (map due (pattern_of a.entry)) i.operands b.further a.operands = rw f at wr in
    let nm = inst_name_back G i.opcode a.entry in
    let o = b.opcode in
    let br = written_break (IsRead G) G (result_in i.operands) c
    (map due (pattern_of a.entry)) i.operands b.further a.operands wr' in
    let rs : (y : ℕ) → result_in i.operands ≡ Some y
    → y < 4294967296 = λ y g. result_small G c (map due (pattern_of a.entry)) i.operands b.further y m' small g in
    let d = parts_joined (result_in i.operands) (opcode_named G.entries) i.opcode
    (shown_name G i.opcode a.entry) a.operands rs (omega arith) nm br in
    let fl = result_feedless (result_in i.operands) rs in
    let fn = tame_feedless (shown_name G i.opcode a.entry)
    (names_tame (opcode_named G.entries) i.opcode (shown_name G i.opcode a.entry) (omega arith) nm) in
    let fo = written_feedless G (result_in i.operands) c
    (map due (pattern_of a.entry)) i.operands b.further a.operands wr' small in
    let fa = feedless-append (shown_result (result_in i.operands)) (shown_name G i.opcode a.entry ++ a.operands) fl
    (feedless-append (shown_name G i.opcode a.entry) a.operands fn fo) in
    record {
      further = b.further;
      spelled = b.spelled;
      count = b.count;
      read = record {
        parts = parts (option_map id_text (result_in i.operands)) (shown_name G i.opcode a.entry) a.operands;
        entry = a.entry;
        divided = ap parts_of a.all ∙ d;
        name = record { named = nm; known = a.known; range = b.opcode };
        result = refl;
        written = wr';
        small = small;
      };
      feedless = rw a.all fa;
    }
  where
    result_feedless : (r : Option ℕ) → ((y : ℕ) → r ≡ Some y → y < 4294967296) → NoFeed (shown_result r)
    result_feedless None h = tt
    result_feedless (Some y) h =
        feedless-append (id_text y) (32 ∷ 61 ∷ 32 ∷ []) (tame_feedless (id_text y) (id_tame y (h y refl)))
        ((λ z. omega arith), ((λ z. omega arith), ((λ z. omega arith), tt)))

-- no line has a line feed
abbrev pub AreLines : List (List ℕ) → Type 0
AreLines [] = Unit {0}
AreLines (l ∷ ls) = NoFeed l × AreLines ls

pub lines-append : (ls ms : List (List ℕ)) → AreLines ls → AreLines ms → AreLines (ls ++ ms)
lines-append [] ms h g = g
lines-append (l ∷ ls) ms h g = (h.0, lines-append ls ms h.1 g)

pub line_ends : (l t : List ℕ) → NoFeed l → lines_of (l ++ (10 ∷ t)) ≡ l ∷ lines_of t
line_ends [] t h = refl
line_ends (b ∷ l) t h = let e = eq_no b 10 h.0 in rw (e, line_ends l t h.1) refl

pub lines_ended : (ls : List (List ℕ)) → AreLines ls → lines_of (ended ls) ≡ ls
lines_ended [] h = refl
lines_ended (l ∷ ls) h = line_ends l (ended ls) h.0 ∙ ap (λ z. l ∷ z) (lines_ended ls h.1)

-- the lines of a list that has a spelling
pub record LinesBack (G : Table) (before is : List PlainInst) (words : List ℕ) (ls : List (List ℕ)) : Type 0 where
  pub read : ReadLines G before is ls words
  pub lines : AreLines ls

joined_words : (G : Table) (before is : List PlainInst) (ls : List (List ℕ)) (w us vs : List ℕ) → w ≡ us
    → ReadLines G before is ls (us ++ vs) → ReadLines G before is ls (w ++ vs)
joined_words G before is ls w us vs e m = rw e m

rest_moved : (G : Table) (before : List PlainInst) (i j : PlainInst) (is : List PlainInst) (vs : List ℕ) → i ≡ j
    → Listing G (before ++ (j ∷ [])) is vs → Listing G (before ++ (i ∷ [])) is vs
rest_moved G before i j is vs e m = rw e m

inst_moved : (G : Table) (before : List PlainInst) (i j : PlainInst) (ws : List ℕ) → i ≡ j → IsInstruction G before j ws
    → IsInstruction G before i ws
inst_moved G before i j ws e m = rw e m

list_moved : (G : Table) (before is js : List PlainInst) (ws : List ℕ) → is ≡ js → Listing G before js ws
    → Listing G before is ws
list_moved G before is js ws e m = rw e m

pub lines_back : (G : Table) (before is js : List PlainInst) (ls : List (List ℕ)) (words : List ℕ)
    → ShownLines G before is ls → Listing G before js words → is ≡ js → AreWords words
    → LinesBack G before is words ls
lines_back G _ _ _ _ _ (ShownLines.end before) (Listing.end _) e h = record { read = ReadLines.end before; lines = tt }
lines_back G _ _ _ _ _ (ShownLines.end before) (Listing.more _ j js ws vs b n) e h = cc
lines_back G _ _ _ _ _ (ShownLines.more before i is us l ls a m) (Listing.end _) e h = cc
lines_back G _ _ _ _ _ (ShownLines.more before i is us l ls a m) (Listing.more _ j js ws vs b n) e h =
    let p : i ≡ j = cc in
    let q : is ≡ js = cc in
    let k = all_split ws vs h in
    let x = line_back G before i us ws l a (inst_moved G before i j ws p b) k.first in
    let y = lines_back G (before ++ (i ∷ [])) is js ls vs m (rest_moved G before i j js vs p n) q k.second in
    let c = x.count in
    record {
      read = joined_words G before (i ∷ is) (l ∷ ls) ws (first_word i.opcode x.further ∷ x.further) vs x.spelled
          (ReadLines.more before i is x.further l vs ls x.read (omega arith) y.read);
      lines = (x.feedless, y.lines);
    }

and_both : (a b : Bool) → (a && b) ≡ true → Both (a ≡ true) (b ≡ true)
and_both true b h = record { first = refl; second = h }
and_both false b h = cc

no_feed_by : (t : List ℕ) → list_all (λ b. not (nat_eq b 10)) t ≡ true → NoFeed t
no_feed_by [] h = tt
no_feed_by (b ∷ t) h =
    let r = and_both (not (nat_eq b 10)) (list_all (λ b. not (nat_eq b 10)) t) h in
    (differs b r.first, no_feed_by t r.second)
  where
    differs : (b : ℕ) → not (nat_eq b 10) ≡ true → b ≢ 10
    differs b e = grind (arith, nat_tests)

header_feedless : (h : Header) → h.generator < 2 ^ 32 → h.bound < 2 ^ 32 → AreLines (header_lines h)
header_feedless h g b = (
  no_feed_by (codes "; SPIR-V") refl,
  (
    no_feed_by (codes "; Version: 1.6") refl,
    (
      feedless-append (codes "; Generator: ") (decimal h.generator) (no_feed_by (codes "; Generator: ") refl)
          (tame_feedless (decimal h.generator) (decimal_tame h.generator (omega arith))),
      (
        feedless-append (codes "; Bound: ") (decimal h.bound) (no_feed_by (codes "; Bound: ") refl)
            (tame_feedless (decimal h.bound) (decimal_tame h.bound (omega arith))),
        (no_feed_by (codes "; Schema: 0") refl, tt),
      ),
    ),
  ),
)

pub text_back : (G : Table) (h : Header) (is : List PlainInst) (words t : List ℕ) → IsShownText G h is t
    → IsListing G is words → AreWords words → HeaderFits h → h.generator < 2 ^ 32
    → 5 + length words ≤ greatest_length → IsReadText G h is words t
text_back G h is words t a b w f g s =
    let x = lines_back G [] is is a.lines words a.shown b refl w in
    let m = f.bound_most in
    let l = lines-append (header_lines h) a.lines (header_feedless h g (omega arith)) x.lines in
    record {
      lines = a.lines;
      header = f;
      generator = g;
      read = x.read;
      short = s;
      all = ap lines_of a.all ∙ lines_ended (header_lines h ++ a.lines) l;
    }

-- a list that has a spelling has a shown text
pub record HasLines (G : Table) (before is : List PlainInst) : Type 0 where
  pub lines : List (List ℕ)
  pub shown : ShownLines G before is lines

pub shown_lines : (G : Table) (before is : List PlainInst) (words : List ℕ) → Listing G before is words
    → HasLines G before is
shown_lines G _ _ _ (Listing.end before) = record { lines = []; shown = ShownLines.end before }
shown_lines G _ _ _ (Listing.more before i is ws vs b n) =
    let x = shown_lines G (before ++ (i ∷ [])) is vs n in
    let c = start before i.opcode in
    let m = match_flat G c (pattern_of b.entry) i.operands b.further b.matches in
    let y = text_of G (result_in i.operands) c (map due (pattern_of b.entry)) i.operands b.further m refl in
    let line : List ℕ = shown_result (result_in i.operands) ++ (shown_name G i.opcode b.entry ++ y.text) in
    record {
      lines = line ∷ x.lines;
      shown = ShownLines.more before i is b.further line x.lines
          (record { entry = b.entry; operands = y.text; known = b.known; written = y.written; all = refl }) x.shown;
    }

pub shown_text : (G : Table) (h : Header) (is : List PlainInst) (words : List ℕ) → IsListing G is words
    → (t : List ℕ) × IsShownText G h is t
shown_text G h is words b =
    let x = shown_lines G [] is words b in
    (ended (header_lines h ++ x.lines), record { lines = x.lines; shown = x.shown; all = refl })
