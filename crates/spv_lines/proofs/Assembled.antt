-- The words of a text that is read, and of one that is shown.
use Rattle.std.proofs.Common.{◌≡◌, ◌++◌, ◌∙◌, ◌<◌, ◌≤◌, ◌+◌, ◌^◌, ℕ, List, [], ◌∷◌, length, map, refl, sym, ap, arith}
use Rattle.spv_words.specs.declared.words.Header.{Header}
use Rattle.spv_table.specs.Table.{Table, pattern_of}
use Rattle.spv_module.specs.Operand.{PlainInst, start, result_in}
use Rattle.spv_inst.specs.Flat.{due}
use Rattle.spv_module.specs.Instruction.{IsInstruction, Listing, IsListing, first_word}
use Rattle.spv_words.specs.Header.{greatest_length}
use Rattle.spv_inst.specs.Limits.{HeaderFits}
use Rattle.spv_inst.proofs.Joined.{flat_match}
use Rattle.spv_lines.specs.declared.asm_error.AsmCode.{AsmCode}
use Rattle.spv_lines.specs.Operand.{IsRead}
use Rattle.spv_lines.specs.Line.{AreWords, IsReadLine}
use Rattle.spv_lines.specs.Text.{header_lines, ReadLines, IsReadText, IsShownText}
use Rattle.spv_lines.specs.Fault.{IsFailure}
use Rattle.spv_lines.specs.Tidy.{IsTidy}
use Rattle.spv_lines.proofs.Once.{forget}
use Rattle.spv_lines.proofs.Reading.{line_same, read_moved, header_same, reads_once}
use Rattle.spv_lines.proofs.Failing.{further_once, read_or_failed}
use Rattle.spv_lines.proofs.Showing.{text_back}

line_spells : (G : Table) (before : List PlainInst) (i : PlainInst) (further line : List ℕ)
    → IsReadLine G before i further line → length further + 1 < 65536
    → IsInstruction G before i (first_word i.opcode further ∷ further)
line_spells G before i further line a h = record {
  further = further;
  entry = a.entry;
  opcode = a.name.range;
  count = h;
  spelled = refl;
  known = a.name.known;
  matches = flat_match G (start before i.opcode) (pattern_of a.entry) i.operands further
      (forget (IsRead G) G (result_in i.operands) (start before i.opcode)
      (map due (pattern_of a.entry)) i.operands further a.parts.operands a.written);
}

lines_spell : (G : Table) (before is : List PlainInst) (ls : List (List ℕ)) (ws : List ℕ) → ReadLines G before is ls ws
    → Listing G before is ws
lines_spell G _ _ _ _ (ReadLines.end before) = Listing.end before
lines_spell G _ _ _ _ (ReadLines.more before i is us l ws ls a h m) =
    Listing.more before i is (first_word i.opcode us ∷ us) ws (line_spells G before i us l a (omega arith))
    (lines_spell G (before ++ (i ∷ [])) is ls ws m)

-- the words of what is read spell it
pub read_spells : (G : Table) (h : Header) (is : List PlainInst) (ws t : List ℕ) → IsReadText G h is ws t
    → IsListing G is ws
read_spells G h is ws t a = lines_spell G [] is a.lines ws a.read

words_same : (G : Table) (before is js : List PlainInst) (ls ms : List (List ℕ)) (ws vs : List ℕ)
    → ReadLines G before is ls ws → ReadLines G before js ms vs → ls ≡ ms → ws ≡ vs
words_same G _ _ _ _ _ _ _ (ReadLines.end before) (ReadLines.end _) e = refl
words_same G _ _ _ _ _ _ _ (ReadLines.end before) (ReadLines.more _ j js vs m ws ms b h n) e = cc
words_same G _ _ _ _ _ _ _ (ReadLines.more before i is us l ws ls a h m) (ReadLines.end _) e = cc
words_same G _ _ _ _ _ _ _ (ReadLines.more before i is us l ws ls a h m) (ReadLines.more _ j js vs k xs ks b g n) e =
    let p : l ≡ k = cc in
    let q : ls ≡ ks = cc in
    let x = line_same G before i j us vs l k a b p in
    let f = further_once G before i j us vs l k a b p in
    let y = words_same G (before ++ (i ∷ [])) is js ls ks ws xs m (read_moved G before i j js ks xs x n) q in
    let o : i.opcode ≡ j.opcode = ap (λ z. z.opcode) x in
    cc

pub read_words_once : (G : Table) (h k : Header) (is js : List PlainInst) (ws vs t : List ℕ) → IsReadText G h is ws t
    → IsReadText G k js vs t → ws ≡ vs
read_words_once G h k is js ws vs t a b =
    let e : header_lines h ++ a.lines ≡ header_lines k ++ b.lines = sym a.all ∙ b.all in
    let r = header_same h k a.lines b.lines a.header b.header a.generator b.generator e in
    words_same G [] is js a.lines b.lines ws vs a.read b.read r.second

-- what is read of a shown text is what it shows, and nothing fails there
pub shown_assembles : (G : Table) (h k : Header) (is js : List PlainInst) (ws vs t : List ℕ) → IsShownText G h is t
    → IsListing G is ws → AreWords ws → HeaderFits h → h.generator < 2 ^ 32 → 5 + length ws ≤ greatest_length
    → IsReadText G k js vs t → (h ≡ k) × (is ≡ js) × (ws ≡ vs)
shown_assembles G h k is js ws vs t a b w f g s x =
    let y = text_back G h is ws t a b w f g s in
    let z = reads_once G h k is js ws vs t y x in
    (z.0, z.1, read_words_once G h k is js ws vs t y x)

pub shown_fails_not : (G : Table) (h : Header) (is : List PlainInst) (ws t : List ℕ) (a : AsmCode) (n : ℕ) → IsTidy G
    → IsShownText G h is t → IsListing G is ws → AreWords ws → HeaderFits h → h.generator < 2 ^ 32
    → 5 + length ws ≤ greatest_length → IsFailure G t a n → ⊥
shown_fails_not G h is ws t a n tidy b c w f g s x =
    read_or_failed G h is ws t a n tidy (text_back G h is ws t b c w f g s) x
