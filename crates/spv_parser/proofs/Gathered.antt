-- What is kept while the lines of a text are read: the instructions so far, and that the lines left go on from there.
use Rattle.std.proofs.Common.{◌≡◌, ◌++◌, ◌∙◌, inl, inr, ◌<◌, ◌≤◌, ◌+◌, ◌^◌, ℕ, suc, List, [], ◌∷◌, None, Bool, true}
use Rattle.std.proofs.Common.{length, drop, refl, sym, ap, arith, append_assoc, append-nil, length-append}
use Rattle.std.specs.Prelude.{◌==◌}
use Rattle.std.proofs.lemmas.Bool.Decides.{nat_tests}
use Rattle.spv_table.specs.Table.{Table}
use Rattle.spv_module.specs.Operand.{PlainInst, result_in}
use Rattle.spv_words.specs.declared.words.Header.{Header}
use Rattle.spv_module.specs.Instruction.{first_word, IsListing}
use Rattle.spv_inst.specs.Outcome.{IsHeaderOf}
use Rattle.spv_words.specs.Header.{greatest_length}
use Rattle.spv_inst.specs.Limits.{HeaderFits}
use Rattle.spv_lines.specs.declared.asm_error.AsmCode.{AsmCode}
use Rattle.spv_lines.specs.declared.asm_error.AsmCode.TheVariants.{S1, S2, S3, S4, S5, S6}
use Rattle.spv_lines.specs.Text.{ReadLines, IsReadText, header_lines, lines_of}
use Rattle.spv_lines.specs.Fault.{LineFails, LinesFail, HeaderFails, IsFailure}
use Rattle.spv_inst.specs.declared.definitions.Definitions.{Definitions}
use Rattle.spv_parser.specs.declared.operands.Line.{Line}
use Rattle.spv_parser.specs.inner.Kept.{IsOf}
use Rattle.spv_inst.specs.inner.Known.{Knows}
use Rattle.spv_lines.specs.Fault.{IsAsmFailure}
use Rattle.spv_parser.specs.inner.Reading.{IsLine, LineFailsOr}
use Rattle.spv_parser.specs.inner.Lines.{HasLine, HasLines, IsTooLongOr, LinesFailOr, told_line}

pub record LinesSoFar (G : Table) (lines : List (List ℕ)) (header draft : List ℕ) (kept : Definitions)
    (left : List (List ℕ)) (number : ℕ) : Type 0 where
  pub insts : List PlainInst
  pub words : List ℕ
  pub all : draft ≡ header ++ words
  pub definitions : Knows kept insts
  pub short : length draft ≤ greatest_length
  pub count : number + 5 ≤ length draft
  pub read : (is : List PlainInst) (ws : List ℕ) → ReadLines G insts is left ws
      → ReadLines G [] (insts ++ is) lines (words ++ ws)
  pub failed : (code : AsmCode) (n : ℕ) → LinesFail G insts (length draft) left code n
      → LinesFail G [] 5 lines code (number + n)

pub lines_first : (G : Table) (lines : List (List ℕ)) (header : List ℕ) (definitions : Definitions) → length header ≡ 5
    → Knows definitions [] → LinesSoFar G lines header header definitions lines 0
lines_first G lines header definitions e k = record {
  insts = [];
  words = [];
  all = sym (append-nil header);
  definitions = k;
  short = omega arith;
  count = omega arith;
  read = λ is ws m. m;
  failed = λ code n m. let m' : LinesFail G [] 5 lines code n = rw e at m in let z : 0 + n ≡ n = omega arith in rw z m';
}

pub lines_more : (G : Table) (lines : List (List ℕ)) (header draft new : List ℕ) (definitions next : Definitions)
    (octets : List ℕ) (left rest : List (List ℕ)) (number : ℕ) (line : Line)
    (a : LinesSoFar G lines header draft definitions left number)
    → left ≡ octets ∷ rest → (h : HasLine G a.insts octets draft new line) → Knows next (a.insts ++ (h.line.inst ∷ []))
    → LinesSoFar G lines header new next rest (number + 1)
lines_more G lines header draft new definitions next octets left rest number line a e h k =
    let i = h.line.inst in
    let w = first_word line.opcode h.further ∷ h.further in
    let o : first_word i.opcode h.further ≡ first_word line.opcode h.further = ap (λ n. first_word n h.further)
    (sym h.line.kept.opcode) in
    let n = length-append draft w in
    let g : length new ≡ length draft + (length h.further + 1) = ap length h.words ∙ (omega (arith, n)) in
    let s = h.short in
    let c = a.count in
    record {
      insts = a.insts ++ (i ∷ []);
      words = a.words ++ w;
      all = h.words ∙ (ap (λ z. z ++ w) a.all ∙ append_assoc header a.words w);
      definitions = k;
      short = omega (arith, g, s);
      count = omega (arith, g, c);
      read = λ is ws m.
          let q : ReadLines G a.insts (i ∷ is) (octets ∷ rest)
          ((first_word i.opcode h.further ∷ h.further) ++ ws) =
          ReadLines.more a.insts i is h.further octets ws rest h.line.read h.count m in
          let q' : ReadLines G a.insts (i ∷ is) left (w ++ ws) = rw (e, ← o) q in
          let r = a.read (i ∷ is) (w ++ ws) q' in
          rw (append_assoc a.insts (i ∷ []) is, append_assoc a.words w ws) r;
      failed = λ code m f.
          let f' : LinesFail G (a.insts ++ (i ∷ [])) (length draft + (length h.further + 1)) rest code m = rw g at f in
          let q : LinesFail G a.insts (length draft) (octets ∷ rest) code (suc m) = LinesFail.later a.insts
          (length draft) octets rest code m i h.further h.line.read h.count h.short f' in
          let q' : LinesFail G a.insts (length draft) left code (suc m) = rw e q in
          let z : number + suc m ≡ (number + 1) + m = omega arith in
          rw (← z) (a.failed code (suc m) q');
    }

fail_here : (G : Table) (lines : List (List ℕ)) (header draft : List ℕ) (definitions : Definitions) (line : List ℕ)
    (left rest : List (List ℕ)) (number : ℕ) (code : AsmCode)
    (a : LinesSoFar G lines header draft definitions left number)
    → left ≡ line ∷ rest → LineFails G a.insts (length draft) line code
    → (n : ℕ) × (number + 6 ≡ 6 + n) × LinesFail G [] 5 lines code n
fail_here G lines header draft definitions line left rest number code a e f =
    let q : LinesFail G a.insts (length draft) (line ∷ rest) code 0 = LinesFail.here a.insts
    (length draft) line rest code f in
    let q' : LinesFail G a.insts (length draft) left code 0 = rw e q in
    let z : number + 0 ≡ number = omega arith in
    (number, omega arith, rw z at (a.failed code 0 q'))

pub lines_failed : (G : Table) (lines : List (List ℕ)) (header draft : List ℕ) (definitions : Definitions)
    (line : List ℕ) (left rest : List (List ℕ)) (number : ℕ) (code : AsmCode)
    (a : LinesSoFar G lines header draft definitions left number)
    → left ≡ line ∷ rest → LineFailsOr G a.insts (length draft) line code
    → LinesFailOr G lines code (told_line code number)
lines_failed G lines header draft definitions line left rest number S1 a e f =
    fail_here G lines header draft definitions line left rest number S1 a e f
lines_failed G lines header draft definitions line left rest number S2 a e f =
    fail_here G lines header draft definitions line left rest number S2 a e f
lines_failed G lines header draft definitions line left rest number S3 a e f =
    fail_here G lines header draft definitions line left rest number S3 a e f
lines_failed G lines header draft definitions line left rest number S4 a e f =
    fail_here G lines header draft definitions line left rest number S4 a e f
lines_failed G lines header draft definitions line left rest number S5 a e f =
    fail_here G lines header draft definitions line left rest number S5 a e f
lines_failed G lines header draft definitions line left rest number S6 a e f = refl

pub lines_done : (G : Table) (lines : List (List ℕ)) (header draft : List ℕ) (definitions : Definitions)
    (left : List (List ℕ)) (number : ℕ) → LinesSoFar G lines header draft definitions left number → left ≡ []
    → HasLines G lines header draft
lines_done G lines header draft definitions left number a e =
    let m : ReadLines G a.insts [] left [] = rw e (ReadLines.end a.insts) in
    let r = a.read [] [] m in
    record {
      insts = a.insts;
      words = a.words;
      read = rw (append-nil a.insts, append-nil a.words) at r;
      all = a.all;
      short = a.short;
    }

pub none_kept : (line : Line) (i : PlainInst) → line.result ≡ None → IsOf line i → result_in i.operands ≡ None
none_kept line i e h = sym h.result ∙ e

-- an instruction that is too long
pub long_failed : (G : Table) (before : List PlainInst) (line further : List ℕ) (written : ℕ) (kept : Line)
    (code : AsmCode) → IsLine G before line further kept → IsTooLongOr further written code
    → LineFailsOr G before written line code
long_failed G before line further written kept S1 l h = absurd h
long_failed G before line further written kept S2 l h = absurd h
long_failed G before line further written kept S3 l h = absurd h
long_failed G before line further written kept S4 l h = absurd h
long_failed G before line further written kept S5 l h = LineFails.long l.inst further l.read h
long_failed G before line further written kept S6 l h = tt

no_lines : (b : Bool) (n : ℕ) → b ≡ (n == 0) → b ≡ true → n ≡ 0
no_lines b n e f = grind (arith, nat_tests)

pub lines_empty : (b : Bool) (t : List ℕ) → b ≡ (length t == 0) → b ≡ true → lines_of t ≡ []
lines_empty b [] e f = refl
lines_empty b (x ∷ t) e f = let l : length (x ∷ t) ≡ 0 = no_lines b (length (x ∷ t)) e f in absurd (omega arith)

-- the whole text
pub header_failed : (G : Table) (t : List ℕ) (code : AsmCode) (n : ℕ) → HeaderFails (lines_of t) code n
    → IsAsmFailure G t code n
header_failed G t S1 n h = IsFailure.header S1 n h
header_failed G t S2 n h = IsFailure.header S2 n h
header_failed G t S3 n h = IsFailure.header S3 n h
header_failed G t S4 n h = IsFailure.header S4 n h
header_failed G t S5 n h = IsFailure.header S5 n h
header_failed G t S6 n h = elim h.code_is [ inl a ↦ absurd (four a.0) | inr a ↦ absurd (one a.0) ]
  where
    four : S6 ≡ S4 → ⊥
    four e = cc

    one : S6 ≡ S1 → ⊥
    one e = cc

line_failed : (G : Table) (t : List ℕ) (h : Header) (rest : List (List ℕ)) (code : AsmCode) (line : ℕ) → HeaderFits h
    → h.generator < 2 ^ 32 → lines_of t ≡ header_lines h ++ rest
    → (n : ℕ) × (line ≡ 6 + n) × LinesFail G [] 5 rest code n
    → IsFailure G t code line
line_failed G t h rest code line f g e l = rw l.1 (IsFailure.line h rest code l.0 f g e l.2)

pub text_failed : (G : Table) (t : List ℕ) (h : Header) (rest : List (List ℕ)) (code : AsmCode) (line : ℕ)
    → HeaderFits h → h.generator < 2 ^ 32 → lines_of t ≡ header_lines h ++ rest → LinesFailOr G rest code line
    → IsAsmFailure G t code line
text_failed G t h rest S1 line f g e l = line_failed G t h rest S1 line f g e l
text_failed G t h rest S2 line f g e l = line_failed G t h rest S2 line f g e l
text_failed G t h rest S3 line f g e l = line_failed G t h rest S3 line f g e l
text_failed G t h rest S4 line f g e l = line_failed G t h rest S4 line f g e l
text_failed G t h rest S5 line f g e l = line_failed G t h rest S5 line f g e l
text_failed G t h rest S6 line f g e l = l

abbrev pub five_words : Header → List ℕ
five_words h = 119734787 ∷ h.version ∷ h.generator ∷ h.bound ∷ h.schema ∷ []

pub text_read : (G : Table) (t : List ℕ) (h : Header) (rest : List (List ℕ)) (old new image : List ℕ) → HeaderFits h
    → h.generator < 2 ^ 32 → lines_of t ≡ header_lines h ++ rest → old ≡ five_words h → HasLines G rest old new
    → image ≡ new
    → (x : Header) × (is : List PlainInst) × IsReadText G x is (drop 5 image) t × IsHeaderOf image x
    × IsListing G is (drop 5 image)
text_read G t h rest old new image f g e o l m =
    let n : image ≡ five_words h ++ l.words = m ∙ (l.all ∙ ap (λ z. z ++ l.words) o) in
    let d : drop 5 image ≡ l.words = ap (drop 5) n in
    let s = l.short in
    let q : length new ≡ 5 + length l.words = ap length (l.all ∙ ap (λ z. z ++ l.words) o)
    ∙ add_five (length l.words) in
    let r : IsReadText G h l.insts l.words t = record
    { lines = rest; header = f; generator = g; read = l.read; short = omega (arith, q, s); all = e } in
    let r' : IsReadText G h l.insts (drop 5 image) t = rw d r in
    let k : IsHeaderOf image h = rw n (record { version = refl; generator = refl; bound = refl; schema = refl }) in
    (h, l.insts, r', k, Rattle.spv_lines.proofs.Assembled.read_spells G h l.insts (drop 5 image) t r')
  where
    add_five : (n : ℕ) → suc (suc (suc (suc (suc n)))) ≡ 5 + n
    add_five n = omega arith
