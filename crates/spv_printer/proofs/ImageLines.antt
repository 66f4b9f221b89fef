-- The lines of an image's instructions, one after another.
use Rattle.std.proofs.Common.{◌≡◌, ◌++◌, ◌∙◌, ◌+◌, ℕ, List, [], ◌∷◌, map, length, refl, sym, ap, arith, append_assoc}
use Rattle.std.proofs.Common.{append-nil, length-append}
use Rattle.spv_table.specs.Table.{Table, pattern_of}
use Rattle.spv_module.specs.declared.opcode.TheConstants.{TYPE_FLOAT, TYPE_INT}
use Rattle.spv_inst.specs.declared.definitions.Definitions.{Definitions}
use Rattle.std.specs.Prelude.{None, nat_eq, false}
use Rattle.std.proofs.lemmas.Bool.Decides.{nat_tests}
use Rattle.spv_module.specs.Width.{declared_width}
use Rattle.spv_inst.specs.Flat.{due}
use Rattle.spv_module.specs.Instruction.{IsInstruction}
use Rattle.spv_inst.specs.inner.Known.{Knows}
use Rattle.spv_module.specs.Operand.{PlainInst, start, result_in}
use Rattle.spv_inst.proofs.Decoding.{SofarListed, listed_next}
use Rattle.spv_inst.proofs.Joined.{match_flat}
use Rattle.spv_lines.specs.Line.{IsShownLine, shown_result, shown_name}
use Rattle.spv_lines.specs.Text.{ShownLines, ended}
use Rattle.spv_lines.proofs.Back.{text_of}
use Rattle.spv_printer.specs.declared.fast_line.FastLine.{FastLine}
use Rattle.spv_printer.specs.inner.Fast.{IsFastLine, IsTold}
use Rattle.spv_printer.specs.inner.Image.{IsNext}
use Rattle.spv_printer.proofs.Texts.{ended-append}

-- The instructions up to a word, and the text of their lines.
pub record ShownUpto (G : Table) (words old new : List ℕ) (defined : Definitions) (number at : ℕ) : Type 0 where
  pub insts : List PlainInst
  pub lines : List (List ℕ)
  pub sofar : SofarListed G words insts at
  pub count : number ≡ length insts
  pub knows : Knows defined insts
  pub shown : ShownLines G [] insts lines
  pub text : new ≡ old ++ ended lines

-- the line of an instruction that words spell
pub record LineOf (G : Table) (before : List PlainInst) (i : PlainInst) : Type 0 where
  pub further : List ℕ
  pub line : List ℕ
  pub shown : IsShownLine G before i further line

pub line_of : (G : Table) (before : List PlainInst) (i : PlainInst) (words : List ℕ) → IsInstruction G before i words
    → LineOf G before i
line_of G before i words b =
    let c = start before i.opcode in
    let m = match_flat G c (pattern_of b.entry) i.operands b.further b.matches in
    let y = text_of G (result_in i.operands) c (map due (pattern_of b.entry)) i.operands b.further m refl in
    record {
      further = b.further;
      line = shown_result (result_in i.operands) ++ (shown_name G i.opcode b.entry ++ y.text);
      shown = record { entry = b.entry; operands = y.text; known = b.known; written = y.written; all = refl };
    }

-- one line more
pub lines_more : (G : Table) (before is : List PlainInst) (ls : List (List ℕ)) (i : PlainInst) (further line : List ℕ)
    → ShownLines G before is ls → IsShownLine G (before ++ is) i further line
    → ShownLines G before (is ++ (i ∷ [])) (ls ++ (line ∷ []))
lines_more G _ _ _ i further line (ShownLines.end before) s =
    ShownLines.more before i [] further line [] (rw append-nil at s) (ShownLines.end (before ++ (i ∷ [])))
lines_more G _ _ _ i further line (ShownLines.more before j js us l ls a m) s =
    let e : before ++ (j ∷ js) ≡ (before ++ (j ∷ [])) ++ js = sym (append_assoc before (j ∷ []) js) in
    ShownLines.more before j (js ++ (i ∷ [])) us l (ls ++ (line ∷ [])) a
    (lines_more G (before ++ (j ∷ [])) js ls i further line m (rw e at s))

pub text_more : (lines : List (List ℕ)) (line old new more : List ℕ) → new ≡ old ++ ended lines
    → more ≡ new ++ (line ++ (10 ∷ [])) → more ≡ old ++ ended (lines ++ (line ∷ []))
text_more lines line old new more e f =
    let g : ended (lines ++ (line ∷ [])) ≡ ended lines ++ (line ++ (10 ∷ [])) = ended-append lines (line ∷ []) in
    f ∙ (ap (λ z. z ++ (line ++ (10 ∷ []))) e
    ∙ (append_assoc old (ended lines) (line ++ (10 ∷ [])) ∙ sym (ap (λ z. old ++ z) g)))

-- one instruction more
pub upto_next : (G : Table) (words old out more : List ℕ) (d d' : Definitions) (number at end : ℕ)
    (u : ShownUpto G words old out d number at) → IsNext G words u.insts out more d' at end
    → ShownUpto G words old more d' (number + 1) end
upto_next G words old out more d d' number at end u n =
    let l = length-append u.insts (n.inst ∷ []) in
    let q = u.count in
    record {
      insts = u.insts ++ (n.inst ∷ []);
      lines = u.lines ++ (n.line ∷ []);
      sofar = listed_next G words u.insts (u.insts ++ (n.inst ∷ [])) n.inst at end u.sofar n.some n.within n.read refl;
      count = omega arith;
      knows = n.knows;
      shown = lines_more G [] u.insts u.lines n.inst n.further n.line u.shown n.shown;
      text = text_more u.lines n.line old out more u.text n.text;
    }

-- an instruction whose line was added the fast way
pub fast_next : (G : Table) (words : List ℕ) (before : List PlainInst) (old new : List ℕ) (known d : Definitions)
    (at : ℕ) (f : FastLine) → IsFastLine G known words old new at f → Knows known before
    → ((i : PlainInst) → IsTold i f → Knows d (before ++ (i ∷ []))) → IsNext G words before old new d at f.end
fast_next G words before old new known d at f l h k =
    let b = l.read before h in
    let m = line_of G before l.inst _ b in
    record {
      inst = l.inst;
      further = m.further;
      line = m.line;
      some = l.some;
      within = l.within;
      read = b;
      shown = m.shown;
      text = l.text before m.further m.line h m.shown;
      knows = k l.inst l.told;
    }

differs : (a b : ℕ) → (a ≡ b → ⊥) → nat_eq a b ≡ false
differs a b n = grind (arith, nat_tests)

-- an instruction other than OpTypeInt and OpTypeFloat declares no width
pub other_width : (i : PlainInst) → (i.opcode ≡ TYPE_INT → ⊥) → (i.opcode ≡ TYPE_FLOAT → ⊥) → declared_width i ≡ None
other_width i a b = rw (differs i.opcode TYPE_INT a, differs i.opcode TYPE_FLOAT b) refl
