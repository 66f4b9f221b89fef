-- The small lists and texts of the worked examples.
use Rattle.std.proofs.Common.{◌≡◌, ◌∙◌, ◌++◌, ◌<◌, inl, inr, ℕ, zero, suc, List, [], ◌∷◌, refl, sym, subst}
use Rattle.std.proofs.Common.{true, false, Option, Some, None, ap, codes, drop, map, slice_index, arith, IsUtf8}
use Rattle.std.specs.Fmt.{digits}
use Rattle.std.specs.Prelude.{slice_index_or}
use Rattle.std.specs.List.{Contains}
use Rattle.std.proofs.lemmas.Fmt.{decimal_digit}
use Rattle.spv_table.specs.Table.{pattern_of}
use Rattle.spv_module.specs.Example.{small, string, string_entry}
use Rattle.spv_module.specs.declared.profile.Profile.TheVariants.{Own}
use Rattle.spv_module.specs.Operand.{PlainInst, Result, Text, start}
use Rattle.spv_module.specs.Shape.{shape_of}
use Rattle.spv_module.specs.Spelling.{HoldsText, Takes}
use Rattle.spv_inst.specs.Flat.{due}
use Rattle.spv_module.specs.Instruction.{IsListing}
use Rattle.spv_words.specs.declared.words.WordError.TheVariants as word
use Rattle.spv_module.specs.declared.fault.Rule.{Rule}
use Rattle.spv_module.specs.declared.opcode.TheConstants as opcode
use Rattle.spv_module.specs.declared.fault.Rule.TheVariants.{L1, D2}
use Rattle.spv_extended.specs.declared.reach.Reach.TheVariants.{Profile}
use Rattle.spv_layout.specs.First.{stage_of}
use Rattle.spv_layout.specs.Rows.{rows}
use Rattle.spv_layout.specs.declared.state.State.TheVariants as at
use Rattle.spv_layout.specs.Stage as stages
use Rattle.spv_layout.proofs.Layouts.{leads_first}
use Rattle.spv_ids.specs.Broken as ids
use Rattle.spv_ids.specs.Example.{of_void}
use Rattle.spv_inst.specs.Outcome.{IsHeaderOf}
use Rattle.spv_module.specs.Module.{plain_insts}
use Rattle.spv_module.specs.declared.module.Module.{Module}
use Rattle.spv_inst.proofs.Lists.{listing_same}
use Rattle.spv_inst.proofs.Worked.{string_listed}
use Rattle.spv_check.specs.Broken.{Broken}
use Rattle.spv_check.specs.Verdict.{line_end}
use Rattle.spv_check.proofs.Firsts.{calls_stage, extended_stage, flow_stage, layout_stage, std_types_stage}
use Rattle.spv_check.proofs.Stages.{types_stage}
use Rattle.spv_evidence.specs.declared.evidence.Evidence.{Evidence}
use Rattle.spv_evidence.specs.declared.evidence.Evidence.TheVariants.{MayCome, NoEntry}
use Rattle.spv_form_evidence.specs.layout.Evidence as layout
use Rattle.spv_form_evidence.specs.layout.inner.Automaton.{followers, opcodes_of}
use Rattle.spv_form_evidence.proofs.lemmas.layout.Opcodes.{to_come}
use Rattle.spv_explain.specs.Evidence.{IsEvidence}
use Rattle.spv_explain.specs.Example.{labels, many_opcodes, string_fault, string_words, twice_void}
use Rattle.spv_explain.specs.Explained.{IsShownBy}
use Rattle.spv_lines.specs.Line.{IsShownLine}
use Rattle.spv_lines.specs.Operand.{Shown}
use Rattle.spv_lines.specs.Text.{ShownLines}
use Rattle.spv_lines.specs.Written.{Piece, Written}
use Rattle.spv_facts.specs.Facts.{facts_of}
use Rattle.spv_fault_lines.specs.Lines.{line_of, text_of}
use Rattle.spv_lines.specs.Digits.{hex_digits}
use Rattle.spv_facts.specs.Place.{comes_early, open_before, place_of}
use Rattle.spv_lines.specs.Plain.{plain_of}
use Rattle.spv_fault_lines.specs.Refused.{found_lines}
use Rattle.spv_facts.specs.Refused.{front_of}
use Rattle.spv_facts.specs.declared.fact.Detail.TheVariants.{Full, Short}
use Rattle.spv_facts.specs.declared.fact.Fact.TheVariants as fact
use Rattle.spv_facts.specs.declared.fact.Place.{Place as Standing}
use Rattle.spv_rules.specs.declared.rules.Code.TheVariants as Code
use Rattle.spv_explain.specs.Lines.{refused_text, rule_line}
use Rattle.spv_explain.specs.Stream.{AreLinesOf, IsModuleOf, IsWalk}
use Rattle.spv_explain.specs.declared.stream.Explanation.{Explanation}
use Rattle.spv_check.specs.declared.verdict_line.Judgment.TheVariants as verdicts
use Rattle.spv_table.specs.Table.{Table}
use Rattle.spv_extended.specs.declared.reach.Reach.{Reach}
use Rattle.spv_explain.proofs.Sufficing.{of_layout_alone, suffices}

-- lines
pub earlier_told : line_of Short small twice_void (codes "%1 = OpTypeVoid" ∷ [])
    (fact.Earlier 0) ≡ codes "earlier: inst 0, %1 = OpTypeVoid" ++ line_end
earlier_told = rw (decimal_digit 0 (omega arith)) refl

pub not_later_told : ¬ (line_of Short small twice_void (codes "%1 = OpTypeVoid" ∷ [])
    (fact.Earlier 0) ≡ codes "earlier: inst 1, %1 = OpTypeVoid" ++ line_end)
not_later_told h =
    let e : codes "earlier: inst 0, %1 = OpTypeVoid" ++ line_end ≡ codes "earlier: inst 1, %1 = OpTypeVoid"
    ++ line_end = sym earlier_told ∙ h in
    let f : 48 ≡ 49 = ap (λ (t : List ℕ). slice_index t 14) e in
    absurd (omega (arith, f))

pub operand_told : line_of Short small (of_void ∷ []) [] (fact.Operand 0 1) ≡ codes "operand: 1 %1" ++ line_end
operand_told = rw (decimal_digit 1 (omega arith)) refl

pub classes_told : line_of Short small [] [] (fact.MayCome many_opcodes true)
    ≡ codes "may come: OpUndef; a source; a line; a type or constant; OpFunction; end of module" ++ line_end
unfolding rows
classes_told = refl

pub names_told : line_of Full small [] [] (fact.MayCome many_opcodes
    true) ≡ codes "may come: OpString OpTypeInt end of module" ++ line_end
names_told = refl

pub escape_told : plain_of (97 ∷ 27 ∷ 92 ∷ []) ≡ codes "a\\x1b\\"
escape_told = refl

pub late_told : plain_of (194 ∷ 155 ∷ 97 ∷ []) ≡ codes "\\xc2\\x9ba"
late_told = refl

pub kept_told : plain_of (194 ∷ 169 ∷ []) ≡ 194 ∷ 169 ∷ []
kept_told = refl

-- places
pub open_told : open_before labels 2 ≡ record { function = Some 0; block = Some 1 }
open_told = refl

pub inside_told : ¬ (open_before labels 2 ≡ place_of labels 2)
inside_told h = (let e : ◌≡◌ {A = Option ℕ} (Some 1) (Some 2) = ap (λ (p : Standing). p.block) h in absurd cc)

pub early_told : comes_early opcode.LABEL (open_before labels 2) ≡ true
early_told = refl

pub not_early_told : comes_early opcode.LABEL (open_before labels 1) ≡ false
not_early_told = refl

pub unended_told : line_of Short small twice_void [] (fact.Unended (record { function = Some 0; block = None }))
    ≡ codes "missing: the end of function %1" ++ line_end
unended_told = rw (decimal_digit 1 (omega arith)) refl

pub no_block_told : ¬ (line_of Short small twice_void [] (fact.Unended (record { function = Some 0; block = None }))
    ≡ codes "missing: the end of block %1" ++ line_end)
no_block_told h =
    let e : codes "missing: the end of function %1" ++ line_end ≡ codes "missing: the end of block %1"
    ++ line_end = sym unended_told ∙ h in
    let f : 102 ≡ 98 = ap (λ (t : List ℕ). slice_index t 20) e in
    absurd (omega (arith, f))

-- bytes that are no words
found_few : found_lines word.W2 (front_of (1 ∷ 2 ∷ 3 ∷ [])) ≡ codes "found: 3 bytes" ++ line_end
found_few = rw (decimal_digit 3 (omega arith)) refl

pub few_told : refused_text word.W2 (1 ∷ 2 ∷ 3 ∷ []) ≡ rule_line (Code.Word word.W2)
    ++ (codes "found: 3 bytes" ++ line_end)
few_told = ap (λ (z : List ℕ). rule_line (Code.Word word.W2) ++ z) found_few

pub one_told : found_lines word.W2 (front_of (1 ∷ [])) ≡ codes "found: 1 byte" ++ line_end
one_told = rw (decimal_digit 1 (omega arith)) refl

pub no_magic_told : found_lines word.W4 (front_of (127 ∷ 69 ∷ 76 ∷ 70 ∷ [])) ≡ codes "found: 0x464c457f" ++ line_end
unfolding hex_digits
no_magic_told = refl

pub not_turned_told : ¬ (found_lines word.W4 (front_of (127 ∷ 69 ∷ 76 ∷ 70 ∷ [])) ≡ codes "found: 0x7f454c46"
    ++ line_end)
not_turned_told h =
    let e : codes "found: 0x464c457f" ++ line_end ≡ codes "found: 0x7f454c46" ++ line_end = sym no_magic_told ∙ h in
    let f : 52 ≡ 55 = ap (λ (t : List ℕ). slice_index t 9) e in
    absurd (omega (arith, f))

pub earlier_version_told : found_lines word.W5 (front_of (7 ∷ 35 ∷ 2 ∷ 3 ∷ 0 ∷ 1 ∷ 4 ∷ 0 ∷ []))
    ≡ codes "found: version 1.4" ++ (line_end
    ++ (codes "help: --as-1.6 reads it as a module of version 1.6" ++ line_end))
earlier_version_told = rw (decimal_digit 1 (omega arith), decimal_digit 4 (omega arith)) refl

pub later_version_told : found_lines word.W5
    (front_of (3 ∷ 2 ∷ 35 ∷ 7 ∷ 0 ∷ 0 ∷ 2 ∷ 0 ∷ [])) ≡ codes "found: version 2.0" ++ line_end
later_version_told = rw (decimal_digit 2 (omega arith), decimal_digit 0 (omega arith)) refl

no_second : (r : Rule) (n : ℕ) → ids.Broken small 5 twice_void r n → r ≡ D2 → n ≡ 0 → ⊥
no_second _ _ (ids.Broken.result_out_of_range n x d o) e z = cc
no_second _ _ (ids.Broken.use_out_of_range n k x r u o) e z = cc
no_second _ _ (ids.Broken.mention_out_of_range n k x m o) e z = cc
no_second _ _ (ids.Broken.defined_again n m x d l k) e z = absurd (omega arith)
no_second _ _ (ids.Broken.undefined n k x r u d) e z = cc
no_second _ _ (ids.Broken.mention_undefined n k x m d) e z = cc
no_second _ _ (ids.Broken.not_in_order n k x r u o i) e z = cc
no_second _ _ (ids.Broken.not_in_scope n k x r u o l i) e z = cc

no_broken : (r : Rule) (n : ℕ) → Broken small Profile 5 twice_void r n → r ≡ D2 → n ≡ 0 → ⊥
no_broken _ _ (Broken.of_layout r n b) e z =
    let s : stage_of r ≡ stages.of_ids = subst (λ q. stage_of q ≡ stages.of_ids) (sym e) refl in
    elim (layout_stage Profile small twice_void r n b) [
      | inl t ↦ absurd (omega (arith, s, t))
      | inr t ↦
          absurd (omega (arith, s, t))
    ]
no_broken _ _ (Broken.of_ids r n b) e z = no_second r n b e z
no_broken _ _ (Broken.of_types r n b) e z =
    let s : stage_of r ≡ stages.of_ids = subst (λ q. stage_of q ≡ stages.of_ids) (sym e) refl in
    elim (types_stage small twice_void r n b) [
      | inl t ↦ absurd (omega (arith, s, t))
      | inr t ↦
          absurd (omega (arith, s, t))
    ]
no_broken _ _ (Broken.of_flow r n b) e z =
    let s : stage_of r ≡ stages.of_ids = subst (λ q. stage_of q ≡ stages.of_ids) (sym e) refl in
    elim (flow_stage Profile small twice_void r n b) [
      | inl t ↦ absurd (omega (arith, s, t))
      | inr t ↦
          absurd (omega (arith, s, t))
    ]
no_broken _ _ (Broken.of_calls r n b) e z =
    let s : stage_of r ≡ stages.of_ids = subst (λ q. stage_of q ≡ stages.of_ids) (sym e) refl in
    let t = calls_stage twice_void r n b in
    absurd (omega (arith, s, t))
no_broken _ _ (Broken.of_extended r n b) e z =
    let s : stage_of r ≡ stages.of_ids = subst (λ q. stage_of q ≡ stages.of_ids) (sym e) refl in
    let t = extended_stage Profile twice_void r n b in
    absurd (omega (arith, s, t))
no_broken _ _ (Broken.of_std_types r n b) e z =
    let s : stage_of r ≡ stages.of_ids = subst (λ q. stage_of q ≡ stages.of_ids) (sym e) refl in
    let t = std_types_stage Profile twice_void r n b in
    absurd (omega (arith, s, t))
no_broken _ _ (Broken.of_standard r n b) e z = absurd b

pub no_first_lines : (lines : List ℕ) → ¬ (AreLinesOf Short small Profile 5 twice_void D2 0 lines)
no_first_lines lines l = no_broken D2 0 (suffices small Profile 5 twice_void D2 0 l.evidence l.shows) refl refl

-- a valid module has no walk
pub no_walk : (G : Table) (reach : Reach) (bytes : List ℕ) (e : Explanation) (walk : List ℕ) → e.judgment ≡ verdicts.Valid
    → walk ≡ 1 ∷ [] → ¬ (IsWalk Short G reach bytes e walk)
no_walk G reach bytes e _ j w (IsWalk.valid v) = cc
no_walk G reach bytes e _ j w (IsWalk.broken words order is f evidence shown b h l x s t) = cc
no_walk G reach bytes e _ j w (IsWalk.dead words order h l) = cc

-- an OpString first
first_opcodes : followers Own at.Capabilities (opcodes_of Own) ≡ 10 ∷ 11 ∷ 14 ∷ 17 ∷ []
unfolding rows followers
first_opcodes = refl

first_to_come : layout.AreToCome Own [] (10 ∷ 11 ∷ 14 ∷ 17 ∷ []) false
first_to_come = subst (λ l. layout.AreToCome Own [] l false) first_opcodes (to_come Own [] at.Capabilities leads_first)

not_string : ¬ (Contains {X = ℕ} (10 ∷ 11 ∷ 14 ∷ 17 ∷ []) 7)
not_string c = by c.0 c.1 c.2
  where
    by : (k : ℕ) → k < 4 → slice_index_or {A = ℕ} (10 ∷ 11 ∷ 14 ∷ 17 ∷ []) k 7 ≡ 7 → ⊥
    by zero l e = cc
    by (suc zero) l e = cc
    by (suc (suc zero)) l e = cc
    by (suc (suc (suc zero))) l e = cc
    by (suc (suc (suc (suc k)))) l e = absurd (omega (arith, l))

string_shows : IsEvidence small Profile 9 (string ∷ []) L1 0 (MayCome (10 ∷ 11 ∷ 14 ∷ 17 ∷ []) false)
string_shows =
    IsEvidence.of_layout L1 0 _ (layout.IsEvidence.misplaced string 0
    (10 ∷ 11 ∷ 14 ∷ 17 ∷ []) false refl first_to_come not_string)

-- its line
abc : HoldsText (6513249 ∷ []) (codes "abc") []
abc = record {
  words = (omega arith, tt);
  octets = refl;
  no_zero = (λ e. omega arith, (λ e. omega arith, (λ e. omega arith, tt)));
  short = omega arith;
}

abc_text : IsUtf8 (codes "abc")
unfolding lib.Utf8.encode
abc_text = (codes "abc", (refl, refl))

string_operands : Written (Shown small) small (Some 5) (start [] 7) (map due (pattern_of string_entry)) string.operands
    (5 ∷ 6513249 ∷ []) (codes " \"abc\"")
unfolding shape_of
string_operands =
    Written.take _ _ _ (Result 5) (5 ∷ []) [] [] _ _ _ (Takes.result 5) (Piece.result 5 refl refl) (
    Written.take _ _ _ (Text (codes "abc")) (6513249 ∷ []) [] (codes " \"abc\"") _ _ _
    (Takes.text (codes "abc") (6513249 ∷ []) [] abc tt abc_text)
    (Piece.other (Text (codes "abc")) (codes "\"abc\"") refl refl) (
    Written.end _))

string_line : IsShownLine small [] string (5 ∷ 6513249 ∷ []) (codes "%5 = OpString \"abc\"")
unfolding digits
string_line = record {
  entry = string_entry;
  operands = codes " \"abc\"";
  known = refl;
  written = string_operands;
  all = refl;
}

facts_told : (codes "at: %5 = OpString \"abc\"" ++ line_end) ++ (codes "may come:" ++ line_end)
    ≡ text_of Short small (string ∷ []) (codes "%5 = OpString \"abc\"" ∷ [])
    (facts_of 9 (string ∷ []) L1 0 (MayCome (10 ∷ 11 ∷ 14 ∷ 17 ∷ []) false))
facts_told = refl

pub string_lines : AreLinesOf Short small Profile 9 (string ∷ []) L1 0
    (rule_line (Code.Rule L1) ++ ((codes "at: %5 = OpString \"abc\"" ++ line_end)
    ++ (codes "may come:" ++ line_end)))
string_lines = record {
  evidence = MayCome (10 ∷ 11 ∷ 14 ∷ 17 ∷ []) false;
  shows = string_shows;
  shown = codes "%5 = OpString \"abc\"" ∷ [];
  are_shown = ShownLines.more [] string [] (5 ∷ 6513249 ∷ []) (codes "%5 = OpString \"abc\"") [] string_line
      (ShownLines.end _);
  told = ap (λ (z : List ℕ). rule_line (Code.Rule L1) ++ z) facts_told;
}

the_string : (is : List PlainInst) → IsListing small is (drop 5 string_words) → string ∷ [] ≡ is
the_string is l = listing_same small [] (string ∷ []) is (drop 5 string_words)
    (drop 5 string_words) string_listed l refl

pub string_shown : IsShownBy small Profile string_words string_fault (MayCome (10 ∷ 11 ∷ 14 ∷ 17 ∷ []) false)
string_shown is l s =
    subst (λ js. IsEvidence small Profile 9 js L1 0 (MayCome (10 ∷ 11 ∷ 14 ∷ 17 ∷ []) false))
    (the_string is l) string_shows

no_entry_shows : (r : Rule) (n : ℕ) (e : Evidence) → layout.IsEvidence Own small (string ∷ []) r n e → e ≡ NoEntry → ⊥
no_entry_shows _ _ _ (layout.IsEvidence.misfit i n known h k f) e = cc
no_entry_shows _ _ _ (layout.IsEvidence.misplaced i n os end h a none) e = cc
no_entry_shows _ _ _ (layout.IsEvidence.unfinished os a) e = cc

pub string_not_shown : ¬ (IsShownBy small Profile string_words string_fault NoEntry)
string_not_shown h =
    let e = h (string ∷ []) string_listed (omega arith) in
    no_entry_shows L1 0 NoEntry (of_layout_alone small Profile 9 (string ∷ []) L1 0 NoEntry e (omega arith)) refl

pub string_spelled : (m : Module) → plain_insts m ≡ string ∷ [] → IsHeaderOf string_words m.header
    → IsModuleOf small string_words m
string_spelled m e h =
    record { listing = subst (λ is. IsListing small is (drop 5 string_words)) (sym e) string_listed; header = h }

pub string_not_spelled : (m : Module) → plain_insts m ≡ [] → ¬ (IsModuleOf small string_words m)
string_not_spelled m e h = (let s : string ∷ [] ≡ plain_insts m = the_string (plain_insts m) h.listing in absurd cc)
