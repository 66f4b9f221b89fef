-- Worked examples under a small table.
use Rattle.std.proofs.Common.{◌≡◌, ◌++◌, ◌<◌, ℕ, List, [], ◌∷◌, Option, Some, None, Bool, false, nat_eq, refl, ap}
use Rattle.std.proofs.Common.{arith, inr}
use Rattle.std.specs.Prelude.{codes, decimal, IsUtf8}
use Rattle.std.specs.Fmt.{digits}
use Rattle.std.proofs.lemmas.Bool.Decides.{nat_tests}
use Rattle.spv_table.specs.Table.{Table, pattern_of}
use Rattle.spv_table.specs.Lookups.{opcode_named}
use Rattle.spv_module.specs.Operand.{Plain, OfType, Result, Id, Text, Context, start, and_then}
use Rattle.spv_module.specs.Shape.{Slot, Shape, AsId, alone, shape_of}
use Rattle.spv_module.specs.Spelling.{Takes, HoldsText}
use Rattle.spv_module.specs.Example.{load_entry, string_entry, small}
use Rattle.spv_lines.specs.declared.asm_error.AsmCode.{AsmCode}
use Rattle.spv_lines.specs.declared.asm_error.AsmCode.TheVariants.{S1, S2, S3, S4, S6}
use Rattle.spv_lines.specs.Example.{small_header}
use Rattle.spv_lines.specs.Text.{header_lines, lines_of}
use Rattle.spv_lines.specs.Operand.{IsRead, is_float}
use Rattle.spv_lines.specs.Written.{Piece}
use Rattle.spv_lines.specs.Name.{Names}
use Rattle.spv_lines.specs.Line.{IsInstName}
use Rattle.spv_lines.specs.Refusal.{StandsInLine, SlotRefuses, OperandsFail, IsTooLarge, IsBreak, Place, place_of}
use Rattle.spv_lines.specs.Fault.{IsFailure, LineFails, LinesFail, ResultFails, IsResult, HeaderLine, line_at}
use Rattle.spv_lines.specs.Fault.{number_of, IsHeaderLine}
use Rattle.spv_lines.proofs.Given.{free_tidy}
use Rattle.spv_lines.proofs.Whole.{one_result}
use Rattle.spv_parser.specs.declared.text_reason.Wanted.TheVariants as wanted
use Rattle.spv_parser.specs.Reason.{Stop, Reason, FailsFor}
use Rattle.spv_parser.specs.Example.{reason_with, text_with}
use Rattle.spv_parser.specs.inner.Stopping.{LineStopsAt}
use Rattle.spv_parser.proofs.Alone.{one_reason, no_six, reason_at}

apart : (a b : ℕ) → nat_eq a b ≡ false → a ≡ b → ⊥
apart a b h e = grind (arith, nat_tests)

-- the first line behind a header
first_fails : (line : List ℕ) (code : AsmCode) (x : Stop)
    → lines_of (text_with line) ≡ header_lines small_header ++ (line ∷ []) → LineStopsAt small [] 5 line code x
    → FailsFor small (text_with line) code 6 (reason_at line x)
first_fails line code x e h = record {
  failure = IsFailure.line small_header (line ∷ []) code 0
      (record { version = refl; bound_least = omega arith; bound_most = omega arith; schema = refl }) (omega arith) e
      (LinesFail.here [] 5 line [] code h.failure);
  tells = ap (λ s. reason_at line s) h.tells;
}

pub header_fails : FailsFor small [] S1 1 (reason_with [] [] (wanted.HeaderLine 1))
header_fails = record {
  failure = IsFailure.header S1 1 (record {
    line = HeaderLine.Magic;
    number = refl;
    before = λ other h. none_before other h;
    wrong = λ e. no_line (codes "; SPIR-V") e;
    code_is = inr (refl, λ e. e);
  });
  tells = refl;
}
  where
    none_before : (p : HeaderLine) → number_of p < 1 → IsHeaderLine p (line_at [] p)
    none_before HeaderLine.Magic h = absurd (omega arith)
    none_before HeaderLine.Version h = absurd (omega arith)
    none_before HeaderLine.Generator h = absurd (omega arith)
    none_before HeaderLine.Bound h = absurd (omega arith)
    none_before HeaderLine.Schema h = absurd (omega arith)

    no_line : (t : List ℕ) → None ≡ Some t → ⊥
    no_line t e = cc

pub equals_fails : FailsFor small (text_with (codes "%9 OpLoad")) S2 6
    (reason_with (codes "%9 OpLoad") (codes "OpLoad") wanted.Equals)
unfolding digits
equals_fails = first_fails (codes "%9 OpLoad") S2 (record { rest = codes "OpLoad"; wanted = wanted.Equals }) refl
    (record { failure = LineFails.undivided refl; tells = refl })

wrong_name : (opcode : ℕ) (t : List ℕ) → Names (opcode_named small.entries) opcode t → t ≡ codes "OpLoa" → ⊥
wrong_name opcode _ (Names.named t n) e =
    let a = n.found in
    let b : opcode_named small.entries (codes "OpLoa") ≡ Some opcode = rw e at a in
    let d : None ≡ Some opcode = b in
    cc
wrong_name opcode _ Names.numbered e = let z : 35 ≡ 79 = cc in apart 35 79 refl z

pub name_fails : FailsFor small (text_with (codes "OpLoa %2")) S2 6
    (reason_with (codes "OpLoa %2") (codes "OpLoa %2") wanted.Name)
unfolding digits
name_fails =
    first_fails (codes "OpLoa %2") S2 (record { rest = codes "OpLoa %2"; wanted = wanted.Name }) refl
    (record {
      failure = LineFails.name (record { result = None; name = codes "OpLoa"; operands = codes " %2" }) refl
          (λ opcode entry n. wrong_name opcode (codes "OpLoa") n.named refl);
      tells = refl;
    })

load_name : IsInstName small (codes "OpLoad") 61 load_entry
load_name = record {
  named = Names.named (codes "OpLoad") (record { plain = refl; found = refl });
  known = refl;
  range = omega arith;
}

string_name : IsInstName small (codes "OpString") 7 string_entry
string_name = record {
  named = Names.named (codes "OpString") (record { plain = refl; found = refl });
  known = refl;
  range = omega arith;
}

pub result_fails : FailsFor small (text_with (codes "OpLoad %2 %8")) S3 6
    (reason_with (codes "OpLoad %2 %8") (codes "OpLoad %2 %8") wanted.Result)
unfolding digits shape_of
result_fails =
    first_fails (codes "OpLoad %2 %8") S3 (record { rest = codes "OpLoad %2 %8"; wanted = wanted.Result }) refl
    (record {
      failure = LineFails.result (record { result = None; name = codes "OpLoad"; operands = codes " %2 %8" }) 61
          load_entry S3 refl load_name (ResultFails.missing refl);
      tells = refl;
    })

pub large_fails : FailsFor small (text_with (codes "%4294967296 = OpLoad %2")) S4 6
    (reason_with (codes "%4294967296 = OpLoad %2") (codes "%4294967296 = OpLoad %2") wanted.ResultId)
unfolding digits shape_of
large_fails =
    first_fails (codes "%4294967296 = OpLoad %2") S4
    (record { rest = codes "%4294967296 = OpLoad %2"; wanted = wanted.ResultId }) refl
    (record {
      failure = LineFails.result (record {
        result = Some (codes "%4294967296");
        name = codes "OpLoad";
        operands = codes " %2";
      }) 61 load_entry S4 refl load_name
          (ResultFails.large (codes "4294967296") refl (record { number = refl; large = omega arith }));
      tells = refl;
    })

-- `x` is no id
id_only : (k : ℕ) (sh : Shape) (o : Plain) (ws : List ℕ) (ss : List Slot) → Takes k sh o ws ss → sh ≡ AsId
    → (x : ℕ) × (o ≡ Id x)
id_only k _ _ _ _ (Takes.result_type x) e = cc
id_only k _ _ _ _ (Takes.result x) e = cc
id_only k _ _ _ _ (Takes.id x) e = (x, refl)
id_only k _ _ _ _ (Takes.word x) e = cc
id_only k _ _ _ _ (Takes.narrow w x n) e = cc
id_only k _ _ _ _ (Takes.wide w x y n) e = cc
id_only k _ _ _ _ (Takes.text s ws p h z v) e = cc
id_only k _ _ _ _ (Takes.value es x ks n) e = cc
id_only k _ _ _ _ (Takes.mask es x ks n) e = cc

id_piece : (r : Option ℕ) (c : Context) (s : Slot) (o : Plain) (x : ℕ) (p rest : List ℕ)
    → Piece (IsRead small) small r c s o p → o ≡ Id x → codes " x" ≡ p ++ rest → ⊥
id_piece r c s _ x _ rest (Piece.result y n e) f g = cc
id_piece r c s _ x _ rest (Piece.other o t n e) f g =
    let e' : IsRead small (is_float small c s) (Id x) t = rw f at e in
    let g' : codes " x" ≡ (32 ∷ 37 ∷ decimal x) ++ rest = rw e' at g in
    let z : 120 ≡ 37 = cc in
    apart 120 37 refl z

no_id : (r : Option ℕ) (c : Context) (s : Slot) (o : Plain) (ss : List Slot) (rest : List ℕ) → shape_of small c s ≡ AsId
    → StandsInLine small r c s o ss (codes " x") rest → ⊥
no_id r c s o ss rest e h = let k = id_only s.kind (shape_of small c s) o h.words ss h.takes e in
    id_piece r c s o k.0 h.piece rest h.written k.1 h.all

mark_of_id : (hex : Bool) (sh : Shape) (P : Place) → sh ≡ AsId → place_of hex sh ≡ Some P → P.mark ≡ codes "%"
mark_of_id hex sh P e p = let p' : place_of hex AsId ≡ Some P = rw e at p in cc

no_large : (c : Context) (s : Slot) → shape_of small c s ≡ AsId → IsTooLarge small c s (codes " x") → ⊥
no_large c s e l =
    let m = mark_of_id (is_float small c s) (shape_of small c s) l.place e l.placed in
    let a = l.all in
    let a' : codes " x" ≡ 32 ∷ (codes "%" ++ (l.digits ++ l.rest)) = rw m at a in
    let z : 120 ≡ 37 = cc in
    apart 120 37 refl z

x_refused : (r : Option ℕ) (c : Context) (s : Slot) → shape_of small c s ≡ AsId
    → SlotRefuses small r c s (codes " x") S3
x_refused r c s e = SlotRefuses.wrong (λ o ss rest h. no_id r c s o ss rest e h) (no_large c s e)

nine_right : (wrong : AsmCode) → ResultFails small (start [] 61) (pattern_of load_entry) (Some (codes "%9")) wrong → ⊥
unfolding digits shape_of
nine_right wrong f = one_result small (start [] 61) (pattern_of load_entry) (Some (codes "%9")) 9 wrong refl
    (omega arith) refl f

five_right : (wrong : AsmCode) → ResultFails small (start [] 7) (pattern_of string_entry) (Some (codes "%5")) wrong → ⊥
unfolding digits shape_of
five_right wrong f = one_result small (start [] 7) (pattern_of string_entry) (Some (codes "%5")) 5 wrong refl
    (omega arith) refl f

type_stands : StandsInLine small (Some 9) (start [] 61) (alone 0) (OfType 2) [] (codes " %2 x") (codes " x")
unfolding digits shape_of
type_stands = record {
  words = 2 ∷ [];
  piece = codes " %2";
  takes = Takes.result_type 2;
  small = (omega arith, tt);
  written = Piece.other (OfType 2) (codes "%2") refl refl;
  broken = IsBreak.at_space (codes "x");
  all = refl;
}

nine_stands : StandsInLine small (Some 9) (and_then (start [] 61) (OfType 2)) (alone 1) (Result 9) [] (codes " x")
    (codes " x")
unfolding shape_of
nine_stands = record {
  words = 9 ∷ [];
  piece = [];
  takes = Takes.result 9;
  small = (omega arith, tt);
  written = Piece.result 9 refl refl;
  broken = IsBreak.at_space (codes "x");
  all = refl;
}

pub operand_fails : FailsFor small (text_with (codes "%9 = OpLoad %2 x")) S3 6
    (reason_with (codes "%9 = OpLoad %2 x") (codes "x") wanted.Id)
unfolding digits shape_of
operand_fails =
    first_fails (codes "%9 = OpLoad %2 x") S3 (record { rest = codes "x"; wanted = wanted.Id }) refl
    (record {
      failure = LineFails.operands (record
          { result = Some (codes "%9"); name = codes "OpLoad"; operands = codes " %2 x" }) 61 load_entry
          (Some 9) S3 refl load_name nine_right (IsResult.some 9 (omega arith))
          (OperandsFail.after _ _ _ _ _ _ _ _ type_stands
          (OperandsFail.after _ _ _ _ _ _ _ _ nine_stands
          (OperandsFail.refused _ (alone 2) _ _ _ tt (x_refused _ _ _ refl))));
      tells = refl;
    })

abc : HoldsText (6513249 ∷ []) (codes "abc") []
abc = record {
  words = (omega arith, tt);
  octets = refl;
  no_zero = (λ e. omega arith, (λ e. omega arith, (λ e. omega arith, tt)));
  short = omega arith;
}

abc_text : IsUtf8 (codes "abc")
unfolding lib.Utf8.encode
abc_text = (codes "abc", (refl, refl))

five_stands : StandsInLine small (Some 5) (start [] 7) (alone 1) (Result 5) [] (codes " \"abc\" x") (codes " \"abc\" x")
unfolding shape_of
five_stands = record {
  words = 5 ∷ [];
  piece = [];
  takes = Takes.result 5;
  small = (omega arith, tt);
  written = Piece.result 5 refl refl;
  broken = IsBreak.at_space (codes "\"abc\" x");
  all = refl;
}

text_stands : StandsInLine small (Some 5) (and_then (start [] 7) (Result 5)) (alone 5) (Text (codes "abc")) []
    (codes " \"abc\" x") (codes " x")
unfolding shape_of
text_stands = record {
  words = 6513249 ∷ [];
  piece = codes " \"abc\"";
  takes = Takes.text (codes "abc") (6513249 ∷ []) [] abc tt abc_text;
  small = (omega arith, tt);
  written = Piece.other (Text (codes "abc")) (codes "\"abc\"") refl refl;
  broken = IsBreak.at_space (codes "x");
  all = refl;
}

pub end_fails : FailsFor small (text_with (codes "%5 = OpString \"abc\" x")) S3 6
    (reason_with (codes "%5 = OpString \"abc\" x") (codes "x") wanted.End)
unfolding digits shape_of
end_fails =
    first_fails (codes "%5 = OpString \"abc\" x") S3 (record { rest = codes "x"; wanted = wanted.End }) refl
    (record {
      failure = LineFails.operands (record
          { result = Some (codes "%5"); name = codes "OpString"; operands = codes " \"abc\" x" }) 7 string_entry
          (Some 5) S3 refl string_name five_right (IsResult.some 5 (omega arith))
          (OperandsFail.after _ _ _ _ _ _ _ _ five_stands
          (OperandsFail.after _ _ _ _ _ _ _ _ text_stands (OperandsFail.left _ 32 (codes "x"))));
      tells = refl;
    })

other_wanted : wanted.Id ≡ wanted.Result → ⊥
other_wanted e = cc

pub not_operand : FailsFor small (text_with (codes "OpLoad %2 %8")) S3 6
    (reason_with (codes "OpLoad %2 %8") (codes "%2 %8") wanted.Id) → ⊥
not_operand f =
    let k = one_reason small (text_with (codes "OpLoad %2 %8")) S3 S3 6 6
    (reason_with (codes "OpLoad %2 %8") (codes "%2 %8") wanted.Id)
    (reason_with (codes "OpLoad %2 %8") (codes "OpLoad %2 %8") wanted.Result)
    (free_tidy small refl) f result_fails in
    other_wanted (ap (λ w. w.stop.wanted) k.2)

pub no_memory : (G : Table) (t : List ℕ) (n : ℕ) (why : Reason) → FailsFor G t S6 n why → ⊥
no_memory G t n why f = no_six G t S6 n f.failure refl
