-- What a text is assembled to.
use Rattle.std.proofs.Common.{◌≡◌, ◌<◌, ◌++◌, ℕ, List, [], ◌∷◌, Option, Some, Bool, true, false, IfSome}
use Rattle.std.proofs.Common.{◌≢◌, IsUtf8, codes, slice_get, ap, sym, refl, inr, arith, lit≤}
use Rattle.std.proofs.lemmas.Fmt.{decimal_digit}
use Rattle.std.specs.Io.KnownBytes.{Consumes, IsAtEnd}
use Rattle.spv_words.proofs.Gathered.{ends}
use Rattle.spv_words.specs.declared.words.Order.{Order}
use Rattle.spv_table.specs.Table.{Table}
use Rattle.spv_lines.specs.Fault.{IsFailure, HeaderLine, Magic, Version, Generator, Bound, Schema, header, number_of}
use Rattle.spv_lines.specs.Fault.{IsHeaderLine, line_at}
use Rattle.spv_lines.specs.Text.{lines_of}
use Rattle.spv_lines.specs.declared.asm_error.AsmCode.{AsmCode}
use Rattle.spv_lines.specs.declared.asm_error.AsmCode.TheVariants.{S1, S2, S3, S4, S5, S6}
use Rattle.spv_lines.specs.Fault.{IsAsmFailure}
use Rattle.spv_commands.specs.Assemble.{Assembles, BeginsAssembling, IsFaultOf, IsImageOf, TellsFault, alone}
use Rattle.spv_commands.specs.Assemble.{text_fault_line, text_read}
use Rattle.spv_check.specs.Verdict.{line_end}

-- a fault that is no want of memory is one of the text
pub failing : (G : Table) (text : List ℕ) (code : AsmCode) (line : ℕ) → code ≢ S6 → IsAsmFailure G text code line
    → IsFailure G text code line
failing G text S6 line n h = absurd (n refl)
failing G text S1 line n h = h
failing G text S2 line n h = h
failing G text S3 line n h = h
failing G text S4 line n h = h
failing G text S5 line n h = h

-- a fault of a text that is UTF-8, which is told alone or with the lines that say why
pub fault_alone : (G : Table) (text : List ℕ) (code : AsmCode) (line : ℕ) → IsUtf8 text → IsFailure G text code line
    → IsFaultOf G false text (text_fault_line code line)
fault_alone G text code line u h = record { code = code; line = line; utf8 = u; fails = h; told = alone }

pub fault_told : (G : Table) (text : List ℕ) (code : AsmCode) (line : ℕ) (written : List ℕ) → IsUtf8 text
    → IsFailure G text code line → TellsFault G text code line true written
    → IsFaultOf G true text written
fault_told G text code line written u h t = record { code = code; line = line; utf8 = u; fails = h; told = t }

-- so many bytes were read, and no call failed
pub record ReadSoFar {R : Type 0} (remaining : R → Option (List ℕ)) (failures : R → ℕ) (old new : R)
    (bytes : List ℕ) : Type 0 where
  pub known : Consumes (remaining old) (remaining new) bytes
  pub count : failures new ≡ failures old

-- those that were read to the end are all
pub all_read : (old new : Option (List ℕ)) (bytes : List ℕ) → Consumes old new bytes → IsAtEnd new
    → IfSome old (λ xs. bytes ≡ xs)
all_read old new bytes c e = ends old new bytes (λ xs. bytes ≡ xs) c e refl

-- three characters are no header
short_fails : (G : Table) → IsFailure G (1 ∷ 2 ∷ 3 ∷ []) S1 1
short_fails G = header S1 1 (record {
  line = Magic;
  number = refl;
  before = first;
  wrong = no_magic;
  code_is = inr (refl, λ h. h);
})
  where
    first : (other : HeaderLine) → number_of other < 1 → IsHeaderLine other (line_at (lines_of (1 ∷ 2 ∷ 3 ∷ [])) other)
    first Magic h = absurd (omega arith)
    first Version h = absurd (omega arith)
    first Generator h = absurd (omega arith)
    first Bound h = absurd (omega arith)
    first Schema h = absurd (omega arith)

    no_magic : ¬ (IsHeaderLine Magic (line_at (lines_of (1 ∷ 2 ∷ 3 ∷ [])) Magic))
    no_magic e = cc

short_utf8 : IsUtf8 (1 ∷ 2 ∷ 3 ∷ [])
unfolding lib.Utf8.encode
short_utf8 = ((1 ∷ 2 ∷ 3 ∷ []), (refl, refl))

short_line : text_fault_line S1 1 ≡ codes "fault S1 line 1" ++ line_end
short_line = rw (decimal_digit 1 (omega arith)) refl

short_told : (G : Table) → IsFaultOf G false (1 ∷ 2 ∷ 3 ∷ []) (text_fault_line S1 1)
short_told G = fault_alone G (1 ∷ 2 ∷ 3 ∷ []) S1 1 short_utf8 (short_fails G)

pub short_assembled : (G : Table) (o : Order)
    → Assembles G o false false (1 ∷ 2 ∷ 3 ∷ []) (Some (9 ∷ [])) (Some (9 ∷ codes "fault S1 line 1" ++ line_end)) (Some [])
    (Some []) false
short_assembled G o =
    Assembles.failed (text_fault_line S1 1) (short_told G) (ap (λ (l : List ℕ). 9 ∷ l) (sym short_line)) refl

pub short_begun : (G : Table) (o : Order)
    → BeginsAssembling G o false false (1 ∷ 2 ∷ 3 ∷ []) (Some (9 ∷ [])) (Some (9 ∷ codes "fault")) (Some []) (Some [])
short_begun G o = BeginsAssembling.failed (text_fault_line S1 1) (short_told G)
    (rw short_line (record { count = 5; fits = lit≤ tt; written = refl })) refl

-- and have no image
no_image : (G : Table) (words : List ℕ) → ¬ (IsImageOf G (1 ∷ 2 ∷ 3 ∷ []) words)
no_image G words h =
    let e = h.read.all in
    let first : Some (1 ∷ 2 ∷ 3 ∷ []) ≡ Some (codes "; SPIR-V") = ap (λ (ls : List (List ℕ)). slice_get ls 0) e in
    cc

no_image_read : (G : Table) (opencl : Bool) (words : List ℕ) → ¬ (IsImageOf G (text_read opencl (1 ∷ 2 ∷ 3 ∷ [])) words)
no_image_read G false words h = no_image G words h
no_image_read G true words h = no_image G words h

pub short_unmade : (G : Table) (o : Order) (explain opencl : Bool) (old new held kept : Option (List ℕ)) (answer : Bool)
    → answer ≡ true → ¬ (Assembles G o explain opencl (1 ∷ 2 ∷ 3 ∷ []) old new held kept answer)
short_unmade G o explain opencl old new held kept _ e (Assembles.made words h k w) = no_image_read G opencl words h
short_unmade G o explain opencl old new held kept _ e (Assembles.failed told h w k) = cc

pub nothing_begun : (G : Table) (o : Order) (explain opencl : Bool) (old new : Option (List ℕ))
    → ¬ (BeginsAssembling G o explain opencl (1 ∷ 2 ∷ 3 ∷ []) old new (Some []) (Some (3 ∷ [])))
nothing_begun G o explain opencl old new (BeginsAssembling.made words h k w) = no_image_read G opencl words h
nothing_begun G o explain opencl old new (BeginsAssembling.failed told h w k) = cc
