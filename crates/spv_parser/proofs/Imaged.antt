-- Images of one text, and of the shown text of an image.
use Rattle.std.proofs.Common.{◌≡◌, ◌++◌, ◌∙◌, ◌<◌, ◌≤◌, ◌+◌, ◌^◌, ℕ, List, [], ◌∷◌, length, drop, refl, sym, ap, arith}
use Rattle.std.specs.Prelude.{Result, Ok, Err, IfOk, IfErr}
use Rattle.spv_words.specs.declared.words.Header.{Header}
use Rattle.spv_words.specs.Header.{IsHeader, greatest_length}
use Rattle.spv_table.specs.Table.{Table, IsWhole}
use Rattle.spv_module.specs.Operand.{PlainInst}
use Rattle.spv_module.specs.Instruction.{IsListing}
use Rattle.spv_inst.specs.Outcome.{IsHeaderOf}
use Rattle.spv_inst.specs.Limits.{HeaderFits}
use Rattle.spv_inst.specs.inner.Written.{header_words}
use Rattle.spv_lines.specs.Line.{AreWords}
use Rattle.spv_lines.specs.Text.{IsReadText, IsShownText}
use Rattle.spv_lines.specs.Tidy.{IsTidy}
use Rattle.spv_lines.specs.declared.asm_error.AsmCode.{AsmCode}
use Rattle.spv_lines.specs.declared.asm_error.AsmError.{AsmError}
use Rattle.spv_lines.specs.declared.asm_error.AsmCode.TheVariants.{S6}
use Rattle.spv_lines.proofs.Assembled.{read_words_once}
use Rattle.spv_lines.proofs.Given.{free_tidy}
use Rattle.spv_lines.proofs.Reading.{reads_once}
use Rattle.spv_lines.specs.Image.{IsShownImage}
use Rattle.spv_lines.specs.Fault.{IsAsmFailure}
use Rattle.spv_parser.proofs.ShownBack.{image_back, only_memory}

-- an image's words are its header's and the others
front_is : (ws : List ℕ) (h : Header) → IsHeader ws → IsHeaderOf ws h → ws ≡ header_words h ++ drop 5 ws
front_is [] h f s = let n = f.five in absurd (omega arith)
front_is (a ∷ []) h f s = let n = f.five in absurd (omega arith)
front_is (a ∷ b ∷ []) h f s = let n = f.five in absurd (omega arith)
front_is (a ∷ b ∷ c ∷ []) h f s = let n = f.five in absurd (omega arith)
front_is (a ∷ b ∷ c ∷ d ∷ []) h f s = let n = f.five in absurd (omega arith)
front_is (a ∷ b ∷ c ∷ d ∷ e ∷ ws) h f s =
    let m : a ≡ 119734787 = f.magic in
    let v : h.version ≡ b = s.version in
    let g : h.generator ≡ c = s.generator in
    let n : h.bound ≡ d = s.bound in
    let z : h.schema ≡ e = s.schema in
    cc

pub same_image : (h k : Header) (i j : List ℕ) → IsHeader i → IsHeaderOf i h → IsHeader j → IsHeaderOf j k → h ≡ k
    → drop 5 i ≡ drop 5 j → i ≡ j
same_image h k i j f s g t e d =
    front_is i h f s ∙ (ap (λ x. header_words x ++ drop 5 i) e
    ∙ (ap (λ x. header_words k ++ x) d ∙ sym (front_is j k g t)))

pub one_image : (G : Table) (h k : Header) (is js : List PlainInst) (i j t : List ℕ) → IsHeader i → IsHeaderOf i h
    → IsReadText G h is (drop 5 i) t → IsHeader j → IsHeaderOf j k → IsReadText G k js (drop 5 j) t → i ≡ j
one_image G h k is js i j t f s a g u b =
    let x = reads_once G h k is js (drop 5 i) (drop 5 j) t a b in
    same_image h k i j f s g u x.0 (read_words_once G h k is js (drop 5 i) (drop 5 j) t a b)

-- the header of an image fits
fits_so : (ws : List ℕ) (h : Header) → IsHeader ws → IsHeaderOf ws h → HeaderFits h
fits_so ws h f s =
    let d = s.bound in
    let l = f.bound_least in
    let g = f.bound_most in
    record {
      version = s.version ∙ f.version;
      bound_least = omega arith;
      bound_most = omega arith;
      schema = s.schema
          ∙ f.schema;
    }

-- what is known of an image's words
pub record IsSound (ws : List ℕ) (h : Header) : Type 0 where
  pub generator : h.generator < 2 ^ 32
  pub words : AreWords (drop 5 ws)
  pub short : 5 + length (drop 5 ws) ≡ length ws

sound : (ws : List ℕ) (h : Header) → IsHeader ws → IsHeaderOf ws h → AreWords ws → IsSound ws h
sound [] h f s w = let n = f.five in absurd (omega arith)
sound (a ∷ []) h f s w = let n = f.five in absurd (omega arith)
sound (a ∷ b ∷ []) h f s w = let n = f.five in absurd (omega arith)
sound (a ∷ b ∷ c ∷ []) h f s w = let n = f.five in absurd (omega arith)
sound (a ∷ b ∷ c ∷ d ∷ []) h f s w = let n = f.five in absurd (omega arith)
sound (a ∷ b ∷ c ∷ d ∷ e ∷ ws) h f s w =
    let g : h.generator ≡ c = s.generator in
    let l = w.1.1.0 in
    record { generator = omega arith; words = w.1.1.1.1.1; short = omega arith }

pub image_again : (G : Table) (h k : Header) (is js : List PlainInst) (ws image t : List ℕ) → IsHeader ws → AreWords ws
    → length ws ≤ greatest_length → IsHeaderOf ws h → IsListing G is (drop 5 ws) → IsShownText G h is t
    → IsHeader image → IsHeaderOf image k → IsReadText G k js (drop 5 image) t → image ≡ ws
image_again G h k is js ws image t f w n o l s g p r =
    let q = sound ws h f o w in
    let e = q.short in
    let x = image_back G h k is js (drop 5 ws) image t s l q.words (fits_so ws h f o) q.generator (omega arith) r p in
    same_image h h image ws g x.1 f o refl x.0

pub memory_alone : (G : Table) (h : Header) (is : List PlainInst) (ws t : List ℕ) (code : AsmCode) (line : ℕ) → IsTidy G
    → IsHeader ws → AreWords ws → length ws ≤ greatest_length → IsHeaderOf ws h → IsListing G is (drop 5 ws)
    → IsShownText G h is t → IsAsmFailure G t code line → (code ≡ S6) × (line ≡ 0)
memory_alone G h is ws t code line y f w n o l s e =
    let q = sound ws h f o w in
    let m = q.short in
    only_memory G h is (drop 5 ws) t code line y s l q.words (fits_so ws h f o) q.generator (omega arith) e

-- what a whole table's shown text is read as, and how it fails: only because memory ran out
pub shown_again : (G : Table) (k : Header) (js : List PlainInst) (ws image t : List ℕ) → IsHeader ws → AreWords ws
    → length ws ≤ greatest_length → IsShownImage G ws t
    → IsHeader image → IsHeaderOf image k → IsReadText G k js (drop 5 image) t → image ≡ ws
shown_again G k js ws image t f w n s g p r =
    image_again G s.header k s.insts js ws image t f w n s.told s.listed s.shown g p r

pub shown_memory : (G : Table) (ws t : List ℕ) (code : AsmCode) (line : ℕ) → IsWhole G → IsHeader ws → AreWords ws
    → length ws ≤ greatest_length → IsShownImage G ws t → IsAsmFailure G t code line → (code ≡ S6) × (line ≡ 0)
shown_memory G ws t code line whole f w n s e =
    memory_alone G s.header s.insts ws t code line (free_tidy G whole.apart) f w n s.told s.listed s.shown e

-- the same of what `assemble` answers
pub again_by : (G : Table) (ws t : List ℕ) (r : Result (List ℕ) AsmError)
    → IfOk r (λ i. (h : Header) × (is : List PlainInst) × IsReadText G h is (drop 5 i) t × IsHeaderOf i h
    × IsListing G is (drop 5 i))
    → IfOk r (λ i. IsHeader i) → IsHeader ws → AreWords ws → length ws ≤ greatest_length → IsShownImage G ws t
    → IfOk r (λ i. i ≡ ws)
again_by G ws t (Ok i) read begins f w n s = shown_again G read.0 read.1 ws i t f w n s begins read.3 read.2
again_by G ws t (Err e) read begins f w n s = tt

pub memory_by : (G : Table) (ws t : List ℕ) (r : Result (List ℕ) AsmError)
    → IfErr r (λ e. IsAsmFailure G t e.code e.line) → IsWhole G
    → IsHeader ws → AreWords ws → length ws ≤ greatest_length → IsShownImage G ws t
    → IfErr r (λ e. (e.code ≡ S6) × (e.line ≡ 0))
memory_by G ws t (Ok i) failed whole f w n s = tt
memory_by G ws t (Err e) failed whole f w n s = shown_memory G ws t e.code e.line whole f w n s failed
