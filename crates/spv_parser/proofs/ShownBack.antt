-- What is assembled of a shown text.
use Rattle.std.proofs.Common.{◌≡◌, ◌<◌, ◌≤◌, ◌+◌, ◌^◌, ℕ, List, length, drop, refl, sym}
use Rattle.spv_words.specs.declared.words.Header.{Header}
use Rattle.spv_table.specs.Table.{Table}
use Rattle.spv_module.specs.Operand.{PlainInst}
use Rattle.spv_module.specs.Instruction.{IsListing}
use Rattle.spv_inst.specs.Outcome.{IsHeaderOf}
use Rattle.spv_words.specs.Header.{greatest_length}
use Rattle.spv_inst.specs.Limits.{HeaderFits}
use Rattle.spv_lines.specs.Line.{AreWords}
use Rattle.spv_lines.specs.Text.{IsReadText, IsShownText}
use Rattle.spv_lines.specs.Tidy.{IsTidy}
use Rattle.spv_lines.specs.declared.asm_error.AsmCode.{AsmCode}
use Rattle.spv_lines.specs.declared.asm_error.AsmCode.TheVariants.{S1, S2, S3, S4, S5, S6}
use Rattle.spv_lines.proofs.Assembled.{shown_assembles, shown_fails_not}
use Rattle.spv_lines.specs.Fault.{IsAsmFailure}

pub image_back : (G : Table) (h k : Header) (is js : List PlainInst) (ws image t : List ℕ) → IsShownText G h is t
    → IsListing G is ws → AreWords ws → HeaderFits h → h.generator < 2 ^ 32 → 5 + length ws ≤ greatest_length
    → IsReadText G k js (drop 5 image) t → IsHeaderOf image k → (drop 5 image ≡ ws) × IsHeaderOf image h
image_back G h k is js ws image t s l w f g n r o =
    let x = shown_assembles G h k is js ws (drop 5 image) t s l w f g n r in
    let o' : IsHeaderOf image h = rw x.0 o in
    (sym x.2, o')

pub only_memory : (G : Table) (h : Header) (is : List PlainInst) (ws t : List ℕ) (code : AsmCode) (line : ℕ) → IsTidy G
    → IsShownText G h is t → IsListing G is ws → AreWords ws → HeaderFits h → h.generator < 2 ^ 32
    → 5 + length ws ≤ greatest_length → IsAsmFailure G t code line → (code ≡ S6) × (line ≡ 0)
only_memory G h is ws t S1 line y s l w f g n e = absurd (shown_fails_not G h is ws t S1 line y s l w f g n e)
only_memory G h is ws t S2 line y s l w f g n e = absurd (shown_fails_not G h is ws t S2 line y s l w f g n e)
only_memory G h is ws t S3 line y s l w f g n e = absurd (shown_fails_not G h is ws t S3 line y s l w f g n e)
only_memory G h is ws t S4 line y s l w f g n e = absurd (shown_fails_not G h is ws t S4 line y s l w f g n e)
only_memory G h is ws t S5 line y s l w f g n e = absurd (shown_fails_not G h is ws t S5 line y s l w f g n e)
only_memory G h is ws t S6 line y s l w f g n e = (refl, e)
