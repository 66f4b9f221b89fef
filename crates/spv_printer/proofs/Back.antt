-- What is encoded is decoded again, and what is decoded is encoded again.
use Rattle.std.proofs.Common.{◌≡◌, ◌∙◌, ◌-◌, ℕ, List, [], drop, refl, sym}
use Rattle.spv_words.specs.declared.words.Header.{Header}
use Rattle.spv_words.specs.Header.{IsHeader}
use Rattle.spv_table.specs.Table.{Table}
use Rattle.spv_module.specs.declared.fault.Stop.{Stop}
use Rattle.spv_module.specs.declared.fault.Stop.TheVariants.{Fault, Memory}
use Rattle.spv_module.specs.declared.module.Module.{Module}
use Rattle.spv_module.specs.Module.{plain_insts}
use Rattle.spv_module.specs.Instruction.{IsListing}
use Rattle.spv_inst.specs.Outcome.{IsDecodeFault, IsHeaderOf}
use Rattle.spv_printer.specs.Encoding.{IsImageOf}
use Rattle.spv_inst.proofs.Lists.{listing_same, dies_not}

-- words have one header
header_same : (ws : List ℕ) (h k : Header) → IsHeaderOf ws h → IsHeaderOf ws k → h ≡ k
header_same ws h k s t =
    let v : h.version ≡ k.version = s.version ∙ sym t.version in
    let g : h.generator ≡ k.generator = s.generator ∙ sym t.generator in
    let b : h.bound ≡ k.bound = s.bound ∙ sym t.bound in
    let z : h.schema ≡ k.schema = s.schema ∙ sym t.schema in
    λ i. record { version = v i; generator = g i; bound = b i; schema = z i }

pub module_same : (G : Table) (m d : Module) (ws : List ℕ) → IsImageOf G m ws → IsListing G (plain_insts d) (drop 5 ws)
    → IsHeaderOf ws d.header → (plain_insts d ≡ plain_insts m) × (d.header ≡ m.header)
module_same G m d ws i l h = (
  listing_same G [] (plain_insts d) (plain_insts m) (drop 5 ws) (drop 5 ws) l i.spelled refl,
  header_same ws d.header m.header h i.same,
)

pub dies_for_memory : (G : Table) (m : Module) (ws : List ℕ) (stop : Stop) → IsImageOf G m ws → IsDecodeFault G ws stop
    → stop ≡ Memory
dies_for_memory G m ws Memory i d = refl
dies_for_memory G m ws (Fault f) i d =
    absurd (dies_not G [] (plain_insts m) (drop 5 ws) (drop 5 ws) f.rule f.inst (f.word - 5) d.1 i.spelled refl)

-- the image that was decoded
pub decoded_image : (G : Table) (m : Module) (ws : List ℕ) → IsHeader ws → IsListing G (plain_insts m) (drop 5 ws)
    → IsHeaderOf ws m.header → IsImageOf G m ws
decoded_image G m ws h l s = record { header = h; same = s; spelled = l }
