use Rattle.spv_capabilities.specs.declared.memo.TheConstants.{OPCODES, RECENT}
use Rattle.spv_capabilities.specs.Capable.{IsCoveredValue}
use Rattle.spv_capabilities.specs.Asked.{IsCoveredEntry}
use Rattle.spv_capabilities.specs.inner.Known.{IsAskedAlone}
use Rattle.spv_capabilities.proofs.Knowing.{unknown_all, no_pairs, no_recent}
use Rattle.spv_capabilities.proofs.Bits.{no_mask}
use Rattle.spv_capabilities.proofs.memo.Memo.new.Goals as goal

pub returns : goal.returns
returns c = λ s. record {
  entries = unknown_all (IsCoveredEntry s.table s.insts) (IsAskedAlone s.insts) c.in_ok-vec.field-0.items OPCODES
      (c.in_ok-vec.ensures.items_if_clones_equal (λ y h. cc));
  enumerants = no_pairs (IsCoveredValue s.table s.insts) c.new.result c.new.ensures.empty;
  mask = no_mask s.table s.insts;
  recent = λ n e h. no_recent (IsCoveredValue s.table s.insts e.kind e.value) RECENT n e h;
}
