use Rattle.std.proofs.Common.{◌≡◌, ◌∙◌, sym, Some}
use Rattle.std.specs.BTreeMap.{get}
use Rattle.spv_capabilities.specs.Capable.{IsCoveredValue}
use Rattle.spv_capabilities.specs.inner.Known.{pair_cmp}
use Rattle.spv_capabilities.proofs.Knowing.{pairs_more}
use Rattle.spv_capabilities.proofs.memo.Memo.is_covered_listing.Goals as goal

pub returns-in-Some-clause-answer : goal.returns-in-Some-clause-answer
returns-in-Some-clause-answer c =
    let e : get pair_cmp c.args.self.now.enumerants
    (c.args.kind, c.args.value) ≡ Some c.in-Some.covered =
    sym c.get.ensures.value ∙ sym c.copied.ensures ∙ c.in-Some.is in
    c.requires.enumerants c.args.kind c.args.value c.in-Some.covered e

pub returns-clause-known : goal.returns-clause-known
returns-clause-known c = record {
  entries = c.requires.entries;
  enumerants =
      pairs_more (IsCoveredValue c.args.survey.now.table c.args.survey.now.insts) c.args.self.now.enumerants
      c.insert.new.self c.args.kind c.args.value c.is_covered_value-covered.result c.requires.enumerants
      c.in_ok-insert.ensures.updates c.is_covered_value-covered.ensures;
  mask = c.requires.mask;
  recent = c.requires.recent;
}
