use Rattle.std.proofs.Common.{◌≡◌, ◌↔◌, ◌∙◌, ℕ, List, Option, map, length, subst, ap, IsTrue, nat_cmp}
use Rattle.std.specs.Prelude.{filter_map}
use Rattle.std.specs.BTreeSet.{contains}
use Rattle.std.proofs.Math.Seq.{take-length}
use Rattle.spv_table.specs.Implied.{Implied}
use Rattle.spv_module.specs.Module.{plain_inst}
use Rattle.spv_capabilities.specs.inner.Capable.{declared_by}
use Rattle.spv_capabilities.specs.inner.Survey.{AreGathered}
use Rattle.spv_capabilities.proofs.surveyed.Survey.new.Goals as goal

pub invariant_of-result : goal.invariant_of-result
invariant_of-result c =
    let is = map plain_inst c.args.insts.now in
    let g = c.in_ok-gathered.gathered in
    let a = subst (λ (l : Option ℕ). AreGathered l is (length is) g) c.kind_named.ensures c.in_ok-gathered.ensures in
    let e : c.as_slice.result.now ≡ filter_map declared_by is = c.as_slice.ensures.value ∙ a.declared
    ∙ ap (filter_map declared_by) (take-length is) in
    record {
      fits = λ n i at. (c.requires.plan.0, c.requires.plan.1.fits n i at);
      count = c.requires.plan.1.count;
      place = c.requires.plan.1.place;
      ids = c.requires.ids;
      implied = λ x. subst (λ (cs : List ℕ). IsTrue (contains nat_cmp c.in_ok-implied.implied x)
          ↔ Implied c.args.table.now cs x) e (c.in_ok-implied.ensures x);
      capability = c.kind_named-2.ensures;
      gathered = a;
    }
