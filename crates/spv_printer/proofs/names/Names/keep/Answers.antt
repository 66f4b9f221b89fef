use Rattle.std.specs.BTreeMap as tree
use Rattle.spv_printer.specs.inner.Names.{named_cmp}
use Rattle.spv_printer.proofs.Places.{one_kept}
use Rattle.spv_printer.proofs.names.Names.keep.Goals as goal

pub returns-in_ok-insert-in_default : goal.returns-in_ok-insert-in_default
returns-in_ok-insert-in_default c = λ G a s.
    record {
      found = a.found;
      others = λ named by_name h.
          let updated = c.in_ok-insert-in_default.ensures.updates.0 named in
          one_kept G c.args.named named c.args.by_name by_name (tree.get named_cmp c.args.self.now.others named)
          (tree.get named_cmp c.insert.new.self named) updated h s (a.others named by_name);
    }
