use Rattle.std.proofs.Common.{◌∙◌, ap, string_bytes}
use Rattle.spv_table.specs.Table.{kind_of}
use Rattle.spv_inst.specs.Reading.{enumerants_at}
use Rattle.spv_printer.proofs.BitNames.{no_names, past_names, left_first, left_set, left_clear, left_none}
use Rattle.spv_printer.proofs.name.push_names.Goals as goal
use Rattle.spv_printer.proofs.name.push_names.Goals.{then-left-eq1+in_ok-push_bar+in_ok-push_value, else-left-eq1}

pub loop-position-init : goal.loop-position-init
loop-position-init c =
    record {
      left = λ ts e. left_first (enumerants_at (kind_of c.args.table.now c.args.kind)) c.args.mask ts
          (string_bytes c.args.out.now) e;
      names = c.requires;
    }

pub returns-then-left-eq0-clause-text : goal.returns-then-left-eq0-clause-text
returns-then-left-eq0-clause-text c = λ ts e.
    let es = enumerants_at (kind_of c.args.table.now c.args.kind) in
    left_none es c.args.mask _ _ _ c.loop-position.position (c.loop-position.invariant.left ts e)
    (no_names es c.args.mask c.loop-position.position c.if-left-eq0.true)

pub loop-position-preserved : goal.loop-position-preserved
loop-position-preserved c =
    let es = enumerants_at (kind_of c.args.table.now c.args.kind) in
    let p = c.loop-position.position in
    elim c.if-left-eq1.branch [
      | then-left-eq1+in_ok-push_bar+in_ok-push_value w ↦
          record {
            left = λ ts e.
                rw w.is_first-is
                (left_set es c.args.mask _ _ (string_bytes w.push_bar.new.out) _ c.loop-position.is_first p
                (c.loop-position.invariant.left ts e) c.loop-position-test.true w.if-left-eq1.true
                w.in_ok-push_bar.ensures
                (ap string_bytes w.out-is ∙ w.in_ok-push_value.ensures.text));
            names = rw w.names-is w.in_ok-push_value.ensures.names;
          }
      | else-left-eq1 w ↦
          record {
            left = λ ts e. rw (w.out-is, w.is_first-is)
                (left_clear es c.args.mask _ _ c.loop-position.is_first p
                (c.loop-position.invariant.left ts e) c.loop-position-test.true w.if-left-eq1.false);
            names = rw w.names-is c.loop-position.invariant.names;
          }
    ]

pub returns-clause-text : goal.returns-clause-text
returns-clause-text c = λ ts e.
    let es = enumerants_at (kind_of c.args.table.now c.args.kind) in
    left_none es c.args.mask _ _ _ c.loop-position.position (c.loop-position.invariant.left ts e)
    (past_names es c.args.mask c.loop-position.position c.loop-position-test.false)
