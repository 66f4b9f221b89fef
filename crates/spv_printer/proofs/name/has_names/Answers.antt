use Rattle.std.proofs.Common.{◌∙◌, ap, is_some}
use Rattle.spv_table.specs.Table.{kind_of}
use Rattle.spv_inst.specs.Reading.{enumerants_at}
use Rattle.spv_printer.proofs.BitNames.{no_names, past_names, named_bit, nameless_bit, clear_names}
use Rattle.spv_printer.proofs.name.has_names.Goals as goal
use Rattle.spv_printer.proofs.name.has_names.Goals.{else-left-eq1-via-then-left-eq1+in_ok-is_value_named+else-not-branch}
use Rattle.spv_printer.proofs.name.has_names.Goals.{else-left-eq1-via-else-left-eq1}

pub returns-then-left-eq0-clause-named : goal.returns-then-left-eq0-clause-named
returns-then-left-eq0-clause-named c =
    c.loop-position.invariant.bits ∙ ap is_some
    (no_names (enumerants_at (kind_of c.args.table.now c.args.kind)) c.args.mask c.loop-position.position
    c.if-left-eq0.true)

pub returns-then-not-branch-clause-named : goal.returns-then-not-branch-clause-named
returns-then-not-branch-clause-named c =
    c.loop-position.invariant.bits
    ∙ nameless_bit (enumerants_at (kind_of c.args.table.now c.args.kind)) c.args.mask c.loop-position.position
    c.loop-position-test.true c.if-left-eq1.true (c.in_ok-is_value_named.ensures.named ∙ c.if-not-branch.true)

pub loop-position-preserved : goal.loop-position-preserved
loop-position-preserved c =
    let es = enumerants_at (kind_of c.args.table.now c.args.kind) in
    let p = c.loop-position.position in
    elim c.else-left-eq1.branch [
      | else-left-eq1-via-then-left-eq1+in_ok-is_value_named+else-not-branch w ↦
          record {
            bits = c.loop-position.invariant.bits
                ∙ named_bit es c.args.mask p c.loop-position-test.true w.if-left-eq1.true
                (w.in_ok-is_value_named.ensures.named ∙ w.if-not-branch.false);
            names = rw w.names-is w.in_ok-is_value_named.ensures.names;
          }
      | else-left-eq1-via-else-left-eq1 w ↦
          record {
            bits = c.loop-position.invariant.bits
                ∙ ap is_some (clear_names es c.args.mask p c.loop-position-test.true w.if-left-eq1.false);
            names = rw w.names-is c.loop-position.invariant.names;
          }
    ]

pub returns-clause-named : goal.returns-clause-named
returns-clause-named c =
    c.loop-position.invariant.bits ∙ ap is_some
    (past_names (enumerants_at (kind_of c.args.table.now c.args.kind)) c.args.mask c.loop-position.position
    c.loop-position-test.false)
