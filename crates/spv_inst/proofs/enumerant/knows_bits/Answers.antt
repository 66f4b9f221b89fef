use Rattle.std.proofs.Common.{◌≡◌, ◌%◌, ℕ, ◌∙◌, sym, arith}
use Rattle.spv_table.specs.Table.{kind_of}
use Rattle.spv_inst.specs.Reading.{enumerants_at}
use Rattle.spv_inst.proofs.Enumerants.{knows_all, knows_end, knows_rest_at, knows_set_at, knows_unset_at, knows_not_at}
use Rattle.spv_inst.proofs.Enumerants.{shifted}
use Rattle.spv_inst.proofs.enumerant.knows_bits.Goals as goal
use Rattle.spv_inst.proofs.enumerant.knows_bits.Goals.{else-left-eq1-via-then-left-eq1+else-not-knows}
use Rattle.spv_inst.proofs.enumerant.knows_bits.Goals.{else-left-eq1-via-else-left-eq1}

even : (n : ℕ) → (n % 2 ≡ 1 → ⊥) → n % 2 ≡ 0
even n h = omega arith

pub returns-then-left-eq0 : goal.returns-then-left-eq0
returns-then-left-eq0 c =
    sym (c.loop-position.invariant ∙ knows_rest_at
    (enumerants_at (kind_of c.args.table.now c.args.kind)) c.args.mask c.loop-position.position c.if-left-eq0.true)

pub loop-position-init : goal.loop-position-init
loop-position-init c = knows_all (enumerants_at (kind_of c.args.table.now c.args.kind)) c.args.mask

pub loop-position-preserved : goal.loop-position-preserved
loop-position-preserved c = elim c.else-left-eq1.branch [
  | else-left-eq1-via-then-left-eq1+else-not-knows w ↦
      c.loop-position.invariant
      ∙ knows_set_at (enumerants_at (kind_of c.args.table.now c.args.kind)) c.args.mask c.loop-position.position
      c.loop-position-test.true w.if-left-eq1.true
      (rw (shifted c.loop-position.position c.loop-position-test.true) at (sym w.if-not-knows.ensures))
  | else-left-eq1-via-else-left-eq1 w ↦
      c.loop-position.invariant
      ∙ knows_unset_at (enumerants_at (kind_of c.args.table.now c.args.kind)) c.args.mask c.loop-position.position
      c.loop-position-test.true (even _ w.if-left-eq1.false)
]

pub returns-then-not-knows : goal.returns-then-not-knows
returns-then-not-knows c =
    sym (c.loop-position.invariant
    ∙ knows_not_at (enumerants_at (kind_of c.args.table.now c.args.kind)) c.args.mask c.loop-position.position
    c.loop-position-test.true c.if-left-eq1.true
    (rw (shifted c.loop-position.position c.loop-position-test.true) at (sym c.if-not-knows.ensures)))

pub returns : goal.returns
returns c =
    let e : c.loop-position.position ≡ 32 = omega arith in
    sym (c.loop-position.invariant ∙ rw e (knows_end
    (enumerants_at (kind_of c.args.table.now c.args.kind)) c.args.mask 4294967296))
