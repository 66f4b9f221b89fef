use Rattle.std.proofs.Common.{◌≡◌, ◌%◌, ℕ, List, Bor, ◌∙◌, sym, ap, arith}
use Rattle.spv_table.specs.Table.{kind_of}
use Rattle.spv_inst.specs.Reading.{enumerants_at}
use Rattle.spv_inst.proofs.Enumerants.{shifted}
use Rattle.spv_inst.proofs.Opened.{kinds_begin, kinds_set_at, kinds_unset_at, kinds_rest_at, kinds_end_at}
use Rattle.spv_inst.proofs.enumerant.kinds_of_bits.Goals as goal
use Rattle.spv_inst.proofs.enumerant.kinds_of_bits.Goals.{then-left-eq1+in-Some+in-Some-joined, else-left-eq1}

even : (n : ℕ) → (n % 2 ≡ 1 → ⊥) → n % 2 ≡ 0
even n h = omega arith

pub loop-position-init : goal.loop-position-init
loop-position-init c = kinds_begin (enumerants_at (kind_of c.args.table.now c.args.kind)) c.args.mask

pub returns-then-left-eq0 : goal.returns-then-left-eq0
returns-then-left-eq0 c =
    c.loop-position.invariant ∙ kinds_rest_at
    (enumerants_at (kind_of c.args.table.now c.args.kind)) c.args.mask c.loop-position.position
    c.loop-position.kinds.now c.if-left-eq0.true

pub loop-position-preserved : goal.loop-position-preserved
loop-position-preserved c =
    let es = enumerants_at (kind_of c.args.table.now c.args.kind) in
    let p = c.loop-position.position in
    let within = c.loop-position-test.true in
    elim c.if-left-eq1.branch [
      | then-left-eq1+in-Some+in-Some-joined w ↦
          c.loop-position.invariant
          ∙ kinds_set_at es c.args.mask p c.loop-position.kinds.now w.in-Some.more.now c.if-left-eq1.kinds.now within
          w.if-left-eq1.true
          (rw (shifted p within) at (sym w.in-Some.ensures))
          (ap (λ (k : Bor (List ℕ)). k.now) w.kinds-is ∙ w.in-Some-joined.ensures)
      | else-left-eq1 w ↦
          c.loop-position.invariant
          ∙ kinds_unset_at es c.args.mask p c.loop-position.kinds.now c.if-left-eq1.kinds.now within
          (even _ w.if-left-eq1.false) (ap (λ (k : Bor (List ℕ)). k.now) w.kinds-is)
    ]

pub returns : goal.returns
returns c =
    let e : c.loop-position.position ≡ 32 = omega arith in
    c.loop-position.invariant ∙ rw e (kinds_end_at
    (enumerants_at (kind_of c.args.table.now c.args.kind)) c.args.mask 4294967296 c.loop-position.kinds.now)
