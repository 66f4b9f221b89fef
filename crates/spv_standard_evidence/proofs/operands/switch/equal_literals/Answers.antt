use Rattle.std.proofs.Common.{◌≡◌, ◌≢◌, ◌≤◌, ◌-◌, ◌+◌, ◌∙◌, ℕ, Some, None, length, nat_eq, if◌then◌else◌, sym, ap, subst, arith}
use Rattle.std.specs.BTreeMap.{BTreeMap}
use Rattle.std.proofs.lemmas.List.{length-map}
use Rattle.spv_module.specs.Module.{plain_inst, plain_operand}
use Rattle.spv_limits.specs.inner.Kept.{kept}
use Rattle.spv_standard_evidence.specs.Operands.{AreEqual, literal_at}
use Rattle.spv_standard_evidence.proofs.Switched.{AreFirsts, all_apart, apart_new, apart_none, equal_found, firsts_new}
use Rattle.spv_standard_evidence.proofs.Switched.{firsts_none}
use Rattle.spv_standard_evidence.proofs.operands.switch.equal_literals.Goals as goal
use Rattle.spv_standard_evidence.proofs.operands.switch.equal_literals.Goals.{in-Some+else-first-ne0+in_ok-keep, in_default}

pub returns-then-first-ne0 : goal.returns-then-first-ne0
returns-then-first-ne0 c =
    let os = (plain_inst c.args.inst.now).operands in
    let k = c.loop-k.k in
    let n = c.in-Some.literal in
    let e : literal_at os k ≡ Some n = sym c.literal_of.ensures ∙ c.in-Some.is in
    let some : kept c.loop-k.firsts n ≢ 0 = λ z. c.if-first-ne0.true (c.kept_at-first.ensures ∙ z) in
    subst (λ (p : ℕ). AreEqual os (p - 1) k) (sym c.kept_at-first.ensures)
    (equal_found os k n (kept c.loop-k.firsts) e some c.loop-k.invariant.firsts)

pub loop-k-preserved : goal.loop-k-preserved
loop-k-preserved c =
    let os = (plain_inst c.args.inst.now).operands in
    let k = c.loop-k.k in
    elim c.match-literal_of.branch [
      | in-Some+else-first-ne0+in_ok-keep w ↦
          let n = w.in-Some.literal in
          let e : literal_at os k ≡ Some n = sym c.literal_of.ensures ∙ w.in-Some.is in
          let empty : kept c.loop-k.firsts n ≡ 0 = sym w.kept_at-first.ensures ∙ w.if-first-ne0.false in
          let puts : (x : ℕ) → kept c.match-literal_of.firsts x
          ≡ (if nat_eq n x then k + 1 else kept c.loop-k.firsts x) =
          λ x. ap (λ (m : BTreeMap ℕ ℕ). kept m x) w.firsts-is ∙ w.in_ok-keep.ensures x in
          record {
            firsts = firsts_new os k n (kept c.loop-k.firsts) (kept c.match-literal_of.firsts) e
                c.loop-k.invariant.firsts puts;
            apart = apart_new os k n (kept c.loop-k.firsts) e empty c.loop-k.invariant.firsts
                c.loop-k.invariant.apart;
          }
      | in_default w ↦
          let e : literal_at os k ≡ None = sym c.literal_of.ensures ∙ w.in_default.is in
          let old = subst (λ (m : BTreeMap ℕ ℕ). AreFirsts os k (kept m)) (sym w.firsts-is)
          c.loop-k.invariant.firsts in
          record {
            firsts = firsts_none os k (kept c.match-literal_of.firsts) e old;
            apart = apart_none os k e c.loop-k.invariant.apart;
          }
    ]

pub unreachable-requires : goal.unreachable-requires
unreachable-requires c =
    let os = (plain_inst c.args.inst.now).operands in
    let l = ap length c.as_slice-k-end.ensures.value in
    let m = length-map c.args.inst.now.operands plain_operand in
    let all : length os ≤ c.loop-k.k = omega (arith, l, m) in
    all_apart os c.loop-k.k all c.loop-k.invariant.apart c.requires
