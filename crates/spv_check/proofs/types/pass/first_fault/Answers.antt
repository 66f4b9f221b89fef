use Rattle.std.proofs.Common.{◌≡◌, ◌<◌, ◌+◌, ℕ, true, false, Some, None, map, length, sym, ap, subst, ◌∙◌, if◌then◌else◌, arith}
use Rattle.std.specs.Prelude.{slice_get}
use Rattle.std.proofs.lemmas.Option.{slice_get_within}
use Rattle.std.proofs.lemmas.List.{length-map}
use Rattle.spv_module.specs.Module.{plain_inst}
use Rattle.spv_module.specs.declared.fault.Rule.TheVariants.{Y5}
use Rattle.spv_capabilities.specs.Keeps.{IsFirstAt}
use Rattle.spv_type_forms.specs.declared.nulls.Nulls.{Nulls}
use Rattle.spv_type_forms.specs.declared.matching.Matching.{Matching}
use Rattle.spv_type_forms.specs.inner.Matching.{IsMatching}
use Rattle.spv_type_forms.specs.inner.Null.{AreNulls}
use Rattle.spv_check.specs.inner.Pass.{IsFirstTypeHere}
use Rattle.spv_type_rules.specs.declared.repeat.Seen.{Seen}
use Rattle.spv_type_rules.specs.inner.Concern.{is_operation, is_silent}
use Rattle.spv_type_rules.specs.inner.Counted.{AreCounted}
use Rattle.spv_type_rules.specs.inner.Rules.{IsFirstHere}
use Rattle.spv_type_rules.specs.inner.Seen.{AreSeen}
use Rattle.spv_layout.proofs.Misfits.{inst_there}
use Rattle.spv_check.proofs.Typing.Firsts.{capable_fault, typed_fault, more_kept}
use Rattle.spv_check.proofs.Typing.Operations.{op_told, others_told, operation_told, operation_seen, operation_counted}
use Rattle.spv_check.proofs.Typing.Operations.{silent_told, silent_seen, silent_counted}
use Rattle.spv_check.proofs.types.pass.first_fault.Goals as goal
use Rattle.spv_check.proofs.types.pass.first_fault.Goals.{then-is_operation+in_ok-operation_holds+else-not-branch}
use Rattle.spv_check.proofs.types.pass.first_fault.Goals.{else-is_operation+else-not-is_silent}
use Rattle.spv_check.proofs.types.pass.first_fault.Goals.{else-is_operation+then-not-is_silent+in_ok-repeats+in_ok-broken+in_default-2}

pub first_in-requires : goal.first_in-requires
first_in-requires c =
    let xs = c.args.insts.now in
    let at = inst_there xs c.loop-n.n c.index-insts-n.result c.loop-n-test.true c.index-insts-n.is in
    subst (λ js. slice_get js c.loop-n.n ≡ Some (plain_inst c.index-insts-n.result))
    (sym (ap (λ t. t.insts) c.loop-n.invariant.same ∙ c.requires.surveyed)) at

pub operation_holds-requires-clause-matching : goal.operation_holds-requires-clause-matching
operation_holds-requires-clause-matching c =
    subst (λ js. IsMatching js c.loop-n.matching) (sym (c.definitions.ensures ∙ c.requires.judged))
    c.loop-n.invariant.matching

pub operation_holds-requires-clause-number : goal.operation_holds-requires-clause-number
operation_holds-requires-clause-number c =
    let is = map plain_inst c.args.insts.now in
    let x = c.index-insts-n.result in
    let at : slice_get is c.loop-n.n ≡ Some
    (plain_inst x) = inst_there c.args.insts.now c.loop-n.n x c.loop-n-test.true c.index-insts-n.is in
    subst (λ js. c.loop-n.n < length js) (sym (c.definitions.ensures ∙ c.requires.judged))
    (slice_get_within is c.loop-n.n (plain_inst x) at)

pub first_at-requires-clause-repeats : goal.first_at-requires-clause-repeats
first_at-requires-clause-repeats c =
    let xs = c.args.insts.now in
    let n = c.loop-n.n in
    let at = inst_there xs n c.index-insts-n.result c.loop-n-test.true c.index-insts-n.is in
    rw c.requires.judged (c.in_ok-repeats.ensures.repeats (map plain_inst xs) n at c.loop-n.invariant.seen)

pub returns-in-Some-clause-same : goal.returns-in-Some-clause-same
returns-in-Some-clause-same c = c.first_in.ensures.same ∙ c.loop-n.invariant.same

pub returns-in-Some-clause-first : goal.returns-in-Some-clause-first
returns-in-Some-clause-first c =
    let G = c.args.entries.now.table in
    let xs = c.args.insts.now in
    let is = map plain_inst xs in
    let n = c.loop-n.n in
    let x = c.index-insts-n.result in
    let i = plain_inst x in
    let at : slice_get is n ≡ Some i = inst_there xs n x c.loop-n-test.true c.index-insts-n.is in
    let e = c.loop-n.invariant.same in
    let f = c.in_ok-rule.ensures.first in
    let g = subst (λ t. IsFirstAt t.table t.insts n i c.in_ok-rule.field-0) e f in
    let h = subst (λ js. IsFirstAt G js n i c.in_ok-rule.field-0) c.requires.surveyed g in
    let k = rw c.in-Some.is at h in
    capable_fault G is n i c.in-Some.rule at k.0 k.1 c.loop-n.invariant.kept

pub returns-then-not-branch-clause-same : goal.returns-then-not-branch-clause-same
returns-then-not-branch-clause-same c = c.first_in.ensures.same ∙ c.loop-n.invariant.same

pub returns-then-not-branch-clause-first : goal.returns-then-not-branch-clause-first
returns-then-not-branch-clause-first c =
    let G = c.args.entries.now.table in
    let xs = c.args.insts.now in
    let is = map plain_inst xs in
    let n = c.loop-n.n in
    let x = c.index-insts-n.result in
    let i = plain_inst x in
    let at : slice_get is n ≡ Some i = inst_there xs n x c.loop-n-test.true c.index-insts-n.is in
    let e = c.loop-n.invariant.same in
    let f = c.in_ok-rule.ensures.first in
    let g = subst (λ t. IsFirstAt t.table t.insts n i c.in_ok-rule.field-0) e f in
    let h = subst (λ js. IsFirstAt G js n i c.in_ok-rule.field-0) c.requires.surveyed g in
    let k = rw c.in_default.is at h in
    let holds = c.in_ok-operation_holds.field-0 in
    let d = op_told G is c.definitions.result.now n i holds (c.definitions.ensures ∙ c.requires.judged) at
    (c.requires.plan.fits n i at) c.in_ok-operation_holds.ensures.answer in
    let t = operation_told G is n i holds (sym c.is_operation.ensures ∙ c.if-is_operation.true) d in
    let u = subst (λ b. IsFirstTypeHere G is n i (if b then None else Some Y5)) c.if-not-branch.true t in
    typed_fault G is n i Y5 at u k c.loop-n.invariant.kept

pub first_at-requires-clause-inst : goal.first_at-requires-clause-inst
first_at-requires-clause-inst c =
    let at = inst_there c.args.insts.now c.loop-n.n c.index-insts-n.result c.loop-n-test.true c.index-insts-n.is in
    rw c.requires.judged at

pub first_at-requires-clause-few : goal.first_at-requires-clause-few
first_at-requires-clause-few c =
    let most = c.requires.most in
    let same = length-map c.args.insts.now plain_inst in
    rw c.requires.judged (omega (arith, most, same))

pub first_at-requires-clause-nulls : goal.first_at-requires-clause-nulls
first_at-requires-clause-nulls c = rw c.requires.judged c.loop-n.invariant.nulls

pub returns-in-Some-2-clause-same : goal.returns-in-Some-2-clause-same
returns-in-Some-2-clause-same c = c.first_in.ensures.same ∙ c.loop-n.invariant.same

pub returns-in-Some-2-clause-first : goal.returns-in-Some-2-clause-first
returns-in-Some-2-clause-first c =
    let G = c.args.entries.now.table in
    let xs = c.args.insts.now in
    let is = map plain_inst xs in
    let n = c.loop-n.n in
    let x = c.index-insts-n.result in
    let i = plain_inst x in
    let at : slice_get is n ≡ Some i = inst_there xs n x c.loop-n-test.true c.index-insts-n.is in
    let e = c.loop-n.invariant.same in
    let f = c.in_ok-rule.ensures.first in
    let g = subst (λ t. IsFirstAt t.table t.insts n i c.in_ok-rule.field-0) e f in
    let h = subst (λ js. IsFirstAt G js n i c.in_ok-rule.field-0) c.requires.surveyed g in
    let k = rw c.in_default.is at h in
    let t = subst (λ js. IsFirstHere js n i c.in_ok-broken.field-0) c.requires.judged
    c.in_ok-broken.ensures.first in
    let u = others_told G is n i c.in_ok-broken.field-0 (sym c.is_operation.ensures ∙ c.if-is_operation.false) t in
    let v = rw c.in-Some-2.is at u in
    typed_fault G is n i c.in-Some-2.broken at v k c.loop-n.invariant.kept

pub loop-n-preserved : goal.loop-n-preserved
loop-n-preserved c =
    let G = c.args.entries.now.table in
    let xs = c.args.insts.now in
    let is = map plain_inst xs in
    let n = c.loop-n.n in
    let x = c.index-insts-n.result in
    let i = plain_inst x in
    let at : slice_get is n ≡ Some i = inst_there xs n x c.loop-n-test.true c.index-insts-n.is in
    let e = c.loop-n.invariant.same in
    let f = c.in_ok-rule.ensures.first in
    let g = subst (λ t. IsFirstAt t.table t.insts n i c.in_ok-rule.field-0) e f in
    let h = subst (λ js. IsFirstAt G js n i c.in_ok-rule.field-0) c.requires.surveyed g in
    let k = rw c.in_default.is at h in
    elim c.if-is_operation.branch [
      | then-is_operation+in_ok-operation_holds+else-not-branch w ↦
          let o : is_operation i.opcode ≡ true = sym c.is_operation.ensures ∙ w.if-is_operation.true in
          let holds = w.in_ok-operation_holds.field-0 in
          let d = op_told G is w.definitions.result.now n i holds (w.definitions.ensures ∙ c.requires.judged) at
          (c.requires.plan.fits n i at) w.in_ok-operation_holds.ensures.answer in
          let t = operation_told G is n i holds o d in
          let u = subst (λ b. IsFirstTypeHere G is n i (if b then None else Some Y5)) w.if-not-branch.false t in
          record {
            same = c.first_in.ensures.same ∙ e;
            seen = subst (λ (s : Seen). AreSeen is (n + 1) s) (sym w.seen-is)
                (operation_seen is n i c.loop-n.seen at o c.loop-n.invariant.seen);
            nulls = subst (λ (m : Nulls). AreNulls is m) (sym w.nulls-is) c.loop-n.invariant.nulls;
            matching = subst (λ (m : Matching). IsMatching is m) (sym w.matching-is)
                (subst (λ js. IsMatching js w.operation_holds.new.matching) (w.definitions.ensures ∙ c.requires.judged)
                w.in_ok-operation_holds.ensures.matching);
            counted = subst (λ (p : ℕ). AreCounted is (n + 1) p) (sym w.parameters-is)
                (operation_counted is n c.loop-n.parameters i at o c.loop-n.invariant.counted);
            kept = more_kept G is n i at k u c.loop-n.invariant.kept;
          }
      | else-is_operation+else-not-is_silent w ↦
          let o : is_operation i.opcode ≡ false = sym c.is_operation.ensures ∙ w.if-is_operation.false in
          let q : is_silent i.opcode ≡ true = sym w.is_silent.ensures ∙ w.if-not-is_silent.false in
          record {
            same = c.first_in.ensures.same ∙ e;
            seen = subst (λ (s : Seen). AreSeen is (n + 1) s) (sym w.seen-is)
                (silent_seen is n i c.loop-n.seen at q c.loop-n.invariant.seen);
            nulls = subst (λ (m : Nulls). AreNulls is m) (sym w.nulls-is) c.loop-n.invariant.nulls;
            matching = subst (λ (m : Matching). IsMatching is m) (sym w.matching-is) c.loop-n.invariant.matching;
            counted = subst (λ (p : ℕ). AreCounted is (n + 1) p) (sym w.parameters-is)
                (silent_counted is n c.loop-n.parameters i at q c.loop-n.invariant.counted);
            kept = more_kept G is n i at k (silent_told G is n i o q) c.loop-n.invariant.kept;
          }
      | else-is_operation+then-not-is_silent+in_ok-repeats+in_ok-broken+in_default-2 w ↦
          let t = subst (λ js. IsFirstHere js n i w.in_ok-broken.field-0) c.requires.judged
          w.in_ok-broken.ensures.first in
          let v = others_told G is n i w.in_ok-broken.field-0 (sym c.is_operation.ensures ∙ w.if-is_operation.false) t in
          let u = rw w.in_default-2.is at v in
          record {
            same = c.first_in.ensures.same ∙ e;
            seen = subst (λ (s : Seen). AreSeen is (n + 1) s) (sym w.seen-is)
                (w.in_ok-repeats.ensures.seen is n at c.loop-n.invariant.seen);
            nulls = subst (λ (m : Nulls). AreNulls is m) (sym w.nulls-is)
                (rw c.requires.judged at w.in_ok-broken.ensures.nulls);
            matching = subst (λ (m : Matching). IsMatching is m) (sym w.matching-is) c.loop-n.invariant.matching;
            counted = subst (λ (p : ℕ). AreCounted is (n + 1) p) (sym w.parameters-is)
                (w.next_count-parameters.ensures is n at c.loop-n.invariant.counted);
            kept = more_kept G is n i at k u c.loop-n.invariant.kept;
          }
    ]
