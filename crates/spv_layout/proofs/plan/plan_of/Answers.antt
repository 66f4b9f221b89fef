use Rattle.std.proofs.Common.{◌≡◌, ◌<◌, arith, length, map, true, false}
use Rattle.std.proofs.lemmas.List.{length-map}
use Rattle.std.proofs.lemmas.Result.{err_from_is_err_and}
use Rattle.spv_module.specs.Module.{plain_inst}
use Rattle.spv_layout.specs.declared.state.State.TheVariants as at
use Rattle.spv_layout.specs.inner.Span.{no_number}
use Rattle.spv_layout.specs.inner.State.{may_stop}
use Rattle.spv_layout.proofs.Slices.{member_all, dead_all}
use Rattle.spv_layout.proofs.Misfits.{fit_all, short_list}
use Rattle.spv_layout.proofs.Keeping.{planned}
use Rattle.spv_layout.proofs.Globals.{are_early}
use Rattle.spv_layout.proofs.Seen.{seen_layout}
use Rattle.spv_layout.proofs.plan.plan_of.Goals as goal

pub refused-requires-clause-dead : goal.refused-requires-clause-dead
refused-requires-clause-dead c =
    let e = c.stops.ensures in
    let f = c.if-not-stops.true in
    let h : may_stop c.in_ok-reached.reached.state ≡ false = cc in
    dead_all c.args.profile c.args.insts.now (length c.args.insts.now) c.in_ok-reached.reached.state (omega arith) h c.in_ok-reached.ensures.reached.leads

pub returns-clause-plan : goal.returns-clause-plan
returns-clause-plan c =
    let is = map plain_inst c.args.insts.now in
    let s = short_list is in
    let l = length-map c.args.insts.now plain_inst in
    let q = c.requires.words in
    let e = c.stops.ensures in
    let f = c.if-not-stops.false in
    let h : may_stop c.in_ok-reached.reached.state ≡ true = cc in
    let m : length is < no_number = omega arith in
    let n : length c.args.insts.now ≡ length is = omega arith in
    let fits = fit_all c.args.profile c.args.kinds.now is (length c.args.insts.now) n c.in_ok-reached.ensures.reached.fit in
    planned c.args.kinds.now is c.in_ok-reached.reached.state c.in_ok-reached.reached.spans c.lay_early.new.early.items c.lay_late.new.late.items h m
    (λ k i there. (fits k i there).shape)
    (seen_layout c.args.profile is
    (member_all c.args.profile c.args.insts.now (length c.args.insts.now) c.in_ok-reached.reached.state (omega arith) h c.in_ok-reached.ensures.reached.leads))
    (rw n at c.in_ok-reached.ensures.reached.follows)
    (rw n at (c.in_ok-reached.ensures.kept c.lay_early.new.early.items c.in_ok-begun.ensures.kept))

pub returns-clause-laid_out : goal.returns-clause-laid_out
returns-clause-laid_out c =
    let is = map plain_inst c.args.insts.now in
    let l = length-map c.args.insts.now plain_inst in
    let e = c.stops.ensures in
    let f = c.if-not-stops.false in
    let h : may_stop c.in_ok-reached.reached.state ≡ true = cc in
    let n : length c.args.insts.now ≡ length is = omega arith in
    record {
      fits = fit_all c.args.profile c.args.kinds.now is (length c.args.insts.now) n c.in_ok-reached.ensures.reached.fit;
      layout = member_all c.args.profile c.args.insts.now (length c.args.insts.now) c.in_ok-reached.reached.state (omega arith) h c.in_ok-reached.ensures.reached.leads;
    }

pub invariant_of-result : goal.invariant_of-result
invariant_of-result c =
    let is = map plain_inst c.args.insts.now in
    let s = short_list is in
    let l = length-map c.args.insts.now plain_inst in
    let q = c.requires.words in
    let k = c.in_ok-reached.ensures.kept c.lay_early.new.early.items c.in_ok-begun.ensures.kept in
    let n = k.count in
    are_early is c.in_ok-reached.reached.spans.functions (length c.args.insts.now) c.lay_early.new.early.items k.each_early c.in_ok-reached.ensures.reached.follows.functions (omega arith)

pub returns-in_err-begun-clause-refused : goal.returns-in_err-begun-clause-refused
returns-in_err-begun-clause-refused c =
    let r = err_from_is_err_and c.from_residual-in_err-begun.result c.from_residual-in_err-begun.ensures.1 in
    rw (r.1, r.2) c.in_err-begun.ensures.refused

pub returns-in_err-reached-clause-refused : goal.returns-in_err-reached-clause-refused
returns-in_err-reached-clause-refused c =
    let r = err_from_is_err_and c.from_residual-in_err-reached.result c.from_residual-in_err-reached.ensures.1 in
    rw (r.1, r.2) c.in_err-reached.ensures.refused
