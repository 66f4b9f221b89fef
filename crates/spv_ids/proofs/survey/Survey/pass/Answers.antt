use Rattle.std.proofs.Common.{◌≡◌, arith}
use Rattle.spv_ids.specs.inner.Survey.{insts_of}
use Rattle.spv_ids.proofs.Steps.{announced_nothing}
use Rattle.spv_ids.proofs.Broke.{clean_more}
use Rattle.spv_ids.proofs.Passing.{clean_moved, announced_moved, open_moved}
use Rattle.spv_ids.proofs.survey.Survey.pass.Goals as goal

pub loop-n-init : goal.loop-n-init
loop-n-init c = record { clean = c.requires.clean; announced = λ a h. h; is_open = c.requires.open }

pub loop-n-preserved : goal.loop-n-preserved
loop-n-preserved c =
    let s = c.args.self.now in
    let n = c.loop-n.n in
    let k = c.loop-n.invariant in
    record {
      clean = clean_more s.bound (insts_of s) n c.in-Some.ensures.clean k.clean;
      announced = λ a h. announced_nothing (insts_of s) n a c.in-Some.ensures.silent (k.announced a h);
      is_open = c.in-Some.ensures.open;
    }

pub returns-clause-clean : goal.returns-clause-clean
returns-clause-clean c =
    let s = c.args.self.now in
    let e : c.loop-n.n ≡ s.end = omega arith in
    clean_moved s.bound (insts_of s) c.loop-n.n s.end e c.loop-n.invariant.clean

pub returns-clause-announced : goal.returns-clause-announced
returns-clause-announced c = λ a h.
    let s = c.args.self.now in
    let e : c.loop-n.n ≡ s.end = omega arith in
    announced_moved (insts_of s) c.loop-n.n s.end a e (c.loop-n.invariant.announced a h)

pub returns-clause-open : goal.returns-clause-open
returns-clause-open c = λ l.
    let s = c.args.self.now in
    let e : c.loop-n.n ≡ s.end = omega arith in
    open_moved (insts_of s) c.loop-n.n s.end c.loop-n.here e (c.loop-n.invariant.is_open l)
