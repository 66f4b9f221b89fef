use Rattle.std.proofs.Common.{arith}
use Rattle.spv_declarations.specs.Decorated.{IsInitialized}
use Rattle.spv_declarations.proofs.Passes.{found_by, more_by, none}
use Rattle.spv_declarations.proofs.Telling.{initialized_tells, some_inst}
use Rattle.spv_declarations.proofs.Without.{no_initialized}
use Rattle.spv_declarations.proofs.initialized.first_initialized.Goals as goal

pub returns-then-is_initialized : goal.returns-then-is_initialized
returns-then-is_initialized c = λ G e.
    let is = c.args.definitions.now in
    let n = c.loop-number.number in
    let s = some_inst is n (omega arith) in
    found_by (IsInitialized G is) c.args.front.now.count n c.is_initialized.result c.loop-number-test.true
    (initialized_tells G is c.args.linkage c.in_ok-imported.imported n s.0 c.is_initialized.result
    c.in_ok-imported.ensures (e c.if-not-front.false) s.1 (c.is_initialized.ensures s.0 s.1)) c.if-is_initialized.true
    (c.loop-number.invariant G e)

pub loop-number-preserved : goal.loop-number-preserved
loop-number-preserved c = λ G e.
    let is = c.args.definitions.now in
    let n = c.loop-number.number in
    let s = some_inst is n (omega arith) in
    more_by (IsInitialized G is) n c.is_initialized.result
    (initialized_tells G is c.args.linkage c.in_ok-imported.imported n s.0 c.is_initialized.result
    c.in_ok-imported.ensures (e c.if-not-front.false) s.1 (c.is_initialized.ensures s.0 s.1)) c.if-is_initialized.false
    (c.loop-number.invariant G e)

pub returns : goal.returns
returns c = λ G e. none c.args.front.now.count c.loop-number.number (IsInitialized G c.args.definitions.now)
    (omega arith)
    (c.loop-number.invariant G e)

pub returns-then-not-front : goal.returns-then-not-front
returns-then-not-front c = λ G e.
    no_initialized G c.args.definitions.now c.args.front.now.count c.args.front.now.kinds c.requires.kinds
    c.if-not-front.true
