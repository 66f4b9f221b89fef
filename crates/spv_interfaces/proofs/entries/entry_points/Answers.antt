use Rattle.std.proofs.Common.{◌≡◌, ◌<◌, ◌∙◌, ℕ, sym, subst, length, arith}
use Rattle.std.proofs.lemmas.Bool.{false≢true}
use Rattle.spv_interfaces.specs.inner.Entries.{AreSound}
use Rattle.spv_interfaces.proofs.Early.{sound_all}
use Rattle.spv_interfaces.proofs.Entering.{sound_more, sound_none, sound_past, up_to_all, up_to_here}
use Rattle.spv_interfaces.proofs.entries.entry_points.Goals.{in-Some+else-unsound+in_ok-push, in_default}
use Rattle.spv_interfaces.proofs.entries.entry_points.Goals as goal

pub judged-requires : goal.judged-requires
judged-requires c =
    let t = c.loop-number-test.true in
    let w = c.requires.within in
    omega (arith, t, w)

pub loop-number-init : goal.loop-number-init
loop-number-init c = rw c.new-sound.ensures.items (sound_none c.args.minor c.args.definitions.now)

pub returns-then-unsound : goal.returns-then-unsound
returns-then-unsound c =
    let h = rw c.in-Some.is at c.in_ok-unsound.ensures in
    up_to_here c.args.minor c.args.definitions.now c.loop-number.number c.loop-number.sound.items
    c.loop-number.invariant (h.0 c.if-unsound.true)

pub loop-number-preserved : goal.loop-number-preserved
loop-number-preserved c =
    let is = c.args.definitions.now in
    let n = c.loop-number.number in
    let old = c.loop-number.sound.items in
    let t = c.loop-number-test.true in
    let e = c.requires.within in
    let there : n < length is = omega (arith, t, e) in
    elim c.match-branch-2.branch [
      | in-Some+else-unsound+in_ok-push w ↦
          let j = rw w.in-Some.is at c.in_ok-unsound.ensures in
          rw (w.sound-is, w.in_ok-push.ensures.items) (sound_more c.args.minor is n old there
          (λ u. false≢true (sym w.if-unsound.false ∙ j.1 u)) c.loop-number.invariant)
      | in_default w ↦
          let j = rw w.in_default.is at c.in_ok-unsound.ensures in
          rw w.sound-is (sound_past c.args.minor is n old j c.loop-number.invariant)
    ]

pub returns : goal.returns
returns c =
    let is = c.args.definitions.now in
    let t = c.loop-number-test.false in
    let end = c.loop-number.auto.number-end in
    let e : c.loop-number.number ≡ c.args.before = omega (arith, t, end) in
    let found = c.loop-number.sound.items in
    up_to_all c.args.minor is (length is) found (sound_all c.args.minor is c.args.before found c.requires
    (subst (λ (n : ℕ). AreSound c.args.minor is n found) e c.loop-number.invariant)) (omega arith)
