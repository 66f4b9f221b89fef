use Rattle.std.proofs.Common.{◌≡◌, true, Bool, rules, subst}
use Rattle.spv_commands.specs.inner.Progress.{HasGot}
use Rattle.spv_commands.proofs.Parts.{got_more, written}
use Rattle.spv_commands.proofs.writing.write_on.Goals as goal

pub returns : goal.returns
returns g c = λ so_far old before h.
    let sound : c.args.sound ≡ true = search rules in
    let w = written c.write_all.result c.args.text.now _ _ _ _ c.write_all.ensures.all c.write_all.ensures.begun
    c.write_all.ensures.only
    c.write_all.ensures.count c.write_all.ensures.steady in
    got_more c.is_ok.result so_far c.args.text.now old _ _ before _ _
    (subst (λ (s : Bool). HasGot s so_far old (g.W.Sink.contents c.args.w.now) before (g.W.Sink.failures c.args.w.now))
    sound h) w.0 (rw c.is_ok.ensures.value w.1)
