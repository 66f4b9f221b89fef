use Rattle.std.proofs.Common.{◌∙◌, refl, sym}
use Rattle.spv_module.specs.Module.{plain_inst}
use Rattle.spv_run.specs.inner.Trace.{kept}
use Rattle.spv_run.proofs.Moving.{chosen_label}
use Rattle.spv_run.proofs.Turns.{found, none_chosen, bad_chosen, good_chosen}
use Rattle.spv_run.proofs.tracer.Walker.choose.Goals as goal

pub returns-in_default-clause-turn : goal.returns-in_default-clause-turn
returns-in_default-clause-turn c = λ is G bound n v xs sound num there kind.
    none_chosen is (kept c.args.self.now c.args.choices.now) xs c.args.choices.now c.args.self.now.taken _
    c.in_default.ensures.lookup.3 refl

pub returns-in_default-target_of-clause-turn : goal.returns-in_default-target_of-clause-turn
returns-in_default-target_of-clause-turn c = λ is G bound n v xs sound num there kind.
    bad_chosen is (kept c.args.self.now c.args.choices.now) xs c.args.choices.now c.args.self.now.taken
    c.in-Some.choice.now _
    (found c.args.choices.now c.args.self.now.taken c.in-Some.choice.now c.in-Some.ensures.lookup.3.0
    c.in-Some.ensures.lookup.1)
    (sym (c.target_of.ensures G v xs (sound.fits n (plain_inst c.args.inst.now) there) kind)
    ∙ c.in_default-target_of.is) refl

pub returns-clause-turn : goal.returns-clause-turn
returns-clause-turn c = λ is G bound n v xs sound num there kind.
    let target = sym (c.target_of.ensures G v xs (sound.fits n (plain_inst c.args.inst.now) there) kind)
    ∙ c.in-Some-target_of.is in
    good_chosen is (kept c.args.self.now c.args.choices.now) xs c.args.choices.now c.args.self.now.taken
    c.in-Some.choice.now c.in-Some-target_of.label c.place_of-self.result _
    (found c.args.choices.now c.args.self.now.taken c.in-Some.choice.now c.in-Some.ensures.lookup.3.0
    c.in-Some.ensures.lookup.1) target
    (chosen_label (plain_inst c.args.inst.now) c.in-Some-target_of.label c.place_of-self.result v xs is kind
    c.in-Some.choice.now target (λ m d. c.place_of-self.ensures is m num d) G bound n sound there) refl
