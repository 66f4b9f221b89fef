use Rattle.std.proofs.Common.{◌+◌, List, sym, ap, subst, refl}
use Rattle.std.specs.Prelude.{Vec}
use Rattle.std.specs.Global.{Global}
use Rattle.spv_module.specs.Module.{plain_inst}
use Rattle.spv_type_rules.specs.declared.repeat.Slot.{Slot}
use Rattle.spv_type_rules.specs.declared.repeat.Place.TheVariants.{Taken, Free, Nowhere}
use Rattle.spv_type_rules.specs.inner.Slots.{IsPlace}
use Rattle.spv_type_rules.specs.inner.Seen.{AreKept}
use Rattle.spv_type_rules.proofs.Repeating.{taken_told, taken_seen, free_told, free_seen, far_told, far_seen}
use Rattle.spv_type_rules.proofs.repeat.Seen.is_declared_again.Goals as goal

pub returns-in-Taken-clause-repeats : goal.returns-in-Taken-clause-repeats
returns-in-Taken-clause-repeats c = λ is n at s.
    let i = plain_inst c.args.inst.now in
    let place = subst (λ (l : List Slot). IsPlace l i (Taken c.in-Taken._at)) c.as_slice.ensures.value
    c.in-Taken.ensures in
    taken_told is n i c.args.self.now.slots.items c.args.self.now.others.keys c.in-Taken._at c.requires place.1 s

pub returns-in-Taken-clause-seen : goal.returns-in-Taken-clause-seen
returns-in-Taken-clause-seen c = λ is n at s.
    let i = plain_inst c.args.inst.now in
    let place = subst (λ (l : List Slot). IsPlace l i (Taken c.in-Taken._at)) c.as_slice.ensures.value
    c.in-Taken.ensures in
    taken_seen is n i c.args.self.now.slots.items c.args.self.now.others.keys c.in-Taken._at at place.0 place.1 s

pub returns-in-Free-clause-repeats : goal.returns-in-Free-clause-repeats
returns-in-Free-clause-repeats c = λ is n at s.
    let i = plain_inst c.args.inst.now in
    let place = subst (λ (l : List Slot). IsPlace l i (Free c.in-Free.at)) c.as_slice.ensures.value c.in-Free.ensures in
    free_told is n i c.args.self.now.slots.items c.args.self.now.others.keys c.in-Free.at c.requires place.0 place.1 s

pub returns-in-Free-clause-seen : goal.returns-in-Free-clause-seen
returns-in-Free-clause-seen c = λ is n at s.
    let i = plain_inst c.args.inst.now in
    let place = subst (λ (l : List Slot). IsPlace l i (Free c.in-Free.at)) c.as_slice.ensures.value c.in-Free.ensures in
    free_seen is n i c.args.self.now.slots.items c.args.self.now.others.keys c.in-Free.at _ at (λ f. f)
    (c.fingerprint_of-fingerprint.ensures, (refl, refl)) (λ j h. h.1) place.0 place.1 s

pub returns-in_ok-added-in-Nowhere-clause-repeats : goal.returns-in_ok-added-in-Nowhere-clause-repeats
returns-in_ok-added-in-Nowhere-clause-repeats c = λ is n at s.
    let i = plain_inst c.args.inst.now in
    let place = subst (λ (l : List Slot). IsPlace l i Nowhere) c.as_slice.ensures.value c.in-Nowhere.ensures in
    far_told is n i c.args.self.now.slots.items c.args.self.now.others.keys c.in_ok-key-in-Nowhere.key.items
    c.in_ok-added-in-Nowhere.added c.requires c.in_ok-key-in-Nowhere.ensures place s
    c.in_ok-added-in-Nowhere.ensures.added

pub returns-in_ok-added-in-Nowhere-clause-seen : goal.returns-in_ok-added-in-Nowhere-clause-seen
returns-in_ok-added-in-Nowhere-clause-seen c = λ is n at s.
    let i = plain_inst c.args.inst.now in
    let place = subst (λ (l : List Slot). IsPlace l i Nowhere) c.as_slice.ensures.value c.in-Nowhere.ensures in
    let same = ap (λ (v : Vec Slot Global). v.items) c.in_ok-added-in-Nowhere.ensures.slots in
    subst (λ (l : List Slot). AreKept is (n + 1) l c.add.new.self.others.keys) (sym same)
    (far_seen is n i c.args.self.now.slots.items c.args.self.now.others.keys c.add.new.self.others.keys
    c.in_ok-key-in-Nowhere.key.items at c.requires c.in_ok-key-in-Nowhere.ensures place
    c.in_ok-added-in-Nowhere.ensures.keys s)
