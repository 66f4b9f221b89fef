use Rattle.std.proofs.Common.{◌≡◌, ◌∙◌, ◌<◌, [], refl, sym, arith, length, map, true, Some, None, inl}
use Rattle.std.specs.Prelude.{slice_get}
use Rattle.std.proofs.lemmas.List.{length-map}
use Rattle.spv_module.specs.Module.{plain_inst}
use Rattle.spv_layout.specs.declared.state.State.TheVariants as at
use Rattle.spv_layout.specs.Layout.{classes, seen, class_under}
use Rattle.spv_layout.specs.Place.{section_of, word_count}
use Rattle.spv_layout.specs.inner.Span.{no_number, no_spans, entered_in}
use Rattle.spv_layout.specs.inner.State.{next_of}
use Rattle.spv_layout.proofs.Layouts.{leads_first}
use Rattle.spv_layout.proofs.Slices.{leads_take, dead_take}
use Rattle.spv_layout.proofs.Misfits.{fit_none, fit_more, inst_there, misfit_first, short_list}
use Rattle.spv_layout.proofs.Sums.{sum_more, sum_bound}
use Rattle.spv_layout.proofs.Following.{none_follows, stands_at, follows_on}
use Rattle.spv_layout.proofs.Keeping.{class_there, none_kept, keeps}
use Rattle.spv_layout.proofs.Rooms.{still}
use Rattle.spv_layout.proofs.Seen.{class_known}
use Rattle.spv_layout.proofs.plan.lay_early.Goals.{in-Some-section, in_default-section}
use Rattle.spv_layout.proofs.plan.lay_early.Goals as goal

pub loop-i-init : goal.loop-i-init
loop-i-init c = record {
  fit = fit_none c.args.profile c.args.kinds.now (map plain_inst c.args.insts.now);
  leads = leads_first;
  follows = none_follows (map plain_inst c.args.insts.now);
  kept = none_kept (map plain_inst c.args.insts.now) at.Capabilities c.args.early.now.items [] c.requires.none refl;
  size = c.requires.size;
  room = c.requires.room;
  word = refl;
}

pub fault-requires : goal.fault-requires
fault-requires c =
    let s = short_list (map plain_inst c.args.insts.now) in
    let l = length-map c.args.insts.now plain_inst in
    let q = c.requires.words in
    let w = c.requires.within in
    let t = c.loop-i-test.true in
    omega arith

pub returns-in_default-clause-refused : goal.returns-in_default-clause-refused
returns-in_default-clause-refused c =
    let w = c.requires.within in
    let t = c.loop-i-test.true in
    let b : c.loop-i.i < length c.args.insts.now = omega arith in
    let h = inst_there c.args.insts.now c.loop-i.i c.index-insts-i.result b c.index-insts-i.is in
    let f = misfit_first c.args.profile c.args.kinds.now (map plain_inst c.args.insts.now) c.loop-i.i (plain_inst c.index-insts-i.result) h c.in_default.ensures.misfit c.loop-i.invariant.fit in
    rw c.fault.ensures (inl f, c.loop-i.invariant.word)

pub refused-requires-clause-dead : goal.refused-requires-clause-dead
refused-requires-clause-dead c =
    let w = c.requires.within in
    let t = c.loop-i-test.true in
    let b : c.loop-i.i < length c.args.insts.now = omega arith in
    let k = c.in-Some.ensures.class in
    let u = class_known c.args.profile c.index-insts-i.result.opcode c.in-Some.ensures.fits.known in
    let e : next_of c.loop-i.state (class_under c.args.profile c.index-insts-i.result.opcode) ≡ None = rw (u, ← k) (sym c.in_default-next_seen.ensures) in
    dead_take c.args.profile c.args.insts.now c.loop-i.i c.index-insts-i.result c.loop-i.state b c.index-insts-i.is e c.loop-i.invariant.leads

pub words_of-word-requires-clause-words : goal.words_of-word-requires-clause-words
words_of-word-requires-clause-words c =
    let w = c.requires.within in
    let t = c.loop-i-test.true in
    let b = sum_bound word_count plain_inst c.args.insts.now c.loop-i.i c.index-insts-i.result (omega arith) in
    let b' = rw (← c.index-insts-i.is) at b in
    let q = c.requires.words in
    omega arith

pub overflow_add-word : goal.overflow_add-word
overflow_add-word c =
    let v = c.requires.within in
    let t = c.loop-i-test.true in
    let b = sum_bound word_count plain_inst c.args.insts.now c.loop-i.i c.index-insts-i.result (omega arith) in
    let b' = rw (← c.index-insts-i.is) at b in
    let q = c.requires.words in
    let w = c.loop-i.invariant.word in
    let e = c.words_of-word.ensures in
    omega arith

pub loop-i-preserved : goal.loop-i-preserved
loop-i-preserved c =
    let is = map plain_inst c.args.insts.now in
    let n = c.loop-i.i in
    let s = short_list is in
    let l = length-map c.args.insts.now plain_inst in
    let q = c.requires.words in
    let v = c.requires.within in
    let test = c.loop-i-test.true in
    let b : n < length c.args.insts.now = omega arith in
    let h : n < length is = omega arith in
    let m : n < no_number = omega arith in
    let same = c.in-Some.ensures.class in
    let t = class_there c.args.insts.now n c.index-insts-i.result b c.index-insts-i.is in
    let k : slice_get (classes is) n ≡ Some c.in-Some.row.now.class = rw same t in
    let e : next_of c.loop-i.state (seen c.args.profile c.in-Some.row.now.class) ≡ Some c.in-Some-next_seen.after = sym c.in-Some-next_seen.ensures in
    let u = class_known c.args.profile c.index-insts-i.result.opcode c.in-Some.ensures.fits.known in
    let e' : next_of c.loop-i.state (class_under c.args.profile c.index-insts-i.result.opcode) ≡ Some c.in-Some-next_seen.after = rw (u, ← same) e in
    let stands = stands_at is n c.loop-i.state c.in-Some.row.now.class no_spans h m k c.loop-i.invariant.follows in
    let on = follows_on c.args.profile is n c.loop-i.state c.in-Some-next_seen.after c.in-Some.row.now.class no_spans e h m k c.loop-i.invariant.follows in
    let more = sum_more word_count plain_inst c.args.insts.now n c.index-insts-i.result b in
    let more' = rw (← c.index-insts-i.is) at more in
    let fit' = fit_more c.args.profile c.args.kinds.now is n (plain_inst c.index-insts-i.result) (inst_there c.args.insts.now n c.index-insts-i.result b c.index-insts-i.is) c.in-Some.ensures.fits c.loop-i.invariant.fit in
    let leads' = leads_take c.args.profile c.args.insts.now n c.index-insts-i.result c.loop-i.state c.in-Some-next_seen.after b c.index-insts-i.is e' c.loop-i.invariant.leads in
    elim c.match-row.branch [
      | in-Some-section w ↦
          let z : section_of c.in-Some.row.now.class ≡ Some w.in-Some-section.section = sym c.in-Some.ensures.section ∙ w.in-Some-section.is in
          record {
            fit = fit';
            leads = leads';
            follows = rw (still c.in-Some.row.now.class no_spans n w.in-Some-section.section z) at on;
            kept = rw w.early-is (keeps c.args.profile is n c.loop-i.state c.in-Some-next_seen.after c.in-Some.row.now.class (entered_in no_spans c.in-Some.row.now.class n) c.loop-i.word c.loop-i.early.items w.push_reserved.new.self.items [] [] e
                (rw z w.push_reserved.ensures.items) (rw z refl) k c.loop-i.invariant.word stands c.loop-i.invariant.kept);
            size = let a = c.loop-i.invariant.size in let p = w.push_reserved.ensures.len in rw w.early-is (omega arith);
            room = let a = c.loop-i.invariant.room in let p = w.push_reserved.ensures.capacity in rw w.early-is (omega arith);
            word = let a = c.loop-i.invariant.word in let p = c.words_of-word.ensures in omega arith;
          }
      | in_default-section w ↦ absurd (c.requires.early.each n c.in-Some.row.now.class test k (sym c.in-Some.ensures.section ∙ w.in_default-section.is))
    ]

pub returns-clause-reached : goal.returns-clause-reached
returns-clause-reached c =
    let n : c.loop-i.i ≡ c.args.count = omega arith in
    record {
      fit = rw n at c.loop-i.invariant.fit;
      leads = rw n at c.loop-i.invariant.leads;
      follows = rw (c.new.ensures, ← n) c.loop-i.invariant.follows;
      word = rw n at c.loop-i.invariant.word;
    }

pub returns-clause-kept : goal.returns-clause-kept
returns-clause-kept c = let n : c.loop-i.i ≡ c.args.count = omega arith in rw n at c.loop-i.invariant.kept
