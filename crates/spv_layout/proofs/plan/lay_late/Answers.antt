use Rattle.std.proofs.Common.{◌≡◌, ◌<◌, refl, sym, arith, length, map, true, Some, None, inl}
use Rattle.std.specs.Prelude.{slice_get}
use Rattle.std.proofs.lemmas.List.{length-map}
use Rattle.spv_module.specs.Module.{plain_inst}
use Rattle.spv_layout.specs.declared.state.State.TheVariants as at
use Rattle.spv_layout.specs.Layout.{classes, seen, class_under}
use Rattle.spv_layout.specs.Place.{word_count}
use Rattle.spv_layout.specs.inner.Span.{no_number}
use Rattle.spv_layout.specs.inner.State.{next_of}
use Rattle.spv_layout.proofs.Slices.{leads_take, dead_take}
use Rattle.spv_layout.proofs.Misfits.{fit_more, inst_there, misfit_first, short_list}
use Rattle.spv_layout.proofs.Sums.{sum_more, sum_bound}
use Rattle.spv_layout.proofs.Following.{stands_at, follows_on}
use Rattle.spv_layout.proofs.Keeping.{class_there, keeps}
use Rattle.spv_layout.proofs.Rooms.{unsectioned, is_split}
use Rattle.spv_layout.proofs.Seen.{class_known}
use Rattle.spv_layout.proofs.plan.lay_late.Goals as goal

pub loop-at-init : goal.loop-at-init
loop-at-init c = record {
  fit = c.requires.begun.fit;
  leads = c.requires.begun.leads;
  follows = c.requires.begun.follows;
  kept = λ early k. rw c.requires.none k;
  size = let e = c.requires.size in omega arith;
  room = c.requires.room;
  word = c.requires.begun.word;
}

pub fault-requires : goal.fault-requires
fault-requires c =
    let s = short_list (map plain_inst c.args.insts.now) in
    let l = length-map c.args.insts.now plain_inst in
    let q = c.requires.words in
    omega arith

pub returns-in_default-clause-refused : goal.returns-in_default-clause-refused
returns-in_default-clause-refused c =
    let h = inst_there c.args.insts.now c.loop-at.at c.index-insts-at.result c.loop-at-test.true c.index-insts-at.is in
    let f = misfit_first c.args.profile c.args.kinds.now (map plain_inst c.args.insts.now) c.loop-at.at (plain_inst c.index-insts-at.result) h c.in_default.ensures.misfit c.loop-at.invariant.fit in
    rw c.fault.ensures (inl f, c.loop-at.invariant.word)

pub refused-requires-clause-dead : goal.refused-requires-clause-dead
refused-requires-clause-dead c =
    let k = c.in-Some.ensures.class in
    let u = class_known c.args.profile c.index-insts-at.result.opcode c.in-Some.ensures.fits.known in
    let e : next_of c.loop-at.state (class_under c.args.profile c.index-insts-at.result.opcode) ≡ None = rw (u, ← k) (sym c.in_default-next_seen.ensures) in
    dead_take c.args.profile c.args.insts.now c.loop-at.at c.index-insts-at.result c.loop-at.state c.loop-at-test.true c.index-insts-at.is e c.loop-at.invariant.leads

pub overflow_cast-at : goal.overflow_cast-at
overflow_cast-at c =
    let s = short_list (map plain_inst c.args.insts.now) in
    let l = length-map c.args.insts.now plain_inst in
    let q = c.requires.words in
    omega arith

pub words_of-word-requires-clause-words : goal.words_of-word-requires-clause-words
words_of-word-requires-clause-words c =
    let b = sum_bound word_count plain_inst c.args.insts.now c.loop-at.at c.index-insts-at.result c.loop-at-test.true in
    let b' = rw (← c.index-insts-at.is) at b in
    let q = c.requires.words in
    omega arith

pub overflow_add-word : goal.overflow_add-word
overflow_add-word c =
    let b = sum_bound word_count plain_inst c.args.insts.now c.loop-at.at c.index-insts-at.result c.loop-at-test.true in
    let b' = rw (← c.index-insts-at.is) at b in
    let q = c.requires.words in
    let w = c.loop-at.invariant.word in
    let e = c.words_of-word.ensures in
    omega arith

pub loop-at-preserved : goal.loop-at-preserved
loop-at-preserved c =
    let is = map plain_inst c.args.insts.now in
    let n = c.loop-at.at in
    let s = short_list is in
    let l = length-map c.args.insts.now plain_inst in
    let q = c.requires.words in
    let h : n < length is = omega arith in
    let m : n < no_number = omega arith in
    let same = c.in-Some.ensures.class in
    let t = class_there c.args.insts.now n c.index-insts-at.result c.loop-at-test.true c.index-insts-at.is in
    let k : slice_get (classes is) n ≡ Some c.in-Some.row.now.class = rw same t in
    let e : next_of c.loop-at.state (seen c.args.profile c.in-Some.row.now.class) ≡ Some c.in-Some-next_seen.after = sym c.in-Some-next_seen.ensures in
    let u = class_known c.args.profile c.index-insts-at.result.opcode c.in-Some.ensures.fits.known in
    let e' : next_of c.loop-at.state (class_under c.args.profile c.index-insts-at.result.opcode) ≡ Some c.in-Some-next_seen.after = rw (u, ← same) e in
    let stands = stands_at is n c.loop-at.state c.in-Some.row.now.class c.loop-at.spans h m k c.loop-at.invariant.follows in
    let w = sum_more word_count plain_inst c.args.insts.now n c.index-insts-at.result c.loop-at-test.true in
    let w' = rw (← c.index-insts-at.is) at w in
    record {
      fit = fit_more c.args.profile c.args.kinds.now is n (plain_inst c.index-insts-at.result) (inst_there c.args.insts.now n c.index-insts-at.result c.loop-at-test.true c.index-insts-at.is) c.in-Some.ensures.fits c.loop-at.invariant.fit;
      leads = leads_take c.args.profile c.args.insts.now n c.index-insts-at.result c.loop-at.state c.in-Some-next_seen.after c.loop-at-test.true c.index-insts-at.is e' c.loop-at.invariant.leads;
      follows = rw (c.leave.ensures, c.enter.ensures) (follows_on c.args.profile is n c.loop-at.state c.in-Some-next_seen.after c.in-Some.row.now.class c.loop-at.spans e h m k c.loop-at.invariant.follows);
      kept = λ early begun.
          let before = c.loop-at.invariant.kept early begun in
          let count = begun.count in
          let first : length early ≡ c.args.count = omega (arith, count) in
          let z = unsectioned c.args.profile is c.args.count n c.loop-at.state c.in-Some-next_seen.after c.in-Some.row.now.class c.requires.late e k
          (is_split is n c.args.count c.loop-at.state early c.loop-at.late.items first before) in
          keeps c.args.profile is n c.loop-at.state c.in-Some-next_seen.after c.in-Some.row.now.class c.enter.new.self c.loop-at.word early early c.loop-at.late.items c.push_reserved.new.self.items e
          (rw z refl) (rw z c.push_reserved.ensures.items) k c.loop-at.invariant.word (rw c.enter.ensures stands) before;
      size = let a = c.loop-at.invariant.size in let p = c.push_reserved.ensures.len in omega arith;
      room = let a = c.loop-at.invariant.room in let p = c.push_reserved.ensures.capacity in omega arith;
      word = let a = c.loop-at.invariant.word in let b = c.words_of-word.ensures in omega arith;
    }

pub returns-clause-reached : goal.returns-clause-reached
returns-clause-reached c =
    let n : c.loop-at.at ≡ length c.args.insts.now = omega arith in
    record {
      fit = rw n at c.loop-at.invariant.fit;
      leads = rw n at c.loop-at.invariant.leads;
      follows = rw n at c.loop-at.invariant.follows;
      word = rw n at c.loop-at.invariant.word;
    }

pub returns-clause-kept : goal.returns-clause-kept
returns-clause-kept c =
    let n : c.loop-at.at ≡ length c.args.insts.now = omega arith in
    λ early k. rw n at (c.loop-at.invariant.kept early k)
