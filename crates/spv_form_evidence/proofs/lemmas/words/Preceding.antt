-- The instructions before one.
use Rattle.std.proofs.Common.{◌≡◌, ◌≢◌, ◌++◌, ◌+◌, ◌-◌, ◌≤◌, ◌<◌, ◌∙◌, ℕ, List, [], ◌∷◌, length, drop}
use Rattle.std.proofs.Common.{refl, sym, ap, arith, append_assoc, append-nil, length-append, length-drop}
use Rattle.std.proofs.lemmas.List.{drop-drop, take-append-drop}
use Rattle.spv_table.specs.Table.{Table}
use Rattle.spv_module.specs.Operand.{PlainInst}
use Rattle.spv_module.specs.Instruction.{IsInstruction, Listing}
use Rattle.spv_module.specs.Malformed.{IsMalformed, FailsAt, IsMalformedAt}
use Rattle.spv_module.specs.declared.fault.Rule.{Rule}
use Rattle.spv_inst.specs.declared.definitions.Definitions.{Definitions}
use Rattle.spv_inst.specs.inner.Known.{Knows}
use Rattle.spv_inst.specs.inner.Reading.{between}
use Rattle.spv_inst.proofs.Lists.{instruction_nonempty, dies_same, dies_not}
use Rattle.spv_inst.proofs.Turns.{length-between}
use Rattle.spv_evidence.specs.declared.evidence.Evidence.{Evidence}
use Rattle.spv_form_evidence.specs.words.Evidence.{Shows, IsEvidence}
use Rattle.spv_form_evidence.specs.words.inner.Before.{IsBefore}
use Rattle.spv_form_evidence.proofs.lemmas.words.Sufficing.{listed_dies, listing_more, dead_there, DeadThere}

some_length : (ws : List ℕ) → ws ≢ [] → 0 < length ws
some_length [] h = absurd (h refl)
some_length (w ∷ ws) h = omega arith

dies_some : (G : Table) (b : List PlainInst) (ws : List ℕ) (a : Rule) (k n : ℕ) → FailsAt G b ws a k n → ws ≢ []
dies_some G _ _ _ _ _ (FailsAt.here b _ _ _ (IsMalformed.no_count p us h)) e = cc
dies_some G _ _ _ _ _ (FailsAt.here b _ _ _ (IsMalformed.past_end c p us h l)) e = cc
dies_some G _ _ _ _ _ (FailsAt.here b _ _ _ (IsMalformed.no_entry p us vs h x)) e = cc
dies_some G _ _ _ _ _ (FailsAt.here b _ _ _ (IsMalformed.misfit p us vs z a m h x f)) e = cc
dies_some G _ _ _ _ _ (FailsAt.later b i ws vs a k n h d) e = instruction_nonempty G b i ws vs h e

-- before the first one
pub before_first : (G : Table) (words : List ℕ) (d : Definitions) (a : Rule) (k n : ℕ) → Knows d []
    → IsMalformedAt G (drop 5 words) a k n → IsBefore G words 0 5 d
before_first G words d a k n known dead =
    let s = some_length (drop 5 words) (dies_some G [] (drop 5 words) a k n dead) in
    let l = length-drop 5 words in
    record {
      insts = [];
      front = [];
      all = refl;
      place = refl;
      upto = omega (arith, s, l);
      spelled = Listing.end [];
      count = refl;
      knows = known;
    }

-- a dead instruction that comes later leaves words
at_some : (G : Table) (words insts-front left : List ℕ) (insts : List PlainInst) (at : ℕ) (a : Rule) (k n : ℕ)
    → drop 5 words ≡ insts-front ++ left → Listing G [] insts insts-front
    → IsMalformedAt G (drop 5 words) a k n → left ≢ []
at_some G words front left insts at a k n all spelled dead e =
    let same : drop 5 words ≡ front = all ∙ (ap (λ zs. front ++ zs) e ∙ append-nil front) in
    dies_not G [] insts (drop 5 words) front a k n dead spelled same

pub before_within : (G : Table) (words : List ℕ) (number at : ℕ) (d : Definitions) (a : Rule) (k n : ℕ)
    → IsBefore G words number at d → IsMalformedAt G (drop 5 words) a k n → at < length words
before_within G words number at d a k n b dead =
    let s = some_length (drop at words) (at_some G words b.front (drop at words) b.insts at a k n b.all b.spelled
    dead) in
    let u = b.upto in
    let l = length-drop at words in
    omega (arith, s, u, l)

-- and is not dead before it
pub before_alive : (G : Table) (words : List ℕ) (number at : ℕ) (d : Definitions) (a c : Rule) (k n m : ℕ) (b :
    IsBefore G words number at d) → IsMalformedAt G (drop 5 words) a k n → number < k
    → IsMalformed G b.insts (drop at words) c m → ⊥
before_alive G words number at d a c k n m b dead less here =
    let r = dies_same G [] (drop 5 words) (drop 5 words) c a (length b.insts) k (length b.front + m) n (listed_dies G
    (drop 5 words) b.insts b.front (drop at words) c m b.all b.spelled here) dead refl in
    let i = r.inst in
    let j = b.count in
    absurd (omega (arith, i, j, less))

-- one more
left_is : (words : List ℕ) (at end : ℕ) → at ≤ end → drop at words ≡ between words at end ++ drop end words
left_is words at end h =
    let e : at + (end - at) ≡ end = omega (arith, h) in
    let d : drop (end - at) (drop at words) ≡ drop end words = rw e at (drop-drop (end - at) at words) in
    rw (← d) (sym (take-append-drop (end - at) (drop at words)))

pub before_next : (G : Table) (words : List ℕ) (number at end : ℕ) (d e : Definitions) (i : PlainInst)
    → IsBefore G words number at d → at < end → end ≤ length words
    → ((before : List PlainInst) → Knows d before → IsInstruction G before i (between words at end))
    → ((before : List PlainInst) → Knows d before → Knows e (before ++ i ∷ [])) → IsBefore G words (number + 1) end e
before_next G words number at end d e i b h l reads knows =
    let us = between words at end in
    let p = b.place in
    let c = b.count in
    let n = length-append b.front us in
    let m = length-between words at end l in
    let o = length-append b.insts (i ∷ []) in
    let q : at ≤ end = omega (arith, h) in
    record {
      insts = b.insts ++ i ∷ [];
      front = b.front ++ us;
      all = b.all ∙ (ap (λ zs. b.front ++ zs) (left_is words at end q) ∙ sym (append_assoc b.front us (drop end
          words)));
      place = omega (arith, p, n, m, h);
      upto = l;
      spelled = listing_more G [] b.insts b.front b.spelled i us (reads b.insts b.knows);
      count = omega (arith, c, o);
      knows = knows b.insts b.knows;
    }

-- the dead instruction itself
pub before_dead : (G : Table) (words : List ℕ) (number at : ℕ) (d : Definitions) (a : Rule) (n : ℕ) (b : IsBefore G
    words number at d) → IsMalformedAt G (drop 5 words) a number n
    → DeadThere G b.insts (drop at words) a (length b.front) n
before_dead G words number at d a n b dead = dead_there G [] b.insts b.front b.spelled (drop 5 words) (drop at words)
    a number n dead b.all (sym b.count)

pub before_shows : (G : Table) (words : List ℕ) (number at : ℕ) (d : Definitions) (a : Rule) (n : ℕ) (e : Evidence) (b
    : IsBefore G words number at d)
    → (t : DeadThere G b.insts (drop at words) a (length b.front) n) → Shows G b.insts (drop at words) a t.place e
    → IsEvidence G (drop 5 words) a number n e
before_shows G words number at d a n e b t s = record {
  before = b.insts;
  front = b.front;
  left = drop at words;
  place = t.place;
  all = b.all;
  spelled = b.spelled;
  number = b.count;
  at = sym t.at;
  shows = s;
}
