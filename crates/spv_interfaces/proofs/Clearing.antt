-- Words from which bits are taken.
use Rattle.std.proofs.Common.{◌≡◌, ◌<◌, ◌≤◌, ◌+◌, ◌∙◌, ◌⊎◌, ◌↔◌, inl, inr, ℕ, List, Some, None, refl, sym, subst}
use Rattle.std.proofs.Common.{arith, length, get_or-set_same, get_or-set_other}
use Rattle.std.specs.Prelude.{slice_get, slice_set}
use Rattle.std.proofs.Math.ListN.{length-set}
use Rattle.std.proofs.lemmas.Bool.{cases_lt}
use Rattle.std.proofs.lemmas.List.{get_or_past}
use Rattle.std.proofs.lemmas.Option.{same_Some, slice_get_within}
use Rattle.spv_module.specs.Operand.{Id, Plain, PlainInst}
use Rattle.spv_ids.specs.Definition.{IsDefinedAt}
use Rattle.spv_ids.specs.Outcome.{IsOnly}
use Rattle.spv_flow.specs.declared.calls.graph.Call.{Call}
use Rattle.spv_flow.specs.calls.Chain.{Chain, alone, more}
use Rattle.spv_flow.specs.calls.inner.Graph.{HasCall}
use Rattle.spv_interfaces.specs.Interface.{faced_by}
use Rattle.spv_interfaces.specs.inner.Cleared.{AreBlank, Clears, IsCalled, IsCalledBefore, IsOfOne, IsOfOneBefore}
use Rattle.spv_interfaces.specs.inner.Entries.{Begins, IsEntered, Names, NamesBefore, NamesIn}
use Rattle.spv_interfaces.specs.inner.Marks.{Grows, IsMarked, word_of}
use Rattle.spv_interfaces.proofs.Bits.{none_of_zero}
use Rattle.spv_interfaces.proofs.Entering.{entry_here, no_entry, same_entry}
use Rattle.spv_interfaces.proofs.Marking.{moved, split}
use Rattle.spv_interfaces.proofs.Naming.{names_back, names_kept, names_split}

-- A word that is cleared; none is.
pub clears_set : (words : List ℕ) (number : ℕ) → number < length words
    → Clears (λ f. f ≡ number) words (slice_set words number 0)
clears_set words number l = record {
  count = length-set words number 0;
  each = λ f k h. elim (split f number) [
    | inl same ↦
        let e : word_of (slice_set words number 0) f ≡ 0 = rw same (get_or-set_same words number 0 0 l) in
        absurd (none_of_zero k (moved (word_of (slice_set words number 0) f) 0 k e h))
    | inr apart ↦
        let e : word_of (slice_set words number 0) f ≡ word_of words f = get_or-set_other words number f 0 0 apart in
        (moved (word_of (slice_set words number 0) f) (word_of words f) k e h, apart)
  ];
}

-- a word past the last has no bit
past_word : (words : List ℕ) (f : ℕ) → length words ≤ f → word_of words f ≡ 0
past_word words f l = get_or_past words f 0 l

pub clears_past : (words : List ℕ) (number : ℕ) → length words ≤ number → Clears (λ f. f ≡ number) words words
clears_past words number l = record {
  count = refl;
  each = λ f k h. (
    h,
    λ e. none_of_zero k (moved (word_of words f) 0 k (past_word words f (omega (arith, l, e))) h),
  );
}

pub clears_same : (P Q : ℕ → Type 0) (old new : List ℕ) → ((f : ℕ) → Q f → P f) → Clears P old new
    → Clears Q old new
clears_same P Q old new back c = record {
  count = c.count;
  each = λ f k h. let r = c.each f k h in (r.0, λ q. r.1 (back f q));
}

pub clears_not : (P : ℕ → Type 0) (words : List ℕ) → ((f : ℕ) → ¬ (P f)) → Clears P words words
clears_not P words never = record { count = refl; each = λ f k h. (h, never f) }

pub clears_both : (P Q R : ℕ → Type 0) (a b c : List ℕ) → ((f : ℕ) → R f → P f ⊎ Q f) → Clears P a b
    → Clears Q b c → Clears R a c
clears_both P Q R a b c back p q = record {
  count = q.count ∙ p.count;
  each = λ f k h.
      let s = q.each f k h in
      let t = p.each f k s.0 in
      (t.0, λ r. elim (back f r) [ inl x ↦ t.1 x | inr y ↦ s.1 y ]);
}

-- The calls, one after another.
pub calls_none : (calls : List Call) (words : List ℕ) → Clears (IsCalledBefore calls 0) words words
calls_none calls words =
    clears_not (IsCalledBefore calls 0) words (λ f h. let l = h.below in absurd (omega (arith, l)))

pub calls_more : (calls : List Call) (i : ℕ) (c : Call) (first old new : List ℕ) → slice_get calls i ≡ Some c
    → Clears (IsCalledBefore calls i) first old → Clears (λ f. f ≡ c.callee) old new
    → Clears (IsCalledBefore calls (i + 1)) first new
calls_more calls i c first old new at p q =
    clears_both (IsCalledBefore calls i) (λ f. f ≡ c.callee) (IsCalledBefore calls (i + 1)) first old new
    (λ f h. elim (cases_lt h.place i) [
      | inl less ↦
          inl (record { place = h.place; below = less; call = h.call; there = h.there; callee = h.callee })
      | inr last ↦
          let l = h.below in
          let e : h.place ≡ i = omega (arith, l, last) in
          let s = same_Some h.call c
          (sym (subst (λ (j : ℕ). slice_get calls j ≡ Some h.call) e h.there) ∙ at) in
          let g : c.callee ≡ f = subst (λ (d : Call). d.callee ≡ f) s h.callee in
          inr (sym g)
    ]) p q

-- What defines an id.
pub clears_defined : (is : List PlainInst) (x n : ℕ) (old new : List ℕ) → IsOnly is x n
    → Clears (λ f. f ≡ n) old new → Clears (IsDefinedAt is x) old new
clears_defined is x n old new o c =
    clears_same (λ f. f ≡ n) (IsDefinedAt is x) old new (λ f d. o.only f d) c

-- The operands of an interface, one after another.
pub names_none : (is : List PlainInst) (os : List Plain) (words : List ℕ) → Clears (NamesBefore is os 0) words words
names_none is os words = clears_not (NamesBefore is os 0) words (λ v n. let l = n.below in absurd (omega (arith, l)))

pub names_more : (is : List PlainInst) (os : List Plain) (i x : ℕ) (a b c : List ℕ) → slice_get os i ≡ Some (Id x)
    → Clears (NamesBefore is os i) a b → Clears (IsDefinedAt is x) b c → Clears (NamesBefore is os (i + 1)) a c
names_more is os i x a b c at p q =
    clears_both (NamesBefore is os i) (IsDefinedAt is x) (NamesBefore is os (i + 1)) a b c
    (λ v n. names_split is os i x v at n) p q

pub names_past : (is : List PlainInst) (os : List Plain) (i : ℕ) (a b : List ℕ)
    → ((x : ℕ) → slice_get os i ≡ Some (Id x) → ⊥) → Clears (NamesBefore is os i) a b
    → Clears (NamesBefore is os (i + 1)) a b
names_past is os i a b none p = clears_same (NamesBefore is os i) (NamesBefore is os (i + 1)) a b
    (λ v n. names_kept is os i v none n) p

pub names_all : (is : List PlainInst) (os : List Plain) (n : ℕ) (a b : List ℕ) → length os ≤ n
    → Clears (NamesBefore is os n) a b → Clears (NamesIn is os) a b
names_all is os n a b l p =
    clears_same (NamesBefore is os n) (NamesIn is os) a b (λ v h. names_back is os n v l h) p

-- An entry point.
pub begins_by : (is : List PlainInst) (n f : ℕ) (os : List Plain) (i : PlainInst) (a b : List ℕ)
    → slice_get is n ≡ Some i → Some (f, os) ≡ faced_by i → Clears (IsDefinedAt is f) a b → Clears (Begins is n) a b
begins_by is n f os i a b at e p =
    let entry = entry_here is n f os i at e in
    clears_same (IsDefinedAt is f) (Begins is n) a b
    (λ g h.
    let s = (same_entry is n h.function f h.interface os h.entry entry).0 in
    subst (λ (x : ℕ). IsDefinedAt is x g) s h.defined) p

pub names_by : (is : List PlainInst) (n f : ℕ) (os : List Plain) (i : PlainInst) (a b : List ℕ)
    → slice_get is n ≡ Some i → Some (f, os) ≡ faced_by i → Clears (NamesIn is os) a b → Clears (Names is n) a b
names_by is n f os i a b at e p =
    let entry = entry_here is n f os i at e in
    clears_same (NamesIn is os) (Names is n) a b
    (λ g h.
    let s = (same_entry is n h.function f h.interface os h.entry entry).1 in
    subst (λ (ps : List Plain). NamesIn is ps g) s h.names) p

pub begins_not : (is : List PlainInst) (n : ℕ) (i : PlainInst) (a : List ℕ) → slice_get is n ≡ Some i
    → faced_by i ≡ None → Clears (Begins is n) a a
begins_not is n i a at e = clears_not (Begins is n) a (λ f h. no_entry is n i at e h.function h.interface h.entry)

pub names_not : (is : List PlainInst) (n : ℕ) (i : PlainInst) (a : List ℕ) → slice_get is n ≡ Some i
    → faced_by i ≡ None → Clears (Names is n) a a
names_not is n i a at e = clears_not (Names is n) a (λ f h. no_entry is n i at e h.function h.interface h.entry)

-- Entry points, one after another.
pub ones_none : (R : ℕ → ℕ → Type 0) (few words : List ℕ) → Clears (IsOfOneBefore R few 0) words words
ones_none R few words =
    clears_not (IsOfOneBefore R few 0) words (λ f h. let l = h.below in absurd (omega (arith, l)))

pub ones_more : (R : ℕ → ℕ → Type 0) (few : List ℕ) (i n : ℕ) (first old new : List ℕ) → slice_get few i ≡ Some n
    → Clears (IsOfOneBefore R few i) first old → Clears (R n) old new
    → Clears (IsOfOneBefore R few (i + 1)) first new
ones_more R few i n first old new at p q =
    clears_both (IsOfOneBefore R few i) (R n) (IsOfOneBefore R few (i + 1)) first old new
    (λ f h. elim (cases_lt h.place i) [
      | inl less ↦
          inl (record { place = h.place; below = less; number = h.number; there = h.there; so = h.so })
      | inr last ↦
          let l = h.below in
          let e : h.place ≡ i = omega (arith, l, last) in
          let s = same_Some h.number n
          (sym (subst (λ (j : ℕ). slice_get few j ≡ Some h.number) e h.there) ∙ at) in
          inr (subst (λ (m : ℕ). R m f) s h.so)
    ]) p q

-- No bit is left.
pub reached_blank : (is : List PlainInst) (few : List ℕ) (calls : List Call) (first reached mid last : List ℕ)
    → ((f k : ℕ) → IsMarked first f k ↔ IsEntered (Begins is) few (length few) f k) → Grows calls first reached
    → Clears (IsCalled calls) reached mid → Clears (IsOfOne (Begins is) few) mid last → AreBlank last
reached_blank is few calls first reached mid last begun grows p q = record {
  each = λ f k h.
      let s = q.each f k h in
      let t = p.each f k s.0 in
      let g = grows.sound f k t.0 in
      by_chain g.0 f k g.1 g.2 s.1 t.1;
} where
  by_chain : (e f k : ℕ) → IsMarked first e k → Chain (HasCall calls) e f → ¬ (IsOfOne (Begins is) few f)
      → ¬ (IsCalled calls f) → ⊥
  by_chain e _ k m alone one call =
      let b = (begun e k).0 m in
      one (record {
        place = k;
        below = slice_get_within few k b.entry b.there;
        number = b.entry;
        there = b.there;
        so = b.so;
      })
  by_chain e _ k m (more g h c s) one call = call (record {
    place = s.place;
    below = slice_get_within calls s.place s.call s.there;
    call = s.call;
    there = s.there;
    callee = s.to;
  })

pub named_blank : (is : List PlainInst) (few named last : List ℕ)
    → ((v k : ℕ) → IsMarked named v k ↔ IsEntered (Names is) few (length few) v k)
    → Clears (IsOfOne (Names is) few) named last → AreBlank last
named_blank is few named last names q = record {
  each = λ v k h.
      let s = q.each v k h in
      let b = (names v k).0 s.0 in
      s.1 (record {
        place = k;
        below = slice_get_within few k b.entry b.there;
        number = b.entry;
        there = b.there;
        so = b.so;
      });
}
