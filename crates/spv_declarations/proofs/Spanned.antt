-- Where the instructions stand that rules look at.
use Rattle.std.proofs.Common.{◌≡◌, ◌+◌, ◌<◌, ◌≤◌, inl, inr, ℕ, true, refl, subst, arith, List, [], Option, Some, None}
use Rattle.std.proofs.Common.{nat_eq}
use Rattle.std.specs.Prelude.{slice_get}
use Rattle.std.specs.BTreeSet.{BTreeSet}
use Rattle.std.proofs.lemmas.Bool.{cases_lt, eqb-true}
use Rattle.spv_module.specs.declared.opcode.TheConstants as opcode
use Rattle.spv_module.specs.Operand.{PlainInst}
use Rattle.spv_capabilities.specs.Entry.{entered_by, second_id}
use Rattle.spv_declarations.specs.Decorated.{IsLinkedEntry, IsMisplaced}
use Rattle.spv_declarations.specs.declared.spans.Spans.{Spans}
use Rattle.spv_declarations.specs.inner.Early.{AreEarly, is_early}
use Rattle.spv_declarations.specs.inner.First.{IsFirstBelow}
use Rattle.spv_declarations.specs.inner.Kinds.{Enters}
use Rattle.spv_declarations.specs.inner.Said.{HasAt, ImportsBy}
use Rattle.spv_declarations.specs.inner.Sets.{Gathers, HasAll}
use Rattle.spv_declarations.specs.inner.Spans.{Says, SaysAt, AreSpans, Widens}
use Rattle.spv_declarations.proofs.Gathered.{none_in, one_inst, said_all}
use Rattle.spv_declarations.proofs.Saying.{gated, imports_give, target_group}
use Rattle.spv_declarations.proofs.Stated.{has_place, member_place}
use Rattle.spv_declarations.proofs.Without.{has_says, member_says, says}

pub spans_none : (is : List PlainInst) (s : Spans) → s.from ≡ 0 → s.to ≡ 0 → s.entries ≡ 0 → AreSpans is 0 s
spans_none is s a b c = record {
  says = λ m i l at h. absurd (omega (arith, l));
  enters = λ m i l at h. absurd (omega (arith, l));
  within = (omega (arith, a), omega (arith, b), omega (arith, c));
}

pub spans_more : (is : List PlainInst) (n : ℕ) (i : PlainInst) (old new : Spans) → slice_get is n ≡ Some i
    → Widens n old new i → AreSpans is n old → AreSpans is (n + 1) new
spans_more is n i old new at w a = record {
  says = λ m j l there h. elim (cases_lt m n) [
    | inl k ↦ let s = a.says m j k there h in w.there m k s.0 s.1
    | inr g ↦
        let q : m ≡ n = omega (arith, l, g) in
        let e = one_inst is n j i (subst (λ (k : ℕ). slice_get is k ≡ Some j) q there) at in
        let t = w.here a.within.0 (subst Says e h) in (rw q t.0, rw q t.1)
  ];
  enters = λ m j l there h. elim (cases_lt m n) [
    | inl k ↦ w.entered m k (a.enters m j k there h)
    | inr g ↦
        let q : m ≡ n = omega (arith, l, g) in
        let e = one_inst is n j i (subst (λ (k : ℕ). slice_get is k ≡ Some j) q there) at in
        rw q (w.enters (subst Enters e h))
  ];
  within = w.within a.within.0 a.within.1 a.within.2;
}

-- an instruction of no such kind
pub kept : (n : ℕ) (s : Spans) (i : PlainInst) → (Says i → ⊥) → (Enters i → ⊥) → Widens n s s i
kept n s i p q = record {
  here = λ l h. absurd (p h);
  there = λ m l a b. (a, b);
  enters = λ e. absurd (q e);
  entered = λ m l a. a;
  within = λ a b c. (omega (arith, a), omega (arith, b), omega (arith, c));
}

-- Where rules are broken that speak of what is said of ids and members.
pub misplaced_at : (is : List PlainInst) (n : ℕ) → IsMisplaced is n → SaysAt is n
misplaced_at is n (IsMisplaced.with_id i at o h) = (i, at, says i opcode.DECORATE o refl)
misplaced_at is n (IsMisplaced.on_id x d h m) =
    let t = has_place is d x n h in (t.0, t.1, has_says is d x t.0 t.2)
misplaced_at is n (IsMisplaced.on_member t k d h m) =
    let s = member_place is t k d n h in (s.0, s.1, member_says is t k d s.0 s.2)

pub linked_at : (is : List PlainInst) (n : ℕ) → IsLinkedEntry is n → SaysAt is n
linked_at is n r = let t = has_place is 41 r.0 n r.2 in (t.0, t.1, has_says is 41 r.0 t.0 t.2)

-- none before the span, and none behind it
pub none_before : (is : List PlainInst) (count : ℕ) (s : Spans) (P : ℕ → Type 0) → AreSpans is count s
    → ((n : ℕ) → P n → SaysAt is n) → (n : ℕ) → n < s.from → ¬ (P n)
none_before is count s P a f n l p =
    let h = f n p in
    let w = a.within.0 in
    let q = (a.says n h.0 (omega (arith, l, w)) h.1 h.2).0 in
    omega (arith, l, q)

pub none_behind : (is : List PlainInst) (count to : ℕ) (s : Spans) (P : ℕ → Type 0) → AreSpans is count s
    → ((n : ℕ) → P n → SaysAt is n) → s.to ≤ to → ((n : ℕ) → n < to → ¬ (P n)) → IsFirstBelow count P None
none_behind is count to s P a f le h n l p =
    let i = f n p in
    let q = (a.says n i.0 l i.1 i.2).1 in
    h n (omega (arith, le, q)) p

-- all that OpEntryPoints say
pub entered_enters : (i : PlainInst) (x : ℕ) → entered_by i ≡ Some x → Enters i
entered_enters i x e =
    eqb-true i.opcode opcode.ENTRY_POINT (gated (nat_eq i.opcode opcode.ENTRY_POINT) (second_id i.operands) x e)

pub entries_all : (is : List PlainInst) (Names : PlainInst → ℕ → Type 0) (count to : ℕ) (s : Spans) (set : BTreeSet ℕ)
    → AreEarly is count → AreSpans is count s → ((i : PlainInst) (x : ℕ) → Names i x → is_early i.opcode ≡ true)
    → ((i : PlainInst) (x : ℕ) → Names i x → Enters i) → s.entries ≤ to → Gathers to is Names set
    → HasAll is Names set
entries_all is Names count to s set early a f g le h x = (
  λ t. said_all is (λ i. Names i x) to ((h x).0 t),
  λ b.
      let l = a.enters b.0 b.1 (early.each b.0 b.1 b.2 (f b.1 x b.3)) b.2 (g b.1 x b.3) in
      (h x).1 (b.0, b.1, omega (arith, l, le), b.2, b.3),
)

-- All that is said of ids, gathered in the span.
pub gathers_before : (is : List PlainInst) (Names : PlainInst → ℕ → Type 0) (count : ℕ) (s : Spans) (set : BTreeSet ℕ)
    → AreSpans is count s → ((i : PlainInst) (x : ℕ) → Names i x → Says i) → set.keys ≡ [] → Gathers s.from is Names set
gathers_before is Names count s set a f e x = (
  λ t. absurd (none_in set x e t),
  λ b.
      let l = b.2 in
      let w = a.within.0 in
      let q = (a.says b.0 b.1 (omega (arith, l, w)) b.3 (f b.1 x b.4)).0 in
      absurd (omega (arith, l, q)),
)

pub gathers_span : (is : List PlainInst) (Names : PlainInst → ℕ → Type 0) (count to : ℕ) (s : Spans) (set : BTreeSet ℕ)
    → AreEarly is count → AreSpans is count s → ((i : PlainInst) (x : ℕ) → Names i x → is_early i.opcode ≡ true)
    → ((i : PlainInst) (x : ℕ) → Names i x → Says i) → s.to ≤ to → Gathers to is Names set → HasAll is Names set
gathers_span is Names count to s set early a f g le h x = (
  λ t. said_all is (λ i. Names i x) to ((h x).0 t),
  λ b.
      let l = (a.says b.0 b.1 (early.each b.0 b.1 b.2 (f b.1 x b.3)) b.2 (g b.1 x b.3)).1 in
      (h x).1 (b.0, b.1, omega (arith, l, le), b.2, b.3),
)

pub import_says : (is : List PlainInst) (l : Option ℕ) (x : ℕ) (i : PlainInst) → HasAt is (ImportsBy l) x i → Says i
import_says is l x i (HasAt.own s g) = has_says is 41 x i (HasAt.own (imports_give l i x s) g)
import_says is l x i (HasAt.by_group g t s) = says i opcode.GROUP_DECORATE (target_group i g t.0) refl
