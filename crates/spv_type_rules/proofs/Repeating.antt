-- The types that were declared, one instruction more.
use Rattle.std.proofs.Common.{◌≡◌, ◌<◌, ◌≤◌, ◌+◌, ◌↔◌, ◌⊎◌, inl, inr, ⊎_elim, ℕ, zero, suc, List, Some, Bool, true}
use Rattle.std.proofs.Common.{false, refl, sym, ◌∙◌, subst, replicate, arith}
use Rattle.std.specs.Prelude.{slice_get, IsTrue, not, MatchBool, Vec}
use Rattle.std.specs.Global.{Global}
use Rattle.std.proofs.Math.ListN.{set}
use Rattle.std.proofs.lemmas.Bool.{cases_lt}
use Rattle.spv_module.specs.Operand.{PlainInst}
use Rattle.spv_type_rules.specs.declared.repeat.Slot.{Slot}
use Rattle.spv_type_rules.specs.Repeat.{Repeats}
use Rattle.spv_type_rules.specs.inner.Repeat.{AreAlike, is_declared_once}
use Rattle.spv_type_rules.specs.inner.Key.{key_of}
use Rattle.spv_type_rules.specs.inner.Slots.{IsFree, HoldsAlike, IsFreeAt, IsAlikeAt, IsOtherAt, IsReached, first_of}
use Rattle.spv_type_rules.specs.inner.Slots.{end_of}
use Rattle.spv_type_rules.specs.inner.Seen.{IsKeyAt, HasKey, IsAlikeBefore, IsNear, IsFar, AreKept}
use Rattle.spv_type_rules.proofs.Keys.{one_key}
use Rattle.spv_type_rules.proofs.Slots.{near_other, far_other, near_after, far_after, new_near, not_near, alike_before}
use Rattle.spv_type_rules.proofs.Slots.{free_within}

same_inst : (is : List PlainInst) (m n : ℕ) (i j : PlainInst) → m ≡ n → slice_get is m ≡ Some j
    → slice_get is n ≡ Some i → i ≡ j
same_inst is m n i j e a b = let h : slice_get is n ≡ Some j = rw (← e) a in let k : Some i ≡ Some j = sym b ∙ h in cc

untrue : (b : Bool) → b ≡ false → IsTrue b → ⊥
untrue true e y = let no : true ≡ false = e in cc
untrue false e y = let no : false ≡ true = y in cc

later : (is : List PlainInst) (n : ℕ) (i : PlainInst) → IsAlikeBefore is n i → IsAlikeBefore is (n + 1) i
later is n i h = record {
  place = h.place;
  earlier = (let l = h.earlier in omega arith);
  other = h.other;
  there = h.there;
  alike = h.alike;
}

later_key : (is : List PlainInst) (n : ℕ) (k : List ℕ) → (m : ℕ) × (m < n) × IsKeyAt is m k
    → (m : ℕ) × (m < n + 1) × IsKeyAt is m k
later_key is n k h = (h.0, let l = h.1 in omega arith, h.2)

-- of each instruction before the next one: it is before this one, or this one
one_more : (is : List PlainInst) (n : ℕ) (i : PlainInst) (P : PlainInst → Type 0) → slice_get is n ≡ Some i → P i
    → ((m : ℕ) (j : PlainInst) → m < n → slice_get is m ≡ Some j → IsTrue (is_declared_once j.opcode) → P j)
    → (m : ℕ) (j : PlainInst) → m < n + 1 → slice_get is m ≡ Some j → IsTrue (is_declared_once j.opcode) → P j
one_more is n i P at here before m j l there once =
    ⊎_elim
    (λ (b : m < n). before m j b there once)
    (λ (b : n ≤ m).
    let e : m ≡ n = omega arith in
    let same : i ≡ j = same_inst is m n i j e there at in
    subst P same here)
    (cases_lt m n)

pub not_once : (is : List PlainInst) (n : ℕ) (i : PlainInst) (slots : List Slot) (others : List (Vec ℕ Global))
    → slice_get is n ≡ Some i → is_declared_once i.opcode ≡ false → AreKept is n slots others
    → AreKept is (n + 1) slots others
not_once is n i slots others at other s = record {
  near = λ p j h. later is n j (s.near p j h);
  far = λ k h. later_key is n k (s.far k h);
  each = λ m j l there once.
      ⊎_elim
      (λ (b : m < n). s.each m j b there once)
      (λ (b : n ≤ m).
      let e : m ≡ n = omega arith in
      let same : i ≡ j = same_inst is m n i j e there at in
      absurd (untrue (is_declared_once i.opcode) other (rw same once)))
      (cases_lt m n);
}

-- an earlier one that is alike was kept, near or far
kept_before : (is : List PlainInst) (n : ℕ) (i : PlainInst) (slots : List Slot) (others : List (Vec ℕ Global))
    → is_declared_once i.opcode ≡ true → AreKept is n slots others → Repeats is n i
    → IsNear slots i ⊎ IsFar slots others i
kept_before is n i slots others once s r =
    ⊎_elim
    (λ (h : IsNear slots r.other). inl (near_other slots i r.other r.alike h))
    (λ (h : IsFar slots others r.other). inr (far_other slots others i r.other r.alike h))
    (s.each r.place r.other r.earlier r.there (rw (← r.alike.0) once))

-- a slot holds one that is alike
pub taken_told : (is : List PlainInst) (n : ℕ) (i : PlainInst) (slots : List Slot) (others : List (Vec ℕ Global))
    (p : ℕ) → is_declared_once i.opcode ≡ true → IsAlikeAt slots i p → AreKept is n slots others
    → IsTrue true ↔ Repeats is n i
taken_told is n i slots others p once h s = (
  λ y.
      let b = s.near p i h in
      record { once = once; place = b.place; earlier = b.earlier; other = b.other; there = b.there; alike = b.alike },
  λ r. refl,
)

pub taken_seen : (is : List PlainInst) (n : ℕ) (i : PlainInst) (slots : List Slot) (others : List (Vec ℕ Global))
    (p : ℕ) → slice_get is n ≡ Some i → IsReached slots i p → IsAlikeAt slots i p → AreKept is n slots others
    → AreKept is (n + 1) slots others
taken_seen is n i slots others p at r h s = record {
  near = λ q j a. later is n j (s.near q j a);
  far = λ k a. later_key is n k (s.far k a);
  each = one_more is n i (λ j. IsNear slots j ⊎ IsFar slots others j) at
      (inl (record { place = p; from = r.from; below = r.below; full = λ q a b. (r.others q a b).0; alike = h }))
      s.each;
}

-- a slot is free
pub free_told : (is : List PlainInst) (n : ℕ) (i : PlainInst) (slots : List Slot) (others : List (Vec ℕ Global)) (p : ℕ)
    → is_declared_once i.opcode ≡ true → IsReached slots i p → IsFreeAt slots p → AreKept is n slots others
    → IsTrue false ↔ Repeats is n i
free_told is n i slots others p once r f s = (
  λ y. absurd (untrue false refl y),
  λ t.
      absurd
      (⊎_elim
      (λ (h : IsNear slots i). not_near slots (first_of slots i) (end_of slots i) p i r f h)
      (λ (h : IsFar slots others i). h.full p r.from r.below f)
      (kept_before is n i slots others once s t)),
)

pub free_seen : (is : List PlainInst) (n : ℕ) (i : PlainInst) (slots : List Slot) (others : List (Vec ℕ Global)) (p : ℕ)
    (v : Slot) → slice_get is n ≡ Some i → (IsFree v → ⊥) → HoldsAlike i v
    → ((j : PlainInst) → HoldsAlike j v → AreAlike j i) → IsReached slots i p → IsFreeAt slots p
    → AreKept is n slots others → AreKept is (n + 1) (set slots p v) others
free_seen is n i slots others p v at taken holds only r f s =
    let w = free_within slots p f in
    record {
      near = λ q j a.
          ⊎_elim
          (λ (h : HoldsAlike j v).
          let b : IsAlikeBefore is (n + 1) j = record
          { place = n; earlier = omega arith; other = i; there = at; alike = only j h } in
          b)
          (λ (h : IsAlikeAt slots j q). later is n j (s.near q j h))
          (alike_before slots p q v j w a);
      far = λ k a. later_key is n k (s.far k a);
      each = one_more is n i (λ j. IsNear (set slots p v) j ⊎ IsFar (set slots p v) others j) at
          (inl (new_near slots p v i w taken holds r)) (λ m j l there once.
          ⊎_elim
          (λ (h : IsNear slots j). inl (near_after slots p v j w f taken h))
          (λ (h : IsFar slots others j). inr (far_after slots p v others j w taken h))
          (s.each m j l there once));
    }

-- no slot is free
key_here : (is : List PlainInst) (n : ℕ) (i : PlainInst) (key : List ℕ) → slice_get is n ≡ Some i
    → is_declared_once i.opcode ≡ true → key ≡ key_of i → IsKeyAt is n key
key_here is n i key at once e = record { inst = i; there = at; once = once; key = sym e }

pub far_told : (is : List PlainInst) (n : ℕ) (i : PlainInst) (slots : List Slot) (others : List (Vec ℕ Global))
    (key : List ℕ) (added : Bool) → is_declared_once i.opcode ≡ true → key ≡ key_of i
    → ((q : ℕ) → first_of slots i ≤ q → q < end_of slots i → IsOtherAt slots i q) → AreKept is n slots others
    → MatchBool added (¬ (HasKey key others)) (HasKey key others) → IsTrue (not added) ↔ Repeats is n i
far_told is n i slots others key true once e full s h = (
  λ y. absurd (untrue false refl y),
  λ r.
      absurd
      (⊎_elim
      (λ (k : IsNear slots i). (full k.place k.from k.below).1 k.alike)
      (λ (k : IsFar slots others i). h (subst (λ (k : List ℕ). HasKey k others) (sym e) k.kept))
      (kept_before is n i slots others once s r)),
)
far_told is n i slots others key false once e full s h = (
  λ y.
      let m = s.far key h in
      record {
        once = once;
        place = m.0;
        earlier = m.1;
        other = m.2.inst;
        there = m.2.there;
        alike = one_key i m.2.inst (sym e ∙ sym m.2.key);
      },
  λ r. refl,
)

pub far_seen : (is : List PlainInst) (n : ℕ) (i : PlainInst) (slots : List Slot) (others after : List (Vec ℕ Global))
    (key : List ℕ) → slice_get is n ≡ Some i → is_declared_once i.opcode ≡ true → key ≡ key_of i
    → ((q : ℕ) → first_of slots i ≤ q → q < end_of slots i → IsOtherAt slots i q)
    → ((k : List ℕ) → HasKey k after ↔ (HasKey k others ⊎ (key ≡ k))) → AreKept is n slots others
    → AreKept is (n + 1) slots after
far_seen is n i slots others after key at once e full keys s = record {
  near = λ p j h. later is n j (s.near p j h);
  far = λ k a.
      ⊎_elim
      (λ (b : HasKey k others). later_key is n k (s.far k b))
      (λ (q : key ≡ k).
      let there : (m : ℕ) × (m < n + 1) × IsKeyAt is m k = (n, omega arith, key_here is n i k at once (sym q ∙ e)) in
      there)
      ((keys k).0 a);
  each = one_more is n i (λ j. IsNear slots j ⊎ IsFar slots after j) at
      (inr (record { full = λ q a b. (full q a b).0; kept = (keys (key_of i)).1 (inr e) })) (λ m j l there once.
      ⊎_elim
      (λ (h : IsNear slots j). inl h)
      (λ (h : IsFar slots others j).
      let far : IsFar slots after j = record { full = h.full; kept = (keys (key_of j)).1 (inl h.kept) } in
      inr far)
      (s.each m j l there once));
}

-- nothing was declared
free_all : (n p : ℕ) (v : Slot) (i : PlainInst) → (HoldsAlike i v → ⊥) → IsAlikeAt (replicate n v) i p → ⊥
free_all zero p v i none h = h
free_all (suc n) zero v i none h = none h
free_all (suc n) (suc p) v i none h = free_all n p v i none h

pub none_seen : (is : List PlainInst) (n : ℕ) (v : Slot) (slots : List Slot) (others : List (Vec ℕ Global))
    → slots ≡ replicate n v → ((i : PlainInst) → HoldsAlike i v → ⊥) → ((k : List ℕ) → HasKey k others → ⊥)
    → AreKept is 0 slots others
none_seen is n v slots others e none empty = record {
  near = λ p i h. absurd (free_all n p v i (none i) (subst (λ (l : List Slot). IsAlikeAt l i p) e h));
  far = λ k h. absurd (empty k h);
  each = λ m i l. absurd (omega arith);
}
