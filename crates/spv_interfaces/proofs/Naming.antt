-- The marks of entry points, and what they tell.
use Rattle.std.proofs.Common.{◌≡◌, ◌<◌, ◌≤◌, ◌+◌, ◌-◌, ◌^◌, ◌∙◌, ◌⊎◌, ◌↔◌, inl, inr, ℕ, zero, suc, List, [], ◌∷◌}
use Rattle.std.proofs.Common.{Option, Some, None, refl, sym, ap, subst, arith, length, length-drop, length-take}
use Rattle.std.proofs.Common.{take, drop, zero-add}
use Rattle.std.specs.Prelude.{slice_get, MatchOption}
use Rattle.std.proofs.lemmas.Bool.{cases_lt}
use Rattle.std.proofs.lemmas.Option.{same_Some, slice_get_within}
use Rattle.spv_table.specs.Table.{Table}
use Rattle.spv_module.specs.Operand.{Id, Plain, PlainInst, result_in}
use Rattle.spv_ids.specs.Definition.{IsDefinedAt}
use Rattle.spv_ids.specs.Outcome.{IsOnly}
use Rattle.spv_flow.specs.declared.calls.graph.Call.{Call}
use Rattle.spv_flow.specs.calls.Calls.{Calls, IsCall}
use Rattle.spv_flow.specs.calls.inner.Found.{AreCalls}
use Rattle.spv_flow.specs.calls.inner.Graph.{HasCall}
use Rattle.spv_flow.proofs.lemmas.calls.Bridge.{calls_has}
use Rattle.spv_flow.proofs.lemmas.calls.Chains.{mapped}
use Rattle.spv_flow.proofs.lemmas.calls.Insts.{defined_within, same_inst}
use Rattle.spv_interfaces.specs.declared.used.Use.{Use}
use Rattle.spv_interfaces.specs.Interface.{IsNamedIn, faced_by}
use Rattle.spv_interfaces.specs.inner.Entries.{Begins, IsEntered, IsFirstAmong, IsUnnamed, Names, NamesBefore, NamesIn}
use Rattle.spv_interfaces.specs.inner.Marks.{Adds, Grows, HasBit, IsClosed, IsMarked, IsMissing}
use Rattle.spv_interfaces.specs.inner.Uses.{AreUses, HasUse}
use Rattle.spv_interfaces.proofs.Bits.{pow_bit, pow_told}
use Rattle.spv_interfaces.proofs.Entering.{entry_here, no_entry, same_entry}
use Rattle.spv_interfaces.proofs.Marking.{closed_chain}
use Rattle.spv_interfaces.proofs.Using.{wanted_global}

-- Bits that are added, by other words.
pub adds_same : (bits : ℕ) (P Q : ℕ → Type 0) (old new : List ℕ) → ((f : ℕ) → P f → Q f) → ((f : ℕ) → Q f → P f)
    → Adds bits P old new → Adds bits Q old new
adds_same bits P Q old new to back a = record {
  count = a.count;
  each = λ f k. (
    λ h. elim ((a.each f k).0 h) [
      | inl o ↦ inl o
      | inr p ↦ inr (record { bit = p.bit; within = p.within; so = to f p.so })
    ],
    λ h. (a.each f k).1 (elim h [
      | inl o ↦ inl o
      | inr q ↦ inr (record { bit = q.bit; within = q.within; so = back f q.so })
    ]),
  );
}

pub adds_not : (bits : ℕ) (P : ℕ → Type 0) (words : List ℕ) → ((f : ℕ) → ¬ (P f)) → Adds bits P words words
adds_not bits P words never = record {
  count = refl;
  each = λ f k. (λ h. inl h, λ h. elim h [ inl o ↦ o | inr p ↦ absurd (never f p.so) ]);
}

pub adds_both : (bits : ℕ) (P Q R : ℕ → Type 0) (a b c : List ℕ) → ((f : ℕ) → P f ⊎ Q f → R f)
    → ((f : ℕ) → R f → P f ⊎ Q f) → Adds bits P a b → Adds bits Q b c → Adds bits R a c
adds_both bits P Q R a b c to back p q = record {
  count = q.count ∙ p.count;
  each = λ f k. (
    λ h. elim ((q.each f k).0 h) [
      | inl o ↦ elim ((p.each f k).0 o) [
        | inl m ↦ inl m
        | inr x ↦ inr (record { bit = x.bit; within = x.within; so = to f (inl x.so) })
      ]
      | inr y ↦
          let w = y.within in
          let e = p.count in
          inr (record { bit = y.bit; within = omega (arith, w, e); so = to f (inr y.so) })
    ],
    λ h. (q.each f k).1 (elim h [
      | inl m ↦ inl ((p.each f k).1 (inl m))
      | inr z ↦ elim (back f z.so) [
        | inl x ↦ inl ((p.each f k).1 (inr (record { bit = z.bit; within = z.within; so = x })))
        | inr y ↦
            let w = z.within in
            let e = p.count in
            inr (record { bit = z.bit; within = omega (arith, w, e); so = y })
      ]
    ]),
  );
}

-- what defines an id
pub adds_defined : (bits : ℕ) (is : List PlainInst) (x n : ℕ) (old new : List ℕ) → IsOnly is x n
    → Adds bits (λ f. f ≡ n) old new → Adds bits (IsDefinedAt is x) old new
adds_defined bits is x n old new o a = adds_same bits (λ f. f ≡ n) (IsDefinedAt is x) old new
    (λ f e. subst (λ (k : ℕ). IsDefinedAt is x k) (sym e) o.there) (λ f d. o.only f d) a

-- what the first operands of an interface name
pub names_none : (bits : ℕ) (is : List PlainInst) (os : List Plain) (words : List ℕ)
    → Adds bits (NamesBefore is os 0) words words
names_none bits is os words = adds_not bits (NamesBefore is os 0) words
    (λ v n. let l = n.below in absurd (omega (arith, l)))

pub names_later : (is : List PlainInst) (os : List Plain) (i j v : ℕ) → i ≤ j → NamesBefore is os i v
    → NamesBefore is os j v
names_later is os i j v l n =
    let b = n.below in
    record { place = n.place; below = omega (arith, b, l); id = n.id; there = n.there; defined = n.defined }

one_there : (os : List Plain) (i x y : ℕ) → slice_get os i ≡ Some (Id x) → slice_get os i ≡ Some (Id y) → x ≡ y
one_there os i x y h g = cc

-- what the first operands name, with one more
pub names_split : (is : List PlainInst) (os : List Plain) (i x v : ℕ) → slice_get os i ≡ Some (Id x)
    → NamesBefore is os (i + 1) v → NamesBefore is os i v ⊎ IsDefinedAt is x v
names_split is os i x v at n = elim (cases_lt n.place i) [
  | inl less ↦ inl (record { place = n.place; below = less; id = n.id; there = n.there; defined = n.defined })
  | inr last ↦
      let l = n.below in
      let e : n.place ≡ i = omega (arith, l, last) in
      let same = one_there os i n.id x (subst (λ (k : ℕ). slice_get os k ≡ Some (Id n.id)) e n.there) at in
      inr (subst (λ (y : ℕ). IsDefinedAt is y v) same n.defined)
]

pub names_join : (is : List PlainInst) (os : List Plain) (i x v : ℕ) → slice_get os i ≡ Some (Id x)
    → NamesBefore is os i v ⊎ IsDefinedAt is x v → NamesBefore is os (i + 1) v
names_join is os i x v at h = elim h [
  | inl n ↦ names_later is os i (i + 1) v (omega arith) n
  | inr d ↦ record { place = i; below = omega arith; id = x; there = at; defined = d }
]

pub names_kept : (is : List PlainInst) (os : List Plain) (i v : ℕ)
    → ((x : ℕ) → slice_get os i ≡ Some (Id x) → ⊥) → NamesBefore is os (i + 1) v → NamesBefore is os i v
names_kept is os i v none n = elim (cases_lt n.place i) [
  | inl less ↦ record { place = n.place; below = less; id = n.id; there = n.there; defined = n.defined }
  | inr last ↦
      let l = n.below in
      let e : n.place ≡ i = omega (arith, l, last) in
      absurd (none n.id (subst (λ (k : ℕ). slice_get os k ≡ Some (Id n.id)) e n.there))
]

-- of all of them
pub names_to : (is : List PlainInst) (os : List Plain) (n v : ℕ) → NamesBefore is os n v → NamesIn is os v
names_to is os n v h = record { id = h.id; named = (h.place, h.there); defined = h.defined }

pub names_back : (is : List PlainInst) (os : List Plain) (n v : ℕ) → length os ≤ n → NamesIn is os v
    → NamesBefore is os n v
names_back is os n v l h =
    let w = slice_get_within os h.named.0 (Id h.id) h.named.1 in
    record { place = h.named.0; below = omega (arith, w, l); id = h.id; there = h.named.1; defined = h.defined }

pub names_more : (bits : ℕ) (is : List PlainInst) (os : List Plain) (i x : ℕ) (a b c : List ℕ)
    → slice_get os i ≡ Some (Id x) → Adds bits (NamesBefore is os i) a b → Adds bits (IsDefinedAt is x) b c
    → Adds bits (NamesBefore is os (i + 1)) a c
names_more bits is os i x a b c at p q =
    adds_both bits (NamesBefore is os i) (IsDefinedAt is x) (NamesBefore is os (i + 1)) a b c
    (λ v h. names_join is os i x v at h) (λ v n. names_split is os i x v at n) p q

pub names_past : (bits : ℕ) (is : List PlainInst) (os : List Plain) (i : ℕ) (a b : List ℕ)
    → ((x : ℕ) → slice_get os i ≡ Some (Id x) → ⊥) → Adds bits (NamesBefore is os i) a b
    → Adds bits (NamesBefore is os (i + 1)) a b
names_past bits is os i a b none p =
    adds_same bits (NamesBefore is os i) (NamesBefore is os (i + 1)) a b
    (λ v n. names_later is os i (i + 1) v (omega arith) n) (λ v n. names_kept is os i v none n) p

pub names_all : (bits : ℕ) (is : List PlainInst) (os : List Plain) (n : ℕ) (a b : List ℕ) → length os ≤ n
    → Adds bits (NamesBefore is os n) a b → Adds bits (NamesIn is os) a b
names_all bits is os n a b l p =
    adds_same bits (NamesBefore is os n) (NamesIn is os) a b (λ v h. names_to is os n v h)
    (λ v h. names_back is os n v l h) p

-- an entry point
pub begins_by : (bits : ℕ) (is : List PlainInst) (n f : ℕ) (os : List Plain) (i : PlainInst) (a b : List ℕ)
    → slice_get is n ≡ Some i → Some (f, os) ≡ faced_by i → Adds bits (IsDefinedAt is f) a b
    → Adds bits (Begins is n) a b
begins_by bits is n f os i a b at e p =
    let entry = entry_here is n f os i at e in
    adds_same bits (IsDefinedAt is f) (Begins is n) a b
    (λ g d. record { function = f; interface = os; entry = entry; defined = d })
    (λ g h.
    let s = (same_entry is n h.function f h.interface os h.entry entry).0 in
    subst (λ (x : ℕ). IsDefinedAt is x g) s h.defined) p

pub names_by : (bits : ℕ) (is : List PlainInst) (n f : ℕ) (os : List Plain) (i : PlainInst) (a b : List ℕ)
    → slice_get is n ≡ Some i → Some (f, os) ≡ faced_by i → Adds bits (NamesIn is os) a b
    → Adds bits (Names is n) a b
names_by bits is n f os i a b at e p =
    let entry = entry_here is n f os i at e in
    adds_same bits (NamesIn is os) (Names is n) a b
    (λ g d. record { function = f; interface = os; entry = entry; names = d })
    (λ g h.
    let s = (same_entry is n h.function f h.interface os h.entry entry).1 in
    subst (λ (ps : List Plain). NamesIn is ps g) s h.names) p

pub begins_not : (bits : ℕ) (is : List PlainInst) (n : ℕ) (i : PlainInst) (a : List ℕ) → slice_get is n ≡ Some i
    → faced_by i ≡ None → Adds bits (Begins is n) a a
begins_not bits is n i a at e =
    adds_not bits (Begins is n) a (λ f h. no_entry is n i at e h.function h.interface h.entry)

pub names_not : (bits : ℕ) (is : List PlainInst) (n : ℕ) (i : PlainInst) (a : List ℕ) → slice_get is n ≡ Some i
    → faced_by i ≡ None → Adds bits (Names is n) a a
names_not bits is n i a at e =
    adds_not bits (Names is n) a (λ f h. no_entry is n i at e h.function h.interface h.entry)

-- they are of instructions
pub begins_within : (is : List PlainInst) (n f : ℕ) → Begins is n f → f < length is
begins_within is n f h = defined_within is h.function f h.defined

pub names_within : (is : List PlainInst) (n v : ℕ) → Names is n v → v < length is
names_within is n v h = defined_within is h.names.id v h.names.defined

-- The entry points that are looked at together, one after another.
pub entered_none : (R : ℕ → ℕ → Type 0) (few words : List ℕ) → ((f k : ℕ) → ¬ (IsMarked words f k)) → (f k : ℕ)
    → IsMarked words f k ↔ IsEntered R few 0 f k
entered_none R few words blank f k = (
  λ h. absurd (blank f k h),
  λ e. let l = e.below in absurd (omega (arith, l)),
)

pub entered_more : (R : ℕ → ℕ → Type 0) (few : List ℕ) (i n count : ℕ) (old new : List ℕ) → slice_get few i ≡ Some n
    → ((f : ℕ) → R n f → f < count) → length old ≡ count → Adds (2 ^ i) (R n) old new
    → ((f k : ℕ) → IsMarked old f k ↔ IsEntered R few i f k)
    → (f k : ℕ) → IsMarked new f k ↔ IsEntered R few (i + 1) f k
entered_more R few i n count old new at within e a h f k = (
  λ m. elim ((a.each f k).0 m) [
    | inl o ↦
        let t = (h f k).0 o in
        let l = t.below in
        record { entry = t.entry; below = omega (arith, l); there = t.there; so = t.so }
    | inr s ↦
        let same = pow_told i k s.bit in
        record {
          entry = n;
          below = omega (arith, same);
          there = subst (λ (j : ℕ). slice_get few j ≡ Some n) (sym same) at;
          so = s.so;
        }
  ],
  λ t. (a.each f k).1 (elim (cases_lt k i) [
    | inl less ↦
        inl ((h f k).1 (record { entry = t.entry; below = less; there = t.there; so = t.so }))
    | inr last ↦
        let l = t.below in
        let same : k ≡ i = omega (arith, l, last) in
        let q = same_Some t.entry n (sym (subst (λ (j : ℕ). slice_get few j ≡ Some t.entry) same t.there) ∙ at) in
        let r : R n f = subst (λ (m : ℕ). R m f) q t.so in
        let w = within f r in
        inr (record {
          bit = subst (λ (j : ℕ). HasBit (2 ^ i) j) (sym same) (pow_bit i);
          within = omega (arith, w, e);
          so = r;
        })
  ]),
)

-- What the marks tell of one of them.
pub calls_from : (is : List PlainInst) (n : ℕ) (calls : List Call) → AreCalls is n calls → (f g : ℕ) → HasCall calls f g
    → Calls is f g
calls_from is n calls a f g h =
    let s = (a.sound h.place h.call h.there).0.call in
    record {
      place = h.call.inst;
      call = subst (λ (y : ℕ). IsCall is h.call.inst f y) h.to
          (subst (λ (x : ℕ). IsCall is h.call.inst x h.call.callee) h.from s);
    }

result_same : (is : List PlainInst) (n x y : ℕ) → IsDefinedAt is x n → IsDefinedAt is y n → x ≡ y
result_same is n x y a b =
    let e = same_inst is n a.inst b.inst a.there b.there in
    same_Some x y (sym (subst (λ (i : PlainInst). result_in i.operands ≡ Some x) e a.result) ∙ b.result)

-- what an entry point does not name is not among what it names
pub not_named : (G : Table) (minor : ℕ) (is : List PlainInst) (n v : ℕ) (w : IsUnnamed G minor is n)
    → IsDefinedAt is w.id v → Names is n v → ⊥
not_named G minor is n v w d h =
    let q = (same_entry is n h.function w.function h.interface w.interface h.entry w.entry).1 in
    let one = result_same is v h.names.id w.id h.names.defined d in
    let named_there : IsNamedIn w.interface h.names.id =
    subst (λ (os : List Plain). IsNamedIn os h.names.id) q h.names.named in
    w.unnamed (subst (λ (x : ℕ). IsNamedIn w.interface x) one named_there)

module _ (G : Table) (minor : ℕ) (is : List PlainInst) (few : List ℕ) (calls : List Call) (uses : List Use)
    (first reached named : List ℕ)
    (begun : (f k : ℕ) → IsMarked first f k ↔ IsEntered (Begins is) few (length few) f k)
    (names : (v k : ℕ) → IsMarked named v k ↔ IsEntered (Names is) few (length few) v k)
    (grows : Grows calls first reached) (closed : IsClosed calls reached)
    (called : AreCalls is (length is) calls) (used : AreUses G minor is (length is) uses) where
  -- a bit that is missing
  missing_unnamed : (k n : ℕ) → slice_get few k ≡ Some n → IsMissing reached named uses (length uses) k
      → IsUnnamed G minor is n
  missing_unnamed k n at m =
      let u = m.use_there in
      let s = grows.sound u.function k m.has in
      let b = (begun s.0 k).0 s.1 in
      let same = same_Some b.entry n (sym b.there ∙ at) in
      let begins : Begins is n s.0 = subst (λ (j : ℕ). Begins is j s.0) same b.so in
      let h : HasUse uses u.function u.variable =
      record { place = m.place; use_there = u; there = m.there; function = refl; variable = refl } in
      let t = (used.each u.function u.variable).0 h in
      let in_few = slice_get_within few k n at in
      record {
        function = begins.function;
        interface = begins.interface;
        entry = begins.entry;
        id = t.id;
        wanted = t.variable.wanted;
        used = record {
          root = s.0;
          defined = begins.defined;
          function = u.function;
          chain = mapped (HasCall calls) (Calls is) (calls_from is (length is) calls called) s.0 u.function s.2;
          definition = t.within.definition;
          inst = t.inst;
          of = t.within.of;
          operand = t.operand;
          role = t.role;
          used = t.used;
          variable = wanted_global minor is t.id t.variable.wanted;
        };
        unnamed = λ there. m.lacks ((names u.variable k).1 (record {
          entry = n;
          below = in_few;
          there = at;
          so = record {
            function = begins.function;
            interface = begins.interface;
            entry = begins.entry;
            names = record { id = t.id; named = there; defined = t.variable.defined };
          };
        }));
      }

  -- a variable that is not named
  unnamed_missing : (k n : ℕ) → slice_get few k ≡ Some n → IsUnnamed G minor is n
      → IsMissing reached named uses (length uses) k
  unnamed_missing k n at w =
      let t = w.used in
      let v = t.variable.place in
      let in_few = slice_get_within few k n at in
      let here = (begun t.root k).1 (record {
        entry = n;
        below = in_few;
        there = at;
        so = record { function = w.function; interface = w.interface; entry = w.entry; defined = t.defined };
      }) in
      let there = closed_chain calls reached closed k t.root t.function
      (mapped (Calls is) (HasCall calls) (calls_has is calls called) t.root t.function t.chain)
      (grows.kept t.root k here) in
      let u = (used.each t.function v).1 (record {
        inst = t.inst;
        below = t.of.begun.within;
        within = record { of = t.of; definition = t.definition };
        operand = t.operand;
        id = w.id;
        role = t.role;
        used = t.used;
        variable = record { defined = t.variable.defined; wanted = w.wanted };
      }) in
      record {
        place = u.place;
        below = slice_get_within uses u.place u.use_there u.there;
        use_there = u.use_there;
        there = u.there;
        has = subst (λ (f : ℕ). IsMarked reached f k) (sym u.function) there;
        lacks = λ m. never v k n w at t.variable.defined
            ((names v k).0 (subst (λ (x : ℕ). IsMarked named x k) u.variable m));
      }
    where
      never : (v k n : ℕ) (w : IsUnnamed G minor is n) → slice_get few k ≡ Some n → IsDefinedAt is w.id v
          → IsEntered (Names is) few (length few) v k → ⊥
      never v k n w at d e =
          let same = same_Some e.entry n (sym e.there ∙ at) in
          not_named G minor is n v w d (subst (λ (j : ℕ). Names is j v) same e.so)

  pub bit_tells : (k n : ℕ) → slice_get few k ≡ Some n
      → IsMissing reached named uses (length uses) k ↔ IsUnnamed G minor is n
  bit_tells k n at = (missing_unnamed k n at, unnamed_missing k n at)

-- the first whose bit is set
pub first_by : (P : ℕ → Type 0) (few : List ℕ) (bits : ℕ) (o : Option ℕ)
    → ((k n : ℕ) → slice_get few k ≡ Some n → HasBit bits k ↔ P n)
    → MatchOption o ((k n : ℕ) → slice_get few k ≡ Some n → ¬ (HasBit bits k))
    (λ n. (k : ℕ) × (slice_get few k ≡ Some n) × HasBit bits k × ((j : ℕ) → j < k → ¬ (HasBit bits j)))
    → IsFirstAmong P few o
first_by P few bits None tells m = λ k n at p. m k n at ((tells k n at).1 p)
first_by P few bits (Some n) tells m = record {
  place = m.0;
  there = m.1;
  so = (tells m.0 n m.1).0 m.2;
  before = λ j i l at p. m.3 j l ((tells j i at).1 p);
}

-- The parts of a list, one after another.
pub first_in_part : (P : ℕ → Type 0) (list part : List ℕ) (at n : ℕ)
    → ((k m : ℕ) → slice_get part k ≡ Some m → slice_get list (at + k) ≡ Some m)
    → ((k m : ℕ) → slice_get list (at + k) ≡ Some m → k < length part → slice_get part k ≡ Some m)
    → ((k m : ℕ) → k < at → slice_get list k ≡ Some m → ¬ (P m)) → IsFirstAmong P part (Some n)
    → IsFirstAmong P list (Some n)
first_in_part P list part at n to back before h =
    let w = slice_get_within part h.place n h.there in
    record {
      place = at + h.place;
      there = to h.place n h.there;
      so = h.so;
      before = λ j m l there. elim (cases_lt j at) [
        | inl less ↦ before j m less there
        | inr past ↦ in_part j m l there past w
      ];
    }
  where
    in_part : (j m : ℕ) → j < at + h.place → slice_get list j ≡ Some m → at ≤ j → h.place < length part → ¬ (P m)
    in_part j m l there past w =
        let k = j - at in
        let e : j ≡ at + k = omega (arith, past) in
        let q = back k m (subst (λ (i : ℕ). slice_get list i ≡ Some m) e there) (omega (arith, l, past, w)) in
        h.before k m (omega (arith, l, past)) q

pub none_in_part : (P : ℕ → Type 0) (list part : List ℕ) (at to : ℕ)
    → ((k m : ℕ) → slice_get list (at + k) ≡ Some m → k < length part → slice_get part k ≡ Some m)
    → to ≡ at + length part → ((k m : ℕ) → k < at → slice_get list k ≡ Some m → ¬ (P m))
    → IsFirstAmong P part None → (k m : ℕ) → k < to → slice_get list k ≡ Some m → ¬ (P m)
none_in_part P list part at to back e before h k m l there = elim (cases_lt k at) [
  | inl less ↦ before k m less there
  | inr past ↦
      let j = k - at in
      let q : k ≡ at + j = omega (arith, past) in
      h j m (back j m (subst (λ (i : ℕ). slice_get list i ≡ Some m) q there) (omega (arith, l, e, past)))
]

-- A part of a list.
take_zero : (xs : List ℕ) (k m : ℕ) → slice_get (take 0 xs) k ≡ Some m → ⊥
take_zero [] k m h = cc
take_zero (x ∷ xs) k m h = cc

taken_to : (n : ℕ) (xs : List ℕ) (k m : ℕ) → slice_get (take n xs) k ≡ Some m → slice_get xs k ≡ Some m
taken_to zero xs k m h = absurd (take_zero xs k m h)
taken_to (suc n) [] k m h = h
taken_to (suc n) (x ∷ xs) zero m h = h
taken_to (suc n) (x ∷ xs) (suc k) m h = taken_to n xs k m h

taken_back : (n : ℕ) (xs : List ℕ) (k m : ℕ) → slice_get xs k ≡ Some m → k < n → slice_get (take n xs) k ≡ Some m
taken_back zero xs k m h l = absurd (omega (arith, l))
taken_back (suc n) [] k m h l = h
taken_back (suc n) (x ∷ xs) zero m h l = h
taken_back (suc n) (x ∷ xs) (suc k) m h l = taken_back n xs k m h (omega (arith, l))

drop_get : (n : ℕ) (xs : List ℕ) (k : ℕ) → slice_get (drop n xs) k ≡ slice_get xs (n + k)
drop_get zero [] k = refl
drop_get zero (x ∷ xs) k = ap (slice_get (x ∷ xs)) (sym (zero-add k))
drop_get (suc n) [] k = refl
drop_get (suc n) (x ∷ xs) k =
    let e : suc (n + k) ≡ suc n + k = omega arith in
    drop_get n xs k ∙ ap (slice_get (x ∷ xs)) e

pub part_to : (list : List ℕ) (at n k m : ℕ) → slice_get (take n (drop at list)) k ≡ Some m
    → slice_get list (at + k) ≡ Some m
part_to list at n k m h = sym (drop_get at list k) ∙ taken_to n (drop at list) k m h

taken_length : (n : ℕ) (xs : List ℕ) → length (take n xs) ≤ n
taken_length n xs = omega (arith, length-take n xs)

pub part_back : (list : List ℕ) (at n k m : ℕ) → slice_get list (at + k) ≡ Some m
    → k < length (take n (drop at list)) → slice_get (take n (drop at list)) k ≡ Some m
part_back list at n k m h l =
    let w = taken_length n (drop at list) in
    taken_back n (drop at list) k m (drop_get at list k ∙ h) (omega (arith, l, w))

pub part_length : (list : List ℕ) (at to : ℕ) → at ≤ to → to ≤ length list
    → to ≡ at + length (take (to - at) (drop at list))
part_length list at to l m =
    let a = length-take (to - at) (drop at list) in
    let b = length-drop at list in
    omega (arith, l, m, a, b)
