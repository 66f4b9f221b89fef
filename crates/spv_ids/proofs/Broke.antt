-- The rules that are broken, with and without a grammar table.
use Rattle.std.proofs.Common.{◌≡◌, ◌<◌, ◌≤◌, ◌+◌, ◌⊎◌, ℕ, List, refl, sym, inl, inr, Option, Some, None, length, map}
use Rattle.std.proofs.Common.{arith}
use Rattle.std.specs.Prelude.{slice_get}
use Rattle.std.proofs.lemmas.Bool.{cases_lt}
use Rattle.std.proofs.lemmas.List.{length-map}
use Rattle.std.proofs.lemmas.Option.{slice_get_within}
use Rattle.spv_table.specs.Table.{Table}
use Rattle.spv_module.specs.declared.operand.Operand.{Operand}
use Rattle.spv_module.specs.Operand.{Plain, PlainInst}
use Rattle.spv_module.specs.Operand as operand
use Rattle.spv_module.specs.Module.{plain_operand}
use Rattle.spv_module.specs.declared.fault.Rule.{Rule}
use Rattle.spv_module.specs.declared.fault.Rule.TheVariants.{D1, D2, D3, D4, D5}
use Rattle.spv_module.specs.declared.fault.Stop.{Stop}
use Rattle.spv_module.specs.declared.fault.Stop.TheVariants.{Fault, Memory}
use Rattle.spv_layout.specs.declared.form.Role.{Role}
use Rattle.spv_layout.specs.declared.place.Place.{Place}
use Rattle.spv_layout.specs.First.{rank_of, IsFirst, IsUnbroken}
use Rattle.spv_layout.specs.Plan.{IsPlan}
use Rattle.spv_layout.specs.Shape.{FitsShape}
use Rattle.spv_layout.specs.Stage.{of_ids}
use Rattle.spv_ids.specs.Definition.{IsDefinedAt, IsUsedAt, IsMentionedAt}
use Rattle.spv_ids.specs.Broken.{Broken, IsOutOfRange}
use Rattle.spv_ids.specs.declared.notes.Notes.{Notes}
use Rattle.spv_ids.specs.inner.Notes.{kept}
use Rattle.spv_ids.specs.inner.Known.{IsOneBefore, IsBadResult, IsEnd, AreFirst}
use Rattle.spv_ids.specs.Outcome.{IsDefinitionOf, IsRefusal}
use Rattle.spv_layout.specs.inner.Outcome.{IsStopAt}
use Rattle.spv_ids.specs.inner.Uses.{IsUsedBefore, AreSeen, AreBehind, argument_id}
use Rattle.spv_ids.specs.inner.Faulty.{IsBadUse, IsBadMention, IsBadOperand, HasBadUse, HasBadOperand, IsFaulty}
use Rattle.spv_ids.specs.inner.Faulty.{IsLeast, AreClean, IsFirstFault}
use Rattle.spv_ids.specs.inner.Survey.{ArePlaces}
use Rattle.spv_ids.proofs.Defining.{below_or, defined_within, same_inst}
use Rattle.spv_ids.proofs.Leasts.{faulty_stage, has_all, has_moved, used_all}
use Rattle.spv_ids.proofs.Behind.{mention_range, all_behind}
use Rattle.spv_ids.proofs.Scopes.{least_range}
use Rattle.spv_ids.proofs.Used.{IsArgument, IsMention, IsTold, no_result_at_end, use_told, told_use, argument_use}
use Rattle.spv_ids.proofs.Used.{mention_told, mention_there}
use Rattle.spv_ids.proofs.Starts.{are_early}

pub places_of : (G : Table) (is : List PlainInst) (places : List Place) → IsPlan G is places → ArePlaces is places
places_of G is places p =
    record { count = p.count; place = p.place; early = are_early G is p.fits; ends = no_result_at_end G is p.fits }

bad_faulty : (G : Table) (bound : ℕ) (is : List PlainInst) (n k x : ℕ) (u : Role) (r : Rule) → IsUsedAt G is n k x u
    → IsBadUse bound is n x r → IsFaulty bound is n r
bad_faulty G bound is n k x u r w b = told_faulty (use_told G is n k x u w) where
  told_faulty : IsTold is n x → IsFaulty bound is n r
  told_faulty (IsTold.early to t) = IsFaulty.by_use to r (record { id = x; used = t; bad = b })
  told_faulty (IsTold.late j t) =
      IsFaulty.by_operand (j + 1) r (record {
        inst = t.inst;
        there = t.there;
        place = j;
        below = omega arith;
        operand = t.operand;
        operand_at = t.operand_at;
        bad = IsBadOperand.argument x t.used b;
      })

mention_faulty : (bound : ℕ) (is : List PlainInst) (n x : ℕ) (r : Rule) → IsMention is n x → IsBadMention bound is x r
    → IsFaulty bound is n r
mention_faulty bound is n x r m b =
    IsFaulty.by_operand (m.place + 1) r (record {
      inst = m.inst;
      there = m.there;
      place = m.place;
      below = omega arith;
      operand = operand.Mention x;
      operand_at = m.operand_at;
      bad = IsBadOperand.mention x refl b;
    })

pub broken_faulty : (G : Table) (bound : ℕ) (is : List PlainInst) (r : Rule) (n : ℕ)
    → ((m : ℕ) (i : PlainInst) → slice_get is m ≡ Some i → FitsShape G i) → Broken G bound is r n
    → IsFaulty bound is n r
broken_faulty G bound is _ _ f (Broken.result_out_of_range n x d o) = IsFaulty.result_out_of_range x d o
broken_faulty G bound is _ _ f (Broken.use_out_of_range n k x r u o) =
    bad_faulty G bound is n k x r D1 u (IsBadUse.out_of_range o)
broken_faulty G bound is _ _ f (Broken.defined_again n m x d l e) = IsFaulty.defined_again m x d l e
broken_faulty G bound is _ _ f (Broken.undefined n k x r u h) =
    bad_faulty G bound is n k x r D3 u (IsBadUse.undefined h)
broken_faulty G bound is _ _ f (Broken.not_in_order n k x r u o h) =
    bad_faulty G bound is n k x r D4 u (IsBadUse.not_in_order o h)
broken_faulty G bound is _ _ f (Broken.not_in_scope n k x r u s l h) =
    bad_faulty G bound is n k x r D5 u (IsBadUse.not_in_scope s l h)
broken_faulty G bound is _ _ f (Broken.mention_out_of_range n k x m o) =
    mention_faulty bound is n x D1 (mention_told G is n k x f m) (IsBadMention.out_of_range o)
broken_faulty G bound is _ _ f (Broken.mention_undefined n k x m h) =
    mention_faulty bound is n x D3 (mention_told G is n k x f m) (IsBadMention.undefined h)

bad_broken : (G : Table) (bound : ℕ) (is : List PlainInst) (n k x : ℕ) (u : Role) (r : Rule) → IsUsedAt G is n k x u
    → IsBadUse bound is n x r → Broken G bound is r n
bad_broken G bound is n k x u _ w (IsBadUse.out_of_range o) = Broken.use_out_of_range n k x u w o
bad_broken G bound is n k x u _ w (IsBadUse.undefined h) = Broken.undefined n k x u w h
bad_broken G bound is n k x u _ w (IsBadUse.not_in_order o h) = Broken.not_in_order n k x u w o h
bad_broken G bound is n k x u _ w (IsBadUse.not_in_scope s l h) = Broken.not_in_scope n k x u w s l h

named_broken : (G : Table) (bound : ℕ) (is : List PlainInst) (n k x : ℕ) (r : Rule) → IsMentionedAt is n k x
    → IsBadMention bound is x r → Broken G bound is r n
named_broken G bound is n k x _ m (IsBadMention.out_of_range o) = Broken.mention_out_of_range n k x m o
named_broken G bound is n k x _ m (IsBadMention.undefined h) = Broken.mention_undefined n k x m h

operand_broken : (G : Table) (bound : ℕ) (is : List PlainInst) (n to : ℕ) (r : Rule)
    → ((m : ℕ) (i : PlainInst) → slice_get is m ≡ Some i → FitsShape G i) → HasBadOperand bound is n to r
    → Broken G bound is r n
operand_broken G bound is n to r f h = by_bad h.bad where
  by_bad : IsBadOperand bound is n h.operand r → Broken G bound is r n
  by_bad (IsBadOperand.argument x e b) =
      let a : IsArgument is n h.place x = record
      { inst = h.inst; there = h.there; operand = h.operand; operand_at = h.operand_at; used = e } in
      let u = argument_use G is n h.place x f a in
      bad_broken G bound is n u.place x u.role r u.used b
  by_bad (IsBadOperand.mention x e b) =
      named_broken G bound is n (h.place + 4) x r
      (mention_there is n h.place x h.inst h.operand h.there h.operand_at e) b

pub faulty_broken : (G : Table) (bound : ℕ) (is : List PlainInst) (n : ℕ) (r : Rule)
    → ((m : ℕ) (i : PlainInst) → slice_get is m ≡ Some i → FitsShape G i) → IsFaulty bound is n r
    → Broken G bound is r n
faulty_broken G bound is n _ f (IsFaulty.result_out_of_range x d o) = Broken.result_out_of_range n x d o
faulty_broken G bound is n _ f (IsFaulty.defined_again m x d l e) = Broken.defined_again n m x d l e
faulty_broken G bound is n _ f (IsFaulty.by_use to r h) = let u = told_use G is n to h.id f h.used in
    bad_broken G bound is n u.place h.id u.role r u.used h.bad
faulty_broken G bound is n _ f (IsFaulty.by_operand to r h) = operand_broken G bound is n to r f h

faulty_moved : (bound : ℕ) (is : List PlainInst) (q : Rule) (m n : ℕ) → m ≡ n → IsFaulty bound is m q
    → IsFaulty bound is n q
faulty_moved bound is q m n e f = rw (← e) f

pub first_told : (G : Table) (bound : ℕ) (is : List PlainInst) (places : List Place) (r : Rule) (n : ℕ)
    → IsPlan G is places → IsFirstFault bound is r n → IsFirst (Broken G bound is) of_ids r n
first_told G bound is places r n p f = record {
  of_stage = faulty_stage bound is n r f.broken;
  broken = faulty_broken G bound is n r p.fits f.broken;
  least = λ q m s b.
      let g = broken_faulty G bound is q m p.fits b in
      elim (cases_lt m n) [
        | inl l ↦ absurd (f.before.clean m q l g)
        | inr l ↦ elim (below_or n m l) [
          | inl h ↦ inl h
          | inr e ↦
              inr (e, f.least q (faulty_moved bound is q m n (sym e) g))
        ]
      ];
}

faulty_within : (bound : ℕ) (is : List PlainInst) (n : ℕ) (q : Rule) → IsFaulty bound is n q → n < length is
faulty_within bound is n _ (IsFaulty.result_out_of_range x d o) = defined_within is x n d
faulty_within bound is n _ (IsFaulty.defined_again m x d l e) = defined_within is x n d
faulty_within bound is n _ (IsFaulty.by_use to r h) = slice_get_within is n h.used.inst h.used.there
faulty_within bound is n _ (IsFaulty.by_operand to r h) = slice_get_within is n h.inst h.there

pub first_within : (bound : ℕ) (is : List PlainInst) (r : Rule) (n : ℕ) → IsFirstFault bound is r n → n < length is
first_within bound is r n f = faulty_within bound is n r f.broken

pub clean_told : (G : Table) (bound : ℕ) (is : List PlainInst)
    → ((m : ℕ) (i : PlainInst) → slice_get is m ≡ Some i → FitsShape G i) → AreClean bound is (length is)
    → IsUnbroken (Broken G bound is) of_ids
clean_told G bound is t f = λ r n s b. let g = broken_faulty G bound is r n t b in
    f.clean n r (faulty_within bound is n r g) g

-- One instruction more, before which no rule is broken.

pub clean_none : (bound : ℕ) (is : List PlainInst) → AreClean bound is 0
clean_none bound is = record { clean = λ m q l. absurd (omega arith) }

pub clean_more : (bound : ℕ) (is : List PlainInst) (n : ℕ) → ((q : Rule) → ¬ (IsFaulty bound is n q))
    → AreClean bound is n → AreClean bound is (n + 1)
clean_more bound is n h f = record {
  clean = λ m q l g. elim (below_or m n (omega arith)) [
    | inl b ↦ f.clean m q b g
    | inr e ↦
        h q (faulty_moved bound is q m n e g)
  ];
}

-- A rule that is broken before the end of the first definitions is broken by a use, or a mention.
one_before : (is : List PlainInst) (e x m n : ℕ) (o : Option ℕ) → IsOneBefore is e x o → m < n → n < e
    → IsDefinedAt is x m → IsDefinedAt is x n → ⊥
one_before is e x m n None f l h a b = f n h b
one_before is e x m n (Some k) f l h a b = let p = f.only m (omega arith) a in let q = f.only n h b in
    absurd (omega (arith, p, q))

pub faulty_either : (bound : ℕ) (is : List PlainInst) (n e : ℕ) (d : Notes) (os ps : List Operand) (q : Rule)
    → AreFirst bound is e d → n < e → AreSeen is n (map plain_operand os) → AreBehind is n (map plain_operand ps)
    → IsFaulty bound is n q → HasBadUse bound is n (length os) q ⊎ HasBadOperand bound is n (length ps) q
faulty_either bound is n e d os ps _ f l a b (IsFaulty.result_out_of_range x h o) = absurd (f.range n x l h o)
faulty_either bound is n e d os ps _ f l a b (IsFaulty.defined_again m x h g k) =
    absurd (one_before is e x m n (kept d x) (f.one x) g l k h)
faulty_either bound is n e d os ps _ f l a b (IsFaulty.by_use to r h) =
    inl (has_moved bound is n (length (map plain_operand os)) (length os) r (length-map os plain_operand)
    (has_all bound is n to (map plain_operand os) r a h))
faulty_either bound is n e d os ps _ f l a b (IsFaulty.by_operand to r h) = inr (all_behind bound is n to ps r b h)

pub clean_here : (bound : ℕ) (is : List PlainInst) (n e : ℕ) (d : Notes) (os : List Plain) → AreFirst bound is e d
    → n < e → AreSeen is n os → ((q : Rule) → ¬ (HasBadUse bound is n (length os) q))
    → ((to : ℕ) (q : Rule) → ¬ (HasBadOperand bound is n to q)) → (q : Rule) → ¬ (IsFaulty bound is n q)
clean_here bound is n e d os f l a h k _ (IsFaulty.result_out_of_range x b o) = f.range n x l b o
clean_here bound is n e d os f l a h k _ (IsFaulty.defined_again m x b g c) =
    one_before is e x m n (kept d x) (f.one x) g l c b
clean_here bound is n e d os f l a h k _ (IsFaulty.by_use to r b) = h r (has_all bound is n to os r a b)
clean_here bound is n e d os f l a h k _ (IsFaulty.by_operand to r b) = k to r b

pub fault_here : (bound : ℕ) (is : List PlainInst) (n : ℕ) (r : Rule) → AreClean bound is n
    → IsLeast (IsFaulty bound is n) (Some r) → IsFirstFault bound is r n
fault_here bound is n r c h = record { before = c; broken = h.0; least = h.1 }

-- The end, where the result is out of range or comes again.
operand_range : (bound : ℕ) (is : List PlainInst) (n : ℕ) (o : Plain) (r : Rule) → IsBadOperand bound is n o r
    → rank_of D1 ≤ rank_of r
operand_range bound is n o r (IsBadOperand.argument x e b) = least_range bound is n x r b
operand_range bound is n o r (IsBadOperand.mention x e b) = mention_range bound is x r b

pub least_end : (bound : ℕ) (is : List PlainInst) (n : ℕ) (q : Rule) → IsFaulty bound is n q → rank_of D1 ≤ rank_of q
least_end bound is n _ (IsFaulty.result_out_of_range x d o) = omega arith
least_end bound is n _ (IsFaulty.defined_again m x d l e) = omega arith
least_end bound is n _ (IsFaulty.by_use to r h) = least_range bound is n h.id r h.bad
least_end bound is n _ (IsFaulty.by_operand to r h) = operand_range bound is n h.operand r h.bad

after_range : (bound : ℕ) (is : List PlainInst) (n to x : ℕ) (r : Rule) → IsUsedBefore is n to x
    → ¬ (HasBadUse bound is n to D1) → IsBadUse bound is n x r → rank_of D2 ≤ rank_of r
after_range bound is n to x _ u h (IsBadUse.out_of_range o) =
    absurd (h (record { id = x; used = u; bad = IsBadUse.out_of_range o }))
after_range bound is n to x _ u h (IsBadUse.undefined g) = omega arith
after_range bound is n to x _ u h (IsBadUse.not_in_order o g) = omega arith
after_range bound is n to x _ u h (IsBadUse.not_in_scope s l g) = omega arith

after_argument : (bound : ℕ) (is : List PlainInst) (n x : ℕ) (o : Plain) (r : Rule) → ¬ (IsBadOperand bound is n o D1)
    → argument_id o ≡ Some x → IsBadUse bound is n x r → rank_of D2 ≤ rank_of r
after_argument bound is n x o _ h e (IsBadUse.out_of_range q) =
    absurd (h (IsBadOperand.argument x e (IsBadUse.out_of_range q)))
after_argument bound is n x o _ h e (IsBadUse.undefined g) = omega arith
after_argument bound is n x o _ h e (IsBadUse.not_in_order q g) = omega arith
after_argument bound is n x o _ h e (IsBadUse.not_in_scope s l g) = omega arith

after_operand : (bound : ℕ) (is : List PlainInst) (n : ℕ) (o : Plain) (r : Rule) → ¬ (IsBadOperand bound is n o D1)
    → IsBadOperand bound is n o r → rank_of D2 ≤ rank_of r
after_operand bound is n o _ h (IsBadOperand.argument x e b) = after_argument bound is n x o _ h e b
after_operand bound is n o r h (IsBadOperand.mention x e b) = by_mention r h b where
  by_mention : (r : Rule) → ¬ (IsBadOperand bound is n o D1) → IsBadMention bound is x r → rank_of D2 ≤ rank_of r
  by_mention _ h (IsBadMention.out_of_range q) = absurd (h (IsBadOperand.mention x e (IsBadMention.out_of_range q)))
  by_mention _ h (IsBadMention.undefined g) = omega arith

pub result_same : (is : List PlainInst) (n x y : ℕ) → IsDefinedAt is x n → IsDefinedAt is y n → x ≡ y
result_same is n x y a b = let e : a.inst ≡ b.inst = same_inst is n a.inst b.inst a.there b.there in
    let r = rw e at a.result in let q = b.result in cc

pub least_again : (bound : ℕ) (is : List PlainInst) (n id : ℕ) (os : List Plain) (ps : List Operand) (q : Rule)
    → IsDefinedAt is id n → (IsOutOfRange bound id → ⊥) → AreSeen is n os → ¬ (HasBadUse bound is n (length os) D1)
    → AreBehind is n (map plain_operand ps) → ¬ (HasBadOperand bound is n (length ps) D1) → IsFaulty bound is n q
    → rank_of D2 ≤ rank_of q
least_again bound is n id os ps _ d h a f b k (IsFaulty.result_out_of_range x e o) =
    let s = result_same is n x id e d in absurd (h (rw s at o))
least_again bound is n id os ps _ d h a f b k (IsFaulty.defined_again m x e l g) = omega arith
least_again bound is n id os ps _ d h a f b k (IsFaulty.by_use to r g) =
    after_range bound is n (length os) g.id r (used_all is n to g.id os a g.used) f g.bad
least_again bound is n id os ps _ d h a f b k (IsFaulty.by_operand to r g) =
    let w = all_behind bound is n to ps r b g in
    after_operand bound is n w.operand r (λ z. k
    (record {
      inst = w.inst;
      there = w.there;
      place = w.place;
      below = w.below;
      operand = w.operand;
      operand_at = w.operand_at;
      bad = z;
    })) w.bad

pub again_end : (bound : ℕ) (is : List PlainInst) (n : ℕ) (b : IsBadResult bound is n) → (IsOutOfRange bound b.id → ⊥)
    → IsFaulty bound is n D2
again_end bound is n b h = elim b.bad [ inl o ↦ absurd (h o) | inr p ↦ IsFaulty.defined_again p.0 b.id b.there p.1 p.2 ]

-- Where no rule is broken, the first definitions are the only ones.
bad_clean : (bound : ℕ) (is : List PlainInst) (n : ℕ) → IsBadResult bound is n → AreClean bound is (length is) → ⊥
bad_clean bound is n b c =
    let w = defined_within is b.id n b.there in
    elim b.bad [
      | inl o ↦ c.clean n D1 w (IsFaulty.result_out_of_range b.id b.there o)
      | inr p ↦ c.clean n D2 w (IsFaulty.defined_again p.0 b.id b.there p.1 p.2)
    ]

definition_by : (is : List PlainInst) (e x : ℕ) (o : Option ℕ) → length is ≤ e → IsOneBefore is e x o
    → IsDefinitionOf is x o
definition_by is e x None l f = λ k d. let w = defined_within is x k d in f k (omega arith) d
definition_by is e x (Some m) l f =
    record { there = f.there; only = λ k d. let w = defined_within is x k d in f.only k (omega arith) d }

pub definitions_told : (bound : ℕ) (is : List PlainInst) (e : ℕ) (d : Notes) → IsEnd bound is e → AreFirst bound is e d
    → AreClean bound is (length is) → (x : ℕ) → IsDefinitionOf is x (kept d x)
definitions_told bound is e d h f c x =
    elim h [
      | inl q ↦ definition_by is e x (kept d x) (omega arith) (f.one x)
      | inr b ↦
          absurd (bad_clean bound is e b c)
    ]

pub refusal_told : (G : Table) (bound : ℕ) (is : List PlainInst) (places : List Place) (r : Rule) (n : ℕ) (s : Stop)
    → IsPlan G is places → IsFirstFault bound is r n → IsStopAt is r n s → IsRefusal G bound is s
refusal_told G bound is places r n Memory p f h = tt
refusal_told G bound is places r n (Fault a) p f h =
    let t = first_told G bound is places r n p f in
    let e = h.0 in
    let i = h.1 in
    (rw (e, i) t, rw i h.2)
