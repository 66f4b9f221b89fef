-- The rules that operands behind the number of an OpExtInst break, one operand on.
use Rattle.std.proofs.Common.{◌≡◌, ◌∙◌, ◌<◌, ◌≤◌, ◌+◌, ◌⊎◌, ℕ, List, [], refl, sym, ap, inl, inr, Option, Some, None}
use Rattle.std.proofs.Common.{length, map, arith}
use Rattle.std.specs.Prelude.{slice_get, option_map, IfSome}
use Rattle.std.proofs.lemmas.List.{length-map}
use Rattle.std.proofs.lemmas.Option.{slice_get-map, slice_get_within}
use Rattle.spv_module.specs.declared.operand.Operand.{Operand}
use Rattle.spv_module.specs.Operand.{Plain, PlainInst}
use Rattle.spv_module.specs.Operand as operand
use Rattle.spv_module.specs.Module.{plain_operand}
use Rattle.spv_module.specs.declared.opcode.TheConstants as opcode
use Rattle.spv_module.specs.declared.fault.Rule.{Rule}
use Rattle.spv_module.specs.declared.fault.Rule.TheVariants.{D1, D3}
use Rattle.spv_layout.specs.First.{stage_of, rank_of}
use Rattle.spv_layout.specs.Stage.{of_ids}
use Rattle.spv_ids.specs.Broken.{IsOutOfRange}
use Rattle.spv_ids.specs.inner.Uses.{behind, argument_id, mention_id, id_behind, AreBehind}
use Rattle.spv_ids.specs.inner.Faulty.{IsBadUse, IsBadMention, IsBadOperand, HasBadOperand, IsLeast, IsEarlier}
use Rattle.spv_ids.proofs.Defining.{below_or, same_inst}
use Rattle.spv_ids.proofs.Used.{behind_other, argument_tells, mention_tells}

-- The first of the rules of which something holds, where it holds of the same, and of either of two.

pub least_is : (P : Rule → Type 0) (o p : Option Rule) → o ≡ p → IsLeast P o → IsLeast P p
least_is P o p e h = rw (← e) h

pub least_same : (P Q : Rule → Type 0) (o : Option Rule) → ((q : Rule) → P q → Q q) → ((q : Rule) → Q q → P q)
    → IsLeast P o → IsLeast Q o
least_same P Q None f g h = λ q b. h q (g q b)
least_same P Q (Some r) f g h = (f r h.0, λ q b. h.1 q (g q b))

has_either : (P : Rule → Type 0) (one : Option Rule) (r : Rule) → IsLeast P one → one ≡ Some r → P r
has_either P None r h e = cc
has_either P (Some s) r h e = let q : s ≡ r = cc in let b = h.0 in rw q at b

least_either : (P : Rule → Type 0) (one : Option Rule) (r q : Rule) → IsLeast P one
    → ((p : Rule) → one ≡ Some p → rank_of r ≤ rank_of p) → P q → rank_of r ≤ rank_of q
least_either P None r q h f b = absurd (h q b)
least_either P (Some s) r q h f b = let x = f s refl in let y = h.1 q b in omega arith

moved : (P : Rule → Type 0) (r other : Rule) → r ≡ other → P other → P r
moved P r other e b = rw e b

pub least_two : (P Q R : Rule → Type 0) (one : Option Rule) (other r : Rule) → IsLeast P one → IsLeast Q (Some other)
    → IsEarlier one other r
    → ((q : Rule) → P q → R q) → ((q : Rule) → Q q → R q) → ((q : Rule) → R q → P q ⊎ Q q) → IsLeast R (Some r)
least_two P Q R one other r a b e f g c = (
  elim e.either [ inl h ↦ f r (has_either P one r a h) | inr h ↦ g r (moved Q r other h b.0) ],
  λ q z. elim (c q z) [
    | inl h ↦ least_either P one r q a e.first h
    | inr h ↦
        (let l = b.1 q h in let m = e.last in omega arith)
  ],
)

pub stages_by : (P : Rule → Type 0) (o : Option Rule) → ((q : Rule) → P q → stage_of q ≡ of_ids) → IsLeast P o
    → IfSome o (λ r. stage_of r ≡ of_ids)
stages_by P None f h = tt
stages_by P (Some r) f h = f r h.0

-- One operand.

not_both : (o : Plain) (x y : ℕ) → argument_id o ≡ Some x → mention_id o ≡ Some y → ⊥
not_both o x y e f = let g : mention_id (operand.Argument x) ≡ Some y = rw (argument_tells o x e) at f in cc

argument_of : (bound : ℕ) (is : List PlainInst) (n : ℕ) (o : Plain) (x : ℕ) (q : Rule) → argument_id o ≡ Some x
    → IsBadOperand bound is n o q → IsBadUse bound is n x q
argument_of bound is n o x q e (IsBadOperand.argument y f b) = let s : y ≡ x = cc in rw (← s) b
argument_of bound is n o x q e (IsBadOperand.mention y f b) = absurd (not_both o x y e f)

mention_of : (bound : ℕ) (is : List PlainInst) (n : ℕ) (o : Plain) (x : ℕ) (q : Rule) → mention_id o ≡ Some x
    → IsBadOperand bound is n o q → IsBadMention bound is x q
mention_of bound is n o x q e (IsBadOperand.argument y f b) = absurd (not_both o y x f e)
mention_of bound is n o x q e (IsBadOperand.mention y f b) = let s : y ≡ x = cc in rw (← s) b

pub least_argument : (bound : ℕ) (is : List PlainInst) (n : ℕ) (o : Plain) (x : ℕ) (r : Option Rule)
    → argument_id o ≡ Some x → IsLeast (IsBadUse bound is n x) r → IsLeast (IsBadOperand bound is n o) r
least_argument bound is n o x r e h =
    least_same (IsBadUse bound is n x) (IsBadOperand bound is n o) r (λ q b. IsBadOperand.argument x e b)
    (λ q b. argument_of bound is n o x q e b) h

pub least_mention : (bound : ℕ) (is : List PlainInst) (n : ℕ) (o : Plain) (x : ℕ) (r : Option Rule)
    → mention_id o ≡ Some x → IsLeast (IsBadMention bound is x) r → IsLeast (IsBadOperand bound is n o) r
least_mention bound is n o x r e h =
    least_same (IsBadMention bound is x) (IsBadOperand bound is n o) r (λ q b. IsBadOperand.mention x e b)
    (λ q b. mention_of bound is n o x q e b) h

pub no_bad_operand : (bound : ℕ) (is : List PlainInst) (n : ℕ) (o : Plain) (q : Rule) → argument_id o ≡ None
    → mention_id o ≡ None → ¬ (IsBadOperand bound is n o q)
no_bad_operand bound is n o q e f (IsBadOperand.argument x g b) = let k : None ≡ Some x = sym e ∙ g in cc
no_bad_operand bound is n o q e f (IsBadOperand.mention x g b) = let k : None ≡ Some x = sym f ∙ g in cc

-- Which rules a mention breaks.

pub mention_range : (bound : ℕ) (is : List PlainInst) (x : ℕ) (q : Rule) → IsBadMention bound is x q
    → rank_of D1 ≤ rank_of q
mention_range bound is x _ (IsBadMention.out_of_range h) = omega arith
mention_range bound is x _ (IsBadMention.undefined h) = omega arith

pub mention_undefined : (bound : ℕ) (is : List PlainInst) (x : ℕ) (q : Rule) → (IsOutOfRange bound x → ⊥)
    → IsBadMention bound is x q → rank_of D3 ≤ rank_of q
mention_undefined bound is x _ r (IsBadMention.out_of_range h) = absurd (r h)
mention_undefined bound is x _ r (IsBadMention.undefined h) = omega arith

-- Operands out of range.

use_range : (bound : ℕ) (is : List PlainInst) (n x : ℕ) (q : Rule) → q ≡ D1 → IsBadUse bound is n x q
    → IsOutOfRange bound x
use_range bound is n x _ e (IsBadUse.out_of_range g) = g
use_range bound is n x _ e (IsBadUse.undefined g) = cc
use_range bound is n x _ e (IsBadUse.not_in_order g k) = cc
use_range bound is n x _ e (IsBadUse.not_in_scope g k l) = cc

named_range : (bound : ℕ) (is : List PlainInst) (x : ℕ) (q : Rule) → q ≡ D1 → IsBadMention bound is x q
    → IsOutOfRange bound x
named_range bound is x _ e (IsBadMention.out_of_range g) = g
named_range bound is x _ e (IsBadMention.undefined g) = cc

argument_behind : (o : Plain) (x : ℕ) → argument_id o ≡ Some x → id_behind o ≡ Some x
argument_behind o x e = rw (argument_tells o x e) refl

mention_behind : (o : Plain) (x : ℕ) → mention_id o ≡ Some x → id_behind o ≡ Some x
mention_behind o x e = rw (mention_tells o x e) refl

pub bad_range : (bound : ℕ) (is : List PlainInst) (n : ℕ) (o : Plain) (x : ℕ) → id_behind o ≡ Some x
    → IsOutOfRange bound x → IsBadOperand bound is n o D1
bad_range bound is n (operand.Argument y) x e h = IsBadOperand.argument x e (IsBadUse.out_of_range h)
bad_range bound is n (operand.Mention y) x e h = IsBadOperand.mention x e (IsBadMention.out_of_range h)
bad_range bound is n (operand.OfType y) x e h = cc
bad_range bound is n (operand.Result y) x e h = cc
bad_range bound is n (operand.Id y) x e h = cc
bad_range bound is n (operand.Word y) x e h = cc
bad_range bound is n (operand.Number a b c) x e h = cc
bad_range bound is n (operand.Text t) x e h = cc
bad_range bound is n (operand.Value a b) x e h = cc
bad_range bound is n (operand.Mask a b) x e h = cc

pub in_range : (bound : ℕ) (is : List PlainInst) (n : ℕ) (o : Plain) (x : ℕ) → id_behind o ≡ Some x
    → (IsOutOfRange bound x → ⊥) → ¬ (IsBadOperand bound is n o D1)
in_range bound is n o x e h (IsBadOperand.argument y f b) = let s : y ≡ x = (let a = argument_behind o y f in cc) in
    let g = use_range bound is n y D1 refl b in h (rw s at g)
in_range bound is n o x e h (IsBadOperand.mention y f b) = let s : y ≡ x = (let a = mention_behind o y f in cc) in
    let g = named_range bound is y D1 refl b in h (rw s at g)

pub none_in_range : (bound : ℕ) (is : List PlainInst) (n : ℕ) (o : Plain) (q : Rule) → id_behind o ≡ None
    → ¬ (IsBadOperand bound is n o q)
none_in_range bound is n o q e (IsBadOperand.argument y f b) = let k : None ≡ Some y = sym e ∙ argument_behind o y f in
    cc
none_in_range bound is n o q e (IsBadOperand.mention y f b) = let k : None ≡ Some y = sym e ∙ mention_behind o y f in cc

-- One operand on.

behind_at : (is : List PlainInst) (n k : ℕ) (os : List Operand) (o : Operand)
    (a : AreBehind is n (map plain_operand os)) → slice_get os k ≡ Some o
    → slice_get (behind a.inst) k ≡ Some (plain_operand o)
behind_at is n k os o a l =
    let g : slice_get (map plain_operand os) k ≡ Some (plain_operand o) = slice_get-map plain_operand os k
    ∙ ap (option_map plain_operand) l in
    rw a.same at g

pub no_operand_yet : (bound : ℕ) (is : List PlainInst) (n : ℕ) (q : Rule) → ¬ (HasBadOperand bound is n 0 q)
no_operand_yet bound is n q h = let b = h.below in absurd (omega arith)

operand_later : (bound : ℕ) (is : List PlainInst) (n k : ℕ) (q : Rule) → HasBadOperand bound is n k q
    → HasBadOperand bound is n (k + 1) q
operand_later bound is n k q h = let b = h.below in
    record {
      inst = h.inst;
      there = h.there;
      place = h.place;
      below = omega arith;
      operand = h.operand;
      operand_at = h.operand_at;
      bad = h.bad;
    }

pub operand_at : (bound : ℕ) (is : List PlainInst) (n k to : ℕ) (os : List Operand) (o : Operand) (q : Rule)
    → AreBehind is n (map plain_operand os) → slice_get os k ≡ Some o → k < to
    → IsBadOperand bound is n (plain_operand o) q → HasBadOperand bound is n to q
operand_at bound is n k to os o q a l h b =
    record {
      inst = a.inst;
      there = a.there;
      place = k;
      below = h;
      operand = plain_operand o;
      operand_at = behind_at is n k os o a l;
      bad = b;
    }

same_bad : (bound : ℕ) (is : List PlainInst) (n : ℕ) (i j : PlainInst) (k l : ℕ) (o p : Plain) (q : Rule) → i ≡ j
    → l ≡ k → slice_get (behind i) k ≡ Some o → slice_get (behind j) l ≡ Some p → IsBadOperand bound is n p q
    → IsBadOperand bound is n o q
same_bad bound is n i j k l o p q e f g h b =
    let g' : slice_get (behind j) l ≡ Some o = rw (← e, f) g in
    let s : p ≡ o = cc in
    rw (← s) b

split : (bound : ℕ) (is : List PlainInst) (n k : ℕ) (os : List Operand) (o : Operand) (q : Rule)
    → AreBehind is n (map plain_operand os) → slice_get os k ≡ Some o → HasBadOperand bound is n (k + 1) q
    → HasBadOperand bound is n k q ⊎ IsBadOperand bound is n (plain_operand o) q
split bound is n k os o q a l h =
    let b = h.below in
    elim (below_or h.place k (omega arith)) [
      | inl m ↦ inl (record {
        inst = h.inst;
        there = h.there;
        place = h.place;
        below = m;
        operand = h.operand;
        operand_at = h.operand_at;
        bad = h.bad;
      })
      | inr f ↦ inr (same_bad bound is n a.inst h.inst k h.place (plain_operand o) h.operand q
          (same_inst is n a.inst h.inst a.there h.there) f (behind_at is n k os o a l) h.operand_at h.bad)
    ]

pub no_operand : (bound : ℕ) (is : List PlainInst) (n k : ℕ) (os : List Operand) (o : Operand) (q : Rule)
    → AreBehind is n (map plain_operand os) → slice_get os k ≡ Some o → ¬ (IsBadOperand bound is n (plain_operand o) q)
    → ¬ (HasBadOperand bound is n k q) → ¬ (HasBadOperand bound is n (k + 1) q)
no_operand bound is n k os o q a l b f h = elim (split bound is n k os o q a l h) [ inl g ↦ f g | inr g ↦ b g ]

pub least_sound_operand : (bound : ℕ) (is : List PlainInst) (n k : ℕ) (os : List Operand) (o : Operand)
    (least : Option Rule) → AreBehind is n (map plain_operand os) → slice_get os k ≡ Some o
    → IsLeast (IsBadOperand bound is n (plain_operand o)) None
    → IsLeast (HasBadOperand bound is n k) least → IsLeast (HasBadOperand bound is n (k + 1)) least
least_sound_operand bound is n k os o least a l f h =
    least_same (HasBadOperand bound is n k) (HasBadOperand bound is n (k + 1)) least
    (λ q b. operand_later bound is n k q b)
    (λ q b. elim (split bound is n k os o q a l b) [ inl g ↦ g | inr g ↦ absurd (f q g) ]) h

pub least_bad_operand : (bound : ℕ) (is : List PlainInst) (n k : ℕ) (os : List Operand) (o : Operand)
    (one : Option Rule) (other r : Rule) → AreBehind is n (map plain_operand os) → slice_get os k ≡ Some o
    → IsLeast (IsBadOperand bound is n (plain_operand o)) (Some other) → IsEarlier one other r
    → IsLeast (HasBadOperand bound is n k) one → IsLeast (HasBadOperand bound is n (k + 1)) (Some r)
least_bad_operand bound is n k os o one other r a l b e h =
    least_two (HasBadOperand bound is n k) (IsBadOperand bound is n (plain_operand o))
    (HasBadOperand bound is n (k + 1)) one other r h b e (λ q g. operand_later bound is n k q g)
    (λ q g. operand_at bound is n k (k + 1) os o q a l (omega arith) g) (λ q g. split bound is n k os o q a l g)

-- All of them are before the end of their list.

within_by : (os : List Plain) (i j : PlainInst) (k : ℕ) (o : Plain) → os ≡ behind i → i ≡ j
    → slice_get (behind j) k ≡ Some o → k < length os
within_by os i j k o e f g = let g' : slice_get os k ≡ Some o = rw (e, f) g in slice_get_within os k o g'

pub all_behind : (bound : ℕ) (is : List PlainInst) (n to : ℕ) (os : List Operand) (q : Rule)
    → AreBehind is n (map plain_operand os) → HasBadOperand bound is n to q → HasBadOperand bound is n (length os) q
all_behind bound is n to os q a h =
    let l = within_by (map plain_operand os) a.inst h.inst h.place h.operand a.same
    (same_inst is n a.inst h.inst a.there h.there) h.operand_at in
    let k = length-map os plain_operand in
    record {
      inst = h.inst;
      there = h.there;
      place = h.place;
      below = omega arith;
      operand = h.operand;
      operand_at = h.operand_at;
      bad = h.bad;
    }

pub operand_moved : (bound : ℕ) (is : List PlainInst) (n k l : ℕ) (q : Rule) → k ≡ l → HasBadOperand bound is n k q
    → HasBadOperand bound is n l q
operand_moved bound is n k l q e h = rw (← e) h

pub least_operand_moved : (bound : ℕ) (is : List PlainInst) (n k l : ℕ) (o : Option Rule) → k ≡ l
    → IsLeast (HasBadOperand bound is n k) o → IsLeast (HasBadOperand bound is n l) o
least_operand_moved bound is n k l o e h = rw (← e) h

-- of another opcode there are none
none_at : (i : PlainInst) (k : ℕ) (o : Plain) → (i.opcode ≡ opcode.EXT_INST → ⊥) → slice_get (behind i) k ≡ Some o → ⊥
none_at i k o h a = let a' : slice_get [] k ≡ Some o = rw (behind_other i h) at a in cc

pub none_behind : (bound : ℕ) (is : List PlainInst) (n : ℕ) (i : PlainInst) (to : ℕ) (q : Rule)
    → slice_get is n ≡ Some i → (i.opcode ≡ opcode.EXT_INST → ⊥) → ¬ (HasBadOperand bound is n to q)
none_behind bound is n i to q t h b =
    let e : b.inst ≡ i = same_inst is n b.inst i b.there t in
    let a = b.operand_at in
    let a' : slice_get (behind i) b.place ≡ Some b.operand = rw e at a in
    none_at i b.place b.operand h a'
